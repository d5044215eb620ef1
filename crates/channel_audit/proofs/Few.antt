-- Each line has a byte at least before its LF.
use Rattle.std.proofs.Common.{◌≡◌, ℕ, ◌+◌, ◌*◌, ◌<◌, ◌≤◌, List, [], ◌∷◌, ◌++◌, length, codes, sym, ap, subst, ◌∙◌, arith, length-append}
use Rattle.hex.specs.Hex.{encode_lower}
use Rattle.ghost_model.specs.core.Channel.{Catalog, Answer, Made, Port, Piece, End, Failed, Entry, Journal, Move, Dial, Listen, Accept, Send, Take, Close}
use Rattle.ghost_model.specs.core.Asks.{NumberedAsk}
use Rattle.ghost_model.specs.core.Recorded.{Tells, TellsMove, EachTells, ended_line, all_lines}
use Rattle.channel_audit.specs.Audited.{StandsIn}
use Rattle.channel_audit.specs.declared.audit.Audit.{Audit}

some_behind : (text front rest : List ℕ) → 0 < length front → text ≡ front ++ rest → 0 < length text
some_behind text front rest some is = let long = ap length is ∙ length-append front rest in omega (arith, long, some)

some_move : (move : Move) (answer : Answer) (text : List ℕ) → TellsMove move answer text → 0 < length text
some_move (Dial []) answer text tells = some_behind text (codes "dial ") tells.word (omega arith) tells.text_is
some_move (Dial (_ ∷ _)) answer text tells = absurd tells
some_move (Listen _) answer text tells = absurd tells
some_move Accept answer text tells = absurd tells
some_move (Send bytes) answer text tells = some_behind text (codes "send ") _ (omega arith) tells.text_is
some_move (Take most) answer text tells = some_behind text (codes "take ") _ (omega arith) tells.text_is
some_move Close Made text tells = let long = ap length tells in omega (arith, long)
some_move Close (Piece _) text tells = absurd tells
some_move Close End text tells = absurd tells
some_move Close Failed text tells = absurd tells
some_move Close (Port _) text tells = absurd tells

lines_long : (texts : List (List ℕ)) (journal : Journal) → EachTells texts journal → 2 * length journal ≤ length (all_lines texts)
lines_long [] [] each = omega arith
lines_long [] (_ ∷ _) each = absurd each
lines_long (_ ∷ _) [] each = absurd each
lines_long (text ∷ texts) (made ∷ journal) each =
    let more = lines_long texts journal each.1 in
    let some = some_move made.move made.answer text each.0.tells in
    let line = length-append text (10 ∷ []) in
    let sum = length-append (ended_line text) (all_lines texts) in
    omega (arith, more, some, line, sum)

pub few_moves : (catalog : Catalog) (asks : List NumberedAsk) (file rest : List ℕ) (audit : Audit) (passed moves : ℕ)
    → StandsIn catalog asks file rest audit passed moves → 2 * moves ≤ passed
few_moves catalog asks file rest audit passed moves stands =
    let long = lines_long stands.begins.texts stands.journal stands.begins.tell in
    let one = stands.passed_is in
    let other = stands.moves_is in
    omega (arith, long, one, other)
