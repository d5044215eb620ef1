use Rattle.std.proofs.Common.{string_bytes, ◌≡◌, List, ℕ, encode_utf8_all, chars, map, ◌∙◌, ap, sym, map-id}
use Rattle.std.proofs.lemmas.Iterator.{YieldsList-from_chars}
use Rattle.std.proofs.lemmas.Iterator.Consumers.{YieldsList-end}
use Rattle.edge_real.specs.Plain.{plain_letter, plain}
use Rattle.edge_real.proofs.PlainLetters.{letter_pushed}
use Rattle.edge_real.proofs.plain_words.plain_word.Goals as goal

pub loop-letter-preserved : goal.loop-letter-preserved
loop-letter-preserved c =
    letter_pushed (string_bytes c.loop-letter.plain) (string_bytes c.push.new.self) c.loop-letter.yielded c.in-Some.letter c.plain_letter.result
    c.plain_letter.ensures.letter c.loop-letter.invariant c.in_ok-push.ensures.bytes

pub returns : goal.returns
returns c =
    let done = YieldsList-end (YieldsList-from_chars c.args.word.now c.utf8.word cc) c.loop-letter.yielded _ c.loop-letter.yielded_by _ _ c.in-None.is c.next.ensures.steps in
    let bytes : string_bytes c.loop-letter.plain ≡ plain c.args.word.now =
    c.loop-letter.invariant ∙ ap (λ (cs : List ℕ). encode_utf8_all (map plain_letter cs)) (sym (map-id c.loop-letter.yielded) ∙ done.0) in
    record { plain = bytes }
