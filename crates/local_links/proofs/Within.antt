-- No more bytes come than are asked for.
use Rattle.std.proofs.Common.{◌≡◌, ◌≤◌, ℕ, zero, suc, true, List, [], ◌∷◌, length, Result, Ok, Err, refl, arith}
use Rattle.std.specs.Prelude.{IfOk}
use Rattle.std.specs.List.{list_all}
use Rattle.std.proofs.lemmas.Bool.{le-leb}
use Rattle.std.proofs.lemmas.List.{length-take}
use Rattle.ghost_model.specs.core.Channel.{Move, Take, Answer}
use Rattle.ghost_model.specs.core.Moves.{piece_of}
use Rattle.ghost_model.proofs.ChannelLemmas.Tests.{hold_both}
use Rattle.edge_traits.specs.Links.{entry, done, gave, listening}
use Rattle.local_links.specs.Keeping.{is_within, asks_for}

one_within : (move : Move) (answer : Answer) → length (piece_of answer) ≤ asks_for move → list_all is_within (entry move answer ∷ []) ≡ true
one_within move answer few = hold_both (is_within (entry move answer)) true (le-leb (length (piece_of answer)) (asks_for move) few) refl

pub done_within : {T E : Type 0} (move : Move) (call : Result T E) → list_all is_within (entry move (done call) ∷ []) ≡ true
done_within {T} {E} move (Ok value) = one_within move (done {E = E} (Ok value)) (omega arith)
done_within {T} {E} move (Err fault) = one_within move (done {T = T} (Err fault)) (omega arith)

pub listening_within : {E : Type 0} (move : Move) (call : Result ℕ E) → list_all is_within (entry move (listening call) ∷ []) ≡ true
listening_within {E} move (Ok port) = one_within move (listening {E = E} (Ok port)) (omega arith)
listening_within {E} move (Err fault) = one_within move (listening (Err fault)) (omega arith)

pub gave_within : {E : Type 0} (most : ℕ) (call : Result ℕ E) (buffer : List ℕ) → IfOk call (λ count. count ≤ most) → list_all is_within (entry (Take most) (gave call buffer) ∷ []) ≡ true
gave_within {E} most (Ok zero) buffer few = one_within (Take most) (gave {E = E} (Ok zero) buffer) (omega arith)
gave_within {E} most (Ok (suc more)) buffer few =
    let long = length-take (suc more) buffer in
    one_within (Take most) (gave {E = E} (Ok (suc more)) buffer) (omega (arith, long, few))
gave_within most (Err fault) buffer few = one_within (Take most) (gave (Err fault) buffer) (omega arith)
