-- The file of a finished journal.
use Rattle.std.proofs.Common.{◌≡◌, ℕ, ◌<◌, List, [], ◌∷◌, length, Option, None, Some, sym, ap, subst, arith, length-append}
use Rattle.ghost_model.specs.core.Channel.{Journal, Move, Close, Answer}
use Rattle.ghost_model.specs.core.Moves.{line, lines, line_of}
use Rattle.ghost_model.specs.core.NextMove.{IsFinished}
use Rattle.edge_traits.specs.Files.{or_empty}

close_line : (move : Move) (answer : Answer) → move ≡ Close → 0 < length (line_of move answer)
close_line move answer is = subst (λ (m : Move). 0 < length (line_of m answer)) (sym is) (omega arith)

-- it has bytes
pub some_lines : (journal : Journal) → IsFinished journal → 0 < length (lines journal)
some_lines [] finished = absurd finished
some_lines (made ∷ []) finished =
    let long = length-append (line made) [] in
    let some = close_line made.move made.answer finished in
    omega (arith, long, some)
some_lines (first ∷ made ∷ later) finished =
    let long = length-append (line first) (lines (made ∷ later)) in
    let some = some_lines (made ∷ later) finished in
    omega (arith, long, some)

-- so a file that has them is there
pub is_there : (found : Option (List ℕ)) (bytes : List ℕ) → 0 < length bytes → or_empty found ≡ bytes → found ≡ Some bytes
is_there None bytes some is = let none : length bytes ≡ 0 = ap length (sym is) in absurd (let bad : ⊥ = omega (arith, none, some) in bad)
is_there (Some held) bytes some is = ap Some is
