-- The sum of a front that is one element longer.
use Rattle.std.proofs.Common.{◌≡◌, ◌<◌, ◌+◌, ℕ, List, take, length, get_or, arith}
use Rattle.std.proofs.lemmas.Grind.{common_steps}
use Rattle.std.specs.List.{sum}

pub one_longer : (xs : List ℕ) (i : ℕ) → i < length xs → sum (take (i + 1) xs) ≡ sum (take i xs) + get_or xs i 0
one_longer xs i less = grind (arith, common_steps)
