-- Codes of numbers: how long they are, how they begin, and that they are read.
use Rattle.std.proofs.Common.{◌≡◌, ℕ, ◌<◌, ◌≤◌, false, length, get_or, arith}
use Rattle.std.specs.Prelude.{◌==◌}
use Rattle.std.proofs.lemmas.Bool.Decides.{nat_tests}
use Rattle.std.proofs.lemmas.Grind.{common_steps}
use Rattle.ghost_model.specs.forms.Gaps.{code_of}
use Rattle.ghost_model.specs.laws.GapLaws.{HasCode, CodesAreRead}

pub codes_read : CodesAreRead
codes_read = λ number has rest. grind (arith, common_steps)

pub code_short : (number : ℕ) → length (code_of number) ≤ 3
code_short number = grind (arith, nat_tests)

pub code_some : (number : ℕ) → 0 < length (code_of number)
code_some number = grind (arith, nat_tests)

-- no code begins as filling does
pub code_begins : (number : ℕ) → HasCode number → (get_or (code_of number) 0 0 == 128) ≡ false
code_begins number has = grind (arith, nat_tests)
