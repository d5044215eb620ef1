-- The number of binary digits of a number is the least so many powers of two that are above it.
use Rattle.std.specs.Prelude.{ℕ, ◌^◌, ◌<◌, ◌≤◌}
use Rattle.ghost_model.specs.forms.QueryWork.{bits}

pub record BitsAreLeast : Type 0 where
  pub enough : (number : ℕ) → number < 2 ^ bits number
  pub least : (number digits : ℕ) → number < 2 ^ digits → bits number ≤ digits
