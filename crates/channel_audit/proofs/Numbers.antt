-- Numbers that digits spell, as far as they are counted.
use Rattle.std.proofs.Common.{◌≡◌, ℕ, ◌+◌, ◌-◌, ◌*◌, ◌≤◌, min, List, [], ◌∷◌, ap, arith, inl, inr}
use Rattle.std.proofs.lemmas.Bool.{cases_lt}
use Rattle.ghost_model.specs.core.Recorded.{number_behind}

-- more digits make no number smaller
grows : (before : ℕ) (digits : List ℕ) → before ≤ number_behind before digits
grows before [] = omega arith
grows before (digit ∷ later) =
    let more = grows (before * 10 + (digit - 48)) later in omega (arith, more)

-- what is counted up to a limit may be so at each digit
pub counted : (most before : ℕ) (digits : List ℕ) → min (number_behind (min before most) digits) most ≡ min (number_behind before digits) most
counted most before digits =
    elim (cases_lt before most) [
      | inl low ↦ let same : min before most ≡ before = omega arith in ap (λ (n : ℕ). min (number_behind n digits) most) same
      | inr high ↦
          let one = grows before digits in
          let other = grows (min before most) digits in
          omega (arith, one, other)
    ]
