-- The rows that pass a test, ascending.
use Rattle.std.proofs.Common.{◌≡◌, ℕ, zero, suc, ◌+◌, ◌<◌, ◌≤◌, Bool, true, false, List, [], ◌∷◌, length, get_or, arith}
use Rattle.std.specs.Prelude.{cond}
use Rattle.std.specs.List.{filter, range_with_len}

-- numbers of a list ascend, from one on and below another
pub record Ascends (low high : ℕ) (numbers : List ℕ) : Type 0 where
  pub from : (i : ℕ) → i < length numbers → low ≤ get_or numbers i 0
  pub below : (i : ℕ) → i < length numbers → get_or numbers i 0 < high
  pub order : (i j : ℕ) → i < j → j < length numbers → get_or numbers i 0 < get_or numbers j 0

ascend_later : (low high : ℕ) (numbers : List ℕ) → Ascends (low + 1) high numbers → Ascends low high numbers
ascend_later low high numbers rest = record {
  from = λ i within. omega (arith, rest.from i within);
  below = rest.below;
  order = rest.order;
}

ascend_first : (low high : ℕ) (numbers : List ℕ) → low < high → Ascends (low + 1) high numbers → Ascends low high (low ∷ numbers)
ascend_first low high numbers less rest = record { from = from; below = below; order = order }
  where
    from : (i : ℕ) → i < length (low ∷ numbers) → low ≤ get_or (low ∷ numbers) i 0
    from zero within = omega arith
    from (suc i) within = omega (arith, rest.from i (omega (arith, within)))

    below : (i : ℕ) → i < length (low ∷ numbers) → get_or (low ∷ numbers) i 0 < high
    below zero within = less
    below (suc i) within = rest.below i (omega (arith, within))

    order : (i j : ℕ) → i < j → j < length (low ∷ numbers) → get_or (low ∷ numbers) i 0 < get_or (low ∷ numbers) j 0
    order i zero later within = absurd (omega (arith, later))
    order zero (suc j) later within = omega (arith, rest.from j (omega (arith, within)))
    order (suc i) (suc j) later within = rest.order i j (omega (arith, later)) (omega (arith, within))

by_test : (t : Bool) (low high : ℕ) (numbers : List ℕ) → low < high → Ascends (low + 1) high numbers → Ascends low high (cond t (low ∷ numbers) numbers)
by_test true low high numbers less rest = ascend_first low high numbers less rest
by_test false low high numbers less rest = ascend_later low high numbers rest

none_ascend : (low high : ℕ) → Ascends low high []
none_ascend low high = record {
  from = λ i within. absurd (omega (arith, within));
  below = λ i within. absurd (omega (arith, within));
  order = λ i j later within. absurd (omega (arith, within));
}

pub rows_ascend : (test : ℕ → Bool) (low count high : ℕ) → low + count ≡ high → Ascends low high (filter test (range_with_len low count))
rows_ascend test low zero high e = none_ascend low high
rows_ascend test low (suc count) high e =
    by_test (test low) low high (filter test (range_with_len (low + 1) count)) (omega (arith, e))
    (rows_ascend test (low + 1) count high (omega (arith, e)))
