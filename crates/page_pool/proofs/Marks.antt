-- Marks of the buffers that are out.
use Rattle.std.proofs.Common.{◌≡◌, ◌≢◌, ◌∙◌, ℕ, zero, suc, ◌+◌, ◌<◌, Bool, cond, not, count_by, true, false, List, [], ◌∷◌, length, ap, sym, subst, inl, inr, get_or, slice_set, arith}
use Rattle.std.proofs.lemmas.List.{set-set, set-get_or, set_comm}
use Rattle.std.proofs.lemmas.List.Sums.{sum_by-set}
use Rattle.std.proofs.lemmas.Bool.{cases_eq}

-- a buffer that was free is free again once its lease was given back
pub given_back : (out : List Bool) (i : ℕ) → get_or out i true ≡ false → slice_set (slice_set out i true) i false ≡ out
given_back out i free = set-set out i true false ∙ (ap (slice_set out i) (sym free) ∙ set-get_or out i true)

-- a free buffer has a mark, and it is not out
pub free_within : (out : List Bool) (i : ℕ) → get_or out i true ≡ false → i < length out
free_within [] zero free = absurd (cc)
free_within [] (suc i) free = absurd (cc)
free_within (mark ∷ out) zero free = omega arith
free_within (mark ∷ out) (suc i) free = omega (arith, free_within out i free)

pub free_not_out : (out : List Bool) (i : ℕ) → get_or out i true ≡ false → get_or out i false ≡ true → ⊥
free_not_out [] zero free is = cc
free_not_out [] (suc i) free is = cc
free_not_out (mark ∷ out) zero free is = cc
free_not_out (mark ∷ out) (suc i) free is = free_not_out out i free is

-- a buffer that is out after another was given back is not that one, and was out before
pub other_was_out : (out : List Bool) (lease other : ℕ) → get_or (slice_set out lease false) other false ≡ true → get_or out other false ≡ true
other_was_out [] lease zero is = is
other_was_out [] lease (suc other) is = is
other_was_out (mark ∷ out) zero zero is = absurd (cc)
other_was_out (mark ∷ out) zero (suc other) is = is
other_was_out (mark ∷ out) (suc lease) zero is = is
other_was_out (mark ∷ out) (suc lease) (suc other) is = other_was_out out lease other is

pub given_not_out : (out : List Bool) (lease : ℕ) → get_or (slice_set out lease false) lease false ≡ true → ⊥
given_not_out [] zero is = cc
given_not_out [] (suc lease) is = cc
given_not_out (mark ∷ out) zero is = cc
given_not_out (mark ∷ out) (suc lease) is = given_not_out out lease is

pub other_is_another : (out : List Bool) (lease other : ℕ) → get_or (slice_set out lease false) other false ≡ true → other ≢ lease
other_is_another out lease other is = λ same.
    let P : ℕ → Type 0 = λ k. get_or (slice_set out lease false) k false ≡ true in
    given_not_out out lease (subst P same is)

-- two are given back in any order
pub given_swapped :
    (out : List Bool) (a b : ℕ) → slice_set (slice_set out a false) b false ≡ slice_set (slice_set out b false) a false
given_swapped out a b =
    elim (cases_eq a b) [
      | inl same ↦ ap (λ k. slice_set (slice_set out a false) k false) (sym same) ∙ ap (λ k. slice_set (slice_set out k false) a false) same
      | inr apart ↦ set_comm out a b false false apart
    ]

-- a buffer that is given back is one more that is not out
pub out_within : (out : List Bool) (lease : ℕ) → get_or out lease false ≡ true → lease < length out
out_within [] zero is = absurd (cc)
out_within [] (suc lease) is = absurd (cc)
out_within (mark ∷ out) zero is = omega arith
out_within (mark ∷ out) (suc lease) is = omega (arith, out_within out lease is)

pub given_counts :
    (out : List Bool) (lease : ℕ) → get_or out lease false ≡ true → count_by not (slice_set out lease false) ≡ count_by not out + 1
given_counts out lease is =
    let free : Bool → ℕ = λ mark. cond (not mark) 1 0 in
    let none : free (get_or out lease false) ≡ free true = ap free is in
    omega (arith, none, sum_by-set free out lease false false (out_within out lease is))
