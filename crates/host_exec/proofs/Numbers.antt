-- A number at a place of a list, or 0.
use Rattle.std.proofs.Common.{◌≡◌, ℕ, zero, suc, ◌+◌, ◌<◌, ◌≤◌, true, nat_le, List, [], ◌∷◌, ◌++◌, length, slice_index, Some, None, refl, ap, sym, subst, ◌∙◌, arith, inl, inr, leb-true}
use Rattle.host_exec.proofs.Groups.{side}
use Rattle.std.specs.Prelude.{slice_get}
use Rattle.std.specs.List.{list_all}
use Rattle.std.specs.Cmp.{first_so, second_so}

pub none_at : (xs : List ℕ) (place : ℕ) → None ≡ slice_get xs place → 0 ≡ slice_index xs place
none_at [] place e = refl
none_at (x ∷ xs) zero e = cc
none_at (x ∷ xs) (suc place) e = none_at xs place e

pub some_at : (xs : List ℕ) (place x : ℕ) → Some x ≡ slice_get xs place → x ≡ slice_index xs place
some_at [] place x e = cc
some_at (y ∷ xs) zero x e = cc
some_at (y ∷ xs) (suc place) x e = some_at xs place x e

pub few_at : (most : ℕ) (xs : List ℕ) (place x : ℕ) → list_all (λ n. nat_le n most) xs ≡ true → Some x ≡ slice_get xs place → x ≤ most
few_at most [] place x h e = cc
few_at most (y ∷ xs) zero x h e =
    let same : nat_le x most ≡ nat_le y most = (let s : x ≡ y = cc in ap (λ (n : ℕ). nat_le n most) s) in
    leb-true x most (same ∙ first_so (nat_le y most) _ h)
few_at most (y ∷ xs) (suc place) x h e = few_at most xs place x (second_so (nat_le y most) _ h) e

-- a number added at the end
pub pushed_at : (P : ℕ → ℕ → Type 0) (xs new : List ℕ) (x count : ℕ) → new ≡ xs ++ x ∷ [] → length xs ≡ count
    → ((place : ℕ) → place < count → P place (slice_index xs place)) → P count x → (place : ℕ) → place < count + 1 → P place (slice_index new place)
pushed_at P xs new x count n l h last place inside =
    subst (λ (ns : List ℕ). P place (slice_index ns place)) (sym n) (elim (side place count) [
      | inl before ↦ subst (P place) (sym (before_last xs x place (omega (arith, l, before)))) (h place before)
      | inr after ↦ (let same : place ≡ count = omega (arith, inside, after) in subst (P place) (sym (at_last xs x place (omega (arith, l, same)))) (subst (λ (k : ℕ). P k x) (sym same) last))
    ])
  where
    before_last : (xs : List ℕ) (x place : ℕ) → place < length xs → slice_index (xs ++ x ∷ []) place ≡ slice_index xs place
    before_last [] x place h = absurd (omega (arith, h))
    before_last (y ∷ xs) x zero h = refl
    before_last (y ∷ xs) x (suc place) h = before_last xs x place (omega (arith, h))

    at_last : (xs : List ℕ) (x place : ℕ) → place ≡ length xs → slice_index (xs ++ x ∷ []) place ≡ x
    at_last [] x zero h = refl
    at_last [] x (suc place) h = absurd (omega (arith, h))
    at_last (y ∷ xs) x zero h = absurd (omega (arith, h))
    at_last (y ∷ xs) x (suc place) h = at_last xs x place (omega (arith, h))
