-- Lemmas on tests that hold together, and on the front of a list, which the channel's lemmas share.
use Rattle.std.proofs.Common.{◌≡◌, ℕ, Bool, true, false, ◌&&◌, List, ◌++◌, length, take, drop, sym, ◌∙◌, ap, refl}
use Rattle.std.proofs.Math.Seq.{take-append_seam, drop-append_seam}

pub false_is_not : false ≡ true → ⊥
false_is_not e = cc

pub record BothHold (a b : Bool) : Type 0 where
  pub one : a ≡ true
  pub other : b ≡ true

pub both_hold : (a b : Bool) → (a && b) ≡ true → BothHold a b
both_hold true true e = record { one = refl; other = refl }
both_hold true false e = absurd (false_is_not e)
both_hold false b e = absurd (false_is_not e)

pub hold_both : (a b : Bool) → a ≡ true → b ≡ true → (a && b) ≡ true
hold_both a b p q = rw (p, q)

pub take_front : (n : ℕ) (xs ys : List ℕ) → length xs ≡ n → take n (xs ++ ys) ≡ xs
take_front n xs ys e = ap (λ (k : ℕ). take k (xs ++ ys)) (sym e) ∙ take-append_seam xs ys

pub drop_front : (n : ℕ) (xs ys : List ℕ) → length xs ≡ n → drop n (xs ++ ys) ≡ ys
drop_front n xs ys e = ap (λ (k : ℕ). drop k (xs ++ ys)) (sym e) ∙ drop-append_seam xs ys
