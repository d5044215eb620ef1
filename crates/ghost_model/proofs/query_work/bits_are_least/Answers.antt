use Rattle.std.proofs.Common.{◌≡◌, refl, sym, subst, ℕ, zero, suc, ◌+◌, ◌^◌, ◌<◌, ◌≤◌, Bool, true, false, cond, List, ◌∷◌, length, filter, inl, inr, arith}
use Rattle.std.specs.Prelude.{nat_le}
use Rattle.std.specs.List.{range_with_len}
use Rattle.std.proofs.Math.Pow.{pow_mono}
use Rattle.std.proofs.lemmas.Bool.{leb-true, leb-false, cases_lt}
use Rattle.std.proofs.lemmas.List.Sums.{length-filter}
use Rattle.ghost_model.specs.forms.QueryWork.{bits}
use Rattle.ghost_model.proofs.query_work.bits_are_least.Goals as goal

-- of the powers from one on, so many are at most a number, and these are the first
record IsCut (x from count cut : ℕ) : Type 0 where
  few : cut ≤ count
  first : (place : ℕ) → from ≤ place → place < from + cut → 2 ^ place ≤ x
  after : cut < count → x < 2 ^ (from + cut)

abbrev is_up_to : ℕ → ℕ → Bool
is_up_to x place = nat_le (2 ^ place) x

none_after : (x from count cut : ℕ) → x < 2 ^ from → IsCut x (from + 1) count cut → cut ≡ 0
none_after x from count zero low c = refl
none_after x from count (suc cut) low c =
    let some : 2 ^ (from + 1) ≤ x = c.first (from + 1) (omega arith) (omega arith) in
    let grows : 2 ^ from ≤ 2 ^ (from + 1) = pow_mono (omega arith) in
    absurd (omega (arith, some, grows, low))

cut_of : (x count from : ℕ) → IsCut x from count (length (filter (is_up_to x) (range_with_len from count)))
cut_of x zero from = record { few = omega arith; first = λ place low high. absurd (omega (arith, low, high)); after = λ h. absurd (omega (arith, h)) }
cut_of x (suc count) from = by (nat_le (2 ^ from) x) refl (filter (is_up_to x) (range_with_len (from + 1) count)) (cut_of x count (from + 1))
  where
    first_too : (rest place : ℕ) → 2 ^ from ≤ x → IsCut x (from + 1) count rest → from ≤ place → place < from + suc rest → 2 ^ place ≤ x
    first_too rest place some c low high =
        elim (cases_lt from place) [
          | inl more ↦ c.first place (omega (arith, more)) (omega (arith, high))
          | inr less ↦ (let e : from ≡ place = omega (arith, less, low) in subst (λ p. 2 ^ p ≤ x) e some)
        ]

    by : (b : Bool) → nat_le (2 ^ from) x ≡ b → (rest : List ℕ) → IsCut x (from + 1) count (length rest) → IsCut x from (suc count) (length (cond b (from ∷ rest) rest))
    by true e rest c = record {
      few = (let few = c.few in omega (arith, few));
      first = λ place low high. first_too (length rest) place (leb-true (2 ^ from) x e) c low high;
      after = λ less. (let h : from + suc (length rest) ≡ from + 1 + length rest = omega arith in
          subst (λ p. x < 2 ^ p) (sym h) (c.after (omega (arith, less))));
    }
    by false e rest c =
        let low : x < 2 ^ from = leb-false (2 ^ from) x e in
        let none : length rest ≡ 0 = none_after x from count (length rest) low c in
        record {
          few = omega (arith, none);
          first = λ place more less. absurd (omega (arith, more, less, none));
          after = λ _. (let h : from + length rest ≡ from = omega (arith, none) in subst (λ p. x < 2 ^ p) (sym h) low);
        }

below_power : (x : ℕ) → x < 2 ^ x
below_power zero = omega arith
below_power (suc x) = let h = below_power x in omega (arith, h)

cut : (x : ℕ) → IsCut x 0 x (bits x)
cut x = subst (IsCut x 0 x) (length-filter (is_up_to x) (range_with_len 0 x)) (cut_of x x 0)

enough : (x b : ℕ) → IsCut x 0 x b → x < 2 ^ b
enough x b c =
    elim (cases_lt b x) [
      | inl less ↦ (let h : 0 + b ≡ b = omega arith in subst (λ p. x < 2 ^ p) h (c.after less))
      | inr more ↦ (let few = c.few in let e : x ≡ b = omega (arith, more, few) in subst (λ p. x < 2 ^ p) e (below_power x))
    ]

least : (x b k : ℕ) → IsCut x 0 x b → x < 2 ^ k → b ≤ k
least x b k c low =
    elim (cases_lt k b) [
      | inl less ↦ (let h : 2 ^ k ≤ x = c.first k (omega arith) (omega (arith, less)) in absurd (omega (arith, h, low)))
      | inr more ↦ more
    ]

pub returns : goal.returns
returns c = record { enough = λ x. enough x (bits x) (cut x); least = λ x k low. least x (bits x) k (cut x) low }
