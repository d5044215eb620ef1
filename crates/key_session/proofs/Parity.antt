-- Numbers of one parity, and which of two cases holds.
use Rattle.std.proofs.Common.{◌≡◌, ◌≤◌, ◌<◌, ◌+◌, ◌%◌, ℕ, zero, suc, arith, Bool, true, false, ◌==◌, refl, sym, ◌∙◌, ap, ◌⊎◌, inl, inr}
use Rattle.std.proofs.lemmas.Bool.{eq-eqb, eqb-true}
use Rattle.visible_spool.specs.Areas.{is_even}

pub data Whether (P : Type 0) : Type 0 where
  holds : P → Whether P
  fails : (P → ⊥) → Whether P

pub same_text : (a b : ℕ) → Whether (a ≡ b)
same_text a b = go (a == b) refl
  where
    go : (c : Bool) → (a == b) ≡ c → Whether (a ≡ b)
    go true e = holds (eqb-true a b e)
    go false e = fails (λ same. false_true (sym e ∙ eq-eqb a b same))
      where
        false_true : false ≡ true → ⊥
        false_true x = cc

pub same_bool : (a b : Bool) → Whether (a ≡ b)
same_bool true true = holds refl
same_bool false false = holds refl
same_bool true false = fails (λ e. cc)
same_bool false true = fails (λ e. cc)

-- of two numbers one is below the other
pub either_below : (a b : ℕ) → (a ≡ b → ⊥) → (a < b) ⊎ (b < a)
either_below zero zero ne = absurd (ne refl)
either_below zero (suc b) ne = inl (omega arith)
either_below (suc a) zero ne = inr (omega arith)
either_below (suc a) (suc b) ne = go (either_below a b (λ e. ne (ap suc e)))
  where
    go : (a < b) ⊎ (b < a) → (suc a < suc b) ⊎ (suc b < suc a)
    go (inl h) = inl (omega (arith, h))
    go (inr h) = inr (omega (arith, h))

-- a number and the next one are not of one parity
rests : (n : ℕ) → n % 2 ≡ 0 → (n + 1) % 2 ≡ 0 → ⊥
rests n e f = omega (arith, e, f)

odd_rests : (n : ℕ) → (n % 2 ≡ 0 → ⊥) → ((n + 1) % 2 ≡ 0 → ⊥) → ⊥
odd_rests n e f = omega (arith, e, f)

pub parity_changes : (n : ℕ) → is_even n ≡ is_even (n + 1) → ⊥
parity_changes n same = go (is_even n) refl
  where
    go : (b : Bool) → is_even n ≡ b → ⊥
    go true e = rests n (eqb-true (n % 2) 0 e) (eqb-true ((n + 1) % 2) 0 (sym same ∙ e))
    go false e = odd_rests n (λ z. false_true (sym e ∙ eq-eqb (n % 2) 0 z)) (λ z. false_true (sym (sym same ∙ e) ∙ eq-eqb ((n + 1) % 2) 0 z))
      where
        false_true : false ≡ true → ⊥
        false_true e = cc

-- a text of the same parity that is not earlier than the one before
pub behind : (low text other : ℕ) → text ≤ low + 1 → low ≤ other → (other ≡ text → ⊥) → is_even other ≡ is_even text → text < other
behind low text other near from not same = go text near not same
  where
    go : (text : ℕ) → text ≤ low + 1 → (other ≡ text → ⊥) → is_even other ≡ is_even text → text < other
    go text near not same = omega (arith, near, from, not, λ (e : text ≡ other + 1). parity_changes other (same ∙ ap is_even e))
