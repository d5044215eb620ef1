-- What a number tells of an identifier.
use Rattle.std.proofs.Common.{◌≡◌, ℕ, ◌<◌, ◌≤◌, ◌^◌, inl, inr, Bool, true, false, if◌then◌else◌, ap, sym, refl, subst, Option, None, Some, arith}
use Rattle.std.proofs.lemmas.Bool.{true≢false, false≢true, lt-ltb, le-ltb, le-leb, lt-leb, cases_lt}
use Rattle.id_merge.specs.declared.round.Sought.TheVariants.{Exhausted, At}
use Rattle.id_merge.specs.Moving.{told_by, lesser_of, sought_at}

tells_itself : (n : ℕ) → n < 2 ^ 32 → told_by n ≡ Some n
tells_itself n small = let P : Bool → Type 0 = λ b. (if b then Some n else None) ≡ Some n in subst P (sym (lt-ltb n (2 ^ 32) small)) refl

tells_none : (n : ℕ) → 2 ^ 32 ≤ n → told_by n ≡ None
tells_none n past = let P : Bool → Type 0 = λ b. (if b then Some n else None) ≡ None in subst P (sym (le-ltb n (2 ^ 32) past)) refl

pub tells_this : (is : Bool) (id n : ℕ) → is ≡ true → id < 2 ^ 32 → n ≡ id → told_by n ≡ (if is then Some id else None)
tells_this true id n holds small same = subst (λ m. told_by m ≡ Some id) (sym same) (tells_itself id small)
tells_this false id n holds small same = absurd (false≢true holds)

pub tells_none_of : (is : Bool) (id n : ℕ) → is ≡ false → 2 ^ 32 ≤ n → told_by n ≡ (if is then Some id else None)
tells_none_of true id n holds past = absurd (true≢false holds)
tells_none_of false id n holds past = tells_none n past

pub first_is_less : (a b : ℕ) → a ≤ b → told_by a ≡ lesser_of (told_by a) (told_by b)
first_is_less a b less =
    let Q : Option ℕ → Type 0 = λ x. x ≡ lesser_of x (told_by b) in
    let R : Option ℕ → Type 0 = λ y. Some a ≡ lesser_of (Some a) y in
    let T : Bool → Type 0 = λ t. Some a ≡ (if t then Some a else Some b) in
    elim (cases_lt b (2 ^ 32)) [
      | inl small ↦ subst Q (sym (tells_itself a (omega (arith, less, small)))) (subst R (sym (tells_itself b small)) (subst T (sym (le-leb a b less)) refl))
      | inr past ↦
          elim (cases_lt a (2 ^ 32)) [
            | inl small ↦ subst Q (sym (tells_itself a small)) (subst R (sym (tells_none b past)) refl)
            | inr over ↦ subst Q (sym (tells_none a over)) (sym (tells_none b past))
          ]
    ]

pub other_is_less : (a b : ℕ) → b < a → told_by b ≡ lesser_of (told_by a) (told_by b)
other_is_less a b less =
    let Q : Option ℕ → Type 0 = λ x. told_by b ≡ lesser_of x (told_by b) in
    let R : Option ℕ → Type 0 = λ y. y ≡ lesser_of (Some a) y in
    let T : Bool → Type 0 = λ t. Some b ≡ (if t then Some a else Some b) in
    elim (cases_lt a (2 ^ 32)) [
      | inl small ↦ subst Q (sym (tells_itself a small)) (subst R (sym (tells_itself b (omega (arith, less, small)))) (subst T (sym (lt-leb a b less)) refl))
      | inr over ↦ subst Q (sym (tells_none a over)) refl
    ]

pub sought_some : (least : ℕ) → least < 2 ^ 32 → At least ≡ sought_at (told_by least)
sought_some least small = sym (ap sought_at (tells_itself least small))

pub sought_none : (least : ℕ) → 2 ^ 32 ≤ least → Exhausted ≡ sought_at (told_by least)
sought_none least past = sym (ap sought_at (tells_none least past))
