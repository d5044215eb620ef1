-- The first place of a list at which a test passes, one place after another.
use Rattle.std.proofs.Common.{◌≡◌, ℕ, zero, suc, ◌+◌, ◌<◌, ◌≤◌, Bool, true, false, cond, List, [], ◌∷◌, length, drop, Option, Some, None, slice_get, refl, ap, ◌∙◌, arith}
use Rattle.std.proofs.lemmas.List.{at_drop_all}
use Rattle.ghost_model.specs.core.Schema.{places_from, first_of}
use Rattle.spj_parse.specs.Names.{passes}

-- the first place from `at` on
abbrev pub first_from : {X : Type 0} → (X → Bool) → List X → (at : ℕ) → Option ℕ
first_from test xs at = first_of (places_from test at (drop at xs))

here : {X : Type 0} (test : X → Bool) (k at : ℕ) (xs : List X) → at < length xs
    → places_from test k (drop at xs) ≡ cond (passes test (slice_get xs at)) (k ∷ places_from test (k + 1) (drop (at + 1) xs)) (places_from test (k + 1) (drop (at + 1) xs))
unfolding places_from
here test k at [] h = absurd (let no : at < 0 = h in omega (arith, no))
here test k zero (x ∷ xs) h = refl
here test k (suc at) (x ∷ xs) h = here test k at xs (omega (arith, h)) ∙ ap (λ n. cond (passes test (slice_get xs at)) (k ∷ places_from test (k + 1) (drop n (x ∷ xs))) (places_from test (k + 1) (drop n (x ∷ xs)))) (let e : suc (at + 1) ≡ suc at + 1 = omega arith in e)

pub found_at : {X : Type 0} (test : X → Bool) (xs : List X) (at : ℕ) (all : Option ℕ) → all ≡ first_from test xs at → at < length xs → passes test (slice_get xs at) ≡ true → all ≡ Some at
found_at test xs at all h within e = h ∙ ap first_of (here test at at xs within) ∙ ap (λ b. first_of (cond b (at ∷ places_from test (at + 1) (drop (at + 1) xs)) (places_from test (at + 1) (drop (at + 1) xs)))) e

pub not_at : {X : Type 0} (test : X → Bool) (xs : List X) (at : ℕ) (all : Option ℕ) → all ≡ first_from test xs at → at < length xs → passes test (slice_get xs at) ≡ false → all ≡ first_from test xs (at + 1)
not_at test xs at all h within e = h ∙ ap first_of (here test at at xs within) ∙ ap (λ b. first_of (cond b (at ∷ places_from test (at + 1) (drop (at + 1) xs)) (places_from test (at + 1) (drop (at + 1) xs)))) e

pub nowhere : {X : Type 0} (test : X → Bool) (xs : List X) (at : ℕ) (all : Option ℕ) → all ≡ first_from test xs at → length xs ≤ at → all ≡ None
unfolding places_from
nowhere test xs at all h past = h ∙ at_drop_all (λ rest. first_of (places_from test at rest)) xs at past

below_by : (b : Bool) (at p most : ℕ) (later : List ℕ) → at < most → (first_of later ≡ Some p → p < most) → first_of (cond b (at ∷ later) later) ≡ Some p → p < most
below_by true at p most later h rest e = let same : at ≡ p = (let f : Some at ≡ Some p = e in cc) in omega (arith, h, same)
below_by false at p most later h rest e = rest e

pub place_below : {X : Type 0} (test : X → Bool) (at p : ℕ) (xs : List X) → first_of (places_from test at xs) ≡ Some p → p < at + length xs
unfolding places_from
place_below test at p [] e = absurd (let no : None ≡ Some p = e in cc)
place_below test at p (x ∷ xs) e =
    below_by (test x) at p (at + length (x ∷ xs)) (places_from test (at + 1) xs) (omega arith)
    (λ f. let rest : p < at + 1 + length xs = place_below test (at + 1) p xs f in omega (arith, rest)) e
