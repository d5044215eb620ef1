-- Whether one of the elements of a list passes, tested one after another.
use Rattle.std.proofs.Common.{◌≡◌, ℕ, ◌+◌, ◌<◌, ◌≤◌, Bool, true, false, ◌||◌, List, ◌∷◌, length, drop, get_or, refl, ap, sym, ◌∙◌, add-one, drop-cons}
use Rattle.std.specs.List.{list_any}
use Rattle.std.proofs.lemmas.List.{drop_all}

-- no element before this place passes
pub record NoneBefore {X : Type 0} (test : X → Bool) (xs : List X) (at : ℕ) : Type 0 where
  pub left : list_any test xs ≡ list_any test (drop at xs)

pub none_yet : {X : Type 0} (test : X → Bool) (xs : List X) → NoneBefore test xs 0
none_yet test xs = record { left = refl }

next : {X : Type 0} (xs : List X) (at : ℕ) (d : X) → at < length xs → drop at xs ≡ get_or xs at d ∷ drop (at + 1) xs
next xs at d within = drop-cons xs at d within ∙ ap (λ n. get_or xs at d ∷ drop n xs) (sym (add-one at))

pub fails_here : {X : Type 0} (test : X → Bool) (xs : List X) (at : ℕ) (d : X) → NoneBefore test xs at → at < length xs → test (get_or xs at d) ≡ false → NoneBefore test xs (at + 1)
fails_here test xs at d s within e =
    record { left = s.left ∙ ap (list_any test) (next xs at d within) ∙ ap (λ t. t || list_any test (drop (at + 1) xs)) e }

pub passes_here : {X : Type 0} (test : X → Bool) (xs : List X) (at : ℕ) (d : X) → NoneBefore test xs at → at < length xs → test (get_or xs at d) ≡ true → list_any test xs ≡ true
passes_here test xs at d s within e =
    s.left ∙ ap (list_any test) (next xs at d within) ∙ ap (λ t. t || list_any test (drop (at + 1) xs)) e

pub none_passes : {X : Type 0} (test : X → Bool) (xs : List X) (at : ℕ) → NoneBefore test xs at → length xs ≤ at → list_any test xs ≡ false
none_passes test xs at s past = s.left ∙ ap (list_any test) (drop_all at xs past)
