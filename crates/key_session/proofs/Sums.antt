-- Sums over the parts of lists.
use Rattle.std.proofs.Common.{◌≡◌, ℕ, ◌+◌, ◌≤◌, Bool, true, false, List, [], ◌∷◌, length, map, filter, sum_by, sym, ◌∙◌, ap, refl, arith, if◌then◌else◌}
use Rattle.std.specs.List.{range_with_len}
use Rattle.std.proofs.lemmas.List.Sums.{sum_by-cons}
use Rattle.ghost_model.specs.core.Schema.{places_from}
use Rattle.ghost_model.proofs.ChannelLemmas.Tests.{false_is_not}

pub sum_mapped : {X Y : Type 0} (f : Y → ℕ) (g : X → Y) (xs : List X) → sum_by f (map g xs) ≡ sum_by (λ x. f (g x)) xs
sum_mapped f g [] = refl
sum_mapped f g (x ∷ xs) =
    sum_by-cons f (g x) (map g xs) ∙ ap (λ n. f (g x) + n) (sum_mapped f g xs) ∙ sym (sum_by-cons (λ y. f (g y)) x xs)

pub sum_less : {X : Type 0} (f g : X → ℕ) → ((x : X) → f x ≤ g x) → (xs : List X) → sum_by f xs ≤ sum_by g xs
sum_less f g less [] = omega arith
sum_less f g less (x ∷ xs) =
    let one = less x in
    let later = sum_less f g less xs in
    let left = sum_by-cons f x xs in
    let right = sum_by-cons g x xs in
    omega (arith, one, later, left, right)

-- what passes one test passes another
pub sum_fewer : {X : Type 0} (f : X → ℕ) (p q : X → Bool) → ((x : X) → p x ≡ true → q x ≡ true) → (xs : List X)
    → sum_by f (filter p xs) ≤ sum_by f (filter q xs)
sum_fewer f p q so [] = omega arith
sum_fewer f p q so (x ∷ xs) = go (sum_fewer f p q so xs) (p x) (q x) (so x)
  where
    go : sum_by f (filter p xs) ≤ sum_by f (filter q xs) → (a b : Bool) → (a ≡ true → b ≡ true)
        → sum_by f (if a then x ∷ filter p xs else filter p xs) ≤ sum_by f (if b then x ∷ filter q xs else filter q xs)
    go later true true s =
        let left = sum_by-cons f x (filter p xs) in
        let right = sum_by-cons f x (filter q xs) in
        omega (arith, left, right, later)
    go later true false s = absurd (false_is_not (s refl))
    go later false true s = let right = sum_by-cons f x (filter q xs) in omega (arith, right, later)
    go later false false s = later

pub sum_part : {X : Type 0} (f : X → ℕ) (p : X → Bool) (xs : List X) → sum_by f (filter p xs) ≤ sum_by f xs
sum_part f p [] = omega arith
sum_part f p (x ∷ xs) = go (sum_part f p xs) (p x)
  where
    all : sum_by f (x ∷ xs) ≡ f x + sum_by f xs
    all = sum_by-cons f x xs

    go : sum_by f (filter p xs) ≤ sum_by f xs → (a : Bool) → sum_by f (if a then x ∷ filter p xs else filter p xs) ≤ sum_by f (x ∷ xs)
    go later true = let left = sum_by-cons f x (filter p xs) in omega (arith, left, all, later)
    go later false = omega (arith, all, later)

pub sum_none : {X : Type 0} (xs : List X) → sum_by (λ (x : X). 0) xs ≡ 0
sum_none [] = refl
sum_none {X} (x ∷ xs) =
    let all = sum_by-cons (λ (y : X). 0) x xs in
    let later = sum_none xs in
    omega (arith, all, later)

pub sum_ones : {X : Type 0} (xs : List X) → sum_by (λ (x : X). 1) xs ≡ length xs
sum_ones [] = refl
sum_ones {X} (x ∷ xs) =
    let all = sum_by-cons (λ (y : X). 1) x xs in
    let later = sum_ones xs in
    omega (arith, all, later)

-- all places of a list
pub places_below : {X : Type 0} (at : ℕ) (xs : List X) → places_from (λ _. true) at xs ≡ range_with_len at (length xs)
unfolding places_from
places_below at [] = refl
places_below at (x ∷ xs) = ap (λ (ks : List ℕ). at ∷ ks) (places_below (at + 1) xs)
