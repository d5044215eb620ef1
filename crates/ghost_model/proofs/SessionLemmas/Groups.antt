-- That a list cut into groups is cut into groups of 1 to so many elements, and that these are the list, joined.
use Rattle.std.proofs.Common.{◌≡◌, ℕ, zero, suc, ◌+◌, ◌-◌, ◌*◌, ◌/◌, ◌%◌, ◌<◌, ◌≤◌, Bool, true, List, [], ◌∷◌, ◌++◌, length, take, drop, min, sym, ◌∙◌, ap, refl, arith}
use Rattle.std.specs.Prelude.{flat_map}
use Rattle.std.specs.List.{list_all, concat}
use Rattle.std.proofs.Math.Nat.{mul-suc, div-add-mod}
use Rattle.std.proofs.lemmas.List.{nil_from_length, length-drop, length-take, take-append-drop}
use Rattle.ghost_model.specs.core.Host.{groups_from, grouped}
use Rattle.ghost_model.proofs.ChannelLemmas.Tests.{hold_both}

joined_from : {X : Type 0} (most count : ℕ) (xs : List X) → length xs ≤ most * count → flat_map (λ (group : List X). group) (groups_from most count xs) ≡ xs
unfolding groups_from
joined_from most zero xs h = sym (nil_from_length xs (omega (arith, h)))
joined_from {X} most (suc count) xs h =
    let fewer : length (drop most xs) ≤ most * count = omega (arith, h, length-drop most xs, mul-suc most count) in
    ap (λ (ys : List X). take most xs ++ ys) (joined_from most count (drop most xs) fewer) ∙ take-append-drop most xs

passed_from :
    {X : Type 0} (test : List X → Bool) (most count : ℕ) (xs : List X) → 0 < most
    → ((group : List X) → 0 < length group → length group ≤ most → test group ≡ true) → most * count < length xs + most
    → list_all test (groups_from most count xs) ≡ true
unfolding groups_from
passed_from test most zero xs some passes h = refl
passed_from test most (suc count) xs some passes h =
    let product : most * suc count ≡ most * count + most = mul-suc most count in
    let size : length (take most xs) ≡ min most (length xs) = length-take most xs in
    hold_both (test (take most xs)) _
    (passes (take most xs) (omega (arith, size, product, h, some)) (omega (arith, size)))
    (passed_from test most count (drop most xs) some passes (omega (arith, product, h, some, length-drop most xs)))

enough_groups : (most n : ℕ) → 0 < most → n ≤ most * ((n + most - 1) / most)
enough_groups most n h =
    let parts = div-add-mod (n + most - 1) most in
    let below : (n + most - 1) % most < most = omega arith in
    omega (arith, parts, below, h)

not_too_many : (most n : ℕ) → 0 < most → most * ((n + most - 1) / most) < n + most
not_too_many most n h =
    let parts = div-add-mod (n + most - 1) most in
    omega (arith, parts, h)

pub groups_are_joined : {X : Type 0} (most : ℕ) (xs : List X) → 0 < most → flat_map (λ (group : List X). group) (grouped most xs) ≡ xs
groups_are_joined most xs some = joined_from most ((length xs + most - 1) / most) xs (enough_groups most (length xs) some)

pub groups_pass :
    {X : Type 0} (test : List X → Bool) (most : ℕ) (xs : List X) → 0 < most
    → ((group : List X) → 0 < length group → length group ≤ most → test group ≡ true) → list_all test (grouped most xs) ≡ true
groups_pass test most xs some passes =
    passed_from test most ((length xs + most - 1) / most) xs some passes (not_too_many most (length xs) some)

pub joined_parts : (parts : List (List ℕ)) → concat parts ≡ flat_map (λ (part : List ℕ). part) parts
joined_parts [] = refl
joined_parts (part ∷ parts) = ap (λ (bytes : List ℕ). part ++ bytes) (joined_parts parts)
