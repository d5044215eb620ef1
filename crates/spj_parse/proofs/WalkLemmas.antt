-- What `any` over a walk answers, and lists of the things that a text names.
use Rattle.std.proofs.Common.{◌≡◌, ℕ, ◌<◌, Bool, true, false, ◌||◌, List, [], ◌∷◌, length, ◌++◌, map, flat_map, refl, ap, ap₂, sym, ◌∙◌, arith}
use Rattle.std.specs.Bool.{MatchBool}
use Rattle.std.specs.List.{list_any, HoldsAt, AllWithin}
use Rattle.std.proofs.lemmas.List.Folds.{list_any_at, list_any_none, list_any-append}
use Rattle.std.proofs.lemmas.Grind.{flat_map-append}
use Rattle.ghost_model.specs.refusals.QueryGrammar as grammar
use Rattle.ghost_model.specs.refusals.QueryGrammar.{ConditionText}
use Rattle.spj_parse.specs.Items.{TestText, Piece, Tests, Item, AllColumns, Where, tests_in, group_items, condition_items}

pub any_of : (r : Bool) (test : Item → Bool) (all : List Item)
    → MatchBool r ((k : ℕ) × (k < length all) × HoldsAt (λ x. test x ≡ true) all k) (AllWithin (λ x. test x ≡ false) all 0 (length all)) → r ≡ list_any test all
any_of true test all h = sym (list_any_at test all h.0 AllColumns h.1 (h.2 AllColumns))
any_of false test all h = sym (list_any_none test all (λ k d w. h k d (omega arith) w))

pub any_map : {X Y : Type 0} (test : Y → Bool) (view : X → Y) (xs : List X) → list_any test (map view xs) ≡ list_any (λ x. test (view x)) xs
any_map test view [] = refl
any_map test view (x ∷ xs) = ap (λ b. test (view x) || b) (any_map test view xs)

pub any_flat : {X Y : Type 0} (test : Y → Bool) (parts : X → List Y) (xs : List X) → list_any test (flat_map parts xs) ≡ list_any (λ x. list_any test (parts x)) xs
any_flat test parts [] = refl
any_flat test parts (x ∷ xs) = list_any-append test (parts x) (flat_map parts xs) ∙ ap (λ b. list_any test (parts x) || b) (any_flat test parts xs)

-- what gives nothing for parts of conditions gives nothing for conditions

none_of_group : {Y : Type 0} (give : Item → List Y) → ((piece : Piece) → give (Where piece) ≡ []) → (tests : List TestText) → flat_map give (group_items tests) ≡ []
none_of_group give none [] = refl
none_of_group give none (last ∷ []) = ap (λ xs. xs ++ []) (none (Tests last false))
none_of_group give none (test ∷ next ∷ tests) = ap₂ (λ xs ys. xs ++ ys) (none (Tests test true)) (none_of_group give none (next ∷ tests))

none_of_condition : {Y : Type 0} (give : Item → List Y) → ((piece : Piece) → give (Where piece) ≡ []) → (condition : ConditionText) → flat_map give (condition_items condition) ≡ []
none_of_condition give none (grammar.Alone member) = none_of_group give none (tests_in member)
none_of_condition give none (grammar.AnyOf first second others) = none_of_group give none (flat_map tests_in (first ∷ second ∷ others))
none_of_condition give none (grammar.LiesBetween column low high) = ap (λ xs. xs ++ []) (none _)
none_of_condition give none (grammar.Joins left right) = ap (λ xs. xs ++ []) (none _)

pub none_where : {Y : Type 0} (give : Item → List Y) → ((piece : Piece) → give (Where piece) ≡ []) → (conditions : List ConditionText)
    → flat_map give (flat_map condition_items conditions) ≡ []
none_where give none [] = refl
none_where give none (condition ∷ conditions) =
    flat_map-append give (condition_items condition) (flat_map condition_items conditions)
    ∙ ap₂ (λ xs ys. xs ++ ys) (none_of_condition give none condition) (none_where give none conditions)
