-- The tests of conditions, over the things that a text names, are those of the query that it means.
use Rattle.std.proofs.Common.{◌≡◌, ℕ, Bool, true, false, not, ◌&&◌, ◌||◌, nat_lt, List, [], ◌∷◌, ◌++◌, length, map, flat_map, is_none, Ok, refl, ap, ap₂, sym, ◌∙◌}
use Rattle.std.specs.List.{list_any, list_all}
use Rattle.std.proofs.lemmas.List.Folds.{list_any-append}
use Rattle.ghost_model.specs.core.Schema.{Schema, is_empty, parent}
use Rattle.ghost_model.specs.core.Query as query
use Rattle.ghost_model.specs.core.Query.{Field, is_some_among, top_of}
use Rattle.ghost_model.specs.refusals.QueryGrammar as grammar
use Rattle.ghost_model.specs.refusals.QueryGrammar.{ColumnText, LiteralText, ConditionText, Selection, All, Columns, QueryText}
use Rattle.ghost_model.specs.readings.QueryPlaces.{syntax_of}
use Rattle.ghost_model.specs.refusals.QueryMeaning.{meanings, members_meant, conditions_of, resolved, from_names, from_tables, selection_columns, condition_columns, columns_in, has_repeat, is_proper, is_unlinked, lacks_join}
use Rattle.spj_parse.specs.Links.{lacks_join_in, top_among}
use Rattle.spj_parse.specs.declared.conditions.ConditionTest.{ConditionTest}
use Rattle.spj_parse.specs.declared.conditions.ConditionTest.TheVariants as test
use Rattle.spj_parse.specs.Items.{LiesBetween, Joins, Selected, From, selection_items, tests_in, condition_items, items_of, items_in}
use Rattle.spj_parse.specs.Conditions.{IsClear, conditions_with, conditions_meant, passes_test, item_passes}
use Rattle.spj_parse.proofs.WalkLemmas.{any_map}
use Rattle.spj_parse.proofs.TreeLemmas.{items_are, any_or, none_of, tests_alone, tests_grouped}
use Rattle.spj_parse.proofs.TestLemmas.{is_unclear, clear, left_of, right_of, members_are, all_members_are, alone_passes, groups_pass, tests_pass}

-- the tests of a condition, where its columns have one meaning each

bounds_pass : (t : ConditionTest) (schema : Schema) (from : List ℕ) (column : ColumnText) (low high : LiteralText) → is_unclear schema from column ≡ false
    → list_any (passes_test t schema) (conditions_meant schema from (LiesBetween column low high)) ≡ list_any (passes_test t schema) (conditions_of schema from (grammar.LiesBetween column low high))
bounds_pass t schema from column low high h =
    ap (λ (fields : List Field). list_any (passes_test t schema) (conditions_with (λ _. fields) (LiesBetween column low high))) (clear schema from column h)

join_pass : (t : ConditionTest) (schema : Schema) (from : List ℕ) (left right : ColumnText) → is_unclear schema from left ≡ false → is_unclear schema from right ≡ false
    → list_any (passes_test t schema) (conditions_meant schema from (Joins left right)) ≡ list_any (passes_test t schema) (conditions_of schema from (grammar.Joins left right))
join_pass t schema from left right l r =
    ap₂ (λ (ls rs : List Field). list_any (passes_test t schema) (flat_map (λ field. map (query.Join field) rs) ls)) (clear schema from left l) (clear schema from right r)

or_none : (a : Bool) → (a || false) ≡ a
or_none true = refl
or_none false = refl

condition_passes : (t : ConditionTest) (schema : Schema) (from : List ℕ) (condition : ConditionText) → list_any (is_unclear schema from) (condition_columns condition) ≡ false
    → list_any (item_passes t schema from) (condition_items condition) ≡ list_any (passes_test t schema) (conditions_of schema from condition)
condition_passes t schema from (grammar.Alone member) h =
    tests_pass t schema from (tests_in member) (tests_alone (is_unclear schema from) member ∙ h)
    ∙ ap (list_any (alone_passes t schema)) (sym (members_are schema from member (left_of _ false h)))
    ∙ sym (groups_pass t schema (members_meant schema from member))
condition_passes t schema from (grammar.AnyOf first second others) h =
    tests_pass t schema from (flat_map tests_in (first ∷ second ∷ others)) (tests_grouped (is_unclear schema from) first second others ∙ h)
    ∙ ap (list_any (alone_passes t schema)) (sym (all_members_are schema from (first ∷ second ∷ others) h))
    ∙ sym (groups_pass t schema (flat_map (members_meant schema from) (first ∷ second ∷ others)))
condition_passes t schema from (grammar.LiesBetween column low high) h = or_none _ ∙ bounds_pass t schema from column low high (left_of _ false h)
condition_passes t schema from (grammar.Joins left right) h =
    or_none _ ∙ join_pass t schema from left right (left_of (is_unclear schema from left) _ h) (left_of (is_unclear schema from right) false (right_of (is_unclear schema from left) _ h))

pub first_clear : (schema : Schema) (from : List ℕ) (condition : ConditionText) (conditions : List ConditionText) → list_any (is_unclear schema from) (flat_map condition_columns (condition ∷ conditions)) ≡ false
    → list_any (is_unclear schema from) (condition_columns condition) ≡ false
first_clear schema from condition conditions h = left_of _ _ (sym (list_any-append (is_unclear schema from) (condition_columns condition) (flat_map condition_columns conditions)) ∙ h)

pub rest_clear : (schema : Schema) (from : List ℕ) (condition : ConditionText) (conditions : List ConditionText) → list_any (is_unclear schema from) (flat_map condition_columns (condition ∷ conditions)) ≡ false
    → list_any (is_unclear schema from) (flat_map condition_columns conditions) ≡ false
rest_clear schema from condition conditions h =
    right_of (list_any (is_unclear schema from) (condition_columns condition)) _ (sym (list_any-append (is_unclear schema from) (condition_columns condition) (flat_map condition_columns conditions)) ∙ h)

conditions_pass : (t : ConditionTest) (schema : Schema) (from : List ℕ) (conditions : List ConditionText) → list_any (is_unclear schema from) (flat_map condition_columns conditions) ≡ false
    → list_any (item_passes t schema from) (flat_map condition_items conditions) ≡ list_any (passes_test t schema) (flat_map (conditions_of schema from) conditions)
conditions_pass t schema from [] h = refl
conditions_pass t schema from (condition ∷ conditions) h =
    list_any-append (item_passes t schema from) (condition_items condition) (flat_map condition_items conditions)
    ∙ ap₂ (λ a b. a || b) (condition_passes t schema from condition (first_clear schema from condition conditions h)) (conditions_pass t schema from conditions (rest_clear schema from condition conditions h))
    ∙ sym (list_any-append (passes_test t schema) (conditions_of schema from condition) (flat_map (conditions_of schema from) conditions))

pub all_clear : (schema : Schema) (tree : QueryText) → IsClear schema tree → list_any (is_unclear schema (from_tables schema tree)) (columns_in tree) ≡ false
all_clear schema tree h =
    any_or (λ column. is_empty (meanings schema (from_tables schema tree) column)) (λ column. nat_lt 1 (length (meanings schema (from_tables schema tree) column))) (columns_in tree)
    ∙ ap₂ (λ a b. a || b) h.known (right_of (has_repeat (from_tables schema tree)) _ h.single)

pub conditions_clear : (schema : Schema) (tree : QueryText) → IsClear schema tree → list_any (is_unclear schema (from_tables schema tree)) (flat_map condition_columns tree.conditions) ≡ false
conditions_clear schema tree h =
    right_of (list_any (is_unclear schema (from_tables schema tree)) (selection_columns tree.selection)) _
    (sym (list_any-append (is_unclear schema (from_tables schema tree)) (selection_columns tree.selection) (flat_map condition_columns tree.conditions)) ∙ all_clear schema tree h)

-- the tests over the whole text

selection_passes_none : (t : ConditionTest) (schema : Schema) (from : List ℕ) (selection : Selection) → list_any (item_passes t schema from) (selection_items selection) ≡ false
selection_passes_none t schema from All = refl
selection_passes_none t schema from (Columns column more) = any_map (item_passes t schema from) Selected more ∙ none_of more

any_passes : (t : ConditionTest) (schema : Schema) (from : List ℕ) (tree : QueryText)
    → list_any (item_passes t schema from) (items_of tree) ≡ list_any (item_passes t schema from) (flat_map condition_items tree.conditions)
any_passes t schema from tree =
    list_any-append (item_passes t schema from) (selection_items tree.selection) (map From (from_names tree) ++ flat_map condition_items tree.conditions)
    ∙ ap₂ (λ a b. a || b) (selection_passes_none t schema from tree.selection)
    (list_any-append (item_passes t schema from) (map From (from_names tree)) (flat_map condition_items tree.conditions)
    ∙ ap (λ a. a || list_any (item_passes t schema from) (flat_map condition_items tree.conditions)) (any_map (item_passes t schema from) From (from_names tree) ∙ none_of (from_names tree)))

pub test_of_tree : (t : ConditionTest) (schema : Schema) (text : List ℕ) (tree : QueryText) (from : List ℕ) → syntax_of text ≡ Ok tree → from ≡ from_tables schema tree → IsClear schema tree
    → list_any (item_passes t schema from) (items_in text) ≡ list_any (passes_test t schema) (resolved schema tree).conditions
test_of_tree t schema text tree from h f k =
    ap (list_any (item_passes t schema from)) (items_are text tree h)
    ∙ any_passes t schema from tree
    ∙ ap (λ (tables : List ℕ). list_any (item_passes t schema tables) (flat_map condition_items tree.conditions)) f
    ∙ conditions_pass t schema (from_tables schema tree) tree.conditions (conditions_clear schema tree k)

-- the links

not_both : (p q a : Bool) → q ≡ not a → (not p || q) ≡ not (p && a)
not_both true q a h = h
not_both false q a h = refl

some_not : {X : Type 0} (test : X → Bool) (xs : List X) → list_any (λ x. not (test x)) xs ≡ not (list_all test xs)
some_not test [] = refl
some_not test (x ∷ xs) = not_both (test x) (list_any (λ y. not (test y)) xs) (list_all test xs) (some_not test xs)

any_same : {X : Type 0} (p q : X → Bool) → ((x : X) → p x ≡ q x) → (xs : List X) → list_any p xs ≡ list_any q xs
any_same p q same [] = refl
any_same p q same (x ∷ xs) = ap₂ (λ a b. a || b) (same x) (any_same p q same xs)

abbrev any_of_three : (a b c : Bool) → Bool
any_of_three a b c = a || b || c

pub unlinked : (schema : Schema) (text : List ℕ) (tree : QueryText) (from : List ℕ) → syntax_of text ≡ Ok tree → from ≡ from_tables schema tree → IsClear schema tree → (a b c : Bool)
    → a ≡ list_any (item_passes test.Improper schema from) (items_in text) → b ≡ is_none (top_among schema from) → c ≡ list_any (lacks_join_in schema from (items_in text)) from
    → any_of_three a b c ≡ is_unlinked schema (resolved schema tree)
unlinked schema text tree from h f k a b c ea eb ec =
    ap (λ t. any_of_three t b c) (ea ∙ test_of_tree test.Improper schema text tree from h f k ∙ some_not (is_proper schema) (resolved schema tree).conditions)
    ∙ ap (λ t. any_of_three (not (list_all (is_proper schema) (resolved schema tree).conditions)) t c) (eb ∙ ap (λ (tables : List ℕ). is_none (top_among schema tables)) f)
    ∙ ap (λ t. any_of_three (not (list_all (is_proper schema) (resolved schema tree).conditions)) (is_none (top_of schema (resolved schema tree))) t)
    (ec
    ∙ any_same (lacks_join_in schema from (items_in text)) (lacks_join schema (resolved schema tree))
    (λ table. ap₂ (λ p q. p && not q) (ap (λ (tables : List ℕ). is_some_among tables (parent schema table)) f) (test_of_tree (test.JoinOf table) schema text tree from h f k)) from
    ∙ ap (list_any (lacks_join schema (resolved schema tree))) f)
