-- The asks of a query with each of its joins once, and that its groups are those of the query.
use Rattle.std.proofs.Common.{◌≡◌, ℕ, Bool, true, false, ◌&&◌, ◌||◌, cond, List, [], ◌∷◌, ◌++◌, map, filter, flat_map, Option, Some, None, refl, ap, ap₂, ◌∙◌}
use Rattle.std.specs.List.{list_any, list_all}
use Rattle.std.proofs.lemmas.Grind.{flat_map-append}
use Rattle.std.proofs.lemmas.List.Folds.{list_any-append, list_all-append}
use Rattle.ghost_model.specs.core.Schema.{Schema, first_of, parent, columns_of, places_of, is_visible}
use Rattle.ghost_model.specs.core.Query.{Query, Condition, OneOf, Join, is_among}
use Rattle.ghost_model.specs.core.Channel.{Ask, ColumnTest}
use Rattle.ghost_model.specs.core.Asks.{test_of, ask_for, asks_of, is_column, is_mixed, names_column, is_wanted, is_needed}
use Rattle.ghost_model.specs.laws.ShortWords.{tests_of, is_from}
use Rattle.spj_parse.specs.Resolved.{keys_between, join_by, join_with, join_to, joins_of, is_group, is_join, linked}

-- the joins of some tables

key_joins : (table holder : ℕ) (key : Option ℕ) → list_all is_join (join_by table holder key) ≡ true
key_joins table holder None = refl
key_joins table holder (Some column) = refl

chosen_joins : (b : Bool) (joins : List Condition) → list_all is_join joins ≡ true → list_all is_join (cond b joins []) ≡ true
chosen_joins true joins h = h
chosen_joins false joins h = refl

joins_with :
    (schema : Schema) (from : List ℕ) (table : ℕ) (holder : Option ℕ) → list_all is_join (join_with schema from table holder) ≡ true
joins_with schema from table None = refl
joins_with schema from table (Some holder) =
    chosen_joins (is_among from holder) _ (key_joins table holder (first_of (keys_between schema holder table)))

pub all_joins : (schema : Schema) (from tables : List ℕ) → list_all is_join (flat_map (join_to schema from) tables) ≡ true
all_joins schema from [] = refl
all_joins schema from (table ∷ tables) =
    list_all-append is_join (join_to schema from table) (flat_map (join_to schema from) tables)
    ∙ ap₂ (λ a b. a && b) (joins_with schema from table (parent schema table)) (all_joins schema from tables)

-- the tests of an ask

no_tests :
    (schema : Schema) (asked : ℕ) (joins : List Condition) → list_all is_join joins ≡ true
    → flat_map (test_of schema asked) joins ≡ []
no_tests schema asked [] h = refl
no_tests schema asked (OneOf first others ∷ joins) h = absurd (let no : false ≡ true = h in cc)
no_tests schema asked (Join left right ∷ joins) h = no_tests schema asked joins h

group_tests :
    (schema : Schema) (asked : ℕ) (conditions : List Condition)
    → flat_map (test_of schema asked) (filter is_group conditions) ≡ flat_map (test_of schema asked) conditions
group_tests schema asked [] = refl
group_tests schema asked (OneOf first others ∷ conditions) =
    ap (λ rest. test_of schema asked (OneOf first others) ++ rest) (group_tests schema asked conditions)
group_tests schema asked (Join left right ∷ conditions) = group_tests schema asked conditions

same_tests :
    (schema : Schema) (query : Query) (asked : ℕ)
    → tests_of schema asked (linked schema query).conditions ≡ tests_of schema asked query.conditions
same_tests schema query asked =
    flat_map-append (test_of schema asked) (joins_of schema query.from) (filter is_group query.conditions)
    ∙ ap₂ (λ xs ys. xs ++ ys) (no_tests schema asked (joins_of schema query.from) (all_joins schema query.from query.from))
    (group_tests schema asked query.conditions)

-- its columns

abbrev is_named : Schema → (table column : ℕ) → Condition → Bool
is_named schema table column condition = is_mixed schema table condition && names_column table column condition

none_named :
    (schema : Schema) (table column : ℕ) (joins : List Condition) → list_all is_join joins ≡ true
    → list_any (is_named schema table column) joins ≡ false
none_named schema table column [] h = refl
none_named schema table column (OneOf first others ∷ joins) h = absurd (let no : false ≡ true = h in cc)
none_named schema table column (Join left right ∷ joins) h = none_named schema table column joins h

groups_named :
    (schema : Schema) (table column : ℕ) (conditions : List Condition)
    → list_any (is_named schema table column) (filter is_group conditions) ≡ list_any (is_named schema table column) conditions
groups_named schema table column [] = refl
groups_named schema table column (OneOf first others ∷ conditions) =
    ap (λ rest. is_named schema table column (OneOf first others) || rest) (groups_named schema table column conditions)
groups_named schema table column (Join left right ∷ conditions) = groups_named schema table column conditions

same_named :
    (schema : Schema) (query : Query) (table column : ℕ)
    → list_any (is_named schema table column) (linked schema query).conditions
    ≡ list_any (is_named schema table column) query.conditions
same_named schema query table column =
    list_any-append (is_named schema table column) (joins_of schema query.from) (filter is_group query.conditions)
    ∙ ap₂ (λ a b. a || b) (none_named schema table column (joins_of schema query.from) (all_joins schema query.from query.from))
    (groups_named schema table column query.conditions)

same_wanted :
    (schema : Schema) (query : Query) (table column : ℕ)
    → is_wanted schema (linked schema query) table column ≡ is_wanted schema query table column
same_wanted schema query table column =
    ap (λ b. is_visible schema table column && (list_any (is_column table column) query.select || b))
    (same_named schema query table column)

pub filter_same : {X : Type 0} (p q : X → Bool) → ((x : X) → p x ≡ q x) → (xs : List X) → filter p xs ≡ filter q xs
filter_same p q same [] = refl
filter_same p q same (x ∷ xs) = ap₂ (λ b rest. cond b (x ∷ rest) rest) (same x) (filter_same p q same xs)

-- the asks

abbrev ask_with : (table : ℕ) → List ℕ → List ColumnTest → Ask
ask_with table columns tests = record { table = table; columns = columns; tests = tests }

same_ask : (schema : Schema) (query : Query) (table : ℕ) → ask_for schema (linked schema query) table ≡ ask_for schema query table
same_ask schema query table =
    ap₂ (ask_with table)
    (filter_same (is_wanted schema (linked schema query) table) (is_wanted schema query table) (same_wanted schema query table)
    (places_of (columns_of schema table)))
    (same_tests schema query table)

same_asks :
    (schema : Schema) (query : Query) (tables : List ℕ)
    → map (ask_for schema (linked schema query)) tables ≡ map (ask_for schema query) tables
same_asks schema query [] = refl
same_asks schema query (table ∷ tables) = ap₂ (λ ask asks. ask ∷ asks) (same_ask schema query table) (same_asks schema query tables)

pub asks_once : (schema : Schema) (query : Query) → asks_of schema (linked schema query) ≡ asks_of schema query
asks_once schema query = ap (filter is_needed) (same_asks schema query (filter (is_from query) (places_of schema)))
