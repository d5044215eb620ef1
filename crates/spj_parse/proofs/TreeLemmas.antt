-- The rules and the limits, over the things that a text names, are those over its tree.
use Rattle.std.proofs.Common.{◌≡◌, ℕ, ◌+◌, Bool, true, false, ◌||◌, nat_lt, List, [], ◌∷◌, ◌++◌, length, map, flat_map, filter_map, sum_by, Option, Some, None, Ok, fold, length-append, refl, ap, ap₂, sym, ◌∙◌, zero-add, arith}
use Rattle.std.specs.List.{list_any, cons_option}
use Rattle.std.proofs.lemmas.List.{length-map}
use Rattle.std.proofs.lemmas.List.Folds.{list_any-append, fold-map}
use Rattle.std.proofs.lemmas.List.Sums.{sum_by-append}
use Rattle.ghost_model.specs.core.Schema.{Schema, columns_of, places_from, is_empty}
use Rattle.ghost_model.specs.refusals.Tokens.{tokens}
use Rattle.ghost_model.specs.core.Query.{Equal, Compared}
use Rattle.ghost_model.specs.refusals.QueryGrammar as grammar
use Rattle.ghost_model.specs.refusals.QueryGrammar.{ColumnText, LiteralText, MemberText, ConditionText, Selection, All, Columns, QueryText}
use Rattle.ghost_model.specs.readings.QueryPlaces.{syntax_of}
use Rattle.ghost_model.specs.readings.QueryPlaces as places
use Rattle.ghost_model.specs.refusals.QueryMeaning.{table_named, meanings, fields_of, from_names, selected_count, selection_columns, value_of_literal, tests_of_member, member_column, condition_columns, columns_in, qualifier_of, column_name, table_names, literal_conditions, is_over_limit, has_unknown_table}
use Rattle.ghost_model.specs.laws.ShortWords.{names_in}
use Rattle.spj_parse.specs.declared.rules.NameRule.{NameRule}
use Rattle.spj_parse.specs.declared.rules.NameRule.TheVariants as rule
use Rattle.spj_parse.specs.declared.limits.Count.{Count}
use Rattle.spj_parse.specs.declared.limits.Count.TheVariants as count
use Rattle.spj_parse.specs.Items.{TestText, Compares, Piece, Tests, Item, AllColumns, Selected, From, Where, selection_items, tests_in, group_items, condition_items, items_of, items_in}
use Rattle.spj_parse.specs.Rules.{is_long, is_unknown, name_breaks, column_breaks, test_column, piece_columns, breaks_rule, weight_of, width_of, columns_or_none, selects_all, columns_or}
use Rattle.spj_parse.proofs.Turns.{items_lead}
use Rattle.spj_parse.proofs.WalkLemmas.{any_map, any_flat}

pub items_are : (text : List ℕ) (tree : QueryText) → syntax_of text ≡ Ok tree → items_in text ≡ items_of tree
items_are text tree h = items_lead (tokens text) places.Start tree h

-- any of the things

of_selection : (r : NameRule) (schema : Schema) (from : List ℕ) (selection : Selection)
    → list_any (breaks_rule r schema from) (selection_items selection) ≡ list_any (column_breaks r schema from) (selection_columns selection)
of_selection r schema from All = refl
of_selection r schema from (Columns column more) = ap (λ b. column_breaks r schema from column || b) (any_map (breaks_rule r schema from) Selected more)

or_none : (a : Bool) → (a || false) ≡ a
or_none true = refl
or_none false = refl

or_same : (a b : Bool) → b ≡ a → (a || b) ≡ a
or_same true b e = refl
or_same false b e = e

-- a test of the columns that things name, over the things of a condition

abbrev pub any_column : (ColumnText → Bool) → Item → Bool
any_column p AllColumns = false
any_column p (Selected column) = false
any_column p (From name) = false
any_column p (Where piece) = list_any p (piece_columns piece)

any_group : (p : ColumnText → Bool) (tests : List TestText) → list_any (any_column p) (group_items tests) ≡ list_any (λ test. p (test_column test)) tests
any_group p [] = refl
any_group p (last ∷ []) = or_none (p (test_column last) || false)
any_group p (test ∷ next ∷ tests) = ap₂ (λ a b. a || b) (or_none (p (test_column test))) (any_group p (next ∷ tests))

any_listed : (p : ColumnText → Bool) (column : ColumnText) (first : LiteralText) (others : List LiteralText)
    → list_any (λ test. p (test_column test)) (map (Compares column Equal) (first ∷ others)) ≡ p column
any_listed p column first [] = or_none (p column)
any_listed p column first (next ∷ others) = or_same (p column) _ (any_listed p column next others)

any_member : (p : ColumnText → Bool) (member : MemberText) → list_any (λ test. p (test_column test)) (tests_in member) ≡ p (member_column member)
any_member p (grammar.Compares column operator literal) = or_none (p column)
any_member p (grammar.TestsNull column negated) = or_none (p column)
any_member p (grammar.IsIn column first others) = any_listed p column first others

any_members : (p : ColumnText → Bool) (members : List MemberText)
    → list_any (λ test. p (test_column test)) (flat_map tests_in members) ≡ list_any p (map member_column members)
any_members p [] = refl
any_members p (member ∷ members) =
    list_any-append (λ test. p (test_column test)) (tests_in member) (flat_map tests_in members)
    ∙ ap₂ (λ a b. a || b) (any_member p member) (any_members p members)

pub tests_alone : (p : ColumnText → Bool) (member : MemberText)
    → list_any (λ test. p (test_column test)) (tests_in member) ≡ list_any p (condition_columns (grammar.Alone member))
tests_alone p member = any_member p member ∙ sym (or_none (p (member_column member)))

pub tests_grouped : (p : ColumnText → Bool) (first second : MemberText) (others : List MemberText)
    → list_any (λ test. p (test_column test)) (flat_map tests_in (first ∷ second ∷ others)) ≡ list_any p (condition_columns (grammar.AnyOf first second others))
tests_grouped p first second others = any_members p (first ∷ second ∷ others)

any_condition : (p : ColumnText → Bool) (condition : ConditionText) → list_any (any_column p) (condition_items condition) ≡ list_any p (condition_columns condition)
any_condition p (grammar.Alone member) = any_group p (tests_in member) ∙ tests_alone p member
any_condition p (grammar.AnyOf first second others) = any_group p (flat_map tests_in (first ∷ second ∷ others)) ∙ any_members p (first ∷ second ∷ others)
any_condition p (grammar.LiesBetween column low high) = or_none (p column || false)
any_condition p (grammar.Joins left right) = or_none (p left || (p right || false))

any_conditions : (p : ColumnText → Bool) (conditions : List ConditionText)
    → list_any (any_column p) (flat_map condition_items conditions) ≡ list_any p (flat_map condition_columns conditions)
any_conditions p [] = refl
any_conditions p (condition ∷ conditions) =
    list_any-append (any_column p) (condition_items condition) (flat_map condition_items conditions)
    ∙ ap₂ (λ a b. a || b) (any_condition p condition) (any_conditions p conditions)
    ∙ sym (list_any-append p (condition_columns condition) (flat_map condition_columns conditions))

-- the same of rules

any_alike : (r : NameRule) (schema : Schema) (from : List ℕ) (tests : List TestText)
    → list_any (breaks_rule r schema from) (group_items tests) ≡ list_any (any_column (column_breaks r schema from)) (group_items tests)
any_alike r schema from [] = refl
any_alike r schema from (last ∷ []) = refl
any_alike r schema from (test ∷ next ∷ tests) = ap (λ b. (column_breaks r schema from (test_column test) || false) || b) (any_alike r schema from (next ∷ tests))

condition_alike : (r : NameRule) (schema : Schema) (from : List ℕ) (condition : ConditionText)
    → list_any (breaks_rule r schema from) (condition_items condition) ≡ list_any (any_column (column_breaks r schema from)) (condition_items condition)
condition_alike r schema from (grammar.Alone member) = any_alike r schema from (tests_in member)
condition_alike r schema from (grammar.AnyOf first second others) = any_alike r schema from (flat_map tests_in (first ∷ second ∷ others))
condition_alike r schema from (grammar.LiesBetween column low high) = refl
condition_alike r schema from (grammar.Joins left right) = refl

breaks_conditions : (r : NameRule) (schema : Schema) (from : List ℕ) (conditions : List ConditionText)
    → list_any (breaks_rule r schema from) (flat_map condition_items conditions) ≡ list_any (column_breaks r schema from) (flat_map condition_columns conditions)
breaks_conditions r schema from conditions = each conditions ∙ any_conditions (column_breaks r schema from) conditions
  where
    each : (xs : List ConditionText) → list_any (breaks_rule r schema from) (flat_map condition_items xs) ≡ list_any (any_column (column_breaks r schema from)) (flat_map condition_items xs)
    each [] = refl
    each (x ∷ xs) =
        list_any-append (breaks_rule r schema from) (condition_items x) (flat_map condition_items xs)
        ∙ ap₂ (λ a b. a || b) (condition_alike r schema from x) (each xs)
        ∙ sym (list_any-append (any_column (column_breaks r schema from)) (condition_items x) (flat_map condition_items xs))

turned : (a q w : Bool) → (a || (q || w)) ≡ ((a || w) || q)
turned true q w = refl
turned false true true = refl
turned false true false = refl
turned false false true = refl
turned false false false = refl

pub any_items : (r : NameRule) (schema : Schema) (from : List ℕ) (tree : QueryText)
    → list_any (breaks_rule r schema from) (items_of tree) ≡ (list_any (column_breaks r schema from) (columns_in tree) || list_any (name_breaks r schema) (from_names tree))
any_items r schema from tree =
    list_any-append test (selection_items tree.selection) (map From (from_names tree) ++ flat_map condition_items tree.conditions)
    ∙ ap₂ (λ a b. a || b) (of_selection r schema from tree.selection)
    (list_any-append test (map From (from_names tree)) (flat_map condition_items tree.conditions)
    ∙ ap₂ (λ a b. a || b) (any_map test From (from_names tree))
    (breaks_conditions r schema from tree.conditions))
    ∙ turned (list_any (column_breaks r schema from) (selection_columns tree.selection)) (list_any (name_breaks r schema) (from_names tree)) (list_any (column_breaks r schema from) (flat_map condition_columns tree.conditions))
    ∙ ap (λ b. b || list_any (name_breaks r schema) (from_names tree)) (sym (list_any-append (column_breaks r schema from) (selection_columns tree.selection) (flat_map condition_columns tree.conditions)))
  where
    test : Item → Bool
    test = breaks_rule r schema from

commuted : (a b : Bool) → (a || b) ≡ (b || a)
commuted true true = refl
commuted true false = refl
commuted false true = refl
commuted false false = refl

either : (a b c d : Bool) → ((a || c) || (b || d)) ≡ ((a || b) || (c || d))
either true b c d = refl
either false true true d = refl
either false true false d = refl
either false false c d = refl

pub none_of : {X : Type 0} (xs : List X) → list_any (λ x. false) xs ≡ false
none_of [] = refl
none_of (x ∷ xs) = none_of xs

pub any_or : {X : Type 0} (p q : X → Bool) (xs : List X) → list_any (λ x. p x || q x) xs ≡ (list_any p xs || list_any q xs)
any_or p q [] = refl
any_or p q (x ∷ xs) = ap (λ b. (p x || q x) || b) (any_or p q xs) ∙ either (p x) (list_any p xs) (q x) (list_any q xs)

pub long_names : (schema : Schema) (from : List ℕ) (tree : QueryText) → list_any (breaks_rule rule.LongName schema from) (items_of tree) ≡ list_any (λ name. nat_lt 32 (length name)) (names_in tree)
long_names schema from tree =
    any_items rule.LongName schema from tree
    ∙ ap (λ b. b || list_any is_long (from_names tree)) (any_or (λ column. is_long (column_name column)) (λ column. list_any is_long (qualifier_of column)) (columns_in tree))
    ∙ turned_back (list_any (λ column. is_long (column_name column)) (columns_in tree)) (list_any (λ column. list_any is_long (qualifier_of column)) (columns_in tree)) (list_any is_long (from_names tree))
    ∙ sym (list_any-append is_long (table_names tree) (map column_name (columns_in tree))
    ∙ ap₂ (λ a b. a || b)
    (list_any-append is_long (from_names tree) (flat_map qualifier_of (columns_in tree)) ∙ ap (λ b. list_any is_long (from_names tree) || b) (any_flat is_long qualifier_of (columns_in tree)))
    (any_map is_long column_name (columns_in tree)))
  where
    turned_back : (n q f : Bool) → ((n || q) || f) ≡ ((f || q) || n)
    turned_back true true true = refl
    turned_back true true false = refl
    turned_back true false true = refl
    turned_back true false false = refl
    turned_back false true true = refl
    turned_back false true false = refl
    turned_back false false true = refl
    turned_back false false false = refl

pub unknown_tables : (schema : Schema) (from : List ℕ) (tree : QueryText) → list_any (breaks_rule rule.NoTable schema from) (items_of tree) ≡ has_unknown_table schema tree
unknown_tables schema from tree =
    any_items rule.NoTable schema from tree
    ∙ commuted (list_any (λ column. list_any (is_unknown schema) (qualifier_of column)) (columns_in tree)) (list_any (is_unknown schema) (from_names tree))
    ∙ ap (λ b. list_any (is_unknown schema) (from_names tree) || b) (sym (any_flat (is_unknown schema) qualifier_of (columns_in tree)))
    ∙ sym (list_any-append (is_unknown schema) (from_names tree) (flat_map qualifier_of (columns_in tree)))

without_names : (a : Bool) (names : List (List ℕ)) → (a || list_any (λ name. false) names) ≡ a
without_names true names = refl
without_names false names = none_of names

pub unknown_columns : (schema : Schema) (from : List ℕ) (tree : QueryText) → list_any (breaks_rule rule.NoMeaning schema from) (items_of tree) ≡ list_any (λ column. is_empty (meanings schema from column)) (columns_in tree)
unknown_columns schema from tree = any_items rule.NoMeaning schema from tree ∙ without_names (list_any (λ column. is_empty (meanings schema from column)) (columns_in tree)) (from_names tree)

pub several_meanings : (schema : Schema) (from : List ℕ) (tree : QueryText)
    → list_any (breaks_rule rule.SeveralMeanings schema from) (items_of tree) ≡ list_any (λ column. nat_lt 1 (length (meanings schema from column))) (columns_in tree)
several_meanings schema from tree = any_items rule.SeveralMeanings schema from tree ∙ without_names (list_any (λ column. nat_lt 1 (length (meanings schema from column))) (columns_in tree)) (from_names tree)

-- counts

sum_zero : {X : Type 0} (xs : List X) → sum_by (λ x. 0) xs ≡ 0
sum_zero [] = refl
sum_zero (x ∷ xs) = sum_zero xs

sum_from : {X : Type 0} (at : ℕ) (xs : List X) → fold (λ a (x : X). a + 1) at xs ≡ at + length xs
sum_from at [] = omega arith
sum_from at (x ∷ xs) = sum_from (at + 1) xs ∙ (let e : at + 1 + length xs ≡ at + length (x ∷ xs) = omega arith in e)

sum_one : {X : Type 0} (xs : List X) → sum_by (λ x. 1) xs ≡ length xs
sum_one xs = sum_from 0 xs ∙ zero-add (length xs)

sum_map : {X Y : Type 0} (weight : Y → ℕ) (view : X → Y) (xs : List X) → sum_by weight (map view xs) ≡ sum_by (λ x. weight (view x)) xs
sum_map weight view xs = fold-map (λ a y. a + weight y) view 0 xs

pub sum_items : (c : Count) (schema : Schema) (tree : QueryText)
    → sum_by (weight_of c schema) (items_of tree)
    ≡ sum_by (weight_of c schema) (selection_items tree.selection) + (sum_by (λ name. weight_of c schema (From name)) (from_names tree) + sum_by (weight_of c schema) (flat_map condition_items tree.conditions))
sum_items c schema tree =
    sum_by-append (weight_of c schema) (selection_items tree.selection) (map From (from_names tree) ++ flat_map condition_items tree.conditions)
    ∙ ap (λ n. sum_by (weight_of c schema) (selection_items tree.selection) + n)
    (sum_by-append (weight_of c schema) (map From (from_names tree)) (flat_map condition_items tree.conditions)
    ∙ ap (λ n. n + sum_by (weight_of c schema) (flat_map condition_items tree.conditions)) (sum_map (weight_of c schema) From (from_names tree)))

selection_zero : (c : Count) (schema : Schema) (selection : Selection) → ((item : ColumnText) → weight_of c schema (Selected item) ≡ 0) → weight_of c schema AllColumns ≡ 0 → sum_by (weight_of c schema) (selection_items selection) ≡ 0
selection_zero c schema All none star = ap (λ n. 0 + n) star
selection_zero c schema (Columns column more) none star =
    ap (λ n. fold (λ a item. a + weight_of c schema item) (0 + n) (map Selected more)) (none column)
    ∙ sum_map (weight_of c schema) Selected more ∙ zeros more
  where
    zeros : (xs : List ColumnText) → sum_by (λ x. weight_of c schema (Selected x)) xs ≡ 0
    zeros [] = refl
    zeros (x ∷ xs) = ap (λ n. fold (λ a y. a + weight_of c schema (Selected y)) (0 + n) xs) (none x) ∙ zeros xs

pub sum_cons : {X : Type 0} (weight : X → ℕ) (x : X) (xs : List X) → sum_by weight (x ∷ xs) ≡ weight x + sum_by weight xs
sum_cons weight x xs = sum_by-append weight (x ∷ []) xs ∙ ap (λ n. n + sum_by weight xs) (zero-add (weight x))

group_zero : (c : Count) (schema : Schema) → ((piece : Piece) → weight_of c schema (Where piece) ≡ 0) → (tests : List TestText) → sum_by (weight_of c schema) (group_items tests) ≡ 0
group_zero c schema none [] = refl
group_zero c schema none (last ∷ []) = zero-add (weight_of c schema (Where (Tests last false))) ∙ none (Tests last false)
group_zero c schema none (test ∷ next ∷ tests) =
    sum_cons (weight_of c schema) (Where (Tests test true)) (group_items (next ∷ tests))
    ∙ ap₂ (λ n m. n + m) (none (Tests test true)) (group_zero c schema none (next ∷ tests))

condition_zero : (c : Count) (schema : Schema) → ((piece : Piece) → weight_of c schema (Where piece) ≡ 0) → (condition : ConditionText) → sum_by (weight_of c schema) (condition_items condition) ≡ 0
condition_zero c schema none (grammar.Alone member) = group_zero c schema none (tests_in member)
condition_zero c schema none (grammar.AnyOf first second others) = group_zero c schema none (flat_map tests_in (first ∷ second ∷ others))
condition_zero c schema none (grammar.LiesBetween column low high) = zero-add _ ∙ none _
condition_zero c schema none (grammar.Joins left right) = zero-add _ ∙ none _

conditions_zero : (c : Count) (schema : Schema) → ((piece : Piece) → weight_of c schema (Where piece) ≡ 0) → (xs : List ConditionText) → sum_by (weight_of c schema) (flat_map condition_items xs) ≡ 0
conditions_zero c schema none [] = refl
conditions_zero c schema none (x ∷ xs) =
    sum_by-append (weight_of c schema) (condition_items x) (flat_map condition_items xs)
    ∙ ap₂ (λ n m. n + m) (condition_zero c schema none x) (conditions_zero c schema none xs)

-- each test counts

group_counted : (schema : Schema) (tests : List TestText) → sum_by (weight_of count.Tests schema) (group_items tests) ≡ length tests
group_counted schema [] = refl
group_counted schema (last ∷ []) = refl
group_counted schema (test ∷ next ∷ tests) =
    let rest : sum_by (weight_of count.Tests schema) (group_items (next ∷ tests)) ≡ length (next ∷ tests) = group_counted schema (next ∷ tests) in
    sum_cons (weight_of count.Tests schema) (Where (Tests test true)) (group_items (next ∷ tests)) ∙ omega (arith, rest)

member_counted : (member : MemberText) → length (tests_in member) ≡ length (tests_of_member member)
member_counted (grammar.Compares column operator literal) = refl
member_counted (grammar.TestsNull column negated) = refl
member_counted (grammar.IsIn column first others) =
    length-map (first ∷ others) (Compares column Equal) ∙ sym (length-map (first ∷ others) (λ literal. Compared Equal (value_of_literal literal)))

members_counted : (members : List MemberText) → length (flat_map tests_in members) ≡ sum_by (λ member. length (tests_of_member member)) members
members_counted [] = refl
members_counted (member ∷ members) =
    length-append (tests_in member) (flat_map tests_in members)
    ∙ ap₂ (λ n m. n + m) (member_counted member) (members_counted members)
    ∙ sym (sum_cons (λ member. length (tests_of_member member)) member members)

condition_counted : (schema : Schema) (condition : ConditionText) → sum_by (weight_of count.Tests schema) (condition_items condition) ≡ literal_conditions condition
condition_counted schema (grammar.Alone member) = group_counted schema (tests_in member) ∙ member_counted member
condition_counted schema (grammar.AnyOf first second others) = group_counted schema (flat_map tests_in (first ∷ second ∷ others)) ∙ members_counted (first ∷ second ∷ others)
condition_counted schema (grammar.LiesBetween column low high) = refl
condition_counted schema (grammar.Joins left right) = refl

tests_counted : (schema : Schema) (conditions : List ConditionText) → sum_by (weight_of count.Tests schema) (flat_map condition_items conditions) ≡ sum_by literal_conditions conditions
tests_counted schema [] = refl
tests_counted schema (condition ∷ conditions) =
    sum_by-append (weight_of count.Tests schema) (condition_items condition) (flat_map condition_items conditions)
    ∙ ap₂ (λ n m. n + m) (condition_counted schema condition) (tests_counted schema conditions)
    ∙ sym (sum_cons literal_conditions condition conditions)

pub tables_count : (schema : Schema) (tree : QueryText) → sum_by (weight_of count.Tables schema) (items_of tree) ≡ length (from_names tree)
tables_count schema tree =
    let selection = selection_zero count.Tables schema tree.selection (λ item. refl) refl in
    let tables : sum_by (λ name. weight_of count.Tables schema (From name)) (from_names tree) ≡ length (from_names tree) = sum_one (from_names tree) in
    let others : sum_by (weight_of count.Tables schema) (flat_map condition_items tree.conditions) ≡ 0 = conditions_zero count.Tables schema (λ piece. refl) tree.conditions in
    sum_items count.Tables schema tree ∙ omega (arith, selection, tables, others)

pub tests_count : (schema : Schema) (tree : QueryText) → sum_by (weight_of count.Tests schema) (items_of tree) ≡ sum_by literal_conditions tree.conditions
tests_count schema tree =
    let selection = selection_zero count.Tests schema tree.selection (λ item. refl) refl in
    let tables : sum_by (λ name. weight_of count.Tests schema (From name)) (from_names tree) ≡ 0 = sum_zero (from_names tree) in
    sum_items count.Tests schema tree ∙ omega (arith, selection, tables, tests_counted schema tree.conditions)

all_places : {X : Type 0} (at : ℕ) (xs : List X) → length (places_from (λ x. true) at xs) ≡ length xs
unfolding places_from
all_places at [] = refl
all_places at (x ∷ xs) = let rest : length (places_from (λ y. true) (at + 1) xs) ≡ length xs = all_places (at + 1) xs in omega (arith, rest)

pub width : (schema : Schema) (table : ℕ) → length (fields_of schema table) ≡ length (columns_of schema table)
width schema table = length-map _ _ ∙ all_places 0 (columns_of schema table)

widths_by : (schema : Schema) (found : Option ℕ) (rest : List ℕ) → length (flat_map (fields_of schema) (cons_option found rest)) ≡ columns_or_none schema found + length (flat_map (fields_of schema) rest)
widths_by schema None rest = omega arith
widths_by schema (Some table) rest = length-append (fields_of schema table) (flat_map (fields_of schema) rest) ∙ ap (λ n. n + length (flat_map (fields_of schema) rest)) (width schema table)

pub widths : (schema : Schema) (names : List (List ℕ)) → length (flat_map (fields_of schema) (filter_map (table_named schema) names)) ≡ sum_by (width_of schema) names
widths schema [] = refl
widths schema (name ∷ names) =
    widths_by schema (table_named schema name) (filter_map (table_named schema) names)
    ∙ ap (λ n. width_of schema name + n) (widths schema names)
    ∙ sym (sum_cons (width_of schema) name names)

pub all_count : (schema : Schema) (tree : QueryText) → tree.selection ≡ All → sum_by (weight_of count.AllColumns schema) (items_of tree) ≡ selected_count schema tree tree.selection
all_count schema tree e =
    let selection : sum_by (weight_of count.AllColumns schema) (selection_items tree.selection) ≡ 0 = selection_zero count.AllColumns schema tree.selection (λ item. refl) refl in
    let others : sum_by (weight_of count.AllColumns schema) (flat_map condition_items tree.conditions) ≡ 0 = conditions_zero count.AllColumns schema (λ piece. refl) tree.conditions in
    sum_items count.AllColumns schema tree
    ∙ (let sums : sum_by (weight_of count.AllColumns schema) (selection_items tree.selection) + (sum_by (width_of schema) (from_names tree) + sum_by (weight_of count.AllColumns schema) (flat_map condition_items tree.conditions)) ≡ sum_by (width_of schema) (from_names tree) = omega (arith, selection, others) in sums)
    ∙ sym (widths schema (from_names tree)) ∙ ap (selected_count schema tree) (sym e)

pub some_count : (schema : Schema) (tree : QueryText) (column : ColumnText) (more : List ColumnText) → tree.selection ≡ Columns column more
    → sum_by (weight_of count.Columns schema) (items_of tree) ≡ selected_count schema tree tree.selection
some_count schema tree column more e =
    let selection : sum_by (weight_of count.Columns schema) (selection_items tree.selection) ≡ length (column ∷ more) =
    ap (λ selection. sum_by (weight_of count.Columns schema) (selection_items selection)) e ∙ sum_map (weight_of count.Columns schema) Selected (column ∷ more) ∙ sum_one (column ∷ more) in
    let tables : sum_by (λ name. weight_of count.Columns schema (From name)) (from_names tree) ≡ 0 = sum_zero (from_names tree) in
    let others : sum_by (weight_of count.Columns schema) (flat_map condition_items tree.conditions) ≡ 0 = conditions_zero count.Columns schema (λ piece. refl) tree.conditions in
    sum_items count.Columns schema tree
    ∙ (let sums : sum_by (weight_of count.Columns schema) (selection_items tree.selection) + (sum_by (λ name. weight_of count.Columns schema (From name)) (from_names tree) + sum_by (weight_of count.Columns schema) (flat_map condition_items tree.conditions)) ≡ length (column ∷ more) = omega (arith, selection, tables, others) in sums)
    ∙ ap (selected_count schema tree) (sym e)

by_selection : (schema : Schema) (tree : QueryText) (selection : Selection) → tree.selection ≡ selection
    → sum_by (weight_of (columns_or (selects_all (selection_items selection ++ (map From (from_names tree) ++ flat_map condition_items tree.conditions)))) schema) (items_of tree) ≡ selected_count schema tree tree.selection
by_selection schema tree All e = all_count schema tree e
by_selection schema tree (Columns column more) e = some_count schema tree column more e

pub columns_count : (schema : Schema) (tree : QueryText) → sum_by (weight_of (columns_or (selects_all (items_of tree))) schema) (items_of tree) ≡ selected_count schema tree tree.selection
columns_count schema tree = by_selection schema tree tree.selection refl

-- the limits

abbrev any_of_five : (a b c d e : Bool) → Bool
any_of_five a b c d e = a || b || c || d || e

pub limits : (schema : Schema) (text : List ℕ) (tree : QueryText) (a b c d e : Bool) → a ≡ nat_lt 4096 (length text) → b ≡ list_any (λ name. nat_lt 32 (length name)) (names_in tree)
    → c ≡ nat_lt 12 (length (from_names tree)) → d ≡ nat_lt 16 (sum_by literal_conditions tree.conditions) → e ≡ nat_lt 32 (selected_count schema tree tree.selection)
    → any_of_five a b c d e ≡ is_over_limit schema text tree
limits schema text tree a b c d e ea eb ec ed ee =
    ap (λ t. any_of_five t b c d e) ea
    ∙ ap (λ t. any_of_five (nat_lt 4096 (length text)) t c d e) eb
    ∙ ap (λ t. any_of_five (nat_lt 4096 (length text)) (list_any (λ name. nat_lt 32 (length name)) (names_in tree)) t d e) ec
    ∙ ap (λ t. any_of_five (nat_lt 4096 (length text)) (list_any (λ name. nat_lt 32 (length name)) (names_in tree)) (nat_lt 12 (length (from_names tree))) t e) ed
    ∙ ap (λ t. any_of_five (nat_lt 4096 (length text)) (list_any (λ name. nat_lt 32 (length name)) (names_in tree)) (nat_lt 12 (length (from_names tree))) (nat_lt 16 (sum_by literal_conditions tree.conditions)) t) ee

pub long_name_in : (schema : Schema) (text : List ℕ) (tree : QueryText) (b : Bool) → syntax_of text ≡ Ok tree → b ≡ list_any (breaks_rule rule.LongName schema []) (items_in text) → b ≡ list_any (λ name. nat_lt 32 (length name)) (names_in tree)
long_name_in schema text tree b h e = e ∙ ap (list_any (breaks_rule rule.LongName schema [])) (items_are text tree h) ∙ long_names schema [] tree

pub many_tables_in : (schema : Schema) (text : List ℕ) (tree : QueryText) (b : Bool) → syntax_of text ≡ Ok tree → b ≡ nat_lt 12 (sum_by (weight_of count.Tables schema) (items_in text)) → b ≡ nat_lt 12 (length (from_names tree))
many_tables_in schema text tree b h e = e ∙ ap (nat_lt 12) (ap (sum_by (weight_of count.Tables schema)) (items_are text tree h) ∙ tables_count schema tree)

pub many_tests_in : (schema : Schema) (text : List ℕ) (tree : QueryText) (b : Bool) → syntax_of text ≡ Ok tree → b ≡ nat_lt 16 (sum_by (weight_of count.Tests schema) (items_in text)) → b ≡ nat_lt 16 (sum_by literal_conditions tree.conditions)
many_tests_in schema text tree b h e = e ∙ ap (nat_lt 16) (ap (sum_by (weight_of count.Tests schema)) (items_are text tree h) ∙ tests_count schema tree)

pub many_columns_in : (schema : Schema) (text : List ℕ) (tree : QueryText) (b all : Bool) (c : Count) → syntax_of text ≡ Ok tree → all ≡ selects_all (items_in text) → c ≡ columns_or all → b ≡ nat_lt 32 (sum_by (weight_of c schema) (items_in text))
    → b ≡ nat_lt 32 (selected_count schema tree tree.selection)
many_columns_in schema text tree b all c h s k e =
    e ∙ ap (nat_lt 32) (ap (λ (n : Count). sum_by (weight_of n schema) (items_in text)) (k ∙ ap columns_or s)
    ∙ ap (λ (items : List Item). sum_by (weight_of (columns_or (selects_all items)) schema) items) (items_are text tree h) ∙ columns_count schema tree)
