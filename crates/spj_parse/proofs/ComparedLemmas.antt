-- The members that are gathered of a text that breaks no rule are those of its query.
use Rattle.std.proofs.Common.{◌≡◌, ℕ, ◌+◌, ◌≤◌, ℤ, pos, Bool, true, false, cond, ◌||◌, List, [], ◌∷◌, ◌++◌, length, map, take, flat_map, sum_by, Option, Some, None, option_map, Ok, length-append, append-nil, take_all, refl, ap, ap₂, sym, ◌∙◌, arith}
use Rattle.std.specs.Prelude.{option_to_list}
use Rattle.std.specs.List.{list_any}
use Rattle.std.proofs.lemmas.Bool.{ltb-false}
use Rattle.std.proofs.lemmas.List.Folds.{list_any-append}
use Rattle.std.proofs.lemmas.Grind.{flat_map-append}
use Rattle.ghost_model.specs.core.Schema.{column_kind, first_of, Schema, Column, Kind, Integer, Chars, IntegerOrNull, CharsOrNull}
use Rattle.ghost_model.specs.laws.SchemaTrees.{IsTree}
use Rattle.ghost_model.specs.refusals.Tokens.{number_of}
use Rattle.ghost_model.specs.core.Values.{Number, Text}
use Rattle.ghost_model.specs.core.Query.{Field, AtLeast, AtMost, Compared, Condition, compared, Join, GroupMember, members_of, members_in}
use Rattle.ghost_model.specs.refusals.QueryGrammar as grammar
use Rattle.ghost_model.specs.refusals.QueryGrammar.{ColumnText, LiteralText, Unsigned, Signed, Written, Positive, ConditionText, Selection, All, Columns, QueryText}
use Rattle.ghost_model.specs.readings.QueryPlaces.{syntax_of}
use Rattle.ghost_model.specs.refusals.QueryMeaning.{from_names, from_tables, resolved, is_over_limit, is_other_kind, is_too_large, literal_fails, value_of_literal, with_sign, meanings, group_of, condition_columns, conditions_of}
use Rattle.ghost_model.specs.laws.ShortWords.{has_kind_mismatch, has_bad_literal}
use Rattle.spj_parse.specs.Conditions.{IsClear, first_alone}
use Rattle.spj_parse.specs.Items.{TestText, Compares, TestsNull, Piece, Tests, LiesBetween, Joins, Item, AllColumns, Selected, From, Where, selection_items, tests_in, condition_items, items_of, items_in}
use Rattle.spj_parse.specs.declared.limits.Count.TheVariants as count
use Rattle.spj_parse.specs.Rules.{test_column, tests_of, weight_of}
use Rattle.spj_parse.specs.Literals.{is_out}
use Rattle.spj_parse.specs.Names.{first_meaning}
use Rattle.spj_parse.specs.Resolved.{item_members, members_with, flagged, test_kept, literal_kept, number_kept}
use Rattle.spj_parse.proofs.TreeLemmas.{items_are, sum_cons, tests_alone, tests_grouped, tests_count}
use Rattle.spj_parse.proofs.ConditionLemmas.{first_clear, rest_clear, conditions_clear}
use Rattle.spj_parse.proofs.TestLemmas.{is_unclear, left_of, right_of, one_meaning, members_are, all_members_are, KeepsTests, group_is_kept}
use Rattle.spj_parse.proofs.ReadingLemmas.{few_tests}
use Rattle.spj_parse.proofs.GatheredLemmas.{IsHeld, meaning_held, none_from}

-- a literal that fits is kept as it is

fits_kind : (schema : Schema) → IsTree schema → (place : Field) (h : IsHeld schema place) (text : List ℕ) (kind : Kind) → h.column.kind ≡ kind → is_other_kind (Some kind) (Text text) ≡ false → is_too_large (Some kind) (Text text) ≡ false → length text ≤ 64
fits_kind schema tree place h text Integer e other large = absurd (let no : true ≡ false = other in cc)
fits_kind schema tree place h text (Chars most) e other large =
    let short : length text ≤ most = ltb-false most (length text) large in
    let few : most ≤ 64 = (tree.text_lengths place.table place.column most h.column h.held e).1 in
    omega (arith, short, few)
fits_kind schema tree place h text IntegerOrNull e other large = absurd (let no : true ≡ false = other in cc)
fits_kind schema tree place h text (CharsOrNull most) e other large =
    let short : length text ≤ most = ltb-false most (length text) large in
    let few : most ≤ 64 = (tree.nullable_text_lengths place.table place.column most h.column h.held e).1 in
    omega (arith, short, few)

text_fits : (schema : Schema) → IsTree schema → (place : Field) (h : IsHeld schema place) (text : List ℕ) → is_other_kind (column_kind schema place.table place.column) (Text text) ≡ false → is_too_large (column_kind schema place.table place.column) (Text text) ≡ false → length text ≤ 64
text_fits schema tree place h text other large =
    let kind : column_kind schema place.table place.column ≡ Some h.column.kind = ap (option_map (λ (column : Column). column.kind)) h.held in
    fits_kind schema tree place h text h.column.kind refl (ap (λ k. is_other_kind k (Text text)) (sym kind) ∙ other) (ap (λ k. is_too_large k (Text text)) (sym kind) ∙ large)

number_fits : (number : ℤ) → is_out number ≡ false → number_kept number ≡ Number number
number_fits number h = ap (λ b. cond b (Number (pos 0)) (Number number)) h

kept_value : (schema : Schema) → IsTree schema → (place : Field) → IsHeld schema place → (literal : LiteralText) → is_other_kind (column_kind schema place.table place.column) (value_of_literal literal) ≡ false → is_too_large (column_kind schema place.table place.column) (value_of_literal literal) ≡ false
    → literal_kept literal ≡ value_of_literal literal
kept_value schema tree place h (Unsigned digits) other large = number_fits (with_sign Positive (number_of digits)) large
kept_value schema tree place h (Signed sign digits) other large = number_fits (with_sign sign (number_of digits)) large
kept_value schema tree place h (Written text) other large = ap Text (take_all 64 text (text_fits schema tree place h text other large))

abbrev others : Schema → List Condition → Bool
others schema conditions = list_any (literal_fails schema is_other_kind) conditions

abbrev larges : Schema → List Condition → Bool
larges schema conditions = list_any (literal_fails schema is_too_large) conditions

pub keeps_tests : (schema : Schema) → IsTree schema → (from : List ℕ) → KeepsTests schema from
keeps_tests schema tree from (Compares column operator literal) place e other large =
    ap (Compared operator) (kept_value schema tree place (meaning_held schema from column place (ap first_of e)) literal other large)
keeps_tests schema tree from (TestsNull column negated) place e other large = refl

-- the bounds of a column

bounds_kept : (schema : Schema) → IsTree schema → (low high : LiteralText) (place : Field) → IsHeld schema place
    → others schema (compared place AtLeast (value_of_literal low) ∷ compared place AtMost (value_of_literal high) ∷ []) ≡ false
    → larges schema (compared place AtLeast (value_of_literal low) ∷ compared place AtMost (value_of_literal high) ∷ []) ≡ false
    → flagged false place (Compared AtLeast (literal_kept low)) ∷ flagged false place (Compared AtMost (literal_kept high)) ∷ []
    ≡ members_in (compared place AtLeast (value_of_literal low) ∷ compared place AtMost (value_of_literal high) ∷ [])
bounds_kept schema tree low high place held o l =
    let o2 = right_of (is_other_kind (column_kind schema place.table place.column) (value_of_literal low)) (is_other_kind (column_kind schema place.table place.column) (value_of_literal high) || false) o in
    let l2 = right_of (is_too_large (column_kind schema place.table place.column) (value_of_literal low)) (is_too_large (column_kind schema place.table place.column) (value_of_literal high) || false) l in
    ap₂ (λ a b. flagged false place (Compared AtLeast a) ∷ flagged false place (Compared AtMost b) ∷ [])
    (kept_value schema tree place held low (left_of (is_other_kind (column_kind schema place.table place.column) (value_of_literal low)) (is_other_kind (column_kind schema place.table place.column) (value_of_literal high) || false) o) (left_of (is_too_large (column_kind schema place.table place.column) (value_of_literal low)) (is_too_large (column_kind schema place.table place.column) (value_of_literal high) || false) l))
    (kept_value schema tree place held high (left_of (is_other_kind (column_kind schema place.table place.column) (value_of_literal high)) false o2) (left_of (is_too_large (column_kind schema place.table place.column) (value_of_literal high)) false l2))

abbrev bounds_of : (low high : LiteralText) → List Field → List Condition
bounds_of low high fields = flat_map (λ field. compared field AtLeast (value_of_literal low) ∷ compared field AtMost (value_of_literal high) ∷ []) fields

bounds_by : (schema : Schema) → IsTree schema → (from : List ℕ) (column : ColumnText) (low high : LiteralText) → is_unclear schema from column ≡ false
    → others schema (bounds_of low high (meanings schema from column)) ≡ false → larges schema (bounds_of low high (meanings schema from column)) ≡ false
    → members_with (first_alone schema from) (LiesBetween column low high) ≡ members_in (bounds_of low high (meanings schema from column))
bounds_by schema tree from column low high h o l =
    let one = one_meaning schema from column h in
    ap (λ (fields : List Field). members_with (λ _. option_to_list (first_of fields)) (LiesBetween column low high)) one.1
    ∙ bounds_kept schema tree low high one.0 (meaning_held schema from column one.0 (ap first_of one.1))
    (ap (λ fields. others schema (bounds_of low high fields)) (sym one.1) ∙ o) (ap (λ fields. larges schema (bounds_of low high fields)) (sym one.1) ∙ l)
    ∙ ap (λ fields. members_in (bounds_of low high fields)) (sym one.1)

joins_with : (left : Field) (right : List Field) → members_in (map (Join left) right) ≡ []
joins_with left [] = refl
joins_with left (field ∷ right) = joins_with left right

joins_by : (left right : List Field) → [] ≡ members_in (flat_map (λ field. map (Join field) right) left)
joins_by [] right = refl
joins_by (field ∷ left) right =
    joins_by left right
    ∙ ap (λ rest. rest ++ members_in (flat_map (λ field. map (Join field) right) left)) (sym (joins_with field right))
    ∙ sym (flat_map-append members_of (map (Join field) right) (flat_map (λ field. map (Join field) right) left))

one_kept : (schema : Schema) → IsTree schema → (from : List ℕ) (condition : ConditionText) → list_any (is_unclear schema from) (condition_columns condition) ≡ false
    → others schema (conditions_of schema from condition) ≡ false → larges schema (conditions_of schema from condition) ≡ false
    → flat_map (item_members schema from) (condition_items condition) ≡ members_in (conditions_of schema from condition)
one_kept schema tree from (grammar.Alone member) h o l =
    let same = members_are schema from member (left_of _ false h) in
    group_is_kept schema from (keeps_tests schema tree from) (tests_in member) (tests_alone (is_unclear schema from) member ∙ h)
    (ap (λ members. others schema (group_of members)) (sym same) ∙ o) (ap (λ members. larges schema (group_of members)) (sym same) ∙ l)
    ∙ ap (λ members. members_in (group_of members)) (sym same)
one_kept schema tree from (grammar.AnyOf first second rest) h o l =
    let same = all_members_are schema from (first ∷ second ∷ rest) h in
    group_is_kept schema from (keeps_tests schema tree from) (flat_map tests_in (first ∷ second ∷ rest)) (tests_grouped (is_unclear schema from) first second rest ∙ h)
    (ap (λ members. others schema (group_of members)) (sym same) ∙ o) (ap (λ members. larges schema (group_of members)) (sym same) ∙ l)
    ∙ ap (λ members. members_in (group_of members)) (sym same)
one_kept schema tree from (grammar.LiesBetween column low high) h o l = append-nil _ ∙ bounds_by schema tree from column low high (left_of _ false h) o l
one_kept schema tree from (grammar.Joins left right) h o l = joins_by (meanings schema from left) (meanings schema from right)

all_kept : (schema : Schema) → IsTree schema → (from : List ℕ) (conditions : List ConditionText) → list_any (is_unclear schema from) (flat_map condition_columns conditions) ≡ false
    → others schema (flat_map (conditions_of schema from) conditions) ≡ false → larges schema (flat_map (conditions_of schema from) conditions) ≡ false
    → flat_map (item_members schema from) (flat_map condition_items conditions) ≡ members_in (flat_map (conditions_of schema from) conditions)
all_kept schema tree from [] h o l = refl
all_kept schema tree from (condition ∷ conditions) h o l =
    let o2 = sym (list_any-append (literal_fails schema is_other_kind) (conditions_of schema from condition) (flat_map (conditions_of schema from) conditions)) ∙ o in
    let l2 = sym (list_any-append (literal_fails schema is_too_large) (conditions_of schema from condition) (flat_map (conditions_of schema from) conditions)) ∙ l in
    flat_map-append (item_members schema from) (condition_items condition) (flat_map condition_items conditions)
    ∙ ap₂ (λ xs ys. xs ++ ys)
    (one_kept schema tree from condition (first_clear schema from condition conditions h)
    (left_of (others schema (conditions_of schema from condition)) (others schema (flat_map (conditions_of schema from) conditions)) o2)
    (left_of (larges schema (conditions_of schema from condition)) (larges schema (flat_map (conditions_of schema from) conditions)) l2))
    (all_kept schema tree from conditions (rest_clear schema from condition conditions h)
    (right_of (others schema (conditions_of schema from condition)) (others schema (flat_map (conditions_of schema from) conditions)) o2)
    (right_of (larges schema (conditions_of schema from condition)) (larges schema (flat_map (conditions_of schema from) conditions)) l2))
    ∙ sym (flat_map-append members_of (conditions_of schema from condition) (flat_map (conditions_of schema from) conditions))

-- there are not too many

few_tested : (one : TestText) (more : Bool) (found : Option Field) → length (map (λ field. flagged more field (test_kept one)) (option_to_list found)) ≤ 1
few_tested one more None = omega arith
few_tested one more (Some place) = omega arith

few_bounds : (low high : LiteralText) (found : Option Field)
    → length (flat_map (λ field. flagged false field (Compared AtLeast (literal_kept low)) ∷ flagged false field (Compared AtMost (literal_kept high)) ∷ []) (option_to_list found)) ≤ 2
few_bounds low high None = omega arith
few_bounds low high (Some place) = omega arith

few_of_piece : (schema : Schema) (from : List ℕ) (piece : Piece) → length (members_with (first_alone schema from) piece) ≤ tests_of piece
few_of_piece schema from (Tests one more) = few_tested one more (first_meaning schema from (test_column one))
few_of_piece schema from (LiesBetween column low high) = few_bounds low high (first_meaning schema from column)
few_of_piece schema from (Joins left right) = omega arith

few_of_item : (schema : Schema) (from : List ℕ) (item : Item) → length (item_members schema from item) ≤ weight_of count.Tests schema item
few_of_item schema from AllColumns = omega arith
few_of_item schema from (Selected column) = omega arith
few_of_item schema from (From name) = omega arith
few_of_item schema from (Where piece) = few_of_piece schema from piece

few_in : (schema : Schema) (from : List ℕ) (items : List Item) → length (flat_map (item_members schema from) items) ≤ sum_by (weight_of count.Tests schema) items
few_in schema from [] = omega arith
few_in schema from (item ∷ items) =
    let here : length (item_members schema from item) ≤ weight_of count.Tests schema item = few_of_item schema from item in
    let rest : length (flat_map (item_members schema from) items) ≤ sum_by (weight_of count.Tests schema) items = few_in schema from items in
    let whole : length (item_members schema from item ++ flat_map (item_members schema from) items) ≡ length (item_members schema from item) + length (flat_map (item_members schema from) items) =
    length-append (item_members schema from item) (flat_map (item_members schema from) items) in
    let sums : sum_by (weight_of count.Tests schema) (item ∷ items) ≡ weight_of count.Tests schema item + sum_by (weight_of count.Tests schema) items = sum_cons (weight_of count.Tests schema) item items in
    omega (arith, here, rest, whole, sums)

-- over the whole text

none_selected : (schema : Schema) (from : List ℕ) (more : List ColumnText) → flat_map (item_members schema from) (map Selected more) ≡ []
none_selected schema from [] = refl
none_selected schema from (x ∷ xs) = none_selected schema from xs

no_selection : (schema : Schema) (from : List ℕ) (selection : Selection) → flat_map (item_members schema from) (selection_items selection) ≡ []
no_selection schema from All = refl
no_selection schema from (Columns column more) = none_selected schema from more

of_items : (schema : Schema) (from : List ℕ) (tree : QueryText) → flat_map (item_members schema from) (items_of tree) ≡ flat_map (item_members schema from) (flat_map condition_items tree.conditions)
of_items schema from tree =
    flat_map-append (item_members schema from) (selection_items tree.selection) (map From (from_names tree) ++ flat_map condition_items tree.conditions)
    ∙ ap₂ (λ xs ys. xs ++ ys) (no_selection schema from tree.selection)
    (flat_map-append (item_members schema from) (map From (from_names tree)) (flat_map condition_items tree.conditions)
    ∙ ap (λ xs. xs ++ flat_map (item_members schema from) (flat_map condition_items tree.conditions)) (none_from (item_members schema from) (λ name. refl) (from_names tree)))

pub compared_are : (schema : Schema) → IsTree schema → (text : List ℕ) (tree : QueryText) (from : List ℕ) (kept : List GroupMember) → syntax_of text ≡ Ok tree → is_over_limit schema text tree ≡ false → from ≡ from_tables schema tree → IsClear schema tree
    → has_kind_mismatch schema tree ≡ false → has_bad_literal schema tree ≡ false
    → kept ≡ take 16 (flat_map (item_members schema from) (items_in text)) → kept ≡ members_in (resolved schema tree).conditions
compared_are schema schema_tree text tree from kept h k f c o l e =
    let few : length (flat_map (item_members schema (from_tables schema tree)) (items_of tree)) ≤ sum_by (weight_of count.Tests schema) (items_of tree) = few_in schema (from_tables schema tree) (items_of tree) in
    e ∙ ap (take 16) (ap₂ (λ (tables : List ℕ) (items : List Item). flat_map (item_members schema tables) items) f (items_are text tree h))
    ∙ take_all 16 (flat_map (item_members schema (from_tables schema tree)) (items_of tree)) (omega (arith, few, tests_count schema tree, few_tests schema text tree k))
    ∙ of_items schema (from_tables schema tree) tree
    ∙ all_kept schema schema_tree (from_tables schema tree) tree.conditions (conditions_clear schema tree c) o l
