-- The conditions of a text where each column means the first of its meanings, and their tests.
use Rattle.std.specs.Prelude.{◌≡◌, Bool, false, not, ℕ, List, [], ◌∷◌, map, flat_map, option_to_list}
use Rattle.std.specs.List.{list_any}
use Rattle.ghost_model.specs.core.Schema.{Schema}
use Rattle.ghost_model.specs.core.Query.{Field, AtMost, AtLeast, Test, Compared, Condition, OneOf, tested, compared, Join}
use Rattle.ghost_model.specs.refusals.QueryGrammar.{ColumnText, QueryText}
use Rattle.ghost_model.specs.refusals.QueryMeaning.{value_of_literal, null_test, is_other_kind, is_too_large, literal_fails, is_proper, is_join_of, has_unknown_column, is_ambiguous}
use Rattle.spj_parse.specs.declared.conditions.ConditionTest.{ConditionTest}
use Rattle.spj_parse.specs.declared.conditions.ConditionTest.TheVariants as test
use Rattle.spj_parse.specs.Items.{TestText, Compares, TestsNull, Piece, Tests, LiesBetween, Joins, Item, AllColumns, Selected, From, Where}
use Rattle.spj_parse.specs.Names.{first_meaning}
use Rattle.spj_parse.specs.Rules.{test_column}

-- what a test of a text tests
abbrev pub test_meant : TestText → Test
test_meant (Compares column operator literal) = Compared operator (value_of_literal literal)
test_meant (TestsNull column negated) = null_test negated

-- the conditions that a part of a condition is, where each column means some fields and each member stands alone
abbrev pub conditions_with : (ColumnText → List Field) → Piece → List Condition
conditions_with meant (Tests test more) = map (λ field. OneOf (tested field (test_meant test)) []) (meant (test_column test))
conditions_with meant (LiesBetween column low high) =
    flat_map (λ field. compared field AtLeast (value_of_literal low) ∷ compared field AtMost (value_of_literal high) ∷ []) (meant column)
conditions_with meant (Joins left right) = flat_map (λ field. map (Join field) (meant right)) (meant left)

-- the first meaning alone
abbrev pub first_alone : Schema → (from : List ℕ) → ColumnText → List Field
first_alone schema from column = option_to_list (first_meaning schema from column)

abbrev pub conditions_meant : Schema → (from : List ℕ) → Piece → List Condition
conditions_meant schema from piece = conditions_with (first_alone schema from) piece

-- the tests of a condition: its literal is of another kind than its column, or does not fit there; it is no join though
-- it is between two columns; it is the join of a table with its parent
abbrev pub passes_test : ConditionTest → Schema → Condition → Bool
passes_test test.OtherKind schema condition = literal_fails schema is_other_kind condition
passes_test test.TooLarge schema condition = literal_fails schema is_too_large condition
passes_test test.Improper schema condition = not (is_proper schema condition)
passes_test (test.JoinOf table) schema condition = is_join_of schema table condition

abbrev pub item_passes : ConditionTest → Schema → (from : List ℕ) → Item → Bool
item_passes t schema from AllColumns = false
item_passes t schema from (Selected column) = false
item_passes t schema from (From table) = false
item_passes t schema from (Where piece) = list_any (passes_test t schema) (conditions_meant schema from piece)

-- each column of a text means one column of its FROM tables
pub record IsClear (schema : Schema) (tree : QueryText) : Type 0 where
  pub known : has_unknown_column schema tree ≡ false
  pub single : is_ambiguous schema tree ≡ false
