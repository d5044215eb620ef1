-- The rules of a query, of each thing that a text names: those of names, and the limits, which count.
use Rattle.std.specs.Prelude.{ℕ, Bool, true, false, ◌||◌, nat_lt, List, [], ◌∷◌, length, Option, None, Some, is_none}
use Rattle.std.specs.List.{list_any}
use Rattle.ghost_model.specs.core.Schema.{Schema, columns_of, is_empty}
use Rattle.ghost_model.specs.refusals.QueryGrammar.{ColumnText}
use Rattle.ghost_model.specs.refusals.QueryMeaning.{table_named, meanings, qualifier_of, column_name}
use Rattle.spj_parse.specs.Items.{TestText, Compares, TestsNull, Piece, Tests, LiesBetween, Joins, Item, AllColumns, Selected, From, Where}
use Rattle.spj_parse.specs.declared.rules.NameRule.{NameRule}
use Rattle.spj_parse.specs.declared.rules.NameRule.TheVariants as rule
use Rattle.spj_parse.specs.declared.limits.Count.{Count}
use Rattle.spj_parse.specs.declared.limits.Count.TheVariants as count

abbrev pub is_long : List ℕ → Bool
is_long name = nat_lt 32 (length name)

abbrev pub is_unknown : Schema → List ℕ → Bool
is_unknown schema name = is_none (table_named schema name)

-- the name of a FROM table, and a column, break a rule
abbrev pub name_breaks : NameRule → Schema → List ℕ → Bool
name_breaks rule.LongName schema name = is_long name
name_breaks rule.NoTable schema name = is_unknown schema name
name_breaks rule.NoMeaning schema name = false
name_breaks rule.SeveralMeanings schema name = false

abbrev pub column_breaks : NameRule → Schema → (from : List ℕ) → ColumnText → Bool
column_breaks rule.LongName schema from column = is_long (column_name column) || list_any is_long (qualifier_of column)
column_breaks rule.NoTable schema from column = list_any (is_unknown schema) (qualifier_of column)
column_breaks rule.NoMeaning schema from column = is_empty (meanings schema from column)
column_breaks rule.SeveralMeanings schema from column = nat_lt 1 (length (meanings schema from column))

-- the columns of a part of a condition
abbrev pub test_column : TestText → ColumnText
test_column (Compares column operator literal) = column
test_column (TestsNull column negated) = column

abbrev pub piece_columns : Piece → List ColumnText
piece_columns (Tests test more) = test_column test ∷ []
piece_columns (LiesBetween column low high) = column ∷ []
piece_columns (Joins left right) = left ∷ right ∷ []

abbrev pub breaks_rule : NameRule → Schema → (from : List ℕ) → Item → Bool
breaks_rule rule schema from AllColumns = false
breaks_rule rule schema from (Selected column) = column_breaks rule schema from column
breaks_rule rule schema from (From table) = name_breaks rule schema table
breaks_rule rule schema from (Where piece) = list_any (column_breaks rule schema from) (piece_columns piece)

-- how many columns the table of this name has, none where there is no such table
abbrev pub columns_or_none : Schema → Option ℕ → ℕ
columns_or_none schema None = 0
columns_or_none schema (Some table) = length (columns_of schema table)

abbrev pub width_of : Schema → List ℕ → ℕ
width_of schema name = columns_or_none schema (table_named schema name)

-- how many tests of a column a part of a condition is
abbrev pub tests_of : Piece → ℕ
tests_of (Tests test more) = 1
tests_of (LiesBetween column low high) = 2
tests_of (Joins left right) = 0

-- how much a thing counts: FROM tables, tests of columns, selected columns, or those that `*` stands for
abbrev pub weight_of : Count → Schema → Item → ℕ
weight_of count.Tables schema (From table) = 1
weight_of count.Tests schema (Where piece) = tests_of piece
weight_of count.Columns schema (Selected column) = 1
weight_of count.AllColumns schema (From table) = width_of schema table
weight_of _ schema _ = 0

-- whether a text selects all columns, which it says first, and what counts then
abbrev pub is_star : Item → Bool
is_star AllColumns = true
is_star _ = false

abbrev pub selects_all : List Item → Bool
selects_all [] = false
selects_all (item ∷ _) = is_star item

abbrev pub columns_or : Bool → Count
columns_or true = count.AllColumns
columns_or false = count.Columns
