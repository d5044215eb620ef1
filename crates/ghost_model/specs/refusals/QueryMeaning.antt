-- What a query text means over a schema: its names resolved, where none of the rules is broken; and why a text has no
-- meaning. The rules are tested one after another, each over the whole text. A column may stand without its table
-- where exactly one FROM table has it. `*` is every column of the FROM tables in the order of the text, identifiers and
-- foreign keys among them. BETWEEN is two conditions, IN a group of comparisons, and the members of all groups count as conditions.
use Rattle.std.specs.Prelude.{◌≡◌, ℕ, ℤ, pos, neg_ℤ, Bool, true, false, not, ◌&&◌, ◌||◌, ◌==◌, nat_lt, List, [], ◌∷◌, ◌++◌, length, map, filter, filter_map, flat_map, sum_by, Option, Some, is_none, option_map, option_and_then, option_to_list, bytes_eq}
use Rattle.std.specs.List.{list_any, list_all}
use Rattle.ghost_model.specs.core.Schema.{Schema, Kind, Integer, Chars, IntegerOrNull, CharsOrNull, columns_of, column_at, column_kind, places_where, places_of, first_of, is_empty, is_table, parent}
use Rattle.ghost_model.specs.refusals.Tokens.{number_of}
use Rattle.ghost_model.specs.core.Values.{Value, Number, Text, fits_integer}
use Rattle.ghost_model.specs.core.Query.{Field, Equal, AtMost, AtLeast, Test, Compared, IsNull, IsNotNull, Member, Condition, OneOf, Join, tested, compared, Query, is_among, is_some_among, top_of}
use Rattle.ghost_model.specs.core.Groups.{some_of}
use Rattle.ghost_model.specs.refusals.Rules.{broken_if, MeetsAll, BreaksFirst}
use Rattle.ghost_model.specs.refusals.Grammar.{Spells, IsSyntaxFault}
use Rattle.ghost_model.specs.refusals.QueryGrammar.{ColumnText, Bare, Qualified, Sign, Positive, Negative, LiteralText, Unsigned, Signed, Written, MemberText, Compares, TestsNull, IsIn, ConditionText, Alone, AnyOf, LiesBetween, Joins, Selection, All, Columns, QueryText, spelling}

-- why a text is refused, in the order in which the rules are tested; a syntax fault has its offset in the text
pub data Refusal : Type 0 where
  Syntax : ℕ → Refusal
  Limit UnknownTable UnknownColumn Ambiguous KindMismatch BadLiteral NotLinked MixedTables : Refusal

-- names

abbrev pub field : ℕ → ℕ → Field
field table column = record { table = table; column = column }

abbrev pub table_named : Schema → List ℕ → Option ℕ
table_named schema name = first_of (places_where (λ table. bytes_eq table.name name) schema)

abbrev pub fields_named : Schema → List ℕ → ℕ → List Field
fields_named schema name table =
    option_to_list (option_map (field table) (first_of (places_where (λ column. bytes_eq column.name name) (columns_of schema table))))

abbrev pub fields_of : Schema → ℕ → List Field
fields_of schema table = map (field table) (places_of (columns_of schema table))

-- the FROM tables of a text, by name and by place
abbrev pub from_names : QueryText → List (List ℕ)
from_names tree = tree.table ∷ tree.more_tables

abbrev pub from_tables : Schema → QueryText → List ℕ
from_tables schema tree = filter_map (table_named schema) (from_names tree)

-- what a column of a text may mean: the columns of this name in the FROM tables, or in the FROM table that it names
abbrev pub meanings : Schema → List ℕ → ColumnText → List Field
meanings schema from (Bare name) = flat_map (fields_named schema name) from
meanings schema from (Qualified table name) =
    flat_map (fields_named schema name) (filter (λ other. is_table other (table_named schema table)) from)

-- literals

abbrev pub with_sign : Sign → ℕ → ℤ
with_sign Positive number = pos number
with_sign Negative number = neg_ℤ (pos number)

abbrev pub value_of_literal : LiteralText → Value
value_of_literal (Unsigned digits) = Number (pos (number_of digits))
value_of_literal (Signed sign digits) = Number (with_sign sign (number_of digits))
value_of_literal (Written text) = Text text

-- the query with its names resolved, where each column of the text has one meaning

abbrev pub null_test : (negated : Bool) → Test
null_test false = IsNull
null_test true = IsNotNull

-- IN is a comparison with each of its literals
abbrev pub tests_of_member : MemberText → List Test
tests_of_member (Compares column operator literal) = Compared operator (value_of_literal literal) ∷ []
tests_of_member (TestsNull column negated) = null_test negated ∷ []
tests_of_member (IsIn column first others) = map (λ literal. Compared Equal (value_of_literal literal)) (first ∷ others)

abbrev pub member_column : MemberText → ColumnText
member_column (Compares column operator literal) = column
member_column (TestsNull column negated) = column
member_column (IsIn column first others) = column

abbrev pub members_meant : Schema → List ℕ → MemberText → List Member
members_meant schema from member =
    flat_map (λ meant. map (tested meant) (tests_of_member member)) (meanings schema from (member_column member))

-- the group of some members, if there are any
abbrev pub group_of : List Member → List Condition
group_of [] = []
group_of (first ∷ others) = OneOf first others ∷ []

abbrev pub conditions_of : Schema → List ℕ → ConditionText → List Condition
conditions_of schema from (Alone member) = group_of (members_meant schema from member)
conditions_of schema from (AnyOf first second others) = group_of (flat_map (members_meant schema from) (first ∷ second ∷ others))
conditions_of schema from (LiesBetween column low high) =
    flat_map (λ meant. compared meant AtLeast (value_of_literal low) ∷ compared meant AtMost (value_of_literal high) ∷ [])
    (meanings schema from column)
conditions_of schema from (Joins left right) =
    flat_map (λ meant. map (Join meant) (meanings schema from right)) (meanings schema from left)

abbrev pub selected_fields : Schema → List ℕ → Selection → List Field
selected_fields schema from All = flat_map (fields_of schema) from
selected_fields schema from (Columns column more) = flat_map (meanings schema from) (column ∷ more)

abbrev pub resolved : Schema → QueryText → Query
resolved schema tree = record {
  from = from_tables schema tree;
  select = selected_fields schema (from_tables schema tree) tree.selection;
  conditions = flat_map (conditions_of schema (from_tables schema tree)) tree.conditions;
}

-- the columns of a text as they are written, and the names in it

abbrev pub selection_columns : Selection → List ColumnText
selection_columns All = []
selection_columns (Columns column more) = column ∷ more

abbrev pub condition_columns : ConditionText → List ColumnText
condition_columns (Alone member) = member_column member ∷ []
condition_columns (AnyOf first second others) = map member_column (first ∷ second ∷ others)
condition_columns (LiesBetween column low high) = column ∷ []
condition_columns (Joins left right) = left ∷ right ∷ []

abbrev pub columns_in : QueryText → List ColumnText
columns_in tree = selection_columns tree.selection ++ flat_map condition_columns tree.conditions

abbrev pub qualifier_of : ColumnText → List (List ℕ)
qualifier_of (Bare name) = []
qualifier_of (Qualified table name) = table ∷ []

abbrev pub column_name : ColumnText → List ℕ
column_name (Bare name) = name
column_name (Qualified table name) = name

-- the names that stand for tables: those of FROM and the qualifiers
abbrev pub table_names : QueryText → List (List ℕ)
table_names tree = from_names tree ++ flat_map qualifier_of (columns_in tree)

-- how many tests of a column a condition of a text is
abbrev pub literal_conditions : ConditionText → ℕ
literal_conditions (Alone member) = length (tests_of_member member)
literal_conditions (AnyOf first second others) = sum_by (λ member. length (tests_of_member member)) (first ∷ second ∷ others)
literal_conditions (LiesBetween column low high) = 2
literal_conditions (Joins left right) = 0

-- how many columns a text selects; `*` counts those of the FROM tables that exist
abbrev pub selected_count : Schema → QueryText → Selection → ℕ
selected_count schema tree All = length (selected_fields schema (from_tables schema tree) All)
selected_count schema tree (Columns column more) = length (column ∷ more)

-- the limits of a text: 4,096 bytes, 32 bytes a name, 12 FROM tables, 16 tests of columns, 32 columns
abbrev pub is_over_limit : Schema → List ℕ → QueryText → Bool
is_over_limit schema text tree =
    nat_lt 4096 (length text)
    || list_any (λ name. nat_lt 32 (length name)) (table_names tree ++ map column_name (columns_in tree))
    || nat_lt 12 (length (from_names tree))
    || nat_lt 16 (sum_by literal_conditions tree.conditions)
    || nat_lt 32 (selected_count schema tree tree.selection)

-- a FROM name or a qualifier is no table
abbrev pub has_unknown_table : Schema → QueryText → Bool
has_unknown_table schema tree = list_any (λ name. is_none (table_named schema name)) (table_names tree)

-- a column has no meaning: its table is not in FROM or lacks it, or no FROM table has a bare name
abbrev pub has_unknown_column : Schema → QueryText → Bool
has_unknown_column schema tree =
    list_any (λ column. is_empty (meanings schema (from_tables schema tree) column)) (columns_in tree)

abbrev pub has_repeat : List ℕ → Bool
has_repeat [] = false
has_repeat (x ∷ xs) = is_among xs x || has_repeat xs

-- a table stands twice in FROM, or two FROM tables have a bare name
abbrev pub is_ambiguous : Schema → QueryText → Bool
is_ambiguous schema tree =
    has_repeat (from_tables schema tree)
    || list_any (λ column. nat_lt 1 (length (meanings schema (from_tables schema tree) column))) (columns_in tree)

abbrev pub is_other_kind : Option Kind → Value → Bool
is_other_kind (Some Integer) (Text text) = true
is_other_kind (Some (Chars most)) (Number number) = true
is_other_kind (Some IntegerOrNull) (Text text) = true
is_other_kind (Some (CharsOrNull most)) (Number number) = true
is_other_kind kind value = false

-- whether an integer is outside 64 bits, or a text longer than its column's texts
abbrev pub is_too_large : Option Kind → Value → Bool
is_too_large kind (Number number) = not (fits_integer number)
is_too_large (Some (Chars most)) (Text text) = nat_lt most (length text)
is_too_large (Some (CharsOrNull most)) (Text text) = nat_lt most (length text)
is_too_large kind value = false

-- whether the kind of a column and the literal of a test of it fail
abbrev pub fails_with : (Value → Bool) → Test → Bool
fails_with fails (Compared operator literal) = fails literal
fails_with fails IsNull = false
fails_with fails IsNotNull = false

abbrev pub literal_fails : Schema → (Option Kind → Value → Bool) → Condition → Bool
literal_fails schema fails (OneOf first others) =
    some_of (λ one. fails_with (fails (column_kind schema one.field.table one.field.column)) one.test) first others
literal_fails schema fails (Join left right) = false

-- the top table and the joins

-- the first column is a foreign key and the second the identifier of its child
abbrev pub is_reference_to : Schema → Field → Field → Bool
is_reference_to schema key identifier =
    is_table identifier.table (option_and_then (λ column. column.child) (column_at schema key.table key.column))
    && identifier.column == 0

-- a condition between two columns is a join, either side first
abbrev pub is_proper : Schema → Condition → Bool
is_proper schema (OneOf first others) = true
is_proper schema (Join left right) = is_reference_to schema left right || is_reference_to schema right left

-- the join of a table with its parent
abbrev pub is_join_of : Schema → ℕ → Condition → Bool
is_join_of schema table (OneOf first others) = false
is_join_of schema table (Join left right) =
    (is_reference_to schema left right && right.table == table) || (is_reference_to schema right left && left.table == table)

-- a FROM table whose parent is in FROM is not joined with it
abbrev pub lacks_join : Schema → Query → ℕ → Bool
lacks_join schema query table =
    is_some_among query.from (parent schema table) && not (list_any (is_join_of schema table) query.conditions)

-- a condition between two columns is no join, there is no one top table, or another FROM table lacks its join
abbrev pub is_unlinked : Schema → Query → Bool
is_unlinked schema query =
    not (list_all (is_proper schema) query.conditions)
    || is_none (top_of schema query)
    || list_any (lacks_join schema query) query.from

-- whether the columns of a group are of one table
abbrev pub is_of_one_table : Condition → Bool
is_of_one_table (OneOf first others) = list_all (λ one. one.field.table == first.field.table) others
is_of_one_table (Join left right) = true

abbrev pub rules_of_queries : Schema → List ℕ → QueryText → List (Option Refusal)
rules_of_queries schema text tree =
    broken_if (is_over_limit schema text tree) Limit
    ∷ broken_if (has_unknown_table schema tree) UnknownTable
    ∷ broken_if (has_unknown_column schema tree) UnknownColumn
    ∷ broken_if (is_ambiguous schema tree) Ambiguous
    ∷ broken_if (list_any (literal_fails schema is_other_kind) (resolved schema tree).conditions) KindMismatch
    ∷ broken_if (list_any (literal_fails schema is_too_large) (resolved schema tree).conditions) BadLiteral
    ∷ broken_if (is_unlinked schema (resolved schema tree)) NotLinked
    ∷ broken_if (not (list_all is_of_one_table (resolved schema tree).conditions)) MixedTables
    ∷ []

-- the text spells a tree that meets the rules, and this is that tree with its names resolved
pub record Means (schema : Schema) (text : List ℕ) (query : Query) : Type 0 where
  pub tree : QueryText
  pub spells : Spells spelling text tree
  pub keeps : MeetsAll (rules_of_queries schema text tree)
  pub means : query ≡ resolved schema tree

-- the text spells a tree that breaks a rule, and this is the first one that it breaks
pub record BreaksRule (schema : Schema) (text : List ℕ) (refusal : Refusal) : Type 0 where
  pub tree : QueryText
  pub spells : Spells spelling text tree
  pub breaks : BreaksFirst (rules_of_queries schema text tree) refusal

abbrev pub IsRefused : Schema → List ℕ → Refusal → Type 0
IsRefused schema text (Syntax at) = IsSyntaxFault spelling text at
IsRefused schema text refusal = BreaksRule schema text refusal
