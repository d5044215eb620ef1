-- The query that a text means, thing after thing, and with each of its joins once.
use Rattle.std.specs.Prelude.{◌≡◌, Ok, ℕ, ℤ, pos, Bool, true, false, List, [], ◌∷◌, ◌++◌, map, filter, flat_map, take, Option, None, Some, option_to_list, option_map, if◌then◌else◌}
use Rattle.ghost_model.specs.core.Schema.{Schema, columns_of, places_where, first_of, is_table, parent}
use Rattle.ghost_model.specs.refusals.Tokens.{number_of}
use Rattle.ghost_model.specs.core.Values.{Value, Number, Text}
use Rattle.ghost_model.specs.core.Query.{Field, AtMost, AtLeast, Test, Compared, tested, GroupMember, Condition, OneOf, Join, Query, is_among}
use Rattle.ghost_model.specs.refusals.QueryGrammar.{ColumnText, LiteralText, Unsigned, Signed, Written, Positive}
use Rattle.ghost_model.specs.refusals.QueryMeaning.{field, table_named, fields_of, with_sign, null_test}
use Rattle.ghost_model.specs.readings.QueryReading.{reading}
use Rattle.tree_schema.specs.Schemas.{IsDeclared}
use Rattle.spj_parse.specs.Items.{TestText, Compares, TestsNull, Piece, Tests, LiesBetween, Joins, Item, AllColumns, Selected, From, Where}
use Rattle.spj_parse.specs.Literals.{is_out}
use Rattle.spj_parse.specs.Conditions.{first_alone}
use Rattle.spj_parse.specs.Rules.{test_column}

-- the foreign keys of one table to another, by place
abbrev pub keys_between : Schema → (holder child : ℕ) → List ℕ
keys_between schema holder child = places_where (λ column. is_table child column.child) (columns_of schema holder)

-- the join of a table with its parent by a foreign key, its first one, if the parent is among these tables
abbrev pub join_by : (table holder : ℕ) → Option ℕ → List Condition
join_by table holder key = option_to_list (option_map (λ column. Join (field holder column) (field table 0)) key)

abbrev pub join_with : Schema → (from : List ℕ) → (table : ℕ) → Option ℕ → List Condition
join_with schema from table None = []
join_with schema from table (Some holder) =
    if is_among from holder then join_by table holder (first_of (keys_between schema holder table)) else []

abbrev pub join_to : Schema → (from : List ℕ) → (table : ℕ) → List Condition
join_to schema from table = join_with schema from table (parent schema table)

-- the joins of some tables, each once, in the order of the tables
abbrev pub joins_of : Schema → (from : List ℕ) → List Condition
joins_of schema from = flat_map (join_to schema from) from

abbrev pub is_group : Condition → Bool
is_group (OneOf first others) = true
is_group (Join left right) = false

abbrev pub is_join : Condition → Bool
is_join (OneOf first others) = false
is_join (Join left right) = true

-- the query with each of its joins once, before its groups, which stand in their order
abbrev pub linked : Schema → Query → Query
linked schema query = record {
  from = query.from;
  select = query.select;
  conditions = joins_of schema query.from ++ filter is_group query.conditions;
}

-- the text means a query over the schema, and this is it with each of its joins once
pub record IsMeant (schema : Schema) (text : List ℕ) (query : Query) : Type 0 where
  pub meant : Query
  pub reads : reading schema text ≡ Ok meant
  pub once : query ≡ linked schema meant

-- the queries that there are: each is what some text means over a declared schema
pub record IsRead (query : Query) : Type 0 where
  pub schema : Schema
  pub declared : IsDeclared schema
  pub text : List ℕ
  pub meant : IsMeant schema text query

-- what the things that a text names give to its query

abbrev pub item_tables : Schema → Item → List ℕ
item_tables schema AllColumns = []
item_tables schema (Selected column) = []
item_tables schema (From name) = option_to_list (table_named schema name)
item_tables schema (Where piece) = []

abbrev pub item_fields : Schema → (from : List ℕ) → Item → List Field
item_fields schema from AllColumns = flat_map (fields_of schema) from
item_fields schema from (Selected column) = first_alone schema from column
item_fields schema from (From name) = []
item_fields schema from (Where piece) = []

-- the value of a literal as it is kept, which is its value where that fits
abbrev pub number_kept : ℤ → Value
number_kept number = if is_out number then Number (pos 0) else Number number

abbrev pub literal_kept : LiteralText → Value
literal_kept (Unsigned digits) = number_kept (with_sign Positive (number_of digits))
literal_kept (Signed sign digits) = number_kept (with_sign sign (number_of digits))
literal_kept (Written text) = Text (take 64 text)

-- what is kept of a test of a text
abbrev pub test_kept : TestText → Test
test_kept (Compares column operator literal) = Compared operator (literal_kept literal)
test_kept (TestsNull column negated) = null_test negated

-- a test of a column, and whether another one of its group follows
abbrev pub flagged : (more : Bool) → Field → Test → GroupMember
flagged more field test = record { member = tested field test; more = more }

abbrev pub members_with : (ColumnText → List Field) → Piece → List GroupMember
members_with meant (Tests test more) = map (λ field. flagged more field (test_kept test)) (meant (test_column test))
members_with meant (LiesBetween column low high) =
    flat_map
    (λ field.
    flagged false field (Compared AtLeast (literal_kept low)) ∷ flagged false field (Compared AtMost (literal_kept high)) ∷ [])
    (meant column)
members_with meant (Joins left right) = []

abbrev pub item_members : Schema → (from : List ℕ) → Item → List GroupMember
item_members schema from AllColumns = []
item_members schema from (Selected column) = []
item_members schema from (From name) = []
item_members schema from (Where piece) = members_with (first_alone schema from) piece
