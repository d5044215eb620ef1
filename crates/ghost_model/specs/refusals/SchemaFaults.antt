-- Why a text means no schema. There are eight rules, tested in their order: the fault of a text is of the first rule
-- that it breaks, and of one rule it is the first place in text order. The first rule is the grammar; the others speak
-- of the tree that the text spells. A text that breaks none means the schema of its tree.
use Rattle.std.specs.Prelude.{◌≡◌, ℕ, suc, ◌+◌, nat_lt, Bool, true, false, not, ◌&&◌, ◌||◌, ◌==◌, List, [], ◌∷◌, ◌++◌, length, map, take, find, sum_by, count_by, slice_get, codes, bytes_eq, Option, Some, None, is_none, option_map}
use Rattle.std.specs.List.{list_any}
use Rattle.ghost_model.specs.refusals.Tokens.{is_between, number_of}
use Rattle.ghost_model.specs.core.Query.{Field}
use Rattle.ghost_model.specs.core.Schema.{Schema, Table, places_of, is_table, references_to, parent, ancestor}
use Rattle.ghost_model.specs.refusals.Rules.{broken_if, MeetsAll, BreaksFirst}
use Rattle.ghost_model.specs.refusals.Grammar.{Spells, IsSyntaxFault}
use Rattle.ghost_model.specs.refusals.SchemaGrammar.{To, ColumnDeclaration, CharColumn, IntegerColumn, NullableColumn, TableText, SchemaText, schema_spelling}
use Rattle.ghost_model.specs.refusals.SchemaMeaning.{declared_table, columns_written, schema_of}

-- the bytes of a schema's text, at most; a longer one is not read
abbrev pub most_schema_bytes : ℕ
most_schema_bytes = 65536

-- tables and columns by their places. The fault of a table's name has column 0
pub data SchemaFault : Type 0 where
  BadSyntax : (at : ℕ) → SchemaFault
  OverLimit : SchemaFault
  DuplicateName : (table column : ℕ) → SchemaFault
  NoId : (table : ℕ) → SchemaFault
  UnknownChild : (table column : ℕ) → SchemaFault
  TwoParents : (child : ℕ) → SchemaFault
  Cycle : (table : ℕ) → SchemaFault
  NotOneRoot : (roots : ℕ) → SchemaFault

-- OverLimit: more than 12 tables, more than 24 columns in a table, a name of more than 32 bytes, wherever it stands, or a
-- CHAR whose length is not 1 to 64
abbrev pub is_long : List ℕ → Bool
is_long name = nat_lt 32 (length name)

abbrev pub is_column_over : ColumnDeclaration → Bool
is_column_over (CharColumn name digits nullable hidden) = is_long name || not (is_between 1 64 (number_of digits))
is_column_over (IntegerColumn name primary None hidden) = is_long name
is_column_over (IntegerColumn name primary (Some (To table says_id)) hidden) = is_long name || is_long table
is_column_over (NullableColumn name hidden) = is_long name

abbrev pub is_table_over : TableText → Bool
is_table_over table =
    is_long table.name || nat_lt 24 (length (columns_written table)) || list_any is_column_over (columns_written table)

abbrev pub is_over : SchemaText → Bool
is_over tables = nat_lt 12 (length tables) || list_any is_table_over tables

-- DuplicateName: a table has the name of an earlier table, or a column that of an earlier column of its table
abbrev pub declared_name : ColumnDeclaration → List ℕ
declared_name (CharColumn name digits nullable hidden) = name
declared_name (IntegerColumn name primary reference hidden) = name
declared_name (NullableColumn name hidden) = name

abbrev pub is_this_name : Option (List ℕ) → List ℕ → Bool
is_this_name None other = false
is_this_name (Some name) other = bytes_eq name other

-- the name at a place stands at an earlier place too
abbrev pub repeats : List (List ℕ) → ℕ → Bool
repeats names place = list_any (is_this_name (slice_get names place)) (take place names)

abbrev pub columns_at : Option TableText → List ColumnDeclaration
columns_at None = []
columns_at (Some table) = columns_written table

-- column 0 has no earlier column, so it speaks of its table's name
abbrev pub is_duplicate : SchemaText → Field → Bool
is_duplicate tables field =
    (field.column == 0 && repeats (map (λ (table : TableText). table.name) tables) field.table)
    || repeats (map declared_name (columns_at (slice_get tables field.table))) field.column

-- NoId: the first column is not `id INTEGER PRIMARY KEY`, without REFERENCES, NULL and HIDDEN, or a later one has PRIMARY KEY
abbrev pub is_identifier : ColumnDeclaration → Bool
is_identifier (IntegerColumn name true None false) = bytes_eq name (codes "id")
is_identifier _ = false

abbrev pub is_primary : ColumnDeclaration → Bool
is_primary (CharColumn name digits nullable hidden) = false
is_primary (IntegerColumn name primary reference hidden) = primary
is_primary (NullableColumn name hidden) = false

abbrev pub table_lacks_id : Option TableText → Bool
table_lacks_id None = false
table_lacks_id (Some table) = not (is_identifier table.first) || list_any is_primary table.others

-- UnknownChild: a REFERENCES names no table
abbrev pub refers_nowhere : SchemaText → Option ColumnDeclaration → Bool
refers_nowhere tables (Some (IntegerColumn name primary (Some (To table says_id)) hidden)) =
    is_none (declared_table tables table)
refers_nowhere tables _ = false

-- TwoParents: two foreign keys name a table, be it from two tables or from one
abbrev pub references_naming : Schema → ℕ → ℕ
references_naming schema child = sum_by (λ (table : Table). length (references_to child table)) schema

-- Cycle: following parents from a table returns to it, in at most as many steps as there are tables
abbrev pub returns : Schema → ℕ → Bool
returns schema table =
    list_any (λ steps. is_table table (ancestor schema (suc steps) table)) (places_of schema)

-- NotOneRoot: the number of tables without a parent is not 1
abbrev pub roots_of : Schema → ℕ
roots_of schema = count_by (λ table. is_none (parent schema table)) (places_of schema)

-- the columns of all tables in text order
unfoldable pub fields_from : ℕ → SchemaText → List Field
fields_from at [] = []
fields_from at (table ∷ later) =
    map (λ column. record { table = at; column = column }) (places_of (columns_written table))
    ++ fields_from (at + 1) later

abbrev pub fields : SchemaText → List Field
fields tables = fields_from 0 tables

-- the rules that a tree may break, in their order, each with its fault at the first place that breaks it
abbrev pub rules_of_schemas : SchemaText → List (Option SchemaFault)
rules_of_schemas tables =
    broken_if (is_over tables) OverLimit
    ∷ option_map (λ field. DuplicateName field.table field.column) (find (is_duplicate tables) (fields tables))
    ∷ option_map NoId (find (λ place. table_lacks_id (slice_get tables place)) (places_of tables))
    ∷ option_map (λ field. UnknownChild field.table field.column)
    (find (λ field. refers_nowhere tables (slice_get (columns_at (slice_get tables field.table)) field.column)) (fields tables))
    ∷ option_map TwoParents (find (λ child. nat_lt 1 (references_naming (schema_of tables) child)) (places_of tables))
    ∷ option_map Cycle (find (returns (schema_of tables)) (places_of tables))
    ∷ broken_if (not (roots_of (schema_of tables) == 1)) (NotOneRoot (roots_of (schema_of tables)))
    ∷ []

-- the text spells a tree that meets the rules, and this is the schema of that tree
pub record MeansSchema (text : List ℕ) (schema : Schema) : Type 0 where
  pub tables : SchemaText
  pub spells : Spells schema_spelling text tables
  pub obeys : MeetsAll (rules_of_schemas tables)
  pub means : schema_of tables ≡ schema

-- the text spells a tree that breaks a rule, and this is the fault of the first one that it breaks
pub record HasFault (text : List ℕ) (fault : SchemaFault) : Type 0 where
  pub tables : SchemaText
  pub spells : Spells schema_spelling text tables
  pub breaks : BreaksFirst (rules_of_schemas tables) fault

abbrev pub IsSchemaFault : List ℕ → SchemaFault → Type 0
IsSchemaFault text (BadSyntax at) = IsSyntaxFault schema_spelling text at
IsSchemaFault text fault = HasFault text fault
