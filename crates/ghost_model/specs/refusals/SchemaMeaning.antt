-- The schema that the tree of a text means. A name stands in lower case, the length of a CHAR is the value of its
-- digits, and a column with REFERENCES is hidden whether or not HIDDEN is written.
use Rattle.std.specs.Prelude.{ℕ, Bool, true, false, List, ◌∷◌, map, position, bytes_eq, Option, Some, None}
use Rattle.ghost_model.specs.refusals.Tokens.{number_of}
use Rattle.ghost_model.specs.core.Schema.{Kind, Integer, Chars, IntegerOrNull, CharsOrNull, Column, Table, Schema}
use Rattle.ghost_model.specs.refusals.SchemaGrammar.{To, ColumnDeclaration, CharColumn, IntegerColumn, NullableColumn, TableText, SchemaText}

-- the place of the first table with this name
abbrev pub declared_table : SchemaText → List ℕ → Option ℕ
declared_table tables name = position (λ (table : TableText). bytes_eq name table.name) tables

abbrev pub columns_written : TableText → List ColumnDeclaration
columns_written table = table.first ∷ table.others

-- the kind of texts of a length, beside which NULL may stand or not
abbrev pub text_kind : (nullable : Bool) → (most : ℕ) → Kind
text_kind false most = Chars most
text_kind true most = CharsOrNull most

abbrev pub column_of : SchemaText → ColumnDeclaration → Column
column_of tables (CharColumn name digits nullable hidden) =
    record { name = name; kind = text_kind nullable (number_of digits); hidden = hidden; child = None }
column_of tables (IntegerColumn name primary None hidden) =
    record { name = name; kind = Integer; hidden = hidden; child = None }
column_of tables (IntegerColumn name primary (Some (To table says_id)) hidden) =
    record { name = name; kind = Integer; hidden = true; child = declared_table tables table }
column_of tables (NullableColumn name hidden) = record { name = name; kind = IntegerOrNull; hidden = hidden; child = None }

abbrev pub table_of : SchemaText → TableText → Table
table_of tables table = record { name = table.name; columns = map (column_of tables) (columns_written table) }

abbrev pub schema_of : SchemaText → Schema
schema_of tables = map (table_of tables) tables
