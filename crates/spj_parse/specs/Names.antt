-- What the names of a text stand for, one table or column after another.
use Rattle.std.specs.Prelude.{◌≡◌, ℕ, ◌<◌, Bool, false, List, [], ◌∷◌, length, Option, None, Some, bytes_eq, if◌then◌else◌}
use Rattle.ghost_model.specs.core.Schema.{Schema, Table, Column, is_table, first_of}
use Rattle.ghost_model.specs.core.Query.{Field}
use Rattle.ghost_model.specs.refusals.QueryGrammar.{ColumnText, Bare, Qualified}
use Rattle.ghost_model.specs.refusals.QueryMeaning.{table_named, fields_named, meanings}
use Rattle.spj_parse.specs.declared.names.Meaning.{Meaning}
use Rattle.spj_parse.specs.declared.names.Meaning.TheVariants as meaning
use Rattle.spj_parse.specs.Views.{field_of}

-- whether there is a thing, and it passes a test
abbrev pub passes : {X : Type 0} → (X → Bool) → Option X → Bool
passes test None = false
passes test (Some x) = test x

abbrev pub has_name : List ℕ → Table → Bool
has_name name table = bytes_eq table.name name

abbrev pub is_called : List ℕ → Column → Bool
is_called name column = bytes_eq column.name name

-- the column of a FROM table that a column of a text may mean
abbrev pub fields_in : Schema → ColumnText → (table : ℕ) → List Field
fields_in schema (Bare name) table = fields_named schema name table
fields_in schema (Qualified qualifier name) table =
    if is_table table (table_named schema qualifier) then fields_named schema name table else []

-- no column, one, or several
abbrev pub IsMeaning : Meaning → List Field → Type 0
IsMeaning meaning.Nothing fields = fields ≡ []
IsMeaning (meaning.One field) fields = fields ≡ field_of field ∷ []
IsMeaning meaning.Several fields = 1 < length fields

abbrev pub first_meaning : Schema → (from : List ℕ) → ColumnText → Option Field
first_meaning schema from column = first_of (meanings schema from column)
