-- The schemas that there are: each is what some text means. So each is a tree within the limits.
use Rattle.std.specs.Prelude.{◌≡◌, ℕ, ◌<◌, Bool, false, List, length, get_or, Option, Some, None, Ok, if◌then◌else◌}
use Rattle.ghost_model.specs.core.Schema.{Schema, Column, column_at, parent}
use Rattle.ghost_model.specs.readings.SchemaReading.{schema_reading}
use Rattle.ghost_model.specs.laws.SchemaTrees.{IsTree}

pub record IsDeclared (schema : Schema) : Type 0 where
  pub text : List ℕ
  pub means : schema_reading text ≡ Ok schema

abbrev pub DeclaredSchemasAreTrees : Type 0
DeclaredSchemasAreTrees = (schema : Schema) → IsDeclared schema → IsTree schema

-- whether a column is hidden; where there is no such column, it is not
abbrev pub hidden_or_none : Option Column → Bool
hidden_or_none None = false
hidden_or_none (Some column) = column.hidden

abbrev pub is_hidden : Schema → ℕ → ℕ → Bool
is_hidden schema table column = hidden_or_none (column_at schema table column)

-- a parent that is noted for a table, where it has none
abbrev pub noted : (holder : ℕ) → Bool → Option ℕ → Option ℕ
noted holder named None = if named then Some holder else None
noted holder named (Some other) = Some other

-- the parents of the first tables before and after one was noted for those that pass a test
abbrev pub IsNoted : (holder : ℕ) → (named : ℕ → Bool) → (before after : List (Option ℕ)) → Type 0
IsNoted holder named before after =
    (child : ℕ) → child < 12 → get_or after child None ≡ noted holder (named child) (get_or before child None)

-- the parents of all tables, by place
abbrev pub AreParents : Schema → List (Option ℕ) → Type 0
AreParents schema parents = (table : ℕ) → table < length schema → get_or parents table None ≡ parent schema table
