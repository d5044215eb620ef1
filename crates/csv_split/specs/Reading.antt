-- The columns of a table whose identifier is left out, and one more row at the ends of their values.
use Rattle.std.specs.Prelude.{◌≡◌, ◌≤◌, ℕ, List, [], ◌∷◌, ◌++◌, length, map, slice_get, Some}
use Rattle.ghost_model.specs.forms.Cells.{cell_width}
use Rattle.ghost_model.specs.core.Schema as schema
use Rattle.ghost_model.specs.laws.SchemaTrees.{identifier}
use Rattle.ghost_model.specs.core.Split.{kind_of_column}
use Rattle.ghost_model.specs.refusals.Tokens.{in_lower_case}
use Rattle.ghost_model.specs.core.Values.{Value, Row}
use Rattle.tree_schema.specs.declared.schema.Column.{Column}
use Rattle.tree_schema.specs.Views.{column_of}
use Rattle.csv_split.specs.declared.cells.Cells.{Cells}
use Rattle.csv_split.specs.Cells.{kind_in}

-- the columns of a table after its identifier
abbrev pub columns_of : List Column → List schema.Column
columns_of declared = map column_of declared

-- all columns of a table
abbrev pub with_identifier : List schema.Column → List schema.Column
with_identifier columns = identifier ∷ columns

-- columns of a schema after an identifier: not too many, with cells that are not too wide, and names in lower case
pub record AreColumns (columns : List schema.Column) : Type 0 where
  pub few : length columns ≤ 23
  pub narrow : (column : ℕ) (held : schema.Column) → slice_get columns column ≡ Some held → cell_width (schema.plain_of held.kind) ≤ 64
  pub lower : (column : ℕ) (held : schema.Column) → slice_get columns column ≡ Some held → in_lower_case held.name ≡ held.name

-- the kinds of cells are those of the columns
abbrev pub AreOfKinds : List schema.Column → List Cells → Type 0
AreOfKinds columns cells = map kind_in cells ≡ map kind_of_column columns

-- one value more in each column
abbrev pub with_row : (columns : List (List Value)) → Row → List (List Value)
with_row [] row = []
with_row (_ ∷ _) [] = []
with_row (values ∷ columns) (value ∷ row) = (values ++ value ∷ []) ∷ with_row columns row

-- no column has more values
abbrev pub AtMost : (most : ℕ) → List (List Value) → Type 0
AtMost most columns = (column : ℕ) (values : List Value) → slice_get columns column ≡ Some values → length values ≤ most

-- each column has so many values
pub record HaveAll (count : ℕ) (columns : List (List Value)) : Type 0 where
  pub each : (column : ℕ) (values : List Value) → slice_get columns column ≡ Some values → length values ≡ count
