-- Rows of the visible file that are taken into columns, one after another.
use Rattle.std.specs.Prelude.{◌≡◌, ◌+◌, ℕ, List, ◌++◌, length, map, flat_map, slice_get, Some, true}
use Rattle.ghost_model.specs.core.Schema.{Kind}
use Rattle.ghost_model.specs.core.Values.{Row, Rows}
use Rattle.ghost_model.specs.core.Split.{cells, are_of_kinds}
use Rattle.csv_split.specs.Cells.{kind_in}
use Rattle.csv_split.specs.Parts.{part_in}
use Rattle.csv_split.specs.Reading.{HaveAll}
use Rattle.csv_split.specs.Tables.{column_values}
use Rattle.host_exec.specs.declared.columns.Columns.{Columns}

-- a row of values of these kinds, whose cells are these bytes
pub record IsRowOf (kinds : List Kind) (row : Row) (bytes : List ℕ) : Type 0 where
  pub fits : are_of_kinds kinds row ≡ true
  pub spelled : cells kinds row ≡ bytes

-- each row has one value of each kind
abbrev pub AreOfKinds : List Kind → Rows → Type 0
AreOfKinds kinds rows = (place : ℕ) (row : Row) → slice_get rows place ≡ Some row → are_of_kinds kinds row ≡ true

-- the columns are of these kinds, and have as many values as one another
pub record AreColumns (kinds : List Kind) (columns : Columns) : Type 0 where
  pub of_kinds : map kind_in columns.cells.items ≡ kinds
  pub all : HaveAll columns.rows (column_values columns.cells.items)

abbrev pub rows_so_far : Columns → Rows
rows_so_far columns = part_in columns.rows (column_values columns.cells.items)

-- so many rows, whose cells are these bytes, stand behind those before
pub record AddsRows (kinds : List Kind) (count : ℕ) (bytes : List ℕ) (before after : Columns) : Type 0 where
  pub added : Rows
  pub joined : rows_so_far after ≡ rows_so_far before ++ added
  pub number : after.rows ≡ before.rows + count
  pub counted : length added ≡ count
  pub fits : AreOfKinds kinds added
  pub spelled : flat_map (cells kinds) added ≡ bytes
