-- The rows of a table whose columns stand beside one another, the identifier, which is the row's number, apart.
use Rattle.std.specs.Prelude.{◌≡◌, ◌<◌, ◌≤◌, ◌+◌, ℕ, pos, List, ◌∷◌, length, map, get_or, Option, Some, slice_get, option_and_then}
use Rattle.std.specs.List.{range_with_len}
use Rattle.ghost_model.specs.core.Values.{Value, Number, Row, Rows}
use Rattle.ghost_model.specs.core.Database.{row_numbered}
use Rattle.ghost_model.specs.refusals.LoadFaults.{most_rows}
use Rattle.csv_split.specs.declared.cells.Cells.{Cells}
use Rattle.csv_split.specs.declared.table.Table.TheInside.{Inside}
use Rattle.csv_split.specs.Cells.{values_in}

-- the values of one row, of the columns with these values
abbrev pub values_at : (columns : List (List Value)) → (place : ℕ) → Row
values_at columns place = map (λ values. get_or values place (Number (pos 0))) columns

-- the rows at the places from 0 on, as a function of the place makes them
abbrev pub rows_made : (ℕ → Row) → (count : ℕ) → Rows
rows_made make count = map make (range_with_len 0 count)

-- the row at a place, which has the next number
abbrev pub row_at : (columns : List (List Value)) → (place : ℕ) → Row
row_at columns place = Number (pos (place + 1)) ∷ values_at columns place

abbrev pub rows_in : (count : ℕ) → (columns : List (List Value)) → Rows
rows_in count columns = rows_made (row_at columns) count

abbrev pub column_values : List Cells → List (List Value)
column_values columns = map values_in columns

-- what each table keeps
pub record IsTable (table : Inside) : Type 0 where
  pub few : table.rows ≤ most_rows
  pub long : (column : ℕ) (values : List Value) → slice_get (column_values table.columns.items) column ≡ Some values
      → length values ≡ table.rows

abbrev pub rows_of_table : Inside → Rows
rows_of_table table = rows_in table.rows (column_values table.columns.items)

-- the value in a column of the row with an identifier
abbrev pub value_in : Rows → (identifier column : ℕ) → Option Value
value_in rows identifier column = option_and_then (λ row. slice_get row column) (row_numbered rows identifier)

-- the values of a column have the order of the rows
pub record IsColumn (rows : Rows) (column : ℕ) (values : List Value) : Type 0 where
  pub long : length values ≡ length rows
  pub placed : (place : ℕ) → place < length rows → slice_get values place ≡ value_in rows (place + 1) column

-- the value at a place of a column
abbrev pub value_of_columns : (columns : List (List Value)) → (column place : ℕ) → Option Value
value_of_columns columns column place = option_and_then (λ values. slice_get values place) (slice_get columns column)
