-- The rows of a table as they stand in the visible file. Each has the cells of the table's visible columns one after
-- another. An ask is answered over these bytes alone: of each group of its conditions a row meets one, and the asked cells are
-- cut out of the row. The cell of a column that may be NULL is a flag, which is 0 where the value is NULL, and the plain cell. A
-- comparison holds where the value is not NULL and the bytes of its plain cell and of the literal's stand in an order that meets
-- the operator.
use Rattle.std.specs.Prelude.{ℕ, zero, suc, ◌+◌, ◌-◌, ◌*◌, ◌==◌, Bool, not, ◌&&◌, List, [], ◌∷◌, length, take, drop, map, flat_map, sum, slice_index, Option, None, Some, if◌then◌else◌}
use Rattle.ghost_model.specs.core.Schema.{Schema, Kind, Column, columns_of, is_nullable, plain_of}
use Rattle.ghost_model.specs.core.Query.{Operator, Test}
use Rattle.ghost_model.specs.core.Query as query
use Rattle.ghost_model.specs.core.Groups.{each_group, ends}
use Rattle.ghost_model.specs.core.Database.{meets}
use Rattle.ghost_model.specs.forms.Cells.{cell_width, encode_cell}
use Rattle.ghost_model.specs.core.Channel.{Catalog, Ask, ColumnTest}
use Rattle.ghost_model.specs.forms.Catalog.{catalog_bytes}
use Rattle.ghost_model.specs.core.Asks.{RowCells, kind_at}
use Rattle.ghost_model.specs.core.Split.{is_open}
use Rattle.ghost_base.specs.CellLaws.{byte_order}

-- where a cell stands in a row
pub record Span : Type 0 where
  pub at : ℕ
  pub size : ℕ

abbrev pub cut : List ℕ → Span → List ℕ
cut row span = take span.size (drop span.at row)

-- what is tested of a cell: that an operator holds between its value and a literal with this plain cell, that the value is
-- NULL, or that it is not
pub data CellTest : Type 0 where
  Compared : Operator → (literal : List ℕ) → CellTest
  IsNull IsNotNull : CellTest

-- how many bytes stand before the plain cell: a flag where NULL may stand
abbrev pub flag_width : (nullable : Bool) → ℕ
flag_width nullable = if nullable then 1 else 0

abbrev pub is_null_cell : (nullable : Bool) → List ℕ → Bool
is_null_cell nullable cell = nullable && slice_index cell 0 == 0

abbrev pub meets_cell : CellTest → (nullable : Bool) → List ℕ → Bool
meets_cell (Compared operator literal) nullable cell =
    not (is_null_cell nullable cell) && meets operator (byte_order (drop (flag_width nullable) cell) literal)
meets_cell IsNull nullable cell = is_null_cell nullable cell
meets_cell IsNotNull nullable cell = not (is_null_cell nullable cell)

-- a condition on the bytes of a row: where the cell of its column stands, whether that may be NULL, what is tested of it, and
-- whether the next condition is of its group
pub record ByteTest : Type 0 where
  pub span : Span
  pub nullable : Bool
  pub tested : CellTest
  pub more : Bool

abbrev pub passes : List ℕ → ByteTest → Bool
passes row test = meets_cell test.tested test.nullable (cut row test.span)

-- an ask over the bytes of rows: their width, where the asked cells stand, and the conditions
pub record Form : Type 0 where
  pub width : ℕ
  pub columns : List Span
  pub tests : List ByteTest

-- whether the last of the conditions ends its group
abbrev pub is_ended : Form → Bool
is_ended form = ends (λ test. test.more) form.tests

-- whether a row meets one condition of each group
abbrev pub is_met : Form → List ℕ → Bool
is_met form row = each_group (λ test. test.more) (passes row) form.tests

-- the row of the reply that a row of the file gives
abbrev pub replied : Form → (identifier : ℕ) → List ℕ → RowCells
replied form identifier row = record { identifier = identifier; cells = flat_map (cut row) form.columns }

-- so many bytes of a file from a place on, where a byte that is not there counts as 0
unfoldable pub window : List ℕ → (at size : ℕ) → List ℕ
window file at zero = []
window file at (suc size) = slice_index file at ∷ window file (at + 1) size

-- the row of a table at a place, where the rows of the table begin at a byte of the file
abbrev pub row_at : Form → List ℕ → (start place : ℕ) → List ℕ
row_at form file start place = window file (start + place * form.width) form.width

-- the rows of the reply that so many rows of the file give, from the one at a place on
unfoldable pub replies_at : Form → List ℕ → (start place count : ℕ) → List RowCells
replies_at form file start place zero = []
replies_at form file start place (suc count) =
    if is_met form (row_at form file start place)
    then replied form (place + 1) (row_at form file start place) ∷ replies_at form file start (place + 1) count
    else replies_at form file start (place + 1) count

-- the bytes of a row of the reply
abbrev pub reply_width : Form → ℕ
reply_width form = 4 + sum (map (λ span. span.size) form.columns)

-- how many bytes a column has in a row of the file
abbrev pub shown_width : Column → ℕ
shown_width column = if is_open column then cell_width column.kind else 0

abbrev pub width_or_none : Option Column → ℕ
width_or_none None = 0
width_or_none (Some column) = shown_width column

-- how many bytes stand in a row before the column at a place, the identifier's column not being counted
unfoldable pub width_before : List Column → (place : ℕ) → ℕ
width_before [] place = 0
width_before (column ∷ columns) zero = 0
width_before (column ∷ columns) (suc place) = shown_width column + width_before columns place

-- the columns of a table but its identifier
abbrev pub data_columns : Schema → (table : ℕ) → List Column
data_columns schema table = drop 1 (columns_of schema table)

abbrev pub row_width : Schema → (table : ℕ) → ℕ
row_width schema table = width_before (data_columns schema table) (length (data_columns schema table))

abbrev pub span_of : Schema → (table column : ℕ) → Span
span_of schema table column =
    record { at = width_before (data_columns schema table) (column - 1); size = cell_width (kind_at schema table column) }

-- a test of a column of a kind as one of its cell
abbrev pub cell_test : Kind → Test → CellTest
cell_test kind (query.Compared operator literal) = Compared operator (encode_cell (plain_of kind) literal)
cell_test kind query.IsNull = IsNull
cell_test kind query.IsNotNull = IsNotNull

abbrev pub test_of : Schema → (table : ℕ) → ColumnTest → ByteTest
test_of schema table one =
    record {
      span = span_of schema table one.column;
      nullable = is_nullable (kind_at schema table one.column);
      tested = cell_test (kind_at schema table one.column) one.test;
      more = one.more;
    }

abbrev pub form_of : Schema → Ask → Form
form_of schema ask =
    record {
      width = row_width schema ask.table;
      columns = map (span_of schema ask.table) ask.columns;
      tests = map (test_of schema ask.table) ask.tests;
    }

-- where the rows of a table begin in the file: behind the catalog and the rows of the tables before it
unfoldable pub table_start : Catalog → (table : ℕ) → ℕ
table_start cat zero = length (catalog_bytes cat)
table_start cat (suc table) = table_start cat table + slice_index cat.counts table * row_width cat.schema table
