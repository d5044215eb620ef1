-- A list of values of a column, each kept as its cell, NULL among them. A clause sees the kind of the column and the list of the
-- values.
use Rattle.std.specs.Prelude.{◌≡◌, ◌≤◌, ◌*◌, ℕ, zero, suc, List, [], ◌∷◌, length, take, drop, unwrap_or}
use Rattle.ghost_model.specs.core.Schema.{Kind, plain_of}
use Rattle.ghost_model.specs.core.Values.{Value, Null}
use Rattle.ghost_model.specs.forms.Cells.{cell_width}
use Rattle.ghost_model.specs.readings.CellReading.{decode_cell}
use Rattle.ghost_base.specs.CellLaws.{IsCellOf}
use Rattle.ghost_base.specs.Views.{kind_of}
use Rattle.csv_split.specs.declared.flat_cells.FlatCells.TheInside.{Inside}

pub record ValueList : Type 0 where
  pub kind : Kind
  pub values : List Value

-- the value of a cell
abbrev pub value_in : Kind → (cell : List ℕ) → Value
value_in kind cell = unwrap_or (decode_cell kind cell) Null

-- the values of so many cells
unfoldable pub values_of_cells : Kind → (width count : ℕ) → List ℕ → List Value
values_of_cells kind width zero cells = []
values_of_cells kind width (suc count) cells = value_in kind (take width cells) ∷ values_of_cells kind width count (drop width cells)

unfoldable pub AreValueCells : Kind → (width count : ℕ) → List ℕ → Type 0
AreValueCells kind width zero cells = cells ≡ []
AreValueCells kind width (suc count) cells =
    IsCellOf kind (value_in kind (take width cells)) (take width cells) × AreValueCells kind width count (drop width cells)

pub record KeepsValues (flat : Inside) : Type 0 where
  pub narrow : cell_width (plain_of (kind_of flat.kind)) ≤ 64
  pub size : length flat.bytes.items ≡ flat.count * cell_width (kind_of flat.kind)
  pub cells : AreValueCells (kind_of flat.kind) (cell_width (kind_of flat.kind)) flat.count flat.bytes.items

abbrev pub list_of : Inside → ValueList
list_of flat =
    record {
      kind = kind_of flat.kind;
      values = values_of_cells (kind_of flat.kind) (cell_width (kind_of flat.kind)) flat.count flat.bytes.items;
    }

abbrev pub empty_of : Kind → ValueList
empty_of kind = record { kind = kind; values = [] }
