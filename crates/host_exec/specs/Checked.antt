-- That the rows of the visible file spell values.
use Rattle.std.specs.Prelude.{◌≡◌, ◌≤◌, ◌<◌, ◌+◌, ◌*◌, ℕ, Bool, true, List, length, map, filter, nat_le, slice_index}
use Rattle.ghost_model.specs.core.Schema.{Kind, Column, plain_of}
use Rattle.ghost_model.specs.core.Values.{Row}
use Rattle.ghost_model.specs.forms.Cells.{cell_width}
use Rattle.ghost_model.specs.core.Channel.{Catalog}
use Rattle.ghost_model.specs.forms.Catalog.{current_version}
use Rattle.ghost_model.specs.core.Split.{Public, SpellsImage, cells, are_of_kinds, is_open, kind_of_column}
use Rattle.host_exec.specs.RowBytes.{window, data_columns, row_width, table_start}

-- a row of values whose cells are these bytes
pub record SpellsRow (kinds : List Kind) (bytes : List ℕ) : Type 0 where
  pub row : Row
  pub fits : are_of_kinds kinds row ≡ true
  pub spelled : cells kinds row ≡ bytes

abbrev pub shown_kinds : List Column → List Kind
shown_kinds columns = map kind_of_column (filter is_open columns)

-- whether the cells of a kind are as narrow as those of a declared column: 64 bytes, and one more where NULL may stand
abbrev pub is_narrow : Kind → Bool
is_narrow kind = nat_le (cell_width (plain_of kind)) 64

-- the rows at the places from one to another spell values
abbrev pub GoodRows : (kinds : List Kind) → (file : List ℕ) → (start width from to : ℕ) → Type 0
GoodRows kinds file start width from to =
    (row : ℕ) → from ≤ row → row < to → SpellsRow kinds (window file (start + row * width) width)

-- one of so many rows does not
abbrev pub BadRow : (kinds : List Kind) → (file : List ℕ) → (start width rows : ℕ) → Type 0
BadRow kinds file start width rows = (row : ℕ) × (row < rows) × (SpellsRow kinds (window file (start + row * width) width) → ⊥)

-- all rows of a table of the file spell values, and one does not
abbrev pub GoodTable : Catalog → (file : List ℕ) → (table : ℕ) → Type 0
GoodTable cat file table =
    GoodRows (shown_kinds (data_columns cat.schema table)) file (table_start cat table) (row_width cat.schema table) 0 (slice_index cat.counts table)

abbrev pub BadTable : Catalog → (file : List ℕ) → (table : ℕ) → Type 0
BadTable cat file table =
    BadRow (shown_kinds (data_columns cat.schema table)) file (table_start cat table) (row_width cat.schema table) (slice_index cat.counts table)

-- a file ends where the tables of the catalog end, and its rows spell values
pub record IsChecked (cat : Catalog) (file : List ℕ) : Type 0 where
  pub end : length file ≡ table_start cat (length cat.schema)
  pub good : (table : ℕ) → table < length cat.schema → GoodTable cat file table

-- a file is the visible image of some public part that goes with the catalog, which is of the version that is served
pub record IsImage (cat : Catalog) (file : List ℕ) : Type 0 where
  pub current : cat.version ≡ current_version
  pub public : Public
  pub spells : SpellsImage cat public file

-- a file is no visible image of the version that is served
abbrev pub IsNoImage : (file : List ℕ) → Type 0
IsNoImage file = (cat : Catalog) (public : Public) → cat.version ≡ current_version → SpellsImage cat public file → ⊥

-- a file is no visible image of a catalog
abbrev pub IsNoImageOf : Catalog → (file : List ℕ) → Type 0
IsNoImageOf cat file = (public : Public) → SpellsImage cat public file → ⊥
