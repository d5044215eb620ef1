-- The public part that is read from the visible file, piece by piece and table by table.
use Rattle.std.specs.Prelude.{◌≡◌, ◌≤◌, ◌<◌, ◌*◌, ℕ, true, List, ◌++◌, length, map, take, flat_map, slice_get, slice_index, Option, Some, Result, OnOk, IfErr}
use Rattle.ghost_model.specs.core.Causes.{Rose}
use Rattle.ghost_model.specs.core.Schema.{Kind, Table}
use Rattle.ghost_model.specs.core.Values.{Row, Rows}
use Rattle.ghost_model.specs.core.Channel.{Catalog}
use Rattle.ghost_model.specs.forms.Catalog.{catalog_bytes}
use Rattle.ghost_model.specs.laws.ShortWords.{rows_or_none}
use Rattle.ghost_model.specs.core.Split.{cells, are_of_kinds, visible_kinds, cells_of_tables}
use Rattle.edge_traits.specs.Files.{Files, file_of}
use Rattle.host_exec.specs.RowBytes.{window, data_columns, row_width, table_start}
use Rattle.host_exec.specs.Checked.{IsChecked, BadTable, shown_kinds}
use Rattle.host_exec.specs.Columns.{AddsRows, AreOfKinds}
use Rattle.host_exec.specs.declared.columns.Columns.{Columns}
use Rattle.host_exec.specs.declared.reading.ReadPublicFault.{ReadPublicFault}
use Rattle.host_exec.specs.declared.reading.ReadPublicFault.TheVariants.{Depot, BadVisibleFile, NoMemory}

-- the count of faults where a reading ended so: it rose where the depot failed, and else stayed
abbrev pub FaultCause : (before now : ℕ) → ReadPublicFault → Type 0
FaultCause before now Depot = (before ≤ now) × Rose before now
FaultCause before now BadVisibleFile = now ≡ before
FaultCause before now NoMemory = now ≡ before

pub record ReadCause {T : Type 0} (before now : ℕ) (result : Result T ReadPublicFault) : Type 0 where
  pub failed : IfErr result (λ fault. FaultCause before now fault)
  pub other : OnOk result (now ≡ before)

-- a file begins with the bytes of a catalog, ends where its tables end, and its rows spell values
pub record HasForm (cat : Catalog) (file : List ℕ) : Type 0 where
  pub begins : window file 0 (length (catalog_bytes cat)) ≡ catalog_bytes cat
  pub checked : IsChecked cat file

-- so many rows were taken from a place of the file on
pub record ReadsRows (contents : Option Files) (name : List ℕ) (kinds : List Kind) (at size count : ℕ) (before after : Columns) : Type 0 where
  pub bytes : List ℕ
  pub adds : AddsRows kinds count bytes before after
  pub there : (file : List ℕ) → file_of contents name ≡ Some file → bytes ≡ window file at size

-- the visible columns of a table, as they stand in the file
pub record ReadsTable (contents : Option Files) (name : List ℕ) (cat : Catalog) (table : ℕ) (rows : Rows) : Type 0 where
  pub counted : length rows ≡ slice_index cat.counts table
  pub fits : AreOfKinds (shown_kinds (data_columns cat.schema table)) rows
  pub there : (file : List ℕ) → file_of contents name ≡ Some file
      → flat_map (cells (shown_kinds (data_columns cat.schema table))) rows
      ≡ window file (table_start cat table) (slice_index cat.counts table * row_width cat.schema table)

-- those of the first tables
pub record ReadsTables (contents : Option Files) (name : List ℕ) (cat : Catalog) (tables : ℕ) (visible : List Rows) : Type 0 where
  pub many : length visible ≡ tables
  pub counted : map length visible ≡ take tables cat.counts
  pub kinds : (table place : ℕ) (declared : Table) (row : Row) → slice_get cat.schema table ≡ Some declared
      → slice_get (rows_or_none (slice_get visible table)) place ≡ Some row → are_of_kinds (visible_kinds declared) row ≡ true
  pub there : (file : List ℕ) → file_of contents name ≡ Some file
      → window file 0 (table_start cat tables) ≡ window file 0 (length (catalog_bytes cat)) ++ cells_of_tables cat.schema visible

-- one table of a file has a row that spells no values
abbrev pub SomeBadTable : Catalog → (file : List ℕ) → Type 0
SomeBadTable cat file = (table : ℕ) × (table < length cat.schema) × BadTable cat file table
