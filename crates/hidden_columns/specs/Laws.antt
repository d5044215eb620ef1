-- Laws of column files: where pages hold a database's hidden columns, the slot of each row spells the row's value.
use Rattle.std.specs.Prelude.{◌≡◌, ℕ, ◌-◌, ◌≤◌, true, List, Option, Some}
use Rattle.ghost_model.specs.core.Values.{Value, Database}
use Rattle.ghost_model.specs.core.Channel.{Catalog}
use Rattle.ghost_model.specs.laws.SchemaTrees.{IsTree}
use Rattle.ghost_model.specs.core.Database.{IsDatabase, row_counts, value_at_row}
use Rattle.ghost_model.specs.core.Asks.{kind_at}
use Rattle.ghost_model.specs.core.Split.{Hidden, hidden_of}
use Rattle.ghost_model.specs.core.Replies.{Reply, hidden_value, known_value}
use Rattle.ghost_model.specs.forms.Runs.{record_at}
use Rattle.ghost_model.specs.forms.Layout.{is_hidden, count_of, column_file}
use Rattle.ghost_model.specs.forms.Flash.{HoldsColumns}
use Rattle.ghost_model.specs.laws.FlashLaws.{GoesWith}
use Rattle.edge_traits.specs.Devices.{Device}
use Rattle.hidden_columns.specs.declared.file.ColumnFile.{ColumnFile}
use Rattle.ghost_model.specs.forms.Slots.{child_rows, spelled}
use Rattle.hidden_columns.specs.Files.{IsFileOf, IsReadable, slot_value}

-- the value that pages have for a row in the file of a hidden column
abbrev pub value_on : (ℕ → List ℕ) → Catalog → (table column identifier : ℕ) → Option Value
value_on page cat table column identifier =
    spelled (kind_at cat.schema table column) (child_rows cat table column)
    (record_at page (column_file cat table column) (identifier - 1))

-- a row has a value in a hidden column, and the pages have it, in all words for it
pub record HasValue (page : ℕ → List ℕ) (cat : Catalog) (database : Database) (table column identifier : ℕ) : Type 0 where
  pub value : Value
  pub of_row : value_at_row database table identifier column ≡ Some value
  pub of_hidden : hidden_value cat.schema (hidden_of cat.schema database) table identifier column ≡ Some value
  pub as_known : (given : List Reply) → known_value cat.schema (hidden_of cat.schema database) given table identifier column ≡ Some value
  pub on_pages : value_on page cat table column identifier ≡ Some value
  pub in_slot : (file : ColumnFile) → IsFileOf cat table column file → slot_value page file identifier ≡ Some value

abbrev pub ColumnsGiveValues : Type 0
ColumnsGiveValues =
    (page : ℕ → List ℕ) (cat : Catalog) (database : Database) → IsTree cat.schema → IsDatabase cat.schema database
    → row_counts database ≡ cat.counts → HoldsColumns page cat (hidden_of cat.schema database)
    → (table column : ℕ) → is_hidden cat.schema table column ≡ true
    → (identifier : ℕ) → 1 ≤ identifier → identifier ≤ count_of cat table
    → HasValue page cat database table column identifier

-- a column file may have damaged slots, but each slot that spells a value has that of its row
abbrev pub IsColumnBut : (ℕ → List ℕ) → Catalog → Hidden → (table column : ℕ) → Type 0
IsColumnBut page cat hidden table column =
    (identifier : ℕ) → 1 ≤ identifier → identifier ≤ count_of cat table
    → (value : Value) → value_on page cat table column identifier ≡ Some value
    → hidden_value cat.schema hidden table identifier column ≡ Some value

abbrev pub HeldColumnsAreRight : Type 0
HeldColumnsAreRight =
    (page : ℕ → List ℕ) (cat : Catalog) (hidden : Hidden) → IsTree cat.schema → GoesWith cat hidden
    → HoldsColumns page cat hidden → (table column : ℕ) → is_hidden cat.schema table column ≡ true
    → IsColumnBut page cat hidden table column

-- what the file's own words say is what the pages have
abbrev pub FilesAreOfColumns : Type 0
FilesAreOfColumns =
    (page : ℕ → List ℕ) (cat : Catalog) (table column : ℕ) (file : ColumnFile) → IsFileOf cat table column file
    → (identifier : ℕ) → slot_value page file identifier ≡ value_on page cat table column identifier

-- a file that may be read on a device may be read as long as the device has as many pages
abbrev pub FilesStayReadable : Type 0
FilesStayReadable =
    (before now : Device) (file : ColumnFile) → now.page_count ≡ before.page_count → IsReadable before file → IsReadable now file
