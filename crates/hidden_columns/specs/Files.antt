-- The file of a hidden column, and what a call on it gives.
use Rattle.std.specs.Prelude.{◌≡◌, ℕ, ◌-◌, ◌≤◌, ⊤, pos, List, length, Option, Some, None, Result, Ok, Err, IfSome, IfOk, IsTrue}
use Rattle.ghost_model.specs.core.Schema.{plain_of}
use Rattle.ghost_model.specs.core.Values.{Value, Number}
use Rattle.ghost_model.specs.core.Channel.{Catalog}
use Rattle.ghost_model.specs.forms.Cells.{cell_width}
use Rattle.ghost_model.specs.core.Database.{is_of_kind}
use Rattle.ghost_model.specs.core.Asks.{kind_at}
use Rattle.ghost_model.specs.forms.Runs.{record_at, page_of, slot_of, found_in}
use Rattle.ghost_model.specs.forms.Layout.{column_file}
use Rattle.ghost_base.specs.Views.{kind_of}
use Rattle.edge_traits.specs.Devices.{Device}
use Rattle.flash_pages.specs.declared.fault.PageFault.{PageFault}
use Rattle.flash_pages.specs.declared.fault.PageFault.TheVariants.{Flash, Damaged}
use Rattle.ghost_base.specs.Runs.{run_of}
use Rattle.flash_pages.specs.Runs.{HasRun}
use Rattle.flash_pages.specs.Reads.{WasRead}
use Rattle.hidden_columns.specs.declared.file.ColumnFile.{ColumnFile}
use Rattle.ghost_model.specs.forms.Slots.{child_rows, is_in_range, spelled}

-- it is the file of that column
pub record IsFileOf (cat : Catalog) (table column : ℕ) (file : ColumnFile) : Type 0 where
  pub run_is : run_of file.run ≡ column_file cat table column
  pub kind_is : kind_of file.kind ≡ kind_at cat.schema table column
  pub range_is : file.child_rows ≡ child_rows cat table column

-- the file may be read: the device has its pages, and its slots are as wide as the cells, 64 bytes at most and one more where NULL
-- may stand
pub record IsReadable (device : Device) (file : ColumnFile) : Type 0 where
  pub has : HasRun device (run_of file.run)
  pub wide : file.run.width ≡ cell_width (kind_of file.kind)
  pub narrow : file.run.width ≤ 65
  pub plain : cell_width (plain_of (kind_of file.kind)) ≤ 64

-- the slot of a row, by its identifier: its page, its place in it, its bytes, and the value that they spell
abbrev pub slot_page : ColumnFile → (identifier : ℕ) → ℕ
slot_page file identifier = page_of (run_of file.run) (identifier - 1)

abbrev pub slot_place : ColumnFile → (identifier : ℕ) → ℕ
slot_place file identifier = slot_of (run_of file.run) (identifier - 1)

abbrev pub slot_bytes : (ℕ → List ℕ) → ColumnFile → (identifier : ℕ) → List ℕ
slot_bytes page file identifier = record_at page (run_of file.run) (identifier - 1)

abbrev pub value_spelled : ColumnFile → List ℕ → Option Value
value_spelled file bytes = spelled (kind_of file.kind) file.child_rows bytes

abbrev pub slot_value : (ℕ → List ℕ) → ColumnFile → (identifier : ℕ) → Option Value
slot_value page file identifier = value_spelled file (slot_bytes page file identifier)

-- the value that an identifier is as a foreign key
abbrev pub key_value : (key : ℕ) → Value
key_value key = Number (pos key)

-- a value that may stand in the column
pub record IsOfColumn (file : ColumnFile) (value : Value) : Type 0 where
  pub kind : IsTrue (is_of_kind (kind_of file.kind) value)
  pub range : IsTrue (is_in_range file.child_rows value)

-- what a call gives, by the bytes of the pages: the value of the slot, or what stands there in place of one
pub record HasNoValue (page : ℕ → List ℕ) (file : ColumnFile) (identifier found : ℕ) : Type 0 where
  pub no_value : slot_value page file identifier ≡ None
  pub found_is : found ≡ found_in (slot_bytes page file identifier)

abbrev pub FailsAt : (ℕ → List ℕ) → ColumnFile → (identifier : ℕ) → PageFault → Type 0
FailsAt page file identifier Flash = ⊤
FailsAt page file identifier (Damaged number slot found) = HasNoValue page file identifier found

abbrev pub GivesSlot : {T : Type 0} → (T → Value) → (ℕ → List ℕ) → ColumnFile → (identifier : ℕ) → Result T PageFault → Type 0
GivesSlot value page file identifier (Ok given) = slot_value page file identifier ≡ Some (value given)
GivesSlot value page file identifier (Err fault) = FailsAt page file identifier fault

-- A slot that is blamed is that of the row. What a read from that count of calls on gave there spells no value of the column.
pub record BlamesSlot (since : ℕ) (device : Device) (file : ColumnFile) (identifier number slot found : ℕ) : Type 0 where
  pub page_is : number ≡ slot_page file identifier
  pub slot_is : slot ≡ slot_place file identifier
  pub bytes : List ℕ
  pub read : WasRead since device (run_of file.run) (identifier - 1) bytes
  pub wide : length bytes ≡ file.run.width
  pub no_value : value_spelled file bytes ≡ None
  pub found_is : found ≡ found_in bytes

abbrev pub Blames : (since : ℕ) → Device → ColumnFile → (identifier : ℕ) → PageFault → Type 0
Blames since device file identifier Flash = ⊤
Blames since device file identifier (Damaged number slot found) = BlamesSlot since device file identifier number slot found

-- Whatever the pages have: a value that is given may stand in the column, and the file may be read on.
pub record GivesOfColumn {T : Type 0} (value : T → Value) (device : Device) (file : ColumnFile) (result : Result T PageFault) : Type 0 where
  pub column : IfOk result (λ given. IsOfColumn file (value given))
  pub readable : IsReadable device file

-- the same of a foreign key: it is the identifier of one of the rows
pub record GivesRowOf (device : Device) (file : ColumnFile) (result : Result ℕ PageFault) : Type 0 where
  pub some : IfOk result (λ key. 1 ≤ key)
  pub within : IfOk result (λ key. IfSome file.child_rows (λ rows. key ≤ rows))
  pub readable : IsReadable device file
