-- What is read back of a hidden part: the cells of the column files alone, table by table, in a table column by column, and in a
-- column row by row. The first slot that spells no value which may stand there is told, and nothing behind it is read.
use Rattle.std.specs.Prelude.{◌≡◌, ℕ, ◌<◌, ◌≤◌, Bool, true, ⊤, List, length, sum_by, Some, None, Result, Ok, Err, IsTrue}
use Rattle.ghost_model.specs.core.Causes.{Rose}
use Rattle.ghost_model.specs.core.Values.{Value}
use Rattle.ghost_model.specs.core.Channel.{Catalog}
use Rattle.ghost_model.specs.core.Database.{is_row_among}
use Rattle.ghost_model.specs.core.Asks.{kind_at}
use Rattle.ghost_model.specs.core.Split.{Hidden}
use Rattle.ghost_model.specs.core.Replies.{hidden_value}
use Rattle.ghost_model.specs.forms.Runs.{page_of, slot_of, found_in}
use Rattle.ghost_model.specs.forms.Layout.{below, is_hidden, count_of, Cells, column_file}
use Rattle.ghost_model.specs.forms.Slots.{child_at, child_rows, spelled, may_stand, in_slot, IsDamagedIn}
use Rattle.ghost_model.specs.forms.Flash.{HoldsColumns, IsHidden}
use Rattle.ghost_model.specs.laws.FlashLaws.{GoesWith}
use Rattle.ghost_model.specs.laws.LayoutSums.{columns_pages}
use Rattle.edge_traits.specs.Devices.{Device, KeepsPages}
use Rattle.page_pool.specs.Pools.{Pool, ChangesPage}
use Rattle.flash_pages.specs.Reads.{CanRead, WasGiven, WasRead}
use Rattle.hidden_columns.specs.Laws.{value_on}
use Rattle.flash_build.specs.declared.faults.ReadFault.{ReadFault}
use Rattle.flash_build.specs.declared.faults.ReadFault.TheVariants.{NoMemory, Flash, Damaged}

-- a hidden part that goes with a catalog, and whose foreign keys name rows
pub record IsLegalPart (cat : Catalog) (hidden : Hidden) : Type 0 where
  pub goes_with : GoesWith cat hidden
  pub references :
      (table identifier column child : ℕ) (value : Value) → child_at cat.schema table column ≡ Some child
      → hidden_value cat.schema hidden table identifier column ≡ Some value → IsTrue (is_row_among (count_of cat child) value)

-- the pages have the values of a hidden part in its column files, whatever else they have
pub record HasPart (page : ℕ → List ℕ) (cat : Catalog) (hidden : Hidden) : Type 0 where
  pub value :
      (table column identifier : ℕ) → is_hidden cat.schema table column ≡ true → 1 ≤ identifier → identifier ≤ count_of cat table
      → hidden_value cat.schema hidden table identifier column ≡ value_on page cat table column identifier

-- the slot of a row, which is counted from 0, spells a value that may stand in its column, if that is a hidden one
abbrev pub Stands : (ℕ → List ℕ) → Catalog → (table column place : ℕ) → Type 0
Stands page cat table column place =
    is_hidden cat.schema table column ≡ true → place < count_of cat table
    → may_stand cat (Cells table column) (in_slot page cat (Cells table column) place) ≡ true

-- so does each slot that is read before that of a row
pub record StandBefore (page : ℕ → List ℕ) (cat : Catalog) (table column place : ℕ) : Type 0 where
  pub tables : (other at row : ℕ) → other < table → Stands page cat other at row
  pub columns : (other row : ℕ) → other < column → Stands page cat table other row
  pub rows : (row : ℕ) → row < place → Stands page cat table column row

-- the first damaged slot of the column files: its page, its place in it, and what was found there
pub record DamagesFirst (page : ℕ → List ℕ) (cat : Catalog) (number slot found : ℕ) : Type 0 where
  pub table : ℕ
  pub column : ℕ
  pub place : ℕ
  pub damaged : IsDamagedIn cat page (Cells table column) place number slot found
  pub before : StandBefore page cat table column place

-- what reading gives, by the bytes of the pages
abbrev pub GivesPart : (ℕ → List ℕ) → Catalog → Result Hidden ReadFault → Type 0
GivesPart page cat (Ok read) = HasPart page cat read
GivesPart page cat (Err NoMemory) = ⊤
GivesPart page cat (Err Flash) = ⊤
GivesPart page cat (Err (Damaged number slot found)) = DamagesFirst page cat number slot found

-- nothing but this hidden part is given, and no slot is blamed
abbrev pub GivesThat : Hidden → Result Hidden ReadFault → Type 0
GivesThat hidden (Ok read) = read ≡ hidden
GivesThat hidden (Err NoMemory) = ⊤
GivesThat hidden (Err Flash) = ⊤
GivesThat hidden (Err (Damaged number slot found)) = ⊥

-- where the pages hold the hidden part of a database, reading gives that part
abbrev pub GivesHeld : (ℕ → List ℕ) → Catalog → Result Hidden ReadFault → Type 0
GivesHeld page cat result = (hidden : Hidden) → IsHidden cat hidden → HoldsColumns page cat hidden → GivesThat hidden result

-- A slot that is blamed is that of a row in a hidden column. What a read from that count of calls on gave there spells no value of
-- the column.
pub record BlamesRow (since : ℕ) (device : Device) (cat : Catalog) (table column place : ℕ) (number slot found : ℕ) : Type 0 where
  pub within : place < count_of cat table
  pub page_is : number ≡ page_of (column_file cat table column) place
  pub slot_is : slot ≡ slot_of (column_file cat table column) place
  pub bytes : List ℕ
  pub read : WasRead since device (column_file cat table column) place bytes
  pub wide : length bytes ≡ (column_file cat table column).width
  pub no_value : spelled (kind_at cat.schema table column) (child_rows cat table column) bytes ≡ None
  pub found_is : found ≡ found_in bytes

pub record BlamesCell (since : ℕ) (device : Device) (cat : Catalog) (number slot found : ℕ) : Type 0 where
  pub table : ℕ
  pub column : ℕ
  pub place : ℕ
  pub hidden : is_hidden cat.schema table column ≡ true
  pub row : BlamesRow since device cat table column place number slot found

abbrev pub BlamesCells : (since : ℕ) → Device → Catalog → ReadFault → Type 0
BlamesCells since device cat NoMemory = ⊤
BlamesCells since device cat Flash = ⊤
BlamesCells since device cat (Damaged number slot found) = BlamesCell since device cat number slot found

-- the count of the flash's faults rose where the flash is blamed, by the last call, and else it stands
pub record FlashFailed (before now : Device) : Type 0 where
  pub cause : Rose before.faults now.faults
  pub last : now.since_fault ≡ 0

abbrev pub ReadTells : {T : Type 0} → (before now : Device) → Result T ReadFault → Type 0
ReadTells before now (Ok value) = now.faults ≡ before.faults
ReadTells before now (Err NoMemory) = now.faults ≡ before.faults
ReadTells before now (Err Flash) = FlashFailed before now
ReadTells before now (Err (Damaged number slot found)) = now.faults ≡ before.faults

-- the pages of all column files
abbrev pub column_file_pages : Catalog → ℕ
column_file_pages cat = sum_by (columns_pages cat) (below (length cat.schema))

-- Pages are read under a lease, and nothing is written.
pub record ReadsCells {T : Type 0} (told : Bool) (before now : Device) (pool later : Pool) (lease : ℕ) (result : Result T ReadFault) : Type 0 where
  pub kept : KeepsPages before now
  pub tells : ReadTells before now result
  pub buffer : ChangesPage pool later lease
  pub ready : CanRead told now later lease
  pub given : (since : ℕ) → since ≤ before.calls → WasGiven since before pool lease → WasGiven since now later lease
