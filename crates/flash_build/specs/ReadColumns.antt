-- What has been read of the column files so far: the values of some rows of a column, the hidden columns of a table up to one, and
-- the tables up to one; or the slot at which reading stopped. Where pages are told, the values are those that the pages have.
use Rattle.std.specs.Prelude.{◌≡◌, ℕ, ◌+◌, ◌<◌, ◌≤◌, Bool, true, false, ⊤, List, [], ◌∷◌, ◌++◌, length, Some, slice_get, is_some, IsTrue}
use Rattle.ghost_model.specs.core.Values.{Value, Rows}
use Rattle.ghost_model.specs.core.Channel.{Catalog}
use Rattle.ghost_model.specs.core.Database.{is_of_kind}
use Rattle.ghost_model.specs.core.Asks.{kind_at}
use Rattle.ghost_model.specs.forms.Layout.{is_hidden, count_of, Cells}
use Rattle.ghost_model.specs.forms.Slots.{child_rows, is_in_range, IsDamagedIn}
use Rattle.ghost_model.specs.laws.FlashLaws.{hidden_before}
use Rattle.ghost_model.specs.laws.ShortWords.{column_count}
use Rattle.edge_traits.specs.Devices.{Device}
use Rattle.csv_split.specs.Parts.{part_in}
use Rattle.hidden_columns.specs.declared.file.ColumnFile.{ColumnFile}
use Rattle.hidden_columns.specs.Files.{IsOfColumn, HasNoValue, BlamesSlot, slot_value}
use Rattle.hidden_columns.specs.Laws.{value_on}
use Rattle.flash_build.specs.declared.faults.ReadFault.{ReadFault}
use Rattle.flash_build.specs.declared.faults.ReadFault.TheVariants.{NoMemory, Flash, Damaged}
use Rattle.flash_build.specs.Reading.{BlamesRow, Stands}

-- the value of a row of a file, which is counted from 0, is put behind others
pub record AddsRow (told : Bool) (page : ℕ → List ℕ) (file : ColumnFile) (place : ℕ) (before now : List Value) : Type 0 where
  pub value : Value
  pub added : now ≡ before ++ value ∷ []
  pub column : IsOfColumn file value
  pub spelled : told ≡ true → slot_value page file (place + 1) ≡ Some value

-- those of its rows from one on up to another
pub record AddsRows (told : Bool) (page : ℕ → List ℕ) (file : ColumnFile) (from upto : ℕ) (before now : List Value) : Type 0 where
  pub more : List Value
  pub added : now ≡ before ++ more
  pub many : from + length more ≡ upto
  pub column : (place : ℕ) (value : Value) → slice_get more place ≡ Some value → IsOfColumn file value
  pub spelled :
      told ≡ true → (place : ℕ) (value : Value) → slice_get more place ≡ Some value
      → slot_value page file (from + place + 1) ≡ Some value

-- the slot of a row of a file is damaged
pub record IsDamagedRow (told : Bool) (since : ℕ) (page : ℕ → List ℕ) (device : Device) (file : ColumnFile) (place number slot found : ℕ) : Type 0 where
  pub blames : BlamesSlot since device file (place + 1) number slot found
  pub stands : told ≡ true → HasNoValue page file (place + 1) found

abbrev pub DamagesRow : (told : Bool) (since : ℕ) (page : ℕ → List ℕ) (device : Device) (file : ColumnFile) (place : ℕ) → ReadFault → Type 0
DamagesRow told since page device file place NoMemory = ⊤
DamagesRow told since page device file place Flash = ⊤
DamagesRow told since page device file place (Damaged number slot found) = IsDamagedRow told since page device file place number slot found

-- that of a row from one on is damaged, and none of those between
pub record HasDamagedRow (told : Bool) (since : ℕ) (page : ℕ → List ℕ) (device : Device) (file : ColumnFile) (from number slot found : ℕ) : Type 0 where
  pub place : ℕ
  pub within : place < file.run.count
  pub damaged : IsDamagedRow told since page device file place number slot found
  pub before : told ≡ true → (row : ℕ) → from ≤ row → row < place → is_some (slot_value page file (row + 1)) ≡ true

abbrev pub DamagesRows : (told : Bool) (since : ℕ) (page : ℕ → List ℕ) (device : Device) (file : ColumnFile) (from : ℕ) → ReadFault → Type 0
DamagesRows told since page device file from NoMemory = ⊤
DamagesRows told since page device file from Flash = ⊤
DamagesRows told since page device file from (Damaged number slot found) = HasDamagedRow told since page device file from number slot found

-- values that may stand in a hidden column, one for each row
pub record IsColumnRead (told : Bool) (page : ℕ → List ℕ) (cat : Catalog) (table column : ℕ) (values : List Value) : Type 0 where
  pub long : length values ≡ count_of cat table
  pub kinds :
      (place : ℕ) (value : Value) → slice_get values place ≡ Some value → IsTrue (is_of_kind (kind_at cat.schema table column) value)
  pub ranges :
      (place : ℕ) (value : Value) → slice_get values place ≡ Some value → IsTrue (is_in_range (child_rows cat table column) value)
  pub spelled :
      told ≡ true → (place : ℕ) (value : Value) → slice_get values place ≡ Some value
      → value_on page cat table column (place + 1) ≡ Some value

-- the slot of a row in a column is damaged, and none before it in the column
pub record IsDamagedCell (told : Bool) (since : ℕ) (page : ℕ → List ℕ) (device : Device) (cat : Catalog) (table column place number slot found : ℕ) : Type 0 where
  pub hidden : is_hidden cat.schema table column ≡ true
  pub blames : BlamesRow since device cat table column place number slot found
  pub damaged : told ≡ true → IsDamagedIn cat page (Cells table column) place number slot found
  pub rows : told ≡ true → (row : ℕ) → row < place → Stands page cat table column row

pub record HasDamagedCell (told : Bool) (since : ℕ) (page : ℕ → List ℕ) (device : Device) (cat : Catalog) (table column number slot found : ℕ) : Type 0 where
  pub place : ℕ
  pub at : IsDamagedCell told since page device cat table column place number slot found

abbrev pub DamagesColumn : (told : Bool) (since : ℕ) (page : ℕ → List ℕ) (device : Device) (cat : Catalog) (table column : ℕ) → ReadFault → Type 0
DamagesColumn told since page device cat table column NoMemory = ⊤
DamagesColumn told since page device cat table column Flash = ⊤
DamagesColumn told since page device cat table column (Damaged number slot found) = HasDamagedCell told since page device cat table column number slot found

-- the values of a column are put behind those of others, if it is a hidden one
pub record AddsHidden (told : Bool) (page : ℕ → List ℕ) (cat : Catalog) (table column : ℕ) (before now : List (List Value)) : Type 0 where
  pub values : List Value
  pub added : now ≡ before ++ values ∷ []
  pub read : IsColumnRead told page cat table column values

pub record AddsColumn (told : Bool) (page : ℕ → List ℕ) (cat : Catalog) (table column : ℕ) (before now : List (List Value)) : Type 0 where
  pub none : is_hidden cat.schema table column ≡ false → now ≡ before
  pub one : is_hidden cat.schema table column ≡ true → AddsHidden told page cat table column before now

-- the hidden ones of the first columns of a table
pub record AreColumnsRead (told : Bool) (page : ℕ → List ℕ) (cat : Catalog) (table done : ℕ) (columns : List (List Value)) : Type 0 where
  pub many : length columns ≡ hidden_before cat.schema table done
  pub long : (at : ℕ) (values : List Value) → slice_get columns at ≡ Some values → length values ≡ count_of cat table
  pub each :
      (column : ℕ) (values : List Value) → column < done → is_hidden cat.schema table column ≡ true
      → slice_get columns (hidden_before cat.schema table column) ≡ Some values → IsColumnRead told page cat table column values

-- all of them, as rows
pub record IsTableRead (told : Bool) (page : ℕ → List ℕ) (cat : Catalog) (table : ℕ) (rows : Rows) : Type 0 where
  pub columns : List (List Value)
  pub rows_are : rows ≡ part_in (count_of cat table) columns
  pub read : AreColumnsRead told page cat table (column_count cat.schema table) columns

pub record HasDamagedColumn (told : Bool) (since : ℕ) (page : ℕ → List ℕ) (device : Device) (cat : Catalog) (table number slot found : ℕ) : Type 0 where
  pub column : ℕ
  pub place : ℕ
  pub at : IsDamagedCell told since page device cat table column place number slot found
  pub columns : told ≡ true → (other row : ℕ) → other < column → Stands page cat table other row

abbrev pub DamagesTable : (told : Bool) (since : ℕ) (page : ℕ → List ℕ) (device : Device) (cat : Catalog) (table : ℕ) → ReadFault → Type 0
DamagesTable told since page device cat table NoMemory = ⊤
DamagesTable told since page device cat table Flash = ⊤
DamagesTable told since page device cat table (Damaged number slot found) = HasDamagedColumn told since page device cat table number slot found

-- the first tables
pub record AreTablesRead (told : Bool) (page : ℕ → List ℕ) (cat : Catalog) (done : ℕ) (parts : List Rows) : Type 0 where
  pub many : length parts ≡ done
  pub each : (table : ℕ) (rows : Rows) → slice_get parts table ≡ Some rows → IsTableRead told page cat table rows
