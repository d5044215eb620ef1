-- The reply to an ask as it stands in the spool, and what a look-up in it gives.
use Rattle.std.specs.Prelude.{◌≡◌, ◌≢◌, ℕ, ◌+◌, ◌-◌, ◌<◌, ◌≤◌, ◌&&◌, ⊤, Bool, true, false, nat_lt, nat_le, List, [], length, map, take, drop, get_or, Option, Some, None, Result, Ok, Err, IsTrue}
use Rattle.std.specs.List.{list_all}
use Rattle.ghost_model.specs.core.Schema.{Kind, plain_of}
use Rattle.ghost_model.specs.core.Asks.{RowCells, row_in}
use Rattle.ghost_model.specs.core.NextMove.{are_cells}
use Rattle.ghost_model.specs.forms.Cells.{cell_width}
use Rattle.ghost_model.specs.forms.Runs.{HasRecords, page_of, slot_of, number_in, found_in}
use Rattle.ghost_base.specs.Runs.{run_of}
use Rattle.ghost_base.specs.Views.{kind_of}
use Rattle.edge_traits.specs.Devices.{Device}
use Rattle.flash_pages.specs.Runs.{HasRun}
use Rattle.flash_pages.specs.Reads.{WasRead}
use Rattle.flash_pages.specs.declared.fault.PageFault.{PageFault}
use Rattle.flash_pages.specs.declared.fault.PageFault.TheVariants.{Flash, Damaged}
use Rattle.visible_spool.specs.declared.reply.Reply.{Reply}

-- whether the cells of a kind are as narrow as those of a declared column: 64 bytes, and one more where NULL may stand
abbrev pub is_narrow : Kind → Bool
is_narrow kind = nat_le (cell_width (plain_of kind)) 64

-- the kinds of a row's cells
abbrev pub kinds_of : Reply → List Kind
kinds_of reply = map kind_of (take reply.cells reply.kinds)

-- a reply has no more rows than its table, and each row's bytes are those of an identifier and at most 24 cells
pub record IsSound (reply : Reply) : Type 0 where
  pub wide : 4 ≤ reply.run.width
  pub narrow : reply.run.width ≤ 1564
  pub few : reply.run.count ≤ reply.rows
  pub most : reply.rows ≤ 1000000
  pub cells : reply.cells ≤ 24
  pub kinds : IsTrue (list_all is_narrow (kinds_of reply))

-- a reply may be read: the device has its pages
pub record IsReadable (device : Device) (reply : Reply) : Type 0 where
  pub has : HasRun device (run_of reply.run)
  pub sound : IsSound reply

-- the identifier of a row, and of the one at a place of a list
abbrev pub id_of_bytes : (row : List ℕ) → ℕ
id_of_bytes row = number_in row 0

abbrev pub id_of : (rows : List (List ℕ)) (place : ℕ) → ℕ
id_of rows place = id_of_bytes (get_or rows place [])

-- rows as they come for an ask: identifiers ascend from 1 to the table's number of rows, and cells spell values
pub record AreRows (most : ℕ) (kinds : List Kind) (rows : List (List ℕ)) : Type 0 where
  pub some : (place : ℕ) → place < length rows → 0 < id_of rows place
  pub ascend : (place later : ℕ) → place < later → later < length rows → id_of rows place < id_of rows later
  pub within : (place : ℕ) → place < length rows → id_of rows place ≤ most
  pub cells : (place : ℕ) → place < length rows → are_cells kinds (drop 4 (get_or rows place [])) ≡ true

-- pages have these rows for a reply
pub record HoldsRows (page : ℕ → List ℕ) (reply : Reply) (rows : List (List ℕ)) : Type 0 where
  pub has : HasRecords page (run_of reply.run) rows
  pub are : AreRows reply.rows (kinds_of reply) rows

-- Whether a row may stand at a place. Since identifiers ascend from 1 to the number of rows, those before it and those behind
-- it leave it a range.
abbrev pub is_placed : Reply → (place identifier : ℕ) → Bool
is_placed reply place identifier =
    nat_lt place identifier && nat_le (identifier + (reply.run.count - 1 - place)) reply.rows

abbrev pub may_stand : Reply → (place : ℕ) → List ℕ → Bool
may_stand reply place bytes = is_placed reply place (number_in bytes 0) && are_cells (kinds_of reply) (drop 4 bytes)

-- the row that a look-up gives is one of the rows, and none has the identifier where it gives none
pub record IsRowOf (rows : List (List ℕ)) (identifier : ℕ) (row : RowCells) : Type 0 where
  pub place : ℕ
  pub within : place < length rows
  pub number : id_of rows place ≡ identifier
  pub is : row ≡ row_in (get_or rows place [])

abbrev pub HasNone : (rows : List (List ℕ)) → (identifier : ℕ) → Type 0
HasNone rows identifier = (place : ℕ) → place < length rows → id_of rows place ≢ identifier

abbrev pub IsFound : (rows : List (List ℕ)) → (identifier : ℕ) → Option RowCells → Type 0
IsFound rows identifier None = HasNone rows identifier
IsFound rows identifier (Some row) = IsRowOf rows identifier row

-- no slot of a reply is damaged
abbrev pub IsFlash : PageFault → Type 0
IsFlash Flash = ⊤
IsFlash (Damaged number slot found) = ⊥

abbrev pub Finds : (rows : List (List ℕ)) → (identifier : ℕ) → Result (Option RowCells) PageFault → Type 0
Finds rows identifier (Ok found) = IsFound rows identifier found
Finds rows identifier (Err fault) = IsFlash fault

-- whatever the pages have: the row that is given stands in the reply, and may
pub record StandsIn (since : ℕ) (device : Device) (reply : Reply) (identifier : ℕ) (row : RowCells) : Type 0 where
  pub place : ℕ
  pub within : place < reply.run.count
  pub bytes : List ℕ
  pub read : WasRead since device (run_of reply.run) place bytes
  pub row_is : row ≡ row_in bytes
  pub number : number_in bytes 0 ≡ identifier
  pub may : may_stand reply place bytes ≡ true

-- a slot that is blamed is one of the reply, and what a read gave there may not stand there
pub record BlamesSlot (since : ℕ) (device : Device) (reply : Reply) (number slot found : ℕ) : Type 0 where
  pub place : ℕ
  pub within : place < reply.run.count
  pub page_is : number ≡ page_of (run_of reply.run) place
  pub slot_is : slot ≡ slot_of (run_of reply.run) place
  pub bytes : List ℕ
  pub read : WasRead since device (run_of reply.run) place bytes
  pub wide : length bytes ≡ reply.run.width
  pub wrong : may_stand reply place bytes ≡ false
  pub found_is : found ≡ found_in bytes

abbrev pub Blames : (since : ℕ) → Device → Reply → PageFault → Type 0
Blames since device reply Flash = ⊤
Blames since device reply (Damaged number slot found) = BlamesSlot since device reply number slot found

abbrev pub FoundStands : (since : ℕ) → Device → Reply → (identifier : ℕ) → Option RowCells → Type 0
FoundStands since device reply identifier None = ⊤
FoundStands since device reply identifier (Some row) = StandsIn since device reply identifier row

abbrev pub WasFound : (since : ℕ) → Device → Reply → (identifier : ℕ) → Result (Option RowCells) PageFault → Type 0
WasFound since device reply identifier (Ok found) = FoundStands since device reply identifier found
WasFound since device reply identifier (Err fault) = Blames since device reply fault
