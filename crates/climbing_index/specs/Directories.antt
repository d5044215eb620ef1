-- The directory of an index and its level files, and what calls on them give.
use Rattle.std.specs.Prelude.{◌≡◌, ℕ, ◌+◌, ◌*◌, ◌≤◌, ⊤, Bool, true, false, ◌&&◌, nat_le, List, [], ◌∷◌, length, take, drop, is_some, Option, Some, None, slice_get, option_map, Result, Ok, Err, IfOk, IfErr, OnOk}
use Rattle.ghost_model.specs.core.Schema.{plain_of}
use Rattle.ghost_model.specs.forms.Cells.{cell_width}
use Rattle.ghost_model.specs.readings.CellReading.{decode_cell}
use Rattle.ghost_model.specs.forms.Runs as runs
use Rattle.ghost_model.specs.forms.Runs.{record_at, page_of, slot_of, found_in, number_in}
use Rattle.ghost_model.specs.forms.Slots.{list_end}
use Rattle.ghost_model.specs.laws.ShortWords.{first_listed}
use Rattle.edge_traits.specs.Devices.{Device}
use Rattle.ghost_base.specs.Runs.{run_of}
use Rattle.ghost_base.specs.Views.{kind_of}
use Rattle.ghost_base.specs.declared.kind.Kind.{Kind}
use Rattle.ghost_base.specs.declared.runs.ListRef.{ListRef}
use Rattle.flash_pages.specs.declared.fault.PageFault.{PageFault}
use Rattle.flash_pages.specs.declared.fault.PageFault.TheVariants.{Flash, Damaged}
use Rattle.flash_pages.specs.Runs.{HasRun}
use Rattle.flash_pages.specs.Reads.{WasRead}
use Rattle.climbing_index.specs.declared.directory.Directory.{Directory}
use Rattle.climbing_index.specs.declared.directory.LevelFile.{LevelFile}

-- the run of a level file: its single bytes
abbrev pub file_of : LevelFile → runs.Run
file_of file = record { first = file.first; count = file.count; width = 1 }

-- the width of the cells of a kind, 0 where there is none
abbrev pub most_cell : Option Kind → ℕ
most_cell None = 0
most_cell (Some kind) = cell_width (kind_of kind)

-- and without the byte that tells NULL
abbrev pub plain_cell : Option Kind → ℕ
plain_cell None = 0
plain_cell (Some kind) = cell_width (plain_of (kind_of kind))

-- a directory may be read, and its lists: the device has their pages, and an entry is as wide as its cell and places
pub record IsReadable (device : Device) (directory : Directory) : Type 0 where
  pub has : HasRun device (run_of directory.run)
  pub wide : directory.run.width ≡ directory.cell + 8 * length directory.levels.items
  pub cell : directory.cell ≡ most_cell directory.kind
  pub narrow : directory.cell ≤ 65
  pub plain : plain_cell directory.kind ≤ 64
  pub few : length directory.levels.items ≤ 12
  pub lists : (level : ℕ) (file : LevelFile) → slice_get directory.levels.items level ≡ Some file → HasRun device (file_of file)

-- whether bytes spell a value of a kind, where there is one
abbrev pub spells : Option Kind → List ℕ → Bool
spells None bytes = true
spells (Some kind) bytes = is_some (decode_cell (kind_of kind) bytes)

-- whether places of lists end within their level files
abbrev pub are_places : (levels : List LevelFile) → List ℕ → Bool
are_places [] bytes = true
are_places (level ∷ levels) bytes = nat_le (list_end bytes) level.count && are_places levels (drop 8 bytes)

-- whether bytes may stand in a slot of the directory, whatever stands in others
abbrev pub entry_stands : Directory → List ℕ → Bool
entry_stands directory bytes = spells directory.kind (take directory.cell bytes) && are_places directory.levels.items (drop directory.cell bytes)

-- an entry, counted from 0: its page, its bytes, and those that say where its list at a level stands
abbrev pub entry_page : Directory → (entry : ℕ) → ℕ
entry_page directory entry = page_of (run_of directory.run) entry

abbrev pub entry_bytes : (ℕ → List ℕ) → Directory → (entry : ℕ) → List ℕ
entry_bytes page directory entry = record_at page (run_of directory.run) entry

abbrev pub place_bytes : Directory → List ℕ → (level : ℕ) → List ℕ
place_bytes directory bytes level = drop (directory.cell + 8 * level) bytes

-- A slot of a run is damaged: what stands there may not.
pub record HasDamage (page : ℕ → List ℕ) (run : runs.Run) (stands : List ℕ → Bool) (place number slot found : ℕ) : Type 0 where
  pub page_is : number ≡ page_of run place
  pub slot_is : slot ≡ slot_of run place
  pub wrong : stands (record_at page run place) ≡ false
  pub found_is : found ≡ found_in (record_at page run place)

abbrev pub FailsAt : (ℕ → List ℕ) → runs.Run → (List ℕ → Bool) → (place : ℕ) → PageFault → Type 0
FailsAt page run stands place Flash = ⊤
FailsAt page run stands place (Damaged number slot found) = HasDamage page run stands place number slot found

-- A slot of a run is blamed: what a read from that count of calls on gave there may not stand.
pub record BlamesSlot (since : ℕ) (device : Device) (run : runs.Run) (stands : List ℕ → Bool) (place number slot found : ℕ) : Type 0 where
  pub page_is : number ≡ page_of run place
  pub slot_is : slot ≡ slot_of run place
  pub bytes : List ℕ
  pub read : WasRead since device run place bytes
  pub wrong : stands bytes ≡ false
  pub found_is : found ≡ found_in bytes

abbrev pub BlamesRecord : (since : ℕ) → Device → runs.Run → (List ℕ → Bool) → (place : ℕ) → PageFault → Type 0
BlamesRecord since device run stands place Flash = ⊤
BlamesRecord since device run stands place (Damaged number slot found) = BlamesSlot since device run stands place number slot found

-- the slot that is blamed is one of that page
abbrev pub BlamesPage : (page : ℕ) → PageFault → Type 0
BlamesPage page Flash = ⊤
BlamesPage page (Damaged number slot found) = number ≡ page

-- what a call gives, by the bytes of the pages
abbrev pub GivesEntry : (ℕ → List ℕ) → Directory → (entry : ℕ) (bytes : List ℕ) → Result Unit PageFault → Type 0
GivesEntry page directory entry bytes (Ok _) = bytes ≡ entry_bytes page directory entry
GivesEntry page directory entry bytes (Err fault) = FailsAt page (run_of directory.run) (entry_stands directory) entry fault

-- a list is the one of which bytes of an entry say where it stands at a level
pub record GivesPlace (directory : Directory) (bytes : List ℕ) (level : ℕ) (list : ListRef) : Type 0 where
  pub first : list.first ≡ first_listed (place_bytes directory bytes level)
  pub count : list.count ≡ number_in (place_bytes directory bytes level) 4

pub record GivesListed (page : ℕ → List ℕ) (directory : Directory) (entry level : ℕ) (list : ListRef) : Type 0 where
  pub stands : entry_stands directory (entry_bytes page directory entry) ≡ true
  pub place : GivesPlace directory (entry_bytes page directory entry) level list

abbrev pub GivesList : (ℕ → List ℕ) → Directory → (entry level : ℕ) → Result ListRef PageFault → Type 0
GivesList page directory entry level (Ok list) = GivesListed page directory entry level list
GivesList page directory entry level (Err fault) = FailsAt page (run_of directory.run) (entry_stands directory) entry fault

-- what a read from that count of calls on gave: the entry, or what may not stand in its slot
abbrev pub WasEntry : (since : ℕ) → Device → Directory → (entry : ℕ) (bytes : List ℕ) → Result Unit PageFault → Type 0
WasEntry since device directory entry bytes (Ok _) = WasRead since device (run_of directory.run) entry bytes
WasEntry since device directory entry bytes (Err fault) = BlamesRecord since device (run_of directory.run) (entry_stands directory) entry fault

-- Whatever the pages have: an entry that is given may stand in its slot, a slot that is blamed is one of its page, and the
-- directory may be read on.
pub record GivesStanding (device : Device) (directory : Directory) (entry : ℕ) (bytes : List ℕ) (result : Result Unit PageFault) : Type 0 where
  pub stands : OnOk result (entry_stands directory bytes ≡ true)
  pub page : IfErr result (BlamesPage (entry_page directory entry))
  pub readable : IsReadable device directory

-- the same of a list: it lies in the level's file
pub record GivesWithin (readable_on : Type 0) (directory : Directory) (entry level : ℕ) (result : Result ListRef PageFault) : Type 0 where
  pub run : IfOk result (λ list. option_map file_of (slice_get directory.levels.items level) ≡ Some (run_of list.run))
  pub within : IfOk result (λ list. list.first + list.count ≤ list.run.count)
  pub page : IfErr result (BlamesPage (entry_page directory entry))
  pub readable : readable_on
