-- A run that is being written: so many whole pages, and some records in a buffer for the next one.
use Rattle.std.specs.Prelude.{◌≡◌, ℕ, ◌+◌, ◌-◌, ◌*◌, ◌/◌, ◌%◌, ◌<◌, ◌≤◌, ◌&&◌, Bool, true, false, if◌then◌else◌, List, [], length, drop, replicate, get_or, nat_eq}
use Rattle.ghost_model.specs.forms.Runs as runs
use Rattle.edge_traits.specs.Devices.{Device}

-- a page is erased with its block before it is written: it is the first one of its block, and that is asked for
abbrev pub erases : (page : ℕ) (erase : Bool) → Bool
erases page erase = erase && nat_eq (page % 64) 0

-- the page up to which a write of a page changes the device, and the calls that it makes
abbrev pub reach : (page : ℕ) (erase : Bool) → ℕ
reach page erase = if erases page erase then page + 64 else page + 1

abbrev pub page_calls : (page : ℕ) (erase : Bool) → ℕ
page_calls page erase = if erases page erase then 2 else 1

-- the end of the block in which a page stands, and the page itself where a block begins with it
abbrev pub block_end : ℕ → ℕ
block_end page = 64 * ((page + 63) / 64)

-- where blocks are erased, what is left of the block that was begun is blank
abbrev pub IsEntered : Device → (page : ℕ) (erase : Bool) → Type 0
IsEntered device page erase = erase ≡ true → (other : ℕ) → page ≤ other → other < block_end page → device.blank other ≡ true

-- a page may be written
pub record CanWritePage (device : Device) (page : ℕ) (erase : Bool) : Type 0 where
  pub in_range : page < device.page_count
  pub blank : erase ≡ false → device.blank page ≡ true
  pub entered : IsEntered device page erase

-- these records were put: those of whole pages are on the device, and the others in the buffer. What is left over is 0xFF
pub record IsWriting (told : Bool) (page : ℕ → List ℕ) (bytes : List ℕ) (first width pages held : ℕ) (records : List (List ℕ)) : Type 0 where
  pub count : pages * runs.per_page width + held ≡ length records
  pub written :
      told ≡ true → (i : ℕ) → i < pages * runs.per_page width
      → runs.cell_in (page (first + i / runs.per_page width)) width (i % runs.per_page width) ≡ get_or records i []
  pub written_rest :
      told ≡ true → (place : ℕ) → place < pages
      → drop (runs.per_page width * width) (page (first + place)) ≡ replicate (2048 - runs.per_page width * width) 0xff
  pub buffered :
      (slot : ℕ) → slot < held
      → runs.cell_in bytes width slot ≡ get_or records (pages * runs.per_page width + slot) []
  pub rest : 0 < held → drop (held * width) bytes ≡ replicate (2048 - held * width) 0xff
