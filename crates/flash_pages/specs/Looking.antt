-- What a look at one record of a cursor's list gives.
use Rattle.std.specs.Prelude.{◌≡◌, ℕ, ◌+◌, ◌<◌, ⊤, List}
use Rattle.ghost_model.specs.forms.Runs as runs
use Rattle.edge_traits.specs.Devices.{Device}
use Rattle.flash_pages.specs.declared.cursor.RunCursor.{RunCursor}
use Rattle.flash_pages.specs.declared.fault.PageFault.{PageFault}
use Rattle.flash_pages.specs.declared.fault.PageFault.TheVariants.{Flash, Damaged}
use Rattle.ghost_base.specs.Runs.{run_of}
use Rattle.flash_pages.specs.Cursors.{GivesDamage, BlamesSlot, page_next}

-- a record of the list that stands in the page of the next one
pub record IsInPage (cursor : RunCursor) (at : ℕ) : Type 0 where
  pub within : at < cursor.list.count
  pub same_page : runs.page_of (run_of cursor.list.run) (cursor.list.first + at) ≡ page_next cursor

-- the slot that a fault blames, if it blames one, is that of the record
abbrev pub DamagesAt : (ℕ → List ℕ) → RunCursor → (at : ℕ) → PageFault → Type 0
DamagesAt page cursor at Flash = ⊤
DamagesAt page cursor at (Damaged number slot found) = GivesDamage page cursor at (cursor.list.first + at) found

abbrev pub BlamesAt : (since : ℕ) → Device → RunCursor → (at : ℕ) → PageFault → Type 0
BlamesAt since device cursor at Flash = ⊤
BlamesAt since device cursor at (Damaged number slot found) = BlamesSlot since device cursor at (cursor.list.first + at) number slot found
