-- Lists of identifiers on flash, and what several of them have together.
use Rattle.std.specs.Prelude.{◌≡◌, ℕ, ◌+◌, ◌<◌, ◌≤◌, ◌⊎◌, if◌then◌else◌, List, Some}
use Rattle.ghost_model.specs.forms.Runs as runs
use Rattle.ghost_model.specs.forms.Gaps.{are_codes, bytes_at, listed, reading_of}
use Rattle.ghost_base.specs.declared.runs.Run.{Run}
use Rattle.ghost_base.specs.declared.runs.ListRef.{ListRef}
use Rattle.ghost_base.specs.Runs.{run_of}
use Rattle.edge_traits.specs.Devices.{Device}
use Rattle.flash_pages.specs.Runs.{HasRun}
use Rattle.flash_pages.specs.Cursors.{IsListWidth}

-- the identifier of a number that the pages have in a list: in its record, or as the sum of its codes
abbrev pub id_of : (page : ℕ → List ℕ) → ListRef → (i : ℕ) → ℕ
id_of page list i = listed page (run_of list.run) list.first i

-- how many identifiers a whole page of a run has at least: a code has three bytes at most
abbrev pub ids_in_page : Run → ℕ
ids_in_page run = if are_codes (run_of run) then 682 else runs.per_page run.width

-- the pages have the identifier in the list
pub record InList (page : ℕ → List ℕ) (list : ListRef) (id : ℕ) : Type 0 where
  pub at : ℕ
  pub within : at < list.count
  pub is : id ≡ id_of page list at

-- by right pages, the identifiers of the list ascend, from 1 to the rows; where the pages have an identifier of the rows it is the
-- right one
pub record IsOrdered (page right : ℕ → List ℕ) (rows : ℕ) (list : ListRef) : Type 0 where
  pub above : (i : ℕ) → i < list.count → 0 < id_of right list i
  pub order : (i j : ℕ) → i < j → j < list.count → id_of right list i < id_of right list j
  pub within : (i : ℕ) → i < list.count → id_of right list i ≤ rows
  pub same : (i : ℕ) → i < list.count → 0 < id_of page list i → id_of page list i ≤ rows → id_of page list i ≡ id_of right list i

-- the device has the pages of the list
pub record IsReadable (device : Device) (list : ListRef) : Type 0 where
  pub run : HasRun device (run_of list.run)
  pub width : IsListWidth list.run.width
  pub within : list.first + list.count ≤ list.run.count

-- no page of the list's run lies in an area
abbrev pub ListOutside : (low high : ℕ) → ListRef → Type 0
ListOutside low high list =
    (i : ℕ) → i < list.run.count → (runs.page_of (run_of list.run) i < low) ⊎ (high ≤ runs.page_of (run_of list.run) i)

-- by the bytes of the pages, the slot is one that reading of the list gets to by identifiers that do not pass the rows, and has no
-- identifier of the rows
pub record OutOfRowsIn (page : ℕ → List ℕ) (list : ListRef) (rows number slot found : ℕ) : Type 0 where
  pub at : ℕ
  pub within : at < list.count
  pub place : ℕ
  pub last : ℕ
  pub gets : reading_of page (run_of list.run) list.first at ≡ Some (record { place = place; last = last })
  pub kept : last ≤ rows
  pub page_is : number ≡ runs.page_of (run_of list.run) place
  pub slot_is : slot ≡ runs.slot_of (run_of list.run) place
  pub found_is : found ≡ runs.found_in (bytes_at page (run_of list.run) place)
  pub out : 0 < id_of page list at → id_of page list at ≤ rows → ⊥
