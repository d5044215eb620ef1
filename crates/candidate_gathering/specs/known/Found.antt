-- Where a slot lies that is blamed, whatever the pages hold: what was found stood there as a read gave it, in a slot of a file that the
-- job of a query reads by the indexes, or, where pages are not told, of the half of the spool in
-- which its replies lie, or of scratch.
use Rattle.std.specs.Prelude.{◌≡◌, ℕ, ◌<◌, ◌≤◌, Bool, true, false, List, Option}
use Rattle.ghost_model.specs.core.Channel.{Catalog}
use Rattle.ghost_model.specs.core.Query.{Query}
use Rattle.ghost_model.specs.forms.Layout.{scratch_end, spool_end, File, run_of_file}
use Rattle.ghost_model.specs.forms.Runs.{Run, found_in, page_of, slot_of}
use Rattle.ghost_model.specs.forms.Slots.{has_file, in_slot}
use Rattle.edge_traits.specs.Devices.{Device, GaveSince}
use Rattle.flash_pages.specs.Reads.{bytes_in}
use Rattle.leakless_plan.specs.declared.form.Form.{Form}
use Rattle.visible_spool.specs.Areas.{half_begin, half_end}
use Rattle.candidate_gathering.specs.known.Reading.{IsReadByForms}

-- what was found stood in a slot of a run, which has some of the bytes of its page, as a read from that count of calls on gave these
pub record WasFoundAt (since : ℕ) (device : Device) (run : Run) (slot_bytes : (bytes : List ℕ) → (place : ℕ) → List ℕ) (number slot found : ℕ) : Type 0 where
  pub place : ℕ
  pub within : place < run.count
  pub page_is : number ≡ page_of run place
  pub slot_is : slot ≡ slot_of run place
  pub bytes : List ℕ
  pub gave : GaveSince since device bytes (page_of run place)
  pub found_is : found ≡ found_in (slot_bytes bytes place)

-- in a slot of a file that is read
pub record WasFoundInFile (since : ℕ) (device : Device) (cat : Catalog) (read : File → Type 0) (number slot found : ℕ) : Type 0 where
  pub file : File
  pub has : has_file cat.schema file ≡ true
  pub read_for : read file
  pub at : WasFoundAt since device (run_of_file cat file) (λ bytes. in_slot (λ _. bytes) cat file) number slot found

-- in a slot of a run of records, in a page from one on and below another
pub record WasFoundBetween (since : ℕ) (device : Device) (low high number slot found : ℕ) : Type 0 where
  pub from : low ≤ number
  pub to : number < high
  pub run : Run
  pub width : 4 ≤ run.width
  pub at : WasFoundAt since device run (λ bytes. bytes_in bytes run) number slot found

-- a slot that is blamed: of such a file, or, where pages are not told, of the half of the spool in which the replies lie, or of scratch
pub data WasFoundIn (told : Bool) (since : ℕ) (device : Device) (cat : Catalog) (read : File → Type 0) (side number slot found : ℕ) : Type 0 where
  InFile : WasFoundInFile since device cat read number slot found → WasFoundIn told since device cat read side number slot found
  InReplies :
      told ≡ false → WasFoundBetween since device (half_begin cat side) (half_end cat side) number slot found
      → WasFoundIn told since device cat read side number slot found
  InScratch :
      told ≡ false → WasFoundBetween since device (spool_end cat) (scratch_end cat) number slot found
      → WasFoundIn told since device cat read side number slot found

-- one that is blamed for a query, by the forms that a plan may take
abbrev pub WasFoundByForms : (told : Bool) (since : ℕ) → Device → Catalog → Query → (forced : Option Form) → (top side number slot found : ℕ) → Type 0
WasFoundByForms told since device cat asked forced top side number slot found =
    WasFoundIn told since device cat (IsReadByForms cat asked forced top) side number slot found
