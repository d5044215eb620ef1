-- What every reader of a page under a lease says besides its value. The page is read unless the buffer was filled from it.
use Rattle.std.specs.Prelude.{◌≡◌, ℕ, ◌+◌, ◌≤◌, ◌&&◌, Bool, true, if◌then◌else◌, nat_le, List, drop, Option, Some, None, Result, Ok, Err, IfSome, IfErr, OnOk}
use Rattle.ghost_model.specs.core.Causes.{Rose}
use Rattle.ghost_model.specs.forms.Runs as runs
use Rattle.ghost_model.specs.forms.Gaps.{are_codes}
use Rattle.edge_traits.specs.Devices.{Device, KeepsPages, GaveSince, first_deep_page, next_if}
use Rattle.page_pool.specs.Pools.{Pool, IsOut, ChangesPage, bytes_at, page_at}
use Rattle.flash_pages.specs.declared.fault.PageFault.{PageFault}
use Rattle.flash_pages.specs.declared.fault.PageFault.TheVariants.{Flash, Damaged}
use Rattle.flash_pages.specs.Holding.{is_apart}

-- where pages are told, a buffer has the page that it is noted to be filled from
abbrev pub IsFilled : Bool → (ℕ → List ℕ) → Pool → (lease : ℕ) → Type 0
IsFilled told page pool lease = IfSome (page_at pool lease) (λ number. told ≡ true → bytes_at pool lease ≡ page number)

-- a reader may use a buffer: it is out, and has the page that it is noted to be filled from
pub record CanRead (told : Bool) (device : Device) (pool : Pool) (lease : ℕ) : Type 0 where
  pub out : IsOut pool lease
  pub filled : IsFilled told device.page pool lease

-- a page must be read before it stands in a buffer
abbrev pub must_read : Pool → (lease page : ℕ) → Bool
must_read pool lease page = is_apart (page_at pool lease) page

-- the page that a buffer is noted to be filled from has what a read from that count of calls on gave
abbrev pub WasGiven : (since : ℕ) → Device → Pool → (lease : ℕ) → Type 0
WasGiven since device pool lease = IfSome (page_at pool lease) (GaveSince since device (bytes_at pool lease))

-- the record at a place of a run has these bytes, as a read from that count of calls on gave them
pub record WasRead (since : ℕ) (device : Device) (run : runs.Run) (place : ℕ) (record_bytes : List ℕ) : Type 0 where
  pub bytes : List ℕ
  pub gave : GaveSince since device bytes (runs.page_of run place)
  pub record_is : record_bytes ≡ runs.cell_in bytes run.width (runs.slot_of run place)

-- what stands at a place of a list's run, in a page with these bytes: a record, or all bytes to the page's end where it has codes
abbrev pub bytes_in : (bytes : List ℕ) → runs.Run → (place : ℕ) → List ℕ
bytes_in bytes run place =
    if are_codes run then drop (runs.slot_of run place) bytes else runs.cell_in bytes run.width (runs.slot_of run place)

-- these stand there, as a read from that count of calls on gave them
pub record WasListed (since : ℕ) (device : Device) (run : runs.Run) (place : ℕ) (listed_bytes : List ℕ) : Type 0 where
  pub bytes : List ℕ
  pub gave : GaveSince since device bytes (runs.page_of run place)
  pub are : listed_bytes ≡ bytes_in bytes run place

-- What a fault tells of the device. The flash is blamed for a call that was to be made: the last one, which counted a fault.
-- Where a slot is blamed, no fault was counted.
pub record FlashFailed (before now : Device) (called : Type 0) : Type 0 where
  pub cause : Rose before.faults now.faults
  pub last : now.since_fault ≡ 0
  pub made : called

abbrev pub FaultTells : (before now : Device) → (called : Type 0) → PageFault → Type 0
FaultTells before now called Flash = FlashFailed before now called
FaultTells before now called (Damaged page slot found) = now.faults ≡ before.faults

-- the page that a buffer is noted to be filled from after a call that needed it
abbrev pub left_by : PageFault → (page : ℕ) → Option ℕ
left_by Flash page = None
left_by (Damaged number slot found) page = Some page

abbrev pub page_after : {T : Type 0} → Result T PageFault → (page : ℕ) → Option ℕ
page_after (Ok given) page = Some page
page_after (Err fault) page = left_by fault page

-- One page is read at most, that with a number, under a lease. The buffer has that page then, and none where the flash failed.
pub record Reads {T : Type 0} (told : Bool) (before now : Device) (pool later : Pool) (lease : ℕ) (reads : Bool) (number : ℕ) (result : Result T PageFault) : Type 0 where
  pub kept : KeepsPages before now
  pub calls : now.calls ≡ next_if reads before.calls
  pub at_most : now.calls ≤ before.calls + 1
  pub deep_reads : now.deep_reads ≡ next_if (reads && nat_le first_deep_page number) before.deep_reads
  pub no_fault : OnOk result (now.faults ≡ before.faults)
  pub fault : IfErr result (FaultTells before now (reads ≡ true))
  pub buffer : ChangesPage pool later lease
  pub holds : page_at later lease ≡ page_after result number
  pub ready : CanRead told now later lease
  pub given : (since : ℕ) → since ≤ before.calls → WasGiven since before pool lease → WasGiven since now later lease

-- Some pages are read, so many at most, under a lease.
pub record ReadsPages {T : Type 0} (told : Bool) (before now : Device) (pool later : Pool) (lease most : ℕ) (result : Result T PageFault) : Type 0 where
  pub kept : KeepsPages before now
  pub at_most : now.calls ≤ before.calls + most
  pub deep_reads : now.deep_reads ≤ before.deep_reads + most
  pub no_fault : OnOk result (now.faults ≡ before.faults)
  pub fault : IfErr result (FaultTells before now (Rose before.calls now.calls))
  pub buffer : ChangesPage pool later lease
  pub ready : CanRead told now later lease
  pub given : (since : ℕ) → since ≤ before.calls → WasGiven since before pool lease → WasGiven since now later lease
