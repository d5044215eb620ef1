-- A writer's next page, and what its calls do.
use Rattle.std.specs.Prelude.{◌≡◌, ℕ, ◌+◌, ◌^◌, ◌<◌, ◌≤◌, Bool, if◌then◌else◌, List, nat_eq, nat_lt, Result, OnOk, OnErr}
use Rattle.ghost_model.specs.forms.Runs as runs
use Rattle.ghost_model.specs.core.Causes.{HasCause, Rose}
use Rattle.edge_traits.specs.Devices.{Device, Counts, ChangesOnly}
use Rattle.page_pool.specs.Pools.{Pool, bytes_at}
use Rattle.ghost_base.specs.declared.runs.Run.{Run}
use Rattle.flash_pages.specs.declared.filler.RunFiller.{RunFiller}
use Rattle.flash_pages.specs.declared.writer.RunWriter.{RunWriter}
use Rattle.edge_traits.specs.declared.Failed.{Failed}
use Rattle.flash_pages.specs.Writing.{page_calls, CanWritePage, IsWriting}

-- the page that is written next
abbrev pub next_page : RunFiller → ℕ
next_page writer = writer.first + writer.pages

-- the next record fills its page
abbrev pub fills : RunFiller → Bool
fills writer = nat_eq (writer.held + 1) (runs.per_page writer.width)

-- records wait for their page
abbrev pub waits : RunFiller → Bool
waits writer = nat_lt 0 writer.held

-- the calls that the next record makes, and those of the last page
abbrev pub put_calls : RunFiller → ℕ
put_calls writer = if fills writer then page_calls (next_page writer) writer.erase else 0

abbrev pub finish_calls : RunFiller → ℕ
finish_calls writer = if waits writer then page_calls (next_page writer) writer.erase else 0

-- the next page may be written
pub record CanWrite (device : Device) (writer : RunFiller) : Type 0 where
  pub page : CanWritePage device (next_page writer) writer.erase
  pub small : device.page_count < 2 ^ 32

-- these records were put
abbrev pub HasWritten : Bool → (ℕ → List ℕ) → List ℕ → RunFiller → List (List ℕ) → Type 0
HasWritten told page bytes writer records =
    IsWriting told page bytes writer.first writer.width writer.pages writer.held records

-- it is a writer of the same run
pub record SameRun (before now : RunFiller) : Type 0 where
  pub first : now.first ≡ before.first
  pub width : now.width ≡ before.width
  pub erase : now.erase ≡ before.erase

-- the run of all records that were put
pub record IsRunOf (writer : RunFiller) (run : Run) : Type 0 where
  pub first : run.first ≡ writer.first
  pub count : run.count ≡ writer.count
  pub width : run.width ≡ writer.width

-- these records were put, those of whole pages on the device and the others in the buffer of the writer's lease
abbrev pub HasPut : Bool → (ℕ → List ℕ) → Pool → RunWriter → List (List ℕ) → Type 0
HasPut told page pool writer records = HasWritten told page (bytes_at pool writer.lease) writer.filler records

-- it has a record more: it waits for its page, or filled it
pub record HasOneMore (before now : RunFiller) : Type 0 where
  pub count : now.count ≡ before.count + 1
  pub pages : now.pages ≡ before.pages + (if fills before then 1 else 0)
  pub held : now.held ≡ (if fills before then 0 else before.held + 1)

-- What every call that writes pages says besides their bytes: only pages from `low` on and below `high` change, by so many
-- calls, and none after a failed one.
pub record Writes {T : Type 0} (before now : Device) (low high calls : ℕ) (result : Result T Failed) : Type 0 where
  pub others : ChangesOnly low high before now
  pub exact : OnOk result (Counts calls before.calls now.calls)
  pub at_most : now.calls ≤ before.calls + calls
  pub deep_reads : now.deep_reads ≡ before.deep_reads
  pub cause : HasCause before.faults now.faults result
  pub last : OnErr result (now.since_fault ≡ 0)
  pub called : OnErr result (Rose before.calls now.calls)
