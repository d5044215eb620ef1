-- What a call does that writes files of an index.
use Rattle.std.specs.Prelude.{◌≡◌, ℕ, ◌+◌, ◌≤◌, Result, OnOk}
use Rattle.edge_traits.specs.Devices.{Device, Counts, ChangesOnly}
use Rattle.index_files.specs.declared.faults.IndexFault.{IndexFault}
use Rattle.index_files.specs.Faults.{IndexCause, EndsAtFault}

-- what a call does that writes so many pages, all of them from `low` on and below `high`, each once: it may lack memory or
-- fail with the flash, and makes no call after a failed one
pub record Writes {T : Type 0} (low high pages : ℕ) (before now : Device) (result : Result T IndexFault) : Type 0 where
  pub others : ChangesOnly low high before now
  pub exact : OnOk result (Counts pages before.calls now.calls)
  pub at_most : now.calls ≤ before.calls + pages
  pub deep_reads : now.deep_reads ≡ before.deep_reads
  pub cause : IndexCause before.faults now.faults result
  pub last : EndsAtFault now.since_fault result
