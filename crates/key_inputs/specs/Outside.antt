-- The world outside of a command, its link aside, and what an outcome tells of the counts of faults there.
use Rattle.std.specs.Prelude.{◌≡◌, ℕ, List, Option}
use Rattle.ghost_model.specs.core.Causes.{Rose}
use Rattle.edge_traits.specs.Devices.{Device}
use Rattle.edge_traits.specs.Files.{Files}

-- the files of the depot, where it tells them, its counts of failed calls and of failed appends, the flash, what a sink that
-- tells it was written, and the sink's count of failed writes
pub record Outside : Type 0 where
  pub files : Option Files
  pub depot_faults : ℕ
  pub append_faults : ℕ
  pub device : Device
  pub written : Option (List ℕ)
  pub sink_faults : ℕ

abbrev pub outside : Option Files → (depot_faults append_faults : ℕ) → Device → Option (List ℕ) → (sink_faults : ℕ) → Outside
outside files depot_faults append_faults device written sink_faults = record {
  files = files;
  depot_faults = depot_faults;
  append_faults = append_faults;
  device = device;
  written = written;
  sink_faults = sink_faults;
}

-- what an outcome tells of a count of faults: that it rose, that it is as before, or nothing
pub data Verdict : Type 0 where
  Risen : Verdict
  Same : Verdict
  Untold : Verdict

-- and of each count
pub record Verdicts : Type 0 where
  pub sink : Verdict
  pub depot : Verdict
  pub append : Verdict
  pub flash : Verdict

abbrev pub verdicts : (sink depot append flash : Verdict) → Verdicts
verdicts sink depot append flash = record { sink = sink; depot = depot; append = append; flash = flash }

-- a count is what is told of it
pub record IsTold (verdict : Verdict) (before after : ℕ) : Type 0 where
  pub rose : verdict ≡ Risen → Rose before after
  pub same : verdict ≡ Same → after ≡ before

-- each count is what an outcome tells of it: what it blames has failed, and what it clears has not
pub record HasCauses (told : Verdicts) (before after : Outside) : Type 0 where
  pub sink : IsTold told.sink before.sink_faults after.sink_faults
  pub depot : IsTold told.depot before.depot_faults after.depot_faults
  pub append : IsTold told.append before.append_faults after.append_faults
  pub flash : IsTold told.flash before.device.faults after.device.faults
