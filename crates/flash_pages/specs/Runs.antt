-- Runs on a device: which may be read, and what a reader has of their pages.
use Rattle.std.specs.Prelude.{ℕ, ◌^◌, ◌<◌, ◌≤◌}
use Rattle.ghost_model.specs.forms.Runs as runs
use Rattle.edge_traits.specs.Devices.{Device}

-- the device has every page of a run, and a record has a width that may be
pub record HasRun (device : Device) (run : runs.Run) : Type 0 where
  pub some : 0 < run.width
  pub fits : run.width ≤ 2048
  pub pages : (i : ℕ) → i < run.count → runs.page_of run i < device.page_count
  pub small : device.page_count < 2 ^ 32
