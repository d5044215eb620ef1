-- What a step counts, and what its fault tells of the flash.
use Rattle.std.specs.Prelude.{◌+◌, ◌-◌, ◌≤◌, ℕ, Result}
use Rattle.edge_traits.specs.Devices.{Counts, Device}
use Rattle.flash_pages.specs.declared.fault.PageFault.{PageFault}
use Rattle.spill_pass.specs.Causes.{CallsAtFault, TellsFault}

-- a step made so many calls of the flash at most, and counted them; the flash is blamed where it failed
pub record Stepped {T : Type 0} (room : ℕ) (before now : Device) (spent later : ℕ) (result : Result T PageFault) : Type 0 where
  pub cause : TellsFault before.faults now.faults result
  pub failed : CallsAtFault before.calls now.calls result
  pub at_most : now.calls ≤ before.calls + room
  pub counted : Counts (later - spent) before.calls now.calls
  pub rises : spent ≤ later
  pub most : later ≤ spent + room
