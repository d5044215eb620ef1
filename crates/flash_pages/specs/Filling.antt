-- The pages that a run takes when it is written whole.
use Rattle.std.specs.Prelude.{◌≡◌, ℕ, ◌+◌, ◌^◌, ◌<◌, ◌≤◌, true}
use Rattle.edge_traits.specs.Devices.{Device}

-- so many pages from one on are there and blank
pub record CanFill (device : Device) (first pages : ℕ) : Type 0 where
  pub there : first + pages ≤ device.page_count
  pub blank : (page : ℕ) → first ≤ page → page < first + pages → device.blank page ≡ true
  pub small : device.page_count < 2 ^ 32
