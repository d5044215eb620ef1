-- What lies in the ranges that a catalog sets: the rows of its tables, and a device that has all its pages.
use Rattle.std.specs.Prelude.{ℕ, ◌<◌, ◌≤◌, ◌^◌}
use Rattle.ghost_model.specs.core.Channel.{Catalog}
use Rattle.ghost_model.specs.forms.Layout.{need, count_of}
use Rattle.edge_traits.specs.Devices.{Device}

-- the device has all pages of a catalog
pub record Suffices (cat : Catalog) (device : Device) : Type 0 where
  pub pages : need cat ≤ device.page_count
  pub small : device.page_count < 2 ^ 32

-- an identifier of a row of a table
pub record IsRowOf (cat : Catalog) (table identifier : ℕ) : Type 0 where
  pub some : 1 ≤ identifier
  pub within : identifier ≤ count_of cat table
