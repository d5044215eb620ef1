-- The catalog with which the public pages of a device begin, where it is of the version that is made.
use Rattle.std.specs.Prelude.{◌≡◌}
use Rattle.ghost_model.specs.core.Channel.{Catalog}
use Rattle.ghost_model.specs.forms.Catalog.{current_version}
use Rattle.edge_traits.specs.Devices.{Device}
use Rattle.key_migrate.specs.PublicPages as pages

pub record HasCatalog (device : Device) (cat : Catalog) : Type 0 where
  pub on_pages : pages.HasCatalog device cat
  pub current : cat.version ≡ current_version

abbrev pub HasNoCatalog : Device → Type 0
HasNoCatalog device = (cat : Catalog) → HasCatalog device cat → ⊥
