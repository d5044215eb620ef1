-- The catalog with which the public pages of a device begin, of whichever version it is. A device without pages has none. What
-- follows the catalog's bytes there is left alone.
use Rattle.std.specs.Prelude.{ℕ, ◌≤◌, List, flat_map}
use Rattle.ghost_model.specs.core.Channel.{Catalog}
use Rattle.ghost_model.specs.forms.Catalog.{BeginsWithCatalog}
use Rattle.ghost_model.specs.forms.Layout.{below, catalog_pages}
use Rattle.edge_traits.specs.Devices.{Device}
use Rattle.flash_build.specs.Sealing.{public_bytes}

pub record HasCatalog (device : Device) (cat : Catalog) : Type 0 where
  pub pages : catalog_pages ≤ device.page_count
  pub begins : BeginsWithCatalog (public_bytes device.page) cat

abbrev pub HasNoCatalog : Device → Type 0
HasNoCatalog device = (cat : Catalog) → HasCatalog device cat → ⊥

-- the bytes of the pages before one
unfoldable pub bytes_before : (ℕ → List ℕ) → (place : ℕ) → List ℕ
bytes_before page place = flat_map page (below place)

-- those of the pages that can hold bytes of a catalog
abbrev pub front_bytes : (ℕ → List ℕ) → List ℕ
front_bytes page = bytes_before page 9
