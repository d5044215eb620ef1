-- A flash is sealed by the catalog on its public pages. As long as page 0 is blank, they spell no catalog. At version 2 the gate and
-- the header that it names stand before any page of the catalog does.
use Rattle.std.specs.Prelude.{◌≡◌, ℕ, ◌<◌, ◌≤◌, Bool, false, ◌&&◌, ◌||◌, ◌==◌, nat_lt, not, List, flat_map}
use Rattle.ghost_model.specs.core.Channel.{Catalog}
use Rattle.ghost_model.specs.core.Split.{Hidden}
use Rattle.ghost_model.specs.forms.Catalog.{BeginsWithCatalog, current_version}
use Rattle.ghost_model.specs.forms.Flash.{HoldsFiles, HoldsFresh, catalog_page}
use Rattle.ghost_model.specs.forms.Layout.{below, catalog_pages, public_pages, gate_page, header_page, fresh_half}
use Rattle.ghost_model.specs.laws.ShortWords as short

-- the bytes of the pages for a catalog's bytes, which are public at each version
unfoldable pub public_bytes : (ℕ → List ℕ) → List ℕ
public_bytes page = flat_map page (below catalog_pages)

-- they do not begin with a catalog
abbrev pub SpellsNoCatalog : (ℕ → List ℕ) → Type 0
SpellsNoCatalog page = (cat : Catalog) → BeginsWithCatalog (public_bytes page) cat → ⊥

-- the pages for a catalog's bytes are, from one on, the catalog's
abbrev pub HoldsFrom : (first : ℕ) → (ℕ → List ℕ) → Catalog → Type 0
HoldsFrom first page cat = (place : ℕ) → first ≤ place → place < catalog_pages → page place ≡ catalog_page cat place

-- all public pages but page 0 have what they are to have
pub record HoldsButPage0 (page : ℕ → List ℕ) (cat : Catalog) : Type 0 where
  pub later : HoldsFrom 1 page cat
  pub fresh : cat.version ≡ current_version → HoldsFresh page cat

-- all but page 0 stands, the files too
pub record StandsButPage0 (page : ℕ → List ℕ) (cat : Catalog) (hidden : Hidden) : Type 0 where
  pub public : HoldsButPage0 page cat
  pub files : HoldsFiles page cat hidden

-- the page of the gate and that of the header that it names
abbrev pub is_of_gate : Catalog → (place : ℕ) → Bool
is_of_gate cat place = not (cat.version == 1) && (place == gate_page || place == header_page (fresh_half cat))

-- the public pages that are written, as long as nothing fails
abbrev pub is_sealed : Catalog → (place : ℕ) → Bool
is_sealed cat place = nat_lt place (short.catalog_pages cat) || is_of_gate cat place

-- no other public page is written
abbrev pub LeavesOthers : {X : Type 0} → (is_written : ℕ → Bool) → (before now : ℕ → X) → Type 0
LeavesOthers is_written before now = (place : ℕ) → is_written place ≡ false → now place ≡ before place
