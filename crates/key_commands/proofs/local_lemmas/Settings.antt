-- The setting of a session in the catalog of a database.
use Rattle.std.proofs.Common.{◌≡◌, ℕ, ◌≤◌, List, length}
use Rattle.ghost_model.specs.forms.Catalog.{IsCatalog}
use Rattle.ghost_model.specs.core.Channel.{Catalog}
use Rattle.ghost_model.specs.core.Database.{IsDatabase, row_counts}
use Rattle.ghost_model.specs.core.Honest.{IsSetting, IsCatalogOf}
use Rattle.ghost_model.specs.core.Values.{Database}

-- a catalog and at most 64 texts are one
pub setting_of : (catalog : Catalog) (texts : List (List ℕ)) → IsCatalog catalog → length texts ≤ 64 → IsSetting catalog texts
setting_of catalog texts is few = record { proper = is; few = few }

-- the catalog of a database is stored
pub stored_of : (catalog : Catalog) (database : Database) → IsCatalog catalog → IsDatabase catalog.schema database → row_counts database ≡ catalog.counts
    → IsCatalogOf catalog database
stored_of catalog database is are counts = record { proper = is; is_database = are; counts_are = counts }
