-- A catalog with a database of it, and a script within its limits, are the setting of an honest session.
use Rattle.std.proofs.Common.{ℕ, ◌≤◌, List, length, Bool}
use Rattle.ghost_model.specs.forms.Catalog.{IsCatalog}
use Rattle.ghost_model.specs.core.Channel.{Catalog}
use Rattle.ghost_model.specs.core.Honest.{IsSetting, IsCatalogOf}
use Rattle.ghost_model.specs.core.Values.{Database}
use Rattle.leakless_plan.specs.declared.plan.Plan.{Plan}
use Rattle.leakless_plan.specs.declared.plan.Plan.TheVariants.{Scan, Linked}
use Rattle.key_exec.specs.Reading.{KnowsBy}

pub setting : (cat : Catalog) (texts : List (List ℕ)) → IsCatalog cat → length texts ≤ 64 → IsSetting cat texts
setting cat texts proper few = record { proper = proper; few = few }

pub stored : (plan : Plan) (told : Bool) (page : ℕ → List ℕ) (cat : Catalog) (database : Database) → IsCatalog cat
    → KnowsBy plan told page cat database → IsCatalogOf cat database
stored Scan told page cat database proper knows = record { proper = proper; is_database = knows.is; counts_are = knows.counts }
stored (Linked forced) told page cat database proper knows = record { proper = proper; is_database = knows.0.is; counts_are = knows.0.counts }
