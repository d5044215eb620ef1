-- The catalogs that there are: a schema that some text means, the number of rows of each of its tables, at most a
-- million, a generation, which is not 0, and a version that there is. One that is made anew has the current version.
use Rattle.std.specs.Prelude.{◌≡◌, ℕ, ◌<◌, nat_le, Bool, true, IsTrue, List, length}
use Rattle.std.specs.List.{list_all}
use Rattle.ghost_model.specs.core.Schema.{Schema}
use Rattle.ghost_model.specs.core.Channel.{Catalog}
use Rattle.ghost_model.specs.forms.Catalog.{is_version, current_version}
use Rattle.tree_schema.specs.Schemas.{IsDeclared}

abbrev pub catalog_of_version : (version : ℕ) → Schema → List ℕ → ℕ → Catalog
catalog_of_version version schema counts generation =
    record { schema = schema; counts = counts; generation = generation; version = version }

abbrev pub catalog_of : Schema → List ℕ → ℕ → Catalog
catalog_of schema counts generation = catalog_of_version current_version schema counts generation

abbrev pub are_counts : List ℕ → Bool
are_counts counts = list_all (λ rows. nat_le rows 1_000_000) counts

pub record IsCatalog (cat : Catalog) : Type 0 where
  pub declared : IsDeclared cat.schema
  pub one_each : length cat.counts ≡ length cat.schema
  pub within : IsTrue (are_counts cat.counts)
  pub used : 0 < cat.generation
  pub some_version : is_version cat.version ≡ true
