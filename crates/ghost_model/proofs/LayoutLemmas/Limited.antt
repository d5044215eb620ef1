-- A catalog is within the limits.
use Rattle.ghost_model.specs.core.Channel.{Catalog}
use Rattle.ghost_model.specs.forms.Catalog.{IsCatalog, canonical_text}
use Rattle.ghost_model.specs.laws.LayoutLaws.{IsLimited}
use Rattle.ghost_model.proofs.SchemaTreeLemmas.{schemas_are_trees}

pub limited_by : (cat : Catalog) → IsCatalog cat → IsLimited cat
limited_by cat proper =
    record { tree = schemas_are_trees (canonical_text cat.schema) cat.schema proper.meant; few_rows = proper.few_rows }
