use Rattle.ghost_model.proofs.CatalogLengthLemmas.{no_catalog_is_long}
use Rattle.ghost_model.proofs.catalogs.no_catalog_is_long.Goals as goal

pub returns : goal.returns
returns c = no_catalog_is_long
