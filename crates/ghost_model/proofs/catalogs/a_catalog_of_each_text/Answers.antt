use Rattle.ghost_model.proofs.CatalogLemmas.{catalog_of_text}
use Rattle.ghost_model.proofs.catalogs.a_catalog_of_each_text.Goals as goal

pub returns : goal.returns
returns c = catalog_of_text
