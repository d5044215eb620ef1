use Rattle.ghost_model.proofs.CatalogLemmas.{canonical_text_means}
use Rattle.ghost_model.proofs.catalogs.canonical_text_means_its_schema.Goals as goal

pub returns : goal.returns
returns c = canonical_text_means
