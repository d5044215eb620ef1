use Rattle.ghost_model.proofs.CatalogSpellingLemmas.{catalogs_have_one_spelling}
use Rattle.ghost_model.proofs.catalogs.catalogs_have_one_spelling.Goals as goal

pub returns : goal.returns
returns c = catalogs_have_one_spelling
