use Rattle.ghost_model.proofs.MeaningLemmas.PublicPart.{goes_with}
use Rattle.ghost_model.proofs.meaning.public_parts_go_with_catalogs.Goals as goal

pub returns : goal.returns
returns c = goes_with
