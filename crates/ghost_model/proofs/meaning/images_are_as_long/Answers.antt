use Rattle.ghost_model.proofs.MeaningLemmas.ImageLengths.{images_are_long}
use Rattle.ghost_model.proofs.meaning.images_are_as_long.Goals as goal

pub returns : goal.returns
returns c = images_are_long
