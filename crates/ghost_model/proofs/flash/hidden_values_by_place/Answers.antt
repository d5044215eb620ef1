use Rattle.ghost_model.proofs.FlashLemmas.Values.{values_by_place}
use Rattle.ghost_model.proofs.flash.hidden_values_by_place.Goals as goal

pub returns : goal.returns
returns c = values_by_place
