use Rattle.ghost_model.proofs.FlashLemmas.Written.{values_counted}
use Rattle.ghost_model.proofs.flash.values_are_counted.Goals as goal

pub returns : goal.returns
returns c = values_counted
