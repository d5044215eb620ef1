use Rattle.ghost_model.proofs.FlashLemmas.Written.{add_up}
use Rattle.ghost_model.proofs.flash.pages_add_up.Goals as goal

pub returns : goal.returns
returns c = add_up
