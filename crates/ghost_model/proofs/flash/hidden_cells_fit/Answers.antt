use Rattle.ghost_model.proofs.FlashLemmas.Values.{cells_fit}
use Rattle.ghost_model.proofs.flash.hidden_cells_fit.Goals as goal

pub returns : goal.returns
returns c = cells_fit
