use Rattle.ghost_model.proofs.FlashLemmas.Values.{cells_of_databases}
use Rattle.ghost_model.proofs.flash.hidden_cells_of_databases.Goals as goal

pub returns : goal.returns
returns c = cells_of_databases
