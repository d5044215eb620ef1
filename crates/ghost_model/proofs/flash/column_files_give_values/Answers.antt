use Rattle.ghost_model.proofs.FlashLemmas.Held.{give_values}
use Rattle.ghost_model.proofs.flash.column_files_give_values.Goals as goal

pub returns : goal.returns
returns c = give_values
