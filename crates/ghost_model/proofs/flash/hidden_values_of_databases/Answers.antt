use Rattle.ghost_model.proofs.FlashLemmas.Keys.{field_hidden}
use Rattle.ghost_model.proofs.flash.hidden_values_of_databases.Goals as goal

pub returns : goal.returns
returns c = field_hidden
