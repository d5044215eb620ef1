use Rattle.ghost_model.proofs.FlashLemmas.Keys.{lead_alike}
use Rattle.ghost_model.proofs.flash.rows_lead_by_hidden_values.Goals as goal

pub returns : goal.returns
returns c = lead_alike
