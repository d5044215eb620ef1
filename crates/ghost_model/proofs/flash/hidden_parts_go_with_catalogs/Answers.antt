use Rattle.ghost_model.proofs.FlashLemmas.Parts.{goes_with}
use Rattle.ghost_model.proofs.flash.hidden_parts_go_with_catalogs.Goals as goal

pub returns : goal.returns
returns c = goes_with
