use Rattle.ghost_model.proofs.FlashLemmas.Held.{kept}
use Rattle.ghost_model.proofs.flash.holdings_are_kept.Goals as goal

pub returns : goal.returns
returns c = kept
