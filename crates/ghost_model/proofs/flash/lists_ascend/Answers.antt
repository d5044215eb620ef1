use Rattle.ghost_model.proofs.FlashLemmas.Rooms.{lists_ascend}
use Rattle.ghost_model.proofs.flash.lists_ascend.Goals as goal

pub returns : goal.returns
returns c = lists_ascend
