use Rattle.ghost_model.proofs.FlashLemmas.Lists.{lists_partition}
use Rattle.ghost_model.proofs.flash.lists_partition.Goals as goal

pub returns : goal.returns
returns c = lists_partition
