use Rattle.ghost_model.proofs.FlashLemmas.Lists.{id_lists_partition}
use Rattle.ghost_model.proofs.flash.id_lists_partition.Goals as goal

pub returns : goal.returns
returns c = id_lists_partition
