use Rattle.index_lists.proofs.ByRanks.{stand_between}
use Rattle.index_lists.proofs.laws.lists_stand_between.Goals as goal

pub returns : goal.returns
returns c = stand_between
