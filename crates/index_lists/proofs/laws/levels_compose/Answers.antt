use Rattle.index_lists.proofs.ByRanks.{levels_compose}
use Rattle.index_lists.proofs.laws.levels_compose.Goals as goal

pub returns : goal.returns
returns c = levels_compose
