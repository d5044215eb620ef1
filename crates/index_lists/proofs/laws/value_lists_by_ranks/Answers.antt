use Rattle.index_lists.proofs.ByRanks.{values_by_ranks}
use Rattle.index_lists.proofs.laws.value_lists_by_ranks.Goals as goal

pub returns : goal.returns
returns c = values_by_ranks
