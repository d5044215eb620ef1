use Rattle.index_lists.proofs.ByRanks.{ids_by_ranks}
use Rattle.index_lists.proofs.laws.id_lists_by_ranks.Goals as goal

pub returns : goal.returns
returns c = ids_by_ranks
