use Rattle.index_lists.proofs.Heads.{heads_show_fronts}
use Rattle.index_lists.proofs.laws.heads_show_fronts.Goals as goal

pub returns : goal.returns
returns c = heads_show_fronts
