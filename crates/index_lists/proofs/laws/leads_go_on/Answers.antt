use Rattle.index_lists.proofs.Leading.{leads_go_on}
use Rattle.index_lists.proofs.laws.leads_go_on.Goals as goal

pub returns : goal.returns
returns c = leads_go_on
