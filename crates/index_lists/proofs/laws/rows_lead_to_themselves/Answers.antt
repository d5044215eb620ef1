use Rattle.index_lists.proofs.Leading.{to_themselves}
use Rattle.index_lists.proofs.laws.rows_lead_to_themselves.Goals as goal

pub returns : goal.returns
returns c = to_themselves
