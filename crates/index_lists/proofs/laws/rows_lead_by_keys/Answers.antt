use Rattle.index_lists.proofs.Leading.{rows_lead_by_keys}
use Rattle.index_lists.proofs.laws.rows_lead_by_keys.Goals as goal

pub returns : goal.returns
returns c = rows_lead_by_keys
