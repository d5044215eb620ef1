use Rattle.candidate_filter.proofs.Filled.{closed_ascend, closed_have, closed_outside, closed_pass}
use Rattle.candidate_filter.proofs.laws.closed_lists_fill.Goals as goal

pub returns : goal.returns
returns c = record { ascend = closed_ascend; have = closed_have; outside = closed_outside; pass = closed_pass }
