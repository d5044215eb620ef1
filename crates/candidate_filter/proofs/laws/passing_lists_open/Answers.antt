use Rattle.candidate_filter.proofs.Opening.{passing_open}
use Rattle.candidate_filter.proofs.laws.passing_lists_open.Goals as goal

pub returns : goal.returns
returns c = record { opened = passing_open }
