use Rattle.ghost_laws.proofs.ScanLemmas.Followed.{accepted_queries_are_followed}
use Rattle.ghost_laws.proofs.followed.accepted_queries_are_followed.Goals as goal

pub returns : goal.returns
returns c = accepted_queries_are_followed
