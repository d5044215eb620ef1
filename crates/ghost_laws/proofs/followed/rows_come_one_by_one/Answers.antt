use Rattle.ghost_laws.proofs.ScanLemmas.Followed.{rows_come_one_by_one}
use Rattle.ghost_laws.proofs.followed.rows_come_one_by_one.Goals as goal

pub returns : goal.returns
returns c = rows_come_one_by_one
