use Rattle.visible_spool.proofs.KeptReplies.{rows_stand}
use Rattle.visible_spool.proofs.laws.rows_may_stand.Goals as goal

pub returns : goal.returns
returns c = record { stand = rows_stand }
