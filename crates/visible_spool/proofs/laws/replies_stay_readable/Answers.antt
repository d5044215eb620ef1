use Rattle.visible_spool.proofs.KeptReplies.{reply_readable}
use Rattle.visible_spool.proofs.laws.replies_stay_readable.Goals as goal

pub returns : goal.returns
returns c = record { readable = reply_readable }
