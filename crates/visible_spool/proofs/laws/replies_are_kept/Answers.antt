use Rattle.visible_spool.proofs.KeptReplies.{reply_kept}
use Rattle.visible_spool.proofs.laws.replies_are_kept.Goals as goal

pub returns : goal.returns
returns c = record { kept = reply_kept }
