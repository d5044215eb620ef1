use Rattle.visible_spool.proofs.KeptReplies.{reply_spared}
use Rattle.visible_spool.proofs.laws.replies_are_spared.Goals as goal

pub returns : goal.returns
returns c = record { spared = reply_spared }
