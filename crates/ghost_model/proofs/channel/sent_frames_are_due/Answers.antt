use Rattle.ghost_model.proofs.ChannelLemmas.Sending.{sent_is_due}
use Rattle.ghost_model.proofs.channel.sent_frames_are_due.Goals as goal

pub returns : goal.returns
returns c = sent_is_due
