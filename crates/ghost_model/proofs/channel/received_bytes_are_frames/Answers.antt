use Rattle.ghost_model.proofs.ChannelLemmas.{received_is_spelled}
use Rattle.ghost_model.proofs.channel.received_bytes_are_frames.Goals as goal

pub returns : goal.returns
returns c catalog asks received bytes = received_is_spelled catalog asks received bytes
