use Rattle.ghost_model.proofs.ChannelLemmas.{prefix_is_whole}
use Rattle.ghost_model.proofs.channel.frames_are_prefix_free.Goals as goal

pub returns : goal.returns
returns c one other rest first second e = prefix_is_whole one other rest first second e
