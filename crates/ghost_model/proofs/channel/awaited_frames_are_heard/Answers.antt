use Rattle.ghost_model.proofs.ChannelLemmas.Hearing.{awaited_is_heard}
use Rattle.ghost_model.proofs.channel.awaited_frames_are_heard.Goals as goal

pub returns : goal.returns
returns c catalog asks before frame p b h = awaited_is_heard catalog asks before frame p b h
