use Rattle.ghost_model.proofs.ChannelLemmas.Hosts.{frames_are_cut}
use Rattle.ghost_model.proofs.channel.frames_are_cut.Goals as goal

pub returns : goal.returns
returns c frames all = frames_are_cut frames all
