use Rattle.ghost_model.proofs.ChannelLemmas.Hosts.{host_is_honest}
use Rattle.ghost_model.proofs.channel.host_is_honest.Goals as goal

pub returns : goal.returns
returns c held key = host_is_honest held key
