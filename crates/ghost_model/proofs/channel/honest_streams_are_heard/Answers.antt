use Rattle.ghost_model.proofs.ChannelLemmas.Streams.{honest_streams_are_heard}
use Rattle.ghost_model.proofs.channel.honest_streams_are_heard.Goals as goal

pub returns : goal.returns
returns c catalog parts exchanges bytes fit whole all = honest_streams_are_heard catalog parts exchanges bytes fit whole all
