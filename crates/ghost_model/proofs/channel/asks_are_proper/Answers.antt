use Rattle.ghost_model.proofs.ChannelLemmas.Proper.{asks_are_proper}
use Rattle.ghost_model.proofs.channel.asks_are_proper.Goals as goal

pub returns : goal.returns
returns c schema text query read = asks_are_proper schema text query read
