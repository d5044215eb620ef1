use Rattle.ghost_model.proofs.ChannelLemmas.Proper.{asks_are_visible}
use Rattle.ghost_model.proofs.channel.asks_are_visible.Goals as goal

pub returns : goal.returns
returns c schema query = asks_are_visible schema query
