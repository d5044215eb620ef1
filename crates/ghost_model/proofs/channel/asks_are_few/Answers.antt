use Rattle.ghost_model.proofs.SessionLemmas.Settings.{asks_are_few}
use Rattle.ghost_model.proofs.channel.asks_are_few.Goals as goal

pub returns : goal.returns
returns c = asks_are_few
