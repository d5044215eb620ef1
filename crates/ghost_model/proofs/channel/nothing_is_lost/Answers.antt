use Rattle.ghost_model.proofs.ChannelLemmas.Hosts.{catalog_is_spelled, rows_are_spelled}
use Rattle.ghost_model.proofs.channel.nothing_is_lost.Goals as goal

pub returns : goal.returns
returns c = record { catalog = catalog_is_spelled; rows = rows_are_spelled }
