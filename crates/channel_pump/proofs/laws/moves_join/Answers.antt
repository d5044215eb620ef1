use Rattle.channel_pump.proofs.EntryLemmas.{joined}
use Rattle.channel_pump.proofs.laws.moves_join.Goals as goal

pub returns : goal.returns
returns c = record { joined = joined }
