use Rattle.std.proofs.Common.{◌≡◌, length}
use Rattle.ghost_model.specs.core.Asks as asks
use Rattle.channel_codec.proofs.ask.ascend.Given as goal

abbrev pub invariant-columns : goal.invariant-columns
invariant-columns l = asks.ascend_from l.before l.rest ≡ asks.ascend_from 0 l.columns

abbrev pub decreases-columns : goal.decreases-columns
decreases-columns l = length l.rest
