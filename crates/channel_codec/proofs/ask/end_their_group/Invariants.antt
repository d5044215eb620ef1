use Rattle.std.proofs.Common.{◌≡◌, length}
use Rattle.ghost_model.specs.core.Groups.{ends}
use Rattle.channel_codec.proofs.AskWriting.{ended_after}
use Rattle.channel_codec.proofs.ask.end_their_group.Given as goal

abbrev pub invariant-tests : goal.invariant-tests
invariant-tests l = ended_after l.ended l.rest ≡ ends (λ test. test.more) l.tests

abbrev pub decreases-tests : goal.decreases-tests
decreases-tests l = length l.rest
