use Rattle.std.proofs.Common.{length, map}
use Rattle.channel_codec.specs.AskViews.{test_view}
use Rattle.channel_codec.proofs.AskWriting.{AreWritten}
use Rattle.channel_codec.proofs.ask.put_tests.Given as goal

abbrev pub invariant-tests : goal.invariant-tests
invariant-tests l = AreWritten l.schema l.table l.at l.fn.out (map test_view l.tests) (length l.tests) l.end l.out (map test_view l.rest) (length l.rest)

abbrev pub decreases-tests : goal.decreases-tests
decreases-tests l = length l.rest
