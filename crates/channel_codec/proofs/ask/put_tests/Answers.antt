use Rattle.std.proofs.Common.{map, ap, arith}
use Rattle.channel_codec.specs.AskViews.{test_view}
use Rattle.channel_codec.proofs.AskWriting.{one_written}
use Rattle.channel_codec.proofs.ask.put_tests.Goals as goal

pub tests-preserved : goal.tests-preserved
tests-preserved c =
    let split = c.in-Some.ensures.cases in
    one_written _ _ _ _ _ _ _ _ _ _ _ _ _ _ _ c.tests.invariant (ap (map test_view) split.0) (omega (arith, split.1))
    c.put_test-end.ensures.bytes c.put_test-end.ensures.rest c.put_test-end.ensures.end c.put_test-end.ensures.short
