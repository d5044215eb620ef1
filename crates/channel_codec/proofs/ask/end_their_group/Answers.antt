use Rattle.std.proofs.Common.{◌∙◌, ap, sym}
use Rattle.channel_codec.proofs.AskWriting.{ended_after, none_before, one_more}
use Rattle.channel_codec.proofs.ask.end_their_group.Goals as goal

pub tests-init : goal.tests-init
tests-init c = none_before c.args.tests.now

pub tests-preserved : goal.tests-preserved
tests-preserved c =
    one_more c.tests.ended c.in-Some.test.now c.in-Some.later.now
    ∙ (ap (ended_after c.tests.ended) (sym c.in-Some.ensures.cases.0) ∙ c.tests.invariant)
