use Rattle.std.proofs.Common.{◌+◌, length, ap, ◌∙◌, arith}
use Rattle.channel_codec.proofs.Writing.{same_further}
use Rattle.channel_codec.proofs.ask.put_ask.Goals as goal

pub returns-clause-rest : goal.returns-clause-rest
returns-clause-rest c =
    let far = c.put_tests.result in
    c.put_tests.ensures.rest
    ∙ (same_further (2 + c.len-columns.result + 1) far _ _ c.put_at-3.ensures.rest (omega (arith, c.put_tests.ensures.end))
    ∙ (same_further (2 + length c.deref.result.now) far _ _ c.put_at-2.ensures.rest (omega (arith, c.put_tests.ensures.end, ap length c.deref.ensures.0, c.len-columns.ensures.value))
    ∙ same_further 2 far _ _ c.put_at.ensures.rest (omega (arith, c.put_tests.ensures.end))))
