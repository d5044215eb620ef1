use Rattle.std.proofs.Common.{◌+◌, ◌∙◌, arith}
use Rattle.channel_codec.proofs.Writing.{same_further}
use Rattle.channel_codec.proofs.ask.put_test.Goals as goal

pub returns-clause-rest : goal.returns-clause-rest
returns-clause-rest c =
    c.put_literal.ensures.rest
    ∙ same_further (c.args.at + 2) c.put_literal.result _ _ c.put_at.ensures.rest (omega (arith, c.put_literal.ensures.end))
