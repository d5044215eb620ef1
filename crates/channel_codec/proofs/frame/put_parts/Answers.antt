use Rattle.std.proofs.Common.{◌+◌, length, ◌∙◌, ap, arith}
use Rattle.channel_codec.proofs.Writing.{same_further}
use Rattle.channel_codec.proofs.frame.put_parts.Goals as goal

pub returns-clause-rest : goal.returns-clause-rest
returns-clause-rest c =
    let far = 8 + length c.args.first.now + length c.args.second.now in
    c.put_at-5.ensures.rest
    ∙ (same_further (8 + length c.args.first.now) far _ _ c.put_at-4.ensures.rest (omega arith)
    ∙ (same_further (4 + length c.to_be_bytes-2.result) far _ _ c.put_at-3.ensures.rest (omega (arith, ap length c.to_be_bytes-2.ensures))
    ∙ (same_further (2 + length c.to_be_bytes.result) far _ _ c.put_at-2.ensures.rest (omega (arith, ap length c.to_be_bytes.ensures))
    ∙ same_further 2 far _ _ c.put_at.ensures.rest (omega arith))))
