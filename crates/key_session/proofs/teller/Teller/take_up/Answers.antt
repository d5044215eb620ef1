use Rattle.std.proofs.Common.{◌∙◌, sym}
use Rattle.key_session.proofs.Beginning.{taken_before}
use Rattle.key_session.proofs.teller.Teller.take_up.Goals as goal

pub returns-then-is_some-clause-told : goal.returns-then-is_some-clause-told
returns-then-is_some-clause-told c = λ plan told texts journal since now pool suffices bytes can after next amid.
    taken_before plan told c.args.cat.now texts journal since now pool c.args.pump.now c.args.self.now c.args.replies.now (sym c.is_some.ensures ∙ c.if-is_some.true) amid
