use Rattle.std.proofs.Common.{arith}
use Rattle.spj_parse.proofs.LiteralLemmas.{large}
use Rattle.spj_parse.proofs.literals.number_in.Goals as goal

pub returns-in_default-clause-large : goal.returns-in_default-clause-large
returns-in_default-clause-large c =
    large c.args.digits.now c.loop-digit.digit-index c.loop-digit.number _ c.loop-digit.invariant c.loop-digit-test.true
    (omega (arith, c.in_default.ensures))

pub returns-in_default-checked_add-clause-large : goal.returns-in_default-checked_add-clause-large
returns-in_default-checked_add-clause-large c =
    large c.args.digits.now c.loop-digit.digit-index c.loop-digit.number _ c.loop-digit.invariant c.loop-digit-test.true
    (omega (arith, c.in_default-checked_add.ensures, c.saturating_sub.ensures, c.in-Some.ensures))
