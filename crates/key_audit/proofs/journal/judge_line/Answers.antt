use Rattle.std.proofs.Common.{arith}
use Rattle.key_audit.proofs.Passing.{fine, wrong, untold, beyond}
use Rattle.key_audit.proofs.journal.judge_line.Goals as goal

pub returns-then-passed-gt-MOST_JOURNAL : goal.returns-then-passed-gt-MOST_JOURNAL
returns-then-passed-gt-MOST_JOURNAL c = record {
  judged = λ catalog asks before has is.
      beyond c.lines_are_passed.ensures.passed catalog asks before c.args.line.now c.args.audit.now c.args.moves has c.requires.lacking
      (let late = c.if-passed-gt-MOST_JOURNAL.true in omega (arith, is, late));
}

pub returns-in-Fine : goal.returns-in-Fine
returns-in-Fine c = record {
  judged = λ catalog asks before has is.
      fine c.lines_are_passed.ensures.passed catalog asks before c.args.line.now c.args.audit.now c.args.moves has c.line.new.self
      (c.in-Fine.ensures.judged catalog asks) (let early = c.if-passed-gt-MOST_JOURNAL.false in omega (arith, is, early));
}

pub returns-in-Wrong : goal.returns-in-Wrong
returns-in-Wrong c = record {
  judged = λ catalog asks before has is.
      wrong c.lines_are_passed.ensures.passed catalog asks before c.args.line.now c.args.audit.now c.args.moves has c.in-Wrong.told c.in-Wrong.due
      (c.in-Wrong.ensures.judged catalog asks) (let early = c.if-passed-gt-MOST_JOURNAL.false in omega (arith, is, early));
}

pub returns-in-NotALine : goal.returns-in-NotALine
returns-in-NotALine c = record {
  judged = λ catalog asks before has is.
      untold c.lines_are_passed.ensures.passed catalog asks before c.args.line.now c.args.audit.now c.args.moves has c.requires.lacking
      (c.in-NotALine.ensures.judged catalog asks);
}
