use Rattle.std.proofs.Common.{length}
use Rattle.tree_schema.proofs.ReaderSteps.{HoldsColumns}
use Rattle.tree_schema.proofs.syntax.Reader.other_columns.Given as goal

abbrev pub invariant-loop-follows : goal.invariant-loop-follows
invariant-loop-follows l = HoldsColumns l.fn.self l.fn.more l.self l.others.items l.over l.follows

abbrev pub decreases-loop-follows : goal.decreases-loop-follows
decreases-loop-follows l = length l.self.cursor
