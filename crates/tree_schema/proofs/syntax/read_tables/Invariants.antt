use Rattle.std.proofs.Common.{length}
use Rattle.tree_schema.proofs.ReaderSteps.{HoldsTables}
use Rattle.tree_schema.proofs.syntax.read_tables.Given as goal

abbrev pub invariant-loop-token : goal.invariant-loop-token
invariant-loop-token l = HoldsTables l.fn.text l.reader l.tables.items l.over

abbrev pub decreases-loop-token : goal.decreases-loop-token
decreases-loop-token l = length l.reader.cursor
