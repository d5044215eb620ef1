use Rattle.std.proofs.Common.{length}
use Rattle.host_exec.proofs.GrownColumns.{MadeTo}
use Rattle.host_exec.proofs.columns.no_rows.Given as goal

abbrev pub invariant-kinds : goal.invariant-kinds
invariant-kinds l = MadeTo l.kinds l.rest l.cells.items

abbrev pub decreases-kinds : goal.decreases-kinds
decreases-kinds l = length l.rest
