use Rattle.std.proofs.Common.{map}
use Rattle.ghost_base.specs.Views.{value_of}
use Rattle.csv_split.proofs.GrownRows.{IsPutSoFar}
use Rattle.csv_split.proofs.growing.push_row.Given as goal

abbrev pub invariant-loop-i : goal.invariant-loop-i
invariant-loop-i l = IsPutSoFar (map value_of l.row) l.fn.columns l.columns l.i
