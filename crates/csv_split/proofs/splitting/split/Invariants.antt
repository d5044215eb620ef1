use Rattle.std.specs.Vec.Iter.{into_iter_items}
use Rattle.csv_split.proofs.SplitParts.{TablesAreParted}
use Rattle.csv_split.proofs.splitting.split.Given as goal

abbrev pub invariant-loop-table : goal.invariant-loop-table
invariant-loop-table l = TablesAreParted l.schema l.table l.fn.tables (into_iter_items l.left) l.public.visible l.hidden.hidden
