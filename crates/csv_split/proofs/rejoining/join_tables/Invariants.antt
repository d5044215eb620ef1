use Rattle.std.specs.Vec.Iter.{into_iter_items}
use Rattle.csv_split.proofs.RejoinedParts.{AreRejoined}
use Rattle.csv_split.proofs.rejoining.join_tables.Given as goal

abbrev pub invariant-loop-table : goal.invariant-loop-table
invariant-loop-table l = AreRejoined l.schema l.table l.fn.visible.items l.fn.kept.items (into_iter_items l.visible_left) (into_iter_items l.kept_left) l.tables
