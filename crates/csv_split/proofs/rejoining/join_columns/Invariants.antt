use Rattle.std.specs.Vec.Iter.{into_iter_items}
use Rattle.csv_split.proofs.RejoinedParts.{AreMerged}
use Rattle.csv_split.proofs.SplitParts.{flags_of}
use Rattle.csv_split.proofs.rejoining.join_columns.Given as goal

abbrev pub invariant-loop-column : goal.invariant-loop-column
invariant-loop-column l = AreMerged (flags_of l.declared) l.column-index l.fn.visible.items l.fn.kept.items (into_iter_items l.visible_left) (into_iter_items l.kept_left) l.columns.items
