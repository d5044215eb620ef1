use Rattle.std.specs.Vec.Iter.{into_iter_items}
use Rattle.csv_split.proofs.SplitParts.{AreParted, flags_of}
use Rattle.csv_split.proofs.splitting.split_columns.Given as goal

abbrev pub invariant-loop-column : goal.invariant-loop-column
invariant-loop-column l = AreParted (flags_of l.declared) l.column-index l.fn.columns.items (into_iter_items l.left) l.visible.items l.kept.items
