use Rattle.csv_split.proofs.ImageCells.{AreKindsSoFar}
use Rattle.csv_split.proofs.image.visible_kinds.Given as goal

abbrev pub invariant-loop-column : goal.invariant-loop-column
invariant-loop-column l = AreKindsSoFar l.declared l.column-index l.kinds.items
