use Rattle.csv_split.proofs.ImageLengths.{IsWidthSoFar}
use Rattle.csv_split.proofs.image.row_width.Given as goal

abbrev pub invariant-loop-column : goal.invariant-loop-column
invariant-loop-column l = IsWidthSoFar l.declared l.column-index l.width
