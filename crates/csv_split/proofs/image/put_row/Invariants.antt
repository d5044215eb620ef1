use Rattle.csv_split.proofs.ImageCells.{AreCellsSoFar}
use Rattle.csv_split.proofs.image.put_row.Given as goal

abbrev pub invariant-loop-i : goal.invariant-loop-i
invariant-loop-i l = AreCellsSoFar l.kinds l.columns l.place l.i l.initial.out.items l.out.items
