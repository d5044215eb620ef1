use Rattle.csv_split.proofs.ImageCells.{AreRowsSoFar}
use Rattle.csv_split.proofs.image.put_rows.Given as goal

abbrev pub invariant-loop-place : goal.invariant-loop-place
invariant-loop-place l = AreRowsSoFar l.kinds l.columns l.rows l.place l.initial.out.items l.out.items
