use Rattle.csv_split.proofs.ImageCells.{AreTablesSoFar}
use Rattle.csv_split.proofs.image.put_tables.Given as goal

abbrev pub invariant-loop-table : goal.invariant-loop-table
invariant-loop-table l = AreTablesSoFar l.schema l.public.visible l.table l.initial.out.items l.out.items
