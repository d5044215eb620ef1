use Rattle.std.proofs.Common.{length}
use Rattle.ghost_model.specs.forms.Catalog.{catalog_bytes}
use Rattle.csv_split.proofs.ImageLengths.{IsLengthSoFar}
use Rattle.csv_split.proofs.image.image_len.Given as goal

abbrev pub invariant-loop-table : goal.invariant-loop-table
invariant-loop-table l = IsLengthSoFar l.cat.schema l.public.visible (length (catalog_bytes l.cat)) l.table l.len
