use Rattle.std.proofs.Common.{refl}
use Rattle.std.specs.Fmt.{digits}
use Rattle.ghost_model.proofs.cells.catalogs_of_databases.Goals as goal

pub returns : goal.returns
unfolding digits
returns c = record { lines = refl; text = refl; clinic = refl; note_text = refl; note = refl }
