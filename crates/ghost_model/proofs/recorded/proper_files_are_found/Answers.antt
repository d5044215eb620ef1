use Rattle.ghost_model.proofs.RecordedLemmas.Told.{whole_file}
use Rattle.ghost_model.proofs.recorded.proper_files_are_found.Goals as goal

pub returns : goal.returns
returns c = record { found = whole_file }
