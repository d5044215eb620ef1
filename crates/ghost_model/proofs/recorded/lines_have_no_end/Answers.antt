use Rattle.ghost_model.proofs.RecordedLemmas.Ends.{told_lacks}
use Rattle.ghost_model.proofs.recorded.lines_have_no_end.Goals as goal

pub returns : goal.returns
returns c = record { no_end = told_lacks }
