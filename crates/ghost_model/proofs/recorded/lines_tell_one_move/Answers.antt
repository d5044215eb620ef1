use Rattle.ghost_model.proofs.RecordedLemmas.Once.{told_once}
use Rattle.ghost_model.proofs.recorded.lines_tell_one_move.Goals as goal

pub returns : goal.returns
returns c = record { one = told_once }
