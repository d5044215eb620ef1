use Rattle.ghost_model.proofs.RunLemmas.{records_kept}
use Rattle.ghost_model.proofs.runs.records_are_kept.Goals as goal

pub returns : goal.returns
returns c = records_kept
