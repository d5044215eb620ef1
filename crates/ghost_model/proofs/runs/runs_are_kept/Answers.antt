use Rattle.ghost_model.proofs.RunLemmas.{run_kept}
use Rattle.ghost_model.proofs.runs.runs_are_kept.Goals as goal

pub returns : goal.returns
returns c = run_kept
