use Rattle.candidate_gathering.proofs.known_lemmas.ReadRuns.{runs_may}
use Rattle.candidate_gathering.proofs.known.laws.runs_may_be_blamed.Goals as goal

pub returns : goal.returns
returns c = runs_may c.files_lie_in_order.ensures c.levels_are_ancestors.ensures
