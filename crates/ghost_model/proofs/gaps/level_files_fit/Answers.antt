use Rattle.ghost_model.proofs.GapLemmas.Lists.{files_fit}
use Rattle.ghost_model.proofs.gaps.level_files_fit.Goals as goal

pub returns : goal.returns
returns c = files_fit
