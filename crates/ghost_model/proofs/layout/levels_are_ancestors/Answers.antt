use Rattle.ghost_model.proofs.LayoutLemmas.Levels.{levels_are_ancestors}
use Rattle.ghost_model.proofs.layout.levels_are_ancestors.Goals as goal

pub returns : goal.returns
returns c = levels_are_ancestors
