use Rattle.ghost_model.proofs.LayoutLemmas.Small.{are_narrow, are_few}
use Rattle.ghost_model.proofs.layout.layout_is_small.Goals as goal

pub returns : goal.returns
returns c = record { narrow = λ cat tree. are_narrow cat tree; few = λ cat limited. are_few cat limited }
