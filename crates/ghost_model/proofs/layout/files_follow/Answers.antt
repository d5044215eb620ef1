use Rattle.ghost_model.proofs.LayoutLemmas.Places.{follow_one_another}
use Rattle.ghost_model.proofs.layout.files_follow.Goals as goal

pub returns : goal.returns
returns c = λ cat. follow_one_another cat
