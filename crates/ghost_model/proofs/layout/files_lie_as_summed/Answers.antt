use Rattle.ghost_model.proofs.LayoutLemmas.Places.{lie_as_summed}
use Rattle.ghost_model.proofs.layout.files_lie_as_summed.Goals as goal

pub returns : goal.returns
returns c = lie_as_summed
