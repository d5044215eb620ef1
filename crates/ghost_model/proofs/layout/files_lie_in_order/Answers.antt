use Rattle.ghost_model.proofs.LayoutLemmas.Order.{lie_in_order}
use Rattle.ghost_model.proofs.layout.files_lie_in_order.Goals as goal

pub returns : goal.returns
returns c = λ cat. lie_in_order cat
