use Rattle.std.proofs.Common.{refl}
use Rattle.ghost_model.proofs.LayoutLemmas.Order.{sum_next, sums_rise}
use Rattle.ghost_model.proofs.layout.sums_by_place.Goals as goal

pub returns : goal.returns
returns c = record { none = λ pages. refl; next = sum_next; rise = sums_rise }
