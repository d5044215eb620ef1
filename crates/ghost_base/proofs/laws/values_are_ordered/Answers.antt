use Rattle.ghost_base.proofs.ValueOrder.{values_total, same_value}
use Rattle.ghost_base.proofs.laws.values_are_ordered.Goals as goal

pub returns : goal.returns
returns c = record { total = values_total; same = same_value }
