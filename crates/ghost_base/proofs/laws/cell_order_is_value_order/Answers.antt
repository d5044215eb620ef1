use Rattle.ghost_base.proofs.CellOrders.{cell_order}
use Rattle.ghost_base.proofs.laws.cell_order_is_value_order.Goals as goal

pub returns : goal.returns
returns c = cell_order
