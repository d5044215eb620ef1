use Rattle.index_lists.proofs.KeyOrders.{key_orders}
use Rattle.index_lists.proofs.laws.key_orders_are_lists.Goals as goal

pub returns : goal.returns
returns c = key_orders c.cell_order_is_value_order.ensures
