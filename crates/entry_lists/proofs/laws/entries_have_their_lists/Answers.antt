use Rattle.entry_lists.proofs.ValueLists.{have_value_lists, have_id_lists}
use Rattle.entry_lists.proofs.laws.entries_have_their_lists.Goals as goal

pub returns : goal.returns
returns c = record {
  values = have_value_lists c.levels_are_ancestors.ensures c.files_lie_as_summed.ensures c.files_lie_in_order.ensures c.layout_is_small.ensures c.numbers_are_read.ensures
      c.lists_partition.ensures c.lists_are_read.ensures.read;
  identifiers = have_id_lists c.levels_are_ancestors.ensures c.files_lie_as_summed.ensures c.files_lie_in_order.ensures c.layout_is_small.ensures c.numbers_are_read.ensures
      c.id_lists_partition.ensures c.lists_are_read.ensures.read;
}
