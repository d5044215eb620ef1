use Rattle.climbing_index.proofs.BlamedSlots.{no_damage}
use Rattle.climbing_index.proofs.ListedValues.{none_of_ids, none_of_values}
use Rattle.climbing_index.proofs.laws.whole_indexes_have_no_damage.Goals as goal

pub returns : goal.returns
returns c = record {
  none = no_damage c.files_lie_as_summed.ensures c.layout_is_small.ensures c.numbers_are_read.ensures
      (none_of_values c.files_lie_as_summed.ensures c.layout_is_small.ensures c.hidden_cells_fit.ensures c.hidden_parts_go_with_catalogs.ensures c.numbers_are_read.ensures
      c.records_are_as_wide.ensures.number c.lists_ascend.ensures c.level_lists_have_codes.ensures c.lists_begin_at_codes.ensures c.level_files_fit.ensures
      c.whole_indexes_are_held_but.ensures.but)
      (none_of_ids c.files_lie_as_summed.ensures c.layout_is_small.ensures c.hidden_cells_fit.ensures c.hidden_parts_go_with_catalogs.ensures c.numbers_are_read.ensures
      c.records_are_as_wide.ensures.number c.lists_ascend.ensures c.level_lists_have_codes.ensures c.lists_begin_at_codes.ensures c.level_files_fit.ensures
      c.whole_indexes_are_held_but.ensures.but);
}
