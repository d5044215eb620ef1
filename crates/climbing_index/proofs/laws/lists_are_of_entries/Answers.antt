use Rattle.climbing_index.proofs.ListedValues.{value_lists_are, id_lists_are}
use Rattle.climbing_index.proofs.laws.lists_are_of_entries.Goals as goal

pub returns : goal.returns
returns c = record {
  values = value_lists_are c.files_lie_as_summed.ensures c.layout_is_small.ensures c.hidden_cells_fit.ensures c.hidden_parts_go_with_catalogs.ensures c.numbers_are_read.ensures
      c.records_are_as_wide.ensures.number c.lists_ascend.ensures c.level_lists_have_codes.ensures c.lists_begin_at_codes.ensures c.level_files_fit.ensures
      c.whole_indexes_are_held_but.ensures.but;
  identifiers = id_lists_are c.files_lie_as_summed.ensures c.layout_is_small.ensures c.hidden_cells_fit.ensures c.hidden_parts_go_with_catalogs.ensures c.numbers_are_read.ensures
      c.records_are_as_wide.ensures.number c.lists_ascend.ensures c.level_lists_have_codes.ensures c.lists_begin_at_codes.ensures c.level_files_fit.ensures
      c.whole_indexes_are_held_but.ensures.but;
}
