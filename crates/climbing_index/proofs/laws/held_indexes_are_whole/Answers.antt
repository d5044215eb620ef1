use Rattle.climbing_index.proofs.WholeIndexes.{whole_indexes, whole_id_indexes}
use Rattle.climbing_index.proofs.laws.held_indexes_are_whole.Goals as goal

pub returns : goal.returns
returns c = record {
  index = whole_indexes c.levels_are_ancestors.ensures c.layout_is_small.ensures c.numbers_are_read.ensures c.records_are_as_wide.ensures.number c.lists_ascend.ensures
      c.level_lists_have_codes.ensures c.codes_are_read_from_pages.ensures c.level_files_fit.ensures c.files_lie_as_summed.ensures c.files_lie_in_order.ensures
      c.hidden_cells_fit.ensures c.hidden_parts_go_with_catalogs.ensures c.hidden_values_of_databases.ensures;
  id_index = whole_id_indexes c.levels_are_ancestors.ensures c.layout_is_small.ensures c.numbers_are_read.ensures c.records_are_as_wide.ensures.number c.lists_ascend.ensures
      c.level_lists_have_codes.ensures c.codes_are_read_from_pages.ensures c.level_files_fit.ensures;
}
