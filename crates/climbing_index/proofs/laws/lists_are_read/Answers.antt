use Rattle.climbing_index.proofs.ListedValues as listed
use Rattle.climbing_index.proofs.laws.lists_are_read.Goals as goal

pub returns : goal.returns
returns c = record {
  read = listed.lists_are_read c.files_lie_as_summed.ensures c.layout_is_small.ensures c.hidden_cells_fit.ensures c.hidden_parts_go_with_catalogs.ensures c.numbers_are_read.ensures
      c.records_are_as_wide.ensures.number c.lists_ascend.ensures c.level_lists_have_codes.ensures c.lists_begin_at_codes.ensures c.level_files_fit.ensures
      c.whole_indexes_are_held_but.ensures.but;
}
