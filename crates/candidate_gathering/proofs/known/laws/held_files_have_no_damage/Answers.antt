use Rattle.ghost_model.specs.core.Split.{hidden_of}
use Rattle.candidate_gathering.proofs.known_lemmas.NoDamage.{no_damage}
use Rattle.candidate_gathering.proofs.known.laws.held_files_have_no_damage.Goals as goal
use Rattle.ghost_model.proofs.LayoutLemmas.Limited.{limited_by}

pub returns : goal.returns
returns c = record {
  none = λ page cat database of holds.
      no_damage page cat database of (c.layout_is_small.ensures.few cat (limited_by cat of.proper))
      (c.hidden_cells_fit.ensures cat (hidden_of cat.schema database) (limited_by cat of.proper).tree (c.hidden_parts_go_with_catalogs.ensures cat database of.is of.counts))
      c.numbers_are_read.ensures c.records_are_as_wide.ensures.number c.lists_ascend.ensures c.level_files_fit.ensures c.columns_give_values.ensures.values c.tables_give_rows.ensures.rows
      c.whole_indexes_have_no_damage.ensures.none holds (c.held_files_are_known.ensures.known page cat database of holds);
}
