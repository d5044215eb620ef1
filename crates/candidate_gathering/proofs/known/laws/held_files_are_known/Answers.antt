use Rattle.candidate_gathering.proofs.known_lemmas.Holding.{known}
use Rattle.candidate_gathering.proofs.known.laws.held_files_are_known.Goals as goal

pub returns : goal.returns
returns c = record {
  known = known c.held_indexes_are_whole.ensures.index c.held_indexes_are_whole.ensures.id_index c.whole_indexes_are_held_but.ensures.but c.held_tables_are_held_but.ensures.but
      c.tables_are_right_but_for_damage.ensures.right;
}
