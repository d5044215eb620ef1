use Rattle.candidate_gathering.proofs.searching_lemmas.Places.{both}
use Rattle.candidate_gathering.proofs.searching_lemmas.TermsTaken.{begun, in_groups, kept, taken, whole}
use Rattle.condition_lists.specs.declared.term.Term.TheVariants.{Ranges}
use Rattle.candidate_gathering.proofs.searching.laws.candidates_are_gathered.Goals as goal

pub returns : goal.returns
returns c = record {
  all = λ page right cat database given top terms candidates rows_are has identifier.
      begun cat database given top terms candidates.rows identifier _ rows_are (has.all identifier);
  ranges = λ page right cat database given top terms at old new first second there low high rows_are before has identifier.
      taken cat database given top terms at (Ranges first second) there new.rows identifier _ _ _ rows_are (before identifier)
      (both (in_groups first second identifier) (c.lists_are_of_terms.ensures.ranges cat database given top first second low high identifier)) (has.all identifier);
  list = λ page right cat database given top terms at old new term there list listed rows_are before has identifier.
      taken cat database given top terms at term there new.rows identifier _ _ _ rows_are (before identifier) (listed identifier) (has.all identifier);
  lists = λ page right then cat database given top terms at first new term there ids listed rows_are before has identifier.
      taken cat database given top terms at term there new.rows identifier _ _ _ rows_are (before identifier) (listed identifier) (has.all identifier);
  closed = λ right page then low cat database given top terms at first new rows_are before has identifier.
      kept cat database given top terms at new.rows identifier _ _ rows_are (before identifier) (has.all identifier);
  ended = λ right cat database given top terms merge gathered identifier row.
      whole cat database given top terms identifier _ (gathered identifier) row;
}
