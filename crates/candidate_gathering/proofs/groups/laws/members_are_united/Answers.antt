use Rattle.candidate_gathering.proofs.searching_lemmas.Places.{both}
use Rattle.candidate_gathering.proofs.searching_lemmas.TermsTaken.{in_groups}
use Rattle.condition_lists.specs.declared.term.Term.TheVariants.{Ranges}
use Rattle.candidate_gathering.proofs.group_lemmas.Members.{begun, kept, left_out, united}
use Rattle.candidate_gathering.proofs.groups.laws.members_are_united.Goals as goal

pub returns : goal.returns
returns c = record {
  none = λ page whole cat database given top members union has identifier.
      begun cat database given top members union.rows identifier _ (has.all identifier);
  ranges = λ page whole cat database given top members at old new first second there low high rows_are before has identifier.
      united cat database given top members at (Ranges first second) there new.rows identifier _ _ _ rows_are (before identifier)
      (both (in_groups first second identifier) (c.lists_are_of_terms.ensures.ranges cat database given top first second low high identifier)) (has.all identifier);
  lists = λ page whole then cat database given top members at first new member there ids listed rows_are before has identifier.
      united cat database given top members at member there new.rows identifier _ _ _ rows_are (before identifier) (listed identifier) (has.all identifier);
  nothing = λ whole cat database given top members at merge member there none before identifier.
      left_out cat database given top members at member there identifier _ (none identifier) (before identifier);
  closed = λ right page then low cat database given top members at first new rows_are before has identifier.
      kept cat database given top members at new.rows identifier _ _ rows_are (before identifier) (has.all identifier);
}
