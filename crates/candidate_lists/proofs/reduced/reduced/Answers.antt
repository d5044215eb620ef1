use Rattle.candidate_lists.proofs.Standing.{reduced_has, reduced_ordered}
use Rattle.candidate_lists.proofs.reduced.reduced.Goals as goal

pub returns-clause-ordered : goal.returns-clause-ordered
returns-clause-ordered c = reduced_ordered

pub returns-clause-has : goal.returns-clause-has
returns-clause-has c = reduced_has
