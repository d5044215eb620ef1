use Rattle.candidate_lists.proofs.Pigeonholes.{list_is_few, lists_are_few, union_is_few}
use Rattle.candidate_lists.proofs.few.lists_are_few.Goals as goal

pub returns-clause-lists : goal.returns-clause-lists
returns-clause-lists c = lists_are_few

pub returns-clause-list : goal.returns-clause-list
returns-clause-list c = list_is_few

pub returns-clause-union : goal.returns-clause-union
returns-clause-union c = union_is_few
