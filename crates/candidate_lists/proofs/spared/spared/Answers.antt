use Rattle.candidate_lists.proofs.Giving.{closed_stays_given}
use Rattle.candidate_lists.proofs.Staying.{closed_stays, closing_spares, lists_stay, reduce_keeps, scratch_stays}
use Rattle.candidate_lists.proofs.spared.spared.Goals as goal

pub returns-clause-closed : goal.returns-clause-closed
returns-clause-closed c = closed_stays

pub returns-clause-lists : goal.returns-clause-lists
returns-clause-lists c = lists_stay

pub returns-clause-reduce : goal.returns-clause-reduce
returns-clause-reduce c = reduce_keeps

pub returns-clause-closing : goal.returns-clause-closing
returns-clause-closing c = closing_spares

pub returns-clause-scratch : goal.returns-clause-scratch
returns-clause-scratch c = scratch_stays

pub returns-clause-given : goal.returns-clause-given
returns-clause-given c = closed_stays_given
