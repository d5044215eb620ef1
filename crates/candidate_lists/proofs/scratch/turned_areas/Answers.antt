use Rattle.candidate_lists.proofs.Giving.{may_be_fewer, may_exchange, may_group, may_turn}
use Rattle.candidate_lists.proofs.Turning.{has_turned, turned_is_outside, turns_again}
use Rattle.candidate_lists.proofs.scratch.turned_areas.Goals as goal

pub returns-clause-has : goal.returns-clause-has
returns-clause-has c = has_turned

pub returns-clause-outside : goal.returns-clause-outside
returns-clause-outside c = turned_is_outside

pub returns-clause-again : goal.returns-clause-again
returns-clause-again c = turns_again

pub returns-clause-may : goal.returns-clause-may
returns-clause-may c = may_turn

pub returns-clause-exchanged : goal.returns-clause-exchanged
returns-clause-exchanged c = may_exchange

pub returns-clause-grouped : goal.returns-clause-grouped
returns-clause-grouped c = may_group

pub returns-clause-fewer : goal.returns-clause-fewer
returns-clause-fewer c = may_be_fewer
