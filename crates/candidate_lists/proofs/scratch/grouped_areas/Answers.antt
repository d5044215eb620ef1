use Rattle.candidate_lists.proofs.Groups.{gives_back, grouped_is_outside, has_group_turned, has_grouped}
use Rattle.candidate_lists.proofs.scratch.grouped_areas.Goals as goal

pub returns-clause-has : goal.returns-clause-has
returns-clause-has c = has_grouped

pub returns-clause-turned : goal.returns-clause-turned
returns-clause-turned c = has_group_turned

pub returns-clause-outside : goal.returns-clause-outside
returns-clause-outside c = grouped_is_outside

pub returns-clause-back : goal.returns-clause-back
returns-clause-back c = gives_back
