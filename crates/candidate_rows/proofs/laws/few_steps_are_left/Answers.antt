use Rattle.candidate_rows.proofs.StepLemmas.{few_left}
use Rattle.candidate_rows.proofs.laws.few_steps_are_left.Goals as goal

pub returns : goal.returns
returns c = record { few = few_left c.searches_are_short.ensures.short }
