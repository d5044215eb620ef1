use Rattle.key_exec.proofs.LeftLemmas.{few_left}
use Rattle.key_exec.proofs.laws.few_steps_are_left.Goals as goal

pub returns : goal.returns
returns c = record { few = few_left }
