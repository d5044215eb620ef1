use Rattle.key_exec.proofs.HalfLemmas.{others_spare, jobs_spare}
use Rattle.key_exec.proofs.laws.halves_are_spared.Goals as goal

pub returns : goal.returns
returns c = record { others = others_spare; jobs = jobs_spare }
