use Rattle.key_exec.proofs.HalfLemmas.{readers_keep, kept_stays}
use Rattle.key_exec.proofs.laws.what_jobs_keep_adds_up.Goals as goal

pub returns : goal.returns
returns c = record { readers = readers_keep; stays = kept_stays }
