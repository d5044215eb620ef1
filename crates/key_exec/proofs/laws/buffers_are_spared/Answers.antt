use Rattle.key_exec.proofs.SparedLemmas.{given_still, blank_still}
use Rattle.key_exec.proofs.laws.buffers_are_spared.Goals as goal

pub returns : goal.returns
returns c = record { given = given_still c.jobs_keep_their_buffers.ensures.given; blank = blank_still }
