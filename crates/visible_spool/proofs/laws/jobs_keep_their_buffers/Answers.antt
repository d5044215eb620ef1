use Rattle.visible_spool.proofs.Sparing.{used_spared, filled_spared}
use Rattle.visible_spool.proofs.laws.jobs_keep_their_buffers.Goals as goal

pub returns-clause-used : goal.returns-clause-used
returns-clause-used c = used_spared

pub returns-clause-filled : goal.returns-clause-filled
returns-clause-filled c = filled_spared
