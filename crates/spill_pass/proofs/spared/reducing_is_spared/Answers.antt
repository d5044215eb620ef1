use Rattle.spill_pass.proofs.SparedReducing.{reducing_stays, reduce_left_stays, reducing_is_small}
use Rattle.spill_pass.proofs.spared.reducing_is_spared.Goals as goal

pub returns-clause-reducing : goal.returns-clause-reducing
returns-clause-reducing c = reducing_stays

pub returns-clause-left : goal.returns-clause-left
returns-clause-left c = reduce_left_stays

pub returns-clause-small : goal.returns-clause-small
returns-clause-small c = reducing_is_small
