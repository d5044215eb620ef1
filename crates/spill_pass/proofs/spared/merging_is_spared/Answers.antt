use Rattle.spill_pass.proofs.SparedMerging.{merging_stays, merging_stays_given, gathers_stays, merging_left_stays, merging_calls_stay, merging_stays_outside, merging_is_small}
use Rattle.spill_pass.proofs.spared.merging_is_spared.Goals as goal

pub returns-clause-merging : goal.returns-clause-merging
returns-clause-merging c = merging_stays

pub returns-clause-gathers : goal.returns-clause-gathers
returns-clause-gathers c = gathers_stays

pub returns-clause-left : goal.returns-clause-left
returns-clause-left c = merging_left_stays

pub returns-clause-calls : goal.returns-clause-calls
returns-clause-calls c = merging_calls_stay

pub returns-clause-outside : goal.returns-clause-outside
returns-clause-outside c = merging_stays_outside

pub returns-clause-small : goal.returns-clause-small
returns-clause-small c = merging_is_small

pub returns-clause-given : goal.returns-clause-given
returns-clause-given c = merging_stays_given
