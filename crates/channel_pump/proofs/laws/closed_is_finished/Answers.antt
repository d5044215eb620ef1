use Rattle.std.proofs.Common.{◌∙◌}
use Rattle.channel_pump.proofs.MoveLemmas.{closed_stage}
use Rattle.channel_pump.proofs.laws.closed_is_finished.Goals as goal

pub returns : goal.returns
returns c = record {
  finished = λ catalog at asks journal pump page live wanted. live.finished (live.after.closed ∙ closed_stage pump pump.stage wanted);
}
