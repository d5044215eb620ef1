use Rattle.std.proofs.Common.{refl}
use Rattle.channel_pump.proofs.ReportLemmas.{stopped_after, same_fields, take_can_fail}
use Rattle.channel_pump.proofs.state.Pump.ended.Goals as goal

pub returns-clause-after : goal.returns-clause-after
returns-clause-after c catalog at asks journal move h n =
    stopped_after catalog at asks journal c.args.self.now _ move _ (same_fields _ _ refl refl refl refl refl refl refl) refl refl (take_can_fail _ c.requires) refl refl h n
