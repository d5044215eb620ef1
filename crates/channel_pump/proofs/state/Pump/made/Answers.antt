use Rattle.std.proofs.Common.{refl}
use Rattle.channel_pump.proofs.ReportLemmas.{closed_after, same_fields}
use Rattle.channel_pump.proofs.state.Pump.made.Goals as goal

pub returns-in-Closing-clause-after : goal.returns-in-Closing-clause-after
returns-in-Closing-clause-after c catalog at asks journal move h n =
    closed_after catalog at asks journal c.args.self.now _ _ move (same_fields _ _ refl refl refl refl refl refl refl) refl refl c.in-Closing.is h n
