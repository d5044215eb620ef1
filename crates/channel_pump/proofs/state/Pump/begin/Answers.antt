use Rattle.std.proofs.Common.{refl}
use Rattle.channel_pump.proofs.ReportLemmas.{begun}
use Rattle.channel_pump.proofs.state.Pump.begin.Goals as goal

pub returns-clause-after : goal.returns-clause-after
returns-clause-after c =
    begun c.args.cat.now _ _ c.generation.ensures.value c.new.ensures.bytes c.new-2.ensures.asked refl refl refl refl refl
