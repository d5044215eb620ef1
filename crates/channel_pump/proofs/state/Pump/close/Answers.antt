use Rattle.std.proofs.Common.{refl, arith}
use Rattle.ghost_model.specs.core.Channel as channel
use Rattle.channel_pump.specs.State.{entry}
use Rattle.channel_pump.proofs.EntryLemmas.{went_well}
use Rattle.channel_pump.proofs.MoveLemmas.{quiet}
use Rattle.channel_pump.proofs.state.Pump.close.Goals as goal

pub returns-clause-moved : goal.returns-clause-moved
returns-clause-moved g c = λ catalog at asks journal live next.
    let made = entry channel.Close channel.Made in
    quiet _ catalog at asks journal made c.args.self.now _ _ _ (went_well _ _ _ made c.close.ensures.moved refl c.close.ensures.faults (omega arith)) live next refl
    (c.made.ensures.after catalog at asks journal channel.Close live.after next)
    (c.pages_keep_the_part.ensures.later catalog asks journal made c.args.page.now refl live.keeps)
