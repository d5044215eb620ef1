use Rattle.std.proofs.Common.{refl, arith}
use Rattle.ghost_model.specs.core.Channel as channel
use Rattle.channel_pump.specs.State.{entry}
use Rattle.channel_pump.proofs.EntryLemmas.{went_well, went_wrong}
use Rattle.channel_pump.proofs.MoveLemmas.{quiet}
use Rattle.channel_pump.proofs.state.Pump.dial.Goals as goal

pub returns-in-Ok-clause-moved : goal.returns-in-Ok-clause-moved
returns-in-Ok-clause-moved g c = λ catalog asks journal live next.
    let made = entry (channel.Dial c.args.at.now) channel.Made in
    quiet _ catalog c.args.at.now asks journal made c.args.self.now _ _ _ (went_well _ _ _ made c.in-Ok.ensures.moved refl c.in-Ok.ensures.cause.other (omega arith)) live next refl
    (c.made.ensures.after catalog c.args.at.now asks journal (channel.Dial c.args.at.now) live.after next)
    (c.pages_keep_the_part.ensures.later catalog asks journal made c.args.page.now refl live.keeps)

pub returns-in-Err-clause-moved : goal.returns-in-Err-clause-moved
returns-in-Err-clause-moved g c = λ catalog asks journal live next.
    let made = entry (channel.Dial c.args.at.now) channel.Failed in
    quiet _ catalog c.args.at.now asks journal made c.args.self.now _ _ _ (went_wrong _ _ _ made c.in-Err.ensures.moved refl c.in-Err.ensures.cause.never_falls c.in-Err.ensures.cause.failed (omega arith)) live next refl
    (c.failed.ensures.after catalog c.args.at.now asks journal (channel.Dial c.args.at.now) live.after next)
    (c.pages_keep_the_part.ensures.later catalog asks journal made c.args.page.now refl live.keeps)
