use Rattle.std.proofs.Common.{refl, sym, ap, ◌∙◌, Some}
use Rattle.ghost_model.specs.core.Channel as channel
use Rattle.channel_pump.specs.State.{entry}
use Rattle.channel_pump.proofs.EntryLemmas.{went_well, went_wrong, front_short}
use Rattle.channel_pump.proofs.MoveLemmas.{quiet}
use Rattle.channel_pump.proofs.state.Pump.send.Goals as goal

pub returns-in-Ok-clause-moved : goal.returns-in-Ok-clause-moved
returns-in-Ok-clause-moved g c = λ catalog at asks journal live.
    let bytes = c.split_at.result.0.now in
    let made = entry (channel.Send bytes) channel.Made in
    let next = c.frame-count.ensures.sends catalog at asks journal live.after ∙ ap (λ bs. Some (channel.Send bs)) (sym c.split_at.ensures.front) in
    quiet _ catalog at asks journal made c.args.self.now _ _ _ (went_well _ _ _ made c.in-Ok.ensures.moved refl c.in-Ok.ensures.cause.other (front_short c.frame-count.result bytes c.frame-count.new.page c.split_at.ensures.front c.frame-count.ensures.most)) live next refl
    (c.made.ensures.after catalog at asks journal (channel.Send bytes) live.after next)
    (c.pages_keep_the_part.ensures.later catalog asks journal made c.frame-count.new.page refl (c.frame-count.ensures.keeps catalog asks journal live.after))

pub returns-in-Err-clause-moved : goal.returns-in-Err-clause-moved
returns-in-Err-clause-moved g c = λ catalog at asks journal live.
    let bytes = c.split_at.result.0.now in
    let made = entry (channel.Send bytes) channel.Failed in
    let next = c.frame-count.ensures.sends catalog at asks journal live.after ∙ ap (λ bs. Some (channel.Send bs)) (sym c.split_at.ensures.front) in
    quiet _ catalog at asks journal made c.args.self.now _ _ _ (went_wrong _ _ _ made c.in-Err.ensures.moved refl c.in-Err.ensures.cause.never_falls c.in-Err.ensures.cause.failed (front_short c.frame-count.result bytes c.frame-count.new.page c.split_at.ensures.front c.frame-count.ensures.most)) live next refl
    (c.failed.ensures.after catalog at asks journal (channel.Send bytes) live.after next)
    (c.pages_keep_the_part.ensures.later catalog asks journal made c.frame-count.new.page refl (c.frame-count.ensures.keeps catalog asks journal live.after))
