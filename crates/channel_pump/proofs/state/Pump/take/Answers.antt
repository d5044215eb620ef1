use Rattle.std.proofs.Common.{arith, refl, ap, ◌∙◌, take}
use Rattle.ghost_model.specs.core.Channel as channel
use Rattle.channel_pump.specs.State.{entry}
use Rattle.channel_pump.proofs.EntryLemmas.{went_wrong, took}
use Rattle.channel_pump.proofs.MoveLemmas.{quiet, is_take, front_keeps, gave_some, gave_none, ended, took_piece, positive, taking_unbroken}
use Rattle.channel_pump.proofs.state.Pump.take.Goals as goal

pub returns-in-Err-clause-moved : goal.returns-in-Err-clause-moved
returns-in-Err-clause-moved g c = λ catalog at asks journal live next.
    let made = entry (channel.Take c.args.most) channel.Failed in
    let wanted = is_take catalog at asks journal c.args.self.now c.args.page.now c.args.place c.args.most live c.requires.wanted in
    quiet _ catalog at asks journal made c.args.self.now _ _ _ (went_wrong _ _ _ made c.in-Err.ensures.went refl c.in-Err.ensures.cause.never_falls c.in-Err.ensures.cause.failed (omega arith)) live next refl
    (c.failed.ensures.after catalog at asks journal (channel.Take c.args.most) live.after next)
    (c.pages_keep_the_part.ensures.later catalog asks journal made c.take_piece.new.page refl
    (front_keeps catalog asks journal c.args.place c.args.page.now c.take_piece.new.page wanted.part c.take_piece.ensures.front live.keeps))

pub returns-in-Ok-eq0-clause-moved : goal.returns-in-Ok-eq0-clause-moved
returns-in-Ok-eq0-clause-moved g c = λ catalog at asks journal live next.
    let made = entry (channel.Take c.args.most) channel.End in
    let wanted = is_take catalog at asks journal c.args.self.now c.args.page.now c.args.place c.args.most live c.requires.wanted in
    ended _ catalog at asks journal c.args.most _ c.args.self.now _ _ _ (took _ _ _ c.args.place c.args.most c.in-Ok-eq0.field-0 c.take_piece.new.page c.in-Ok-eq0.ensures.went c.in-Ok-eq0.ensures.cause.other c.in-Ok-eq0.ensures.within c.requires.fits) (gave_none c.args.place c.in-Ok-eq0.field-0 c.take_piece.new.page c.in-Ok-eq0.field-0-test) live next
    (c.ended.ensures.after catalog at asks journal (channel.Take c.args.most) live.after next)
    (c.pages_keep_the_part.ensures.later catalog asks journal made c.take_piece.new.page refl
    (front_keeps catalog asks journal c.args.place c.args.page.now c.take_piece.new.page wanted.part c.take_piece.ensures.front live.keeps))

pub returns-in-Ok-clause-moved : goal.returns-in-Ok-clause-moved
returns-in-Ok-clause-moved g c = λ catalog at asks journal live next.
    let wanted = is_take catalog at asks journal c.args.self.now c.args.page.now c.args.place c.args.most live c.requires.wanted in
    let keeps = front_keeps catalog asks journal c.args.place c.args.page.now c.take_piece.new.page wanted.part c.take_piece.ensures.front live.keeps in
    took_piece _ catalog at asks journal c.args.self.now _ c.args.page.now c.take_piece.new.page c.args.place c.args.most c.in-Ok.count _ _ (positive c.in-Ok.count c.in-Ok.count-test.1) c.in-Ok.ensures.within
    (omega (arith, c.requires.fits, c.take_piece.array_long)) (live.after.broken ∙ taking_unbroken c.args.self.now c.args.self.now.stage c.args.place c.args.most c.requires.wanted)
    (c.took.ensures.event catalog asks journal live.after keeps) live next wanted
    _ (took _ _ _ c.args.place c.args.most c.in-Ok.count c.take_piece.new.page c.in-Ok.ensures.went c.in-Ok.ensures.cause.other c.in-Ok.ensures.within c.requires.fits) (gave_some c.args.place c.in-Ok.count c.take_piece.new.page c.in-Ok.count-test.1)
    (c.split_at-in-Ok.ensures.front ∙ ap (take c.in-Ok.count) c.split_at.ensures.back) c.are_bytes.ensures.bytes
    (c.took.ensures.after catalog asks journal live.after keeps)
    (c.took.ensures.keeps catalog asks journal live.after keeps)
    (c.took.ensures.tells catalog asks journal live.after keeps)
