use Rattle.std.proofs.Common.{Some, sym, ◌∙◌, subst}
use Rattle.ghost_model.specs.core.NextMove.{standing_after}
use Rattle.channel_pump.specs.declared.state.Cause.{Cause}
use Rattle.channel_pump.specs.Progress.{EndsAs}
use Rattle.channel_pump.proofs.MarkLemmas.{is_done, is_link, is_protocol, is_awaited}
use Rattle.channel_pump.proofs.state.Pump.reply_state.Goals as goal

pub returns-then-not-awaits_text : goal.returns-then-not-awaits_text
returns-then-not-awaits_text c catalog asks journal h =
    is_done catalog asks c.args.text c.args.self.now (standing_after catalog asks journal) h c.requires c.if-self-text.false (sym c.awaits_text.ensures ∙ c.if-not-awaits_text.true)

pub returns-in-None : goal.returns-in-None
returns-in-None c catalog asks journal h =
    is_awaited catalog asks c.args.text c.args.self.now (standing_after catalog asks journal) h c.requires c.if-self-text.false (sym c.awaits_text.ensures ∙ c.if-not-awaits_text.false)
    (c.in-None.ensures.ends catalog asks journal h)

pub returns-in-Some-Link : goal.returns-in-Some-Link
returns-in-Some-Link c catalog asks journal h =
    is_link catalog asks c.args.text c.args.self.now (standing_after catalog asks journal) h c.requires c.if-self-text.false (sym c.awaits_text.ensures ∙ c.if-not-awaits_text.false)
    (subst (λ (x : Cause). EndsAs (standing_after catalog asks journal) (Some x)) c.in-Some-Link.field-0-is (c.in-Some-Link.ensures.ends catalog asks journal h))

pub returns-in-Some-Protocol : goal.returns-in-Some-Protocol
returns-in-Some-Protocol c catalog asks journal h =
    is_protocol catalog asks c.args.text c.args.self.now (standing_after catalog asks journal) h c.requires _ _ c.if-self-text.false (sym c.awaits_text.ensures ∙ c.if-not-awaits_text.false)
    (subst (λ (x : Cause). EndsAs (standing_after catalog asks journal) (Some x)) c.in-Some-Protocol.field-0-is (c.in-Some-Protocol.ensures.ends catalog asks journal h))
