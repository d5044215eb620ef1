use Rattle.std.proofs.Common.{◌≡◌, ◌≢◌, ℕ, ◌-◌, length, drop, refl, ap, sym, ◌∙◌, subst, arith}
use Rattle.ghost_model.specs.forms.Frames.{size_in}
use Rattle.ghost_model.specs.core.NextMove as next
use Rattle.channel_pump.specs.State.{IsTurned}
use Rattle.channel_pump.proofs.TurningLemmas.{greeted_last, greeted_part, still_missing}
use Rattle.channel_pump.proofs.state.Pump.greeted.Goals as goal

pub returns-then-size-len-clause-turned : goal.returns-then-size-len-clause-turned
returns-then-size-len-clause-turned c catalog asks before =
    let last : size_in c.args.part.now - 1 ≡ length c.args.self.now.missing = omega (arith, c.size_in.ensures, c.if-size-len.true, c.len.ensures.count) in
    subst (λ (t : next.FrameOutcome). IsTurned catalog c.go_on_with.new.self t)
    (sym (greeted_last catalog.schema asks c.args.self.now.missing c.args.part.now c.requires.whole c.requires.header last
    ∙ ap (λ (n : ℕ). next.ask_next catalog.schema n asks) (sym before.serial)))
    (c.go_on_with.ensures.turned catalog asks before.all)

pub returns-else-size-len-clause-turned : goal.returns-else-size-len-clause-turned
returns-else-size-len-clause-turned c catalog asks before =
    let more : size_in c.args.part.now - 1 ≢ length c.args.self.now.missing = λ e. c.if-size-len.false (ap (λ (n : ℕ). n - 1) c.size_in.ensures ∙ (e ∙ sym c.len.ensures.count)) in
    still_missing catalog _ _ _ c.requires.phase refl
    (c.leave_out.ensures.rest ∙ ap (λ (n : ℕ). drop (n - 1) c.args.self.now.missing) c.size_in.ensures)
    (greeted_part catalog.schema asks c.args.self.now.missing c.args.part.now c.requires.whole c.requires.header more)
