use Rattle.std.proofs.Common.{◌≢◌, ℕ, ◌+◌, refl, ap, sym, ◌∙◌, subst, arith}
use Rattle.ghost_model.specs.forms.Frames as frames
use Rattle.ghost_model.specs.core.NextMove as next
use Rattle.channel_pump.specs.State.{IsTurned}
use Rattle.channel_pump.proofs.TurningLemmas.{fewer_by_rows, fewer_given_up, asks_given_up, refused_turn}
use Rattle.channel_pump.proofs.state.Pump.replied.Goals as goal

pub returns-in-18-clause-frames : goal.returns-in-18-clause-frames
returns-in-18-clause-frames c =
    fewer_by_rows c.args.self.now _ c.args.part.now c.args.tally c.requires.phase refl refl refl (sym c.kind_in.ensures ∙ c.in-18.is) c.requires.stands

pub returns-in_default-clause-turned : goal.returns-in_default-clause-turned
returns-in_default-clause-turned c catalog asked serial later count last h =
    let other : frames.kind_in c.args.part.now ≢ 18 = λ e. omega (arith, e, c.kind_in.ensures) in
    let another : frames.kind_in c.args.part.now ≢ 19 = λ e. omega (arith, e, c.kind_in.ensures) in
    let first = c.text-text.ensures.first in
    subst (λ (t : next.FrameOutcome). IsTurned catalog c.go_on_with-in_default.new.self t)
    (sym (refused_turn c.args.self.now c.args.part.now catalog.schema asked serial later count last c.requires.phase other another c.requires.stands.header
    ∙ ap (λ (n : ℕ). next.ask_next catalog.schema (n + 1) (next.of_later_texts asked.text later)) (sym h.its_serial)))
    (c.go_on_with-in_default.ensures.turned catalog (next.of_later_texts asked.text later)
    (asks_given_up catalog c.args.self.now.rest _ _ first.0 first.1 c.text-text.result asked later h.asks first.2 first.3 c.leave_out-in_default.ensures.rest c.give_up.ensures.rest))

pub returns-in_default-clause-frames : goal.returns-in_default-clause-frames
returns-in_default-clause-frames c =
    let first = c.text-text.ensures.first in
    fewer_given_up c.args.self.now c.go_on_with-in_default.new.self _ _ first.0 first.1 c.text-text.result c.requires.phase first.2 first.3
    c.leave_out-in_default.ensures.rest c.give_up.ensures.rest c.go_on_with-in_default.ensures.frames
