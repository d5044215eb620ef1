use Rattle.std.proofs.Common.{◌≡◌, ◌≤◌, false}
use Rattle.ghost_model.specs.core.Texts.{texts_of}
use Rattle.channel_pump.specs.Entries.{WentBy}
use Rattle.key_session.specs.Going.{CanStep, steps_left}
use Rattle.key_session.specs.FewCalls.{HasCome}
use Rattle.key_session.specs.Telling.{session_side}
use Rattle.key_session.proofs.session.run_session.Given as goal

abbrev pub decreases-steps : goal.decreases-steps
decreases-steps g l = steps_left l.session

abbrev pub invariant-steps : goal.invariant-steps
invariant-steps g l =
    CanStep g.F.Flash.told (g.F.Flash.state l.flash) l.pool l.session
    × (l.session.cat.now ≡ l.cat)
    × (l.session.at.now ≡ l.fn.options.at.now)
    × (g.L.Link.faults l.initial.link ≤ g.L.Link.faults l.link)
    × HasCome (WentBy (λ journal. g.L.Link.went l.initial.link journal l.link) (g.L.Link.faults l.initial.link) (g.L.Link.faults l.link)) l.fn.options.plan g.F.Flash.told (texts_of l.script)
    (session_side false (g.O.Sink.faults l.initial.out) (g.O.Sink.written l.initial.out) (g.F.Flash.state l.initial.flash))
    (session_side l.session.teller.printer.failed (g.O.Sink.faults l.out) (g.O.Sink.written l.out) (g.F.Flash.state l.flash)) l.pool l.session
