use Rattle.std.proofs.Common.{◌∙◌, sym, ap, subst, arith, Bool}
use Rattle.channel_pump.specs.Entries.{WentBy}
use Rattle.key_session.specs.Kept.{lease_of}
use Rattle.key_session.specs.Telling.{session_side}
use Rattle.key_session.specs.Going.{IsLeft, IsLive, MadeStep, WentOn, due_by_rule, due_in, steps_left}
use Rattle.key_session.specs.declared.session.Session.{Session}
use Rattle.key_session.proofs.Leasing.{after_still, went_with, made_with}
use Rattle.key_session.proofs.session.Session.step.Goals as goal

pub take_buffers-requires-clause-can : goal.take_buffers-requires-clause-can
take_buffers-requires-clause-can g c = record { told = g.F.Flash.told; device = g.F.Flash.state c.args.flash.now; can = c.requires.can }

pub go_on-requires-clause-going : goal.go_on-requires-clause-going
go_on-requires-clause-going g c = subst IsLeft (sym c.take_buffers.ensures.same) c.requires.going

pub go_on-requires-clause-can : goal.go_on-requires-clause-can
go_on-requires-clause-can g c = c.take_buffers.ensures.can g.F.Flash.told (g.F.Flash.state c.args.flash.now) c.requires.can

pub go_on-requires-clause-some : goal.go_on-requires-clause-some
go_on-requires-clause-some g c =
    let some = c.requires.some in
    let side = session_side c.args.self.now.teller.printer.failed (g.O.Sink.faults c.args.out.now) (g.O.Sink.written c.args.out.now) (g.F.Flash.state c.args.flash.now) in
    record {
      by = some.by;
      texts = some.texts;
      journal = some.journal;
      since = some.since;
      live = subst (λ (failed : Bool). IsLive some.by g.F.Flash.told some.texts some.journal some.since (session_side failed (g.O.Sink.faults c.args.out.now) (g.O.Sink.written c.args.out.now) (g.F.Flash.state c.args.flash.now)) c.take_buffers.new.pool c.take_buffers.new.self)
          (sym (ap (λ (session : Session). session.teller.printer.failed) c.take_buffers.ensures.same)) (c.take_buffers.ensures.live some.by g.F.Flash.told some.texts some.journal some.since side some.live);
    }

pub give_back-requires-clause-can : goal.give_back-requires-clause-can
give_back-requires-clause-can g c = record { told = g.F.Flash.told; device = g.F.Flash.state c.go_on.new.flash; can = c.go_on.ensures.can }

pub returns-clause-live : goal.returns-clause-live
returns-clause-live g c = λ plan texts journal since live.
    let goes = WentBy (λ more. g.L.Link.went c.args.link.now more c.go_on.new.link) (g.L.Link.faults c.args.link.now) (g.L.Link.faults c.go_on.new.link) in
    let before = session_side c.args.self.now.teller.printer.failed (g.O.Sink.faults c.args.out.now) (g.O.Sink.written c.args.out.now) (g.F.Flash.state c.args.flash.now) in
    let now = session_side c.go_on.new.self.teller.printer.failed (g.O.Sink.faults c.go_on.new.out) (g.O.Sink.written c.go_on.new.out) (g.F.Flash.state c.go_on.new.flash) in
    let held = subst (λ (failed : Bool). IsLive plan g.F.Flash.told texts journal since (session_side failed (g.O.Sink.faults c.args.out.now) (g.O.Sink.written c.args.out.now) (g.F.Flash.state c.args.flash.now)) c.take_buffers.new.pool c.take_buffers.new.self)
    (sym (ap (λ (session : Session). session.teller.printer.failed) c.take_buffers.ensures.same)) (c.take_buffers.ensures.live plan g.F.Flash.told texts journal since before live) in
    subst (λ (session : Session). WentOn (due_by_rule c.args.self.now.cat.now texts journal c.args.self.now) goes plan g.F.Flash.told texts journal since before
    (session_side session.teller.printer.failed (g.O.Sink.faults c.go_on.new.out) (g.O.Sink.written c.go_on.new.out) (g.F.Flash.state c.go_on.new.flash)) c.give_back.new.pool c.args.self.now session) (sym c.give_back.ensures.same)
    (went_with goes plan g.F.Flash.told texts journal since before now c.go_on.new.pool c.give_back.new.pool c.args.self.now c.go_on.new.self c.take_buffers.new.self.buffers c.give_back.new.self.buffers (lease_of c.take_buffers.new.self.replies) (lease_of c.give_back.new.self.replies) c.take_buffers.new.self.frame c.give_back.new.self.frame
    (λ after worked. subst (λ (session : Session). IsLive plan g.F.Flash.told texts after since now c.give_back.new.pool session) c.give_back.ensures.same (c.give_back.ensures.live plan g.F.Flash.told texts after since now worked))
    (due_by_rule c.args.self.now.cat.now texts journal c.args.self.now)
    (subst (λ (session : Session). WentOn (due_by_rule session.cat.now texts journal session) goes plan g.F.Flash.told texts journal since
    (session_side session.teller.printer.failed (g.O.Sink.faults c.args.out.now) (g.O.Sink.written c.args.out.now) (g.F.Flash.state c.args.flash.now)) now c.go_on.new.pool session c.go_on.new.self) c.take_buffers.ensures.same
    (c.go_on.ensures.live plan texts journal since held)))

pub returns-clause-made : goal.returns-clause-made
returns-clause-made g c = λ catalog asks journal after.
    let before = session_side c.args.self.now.teller.printer.failed (g.O.Sink.faults c.args.out.now) (g.O.Sink.written c.args.out.now) (g.F.Flash.state c.args.flash.now) in
    let now = session_side c.go_on.new.self.teller.printer.failed (g.O.Sink.faults c.go_on.new.out) (g.O.Sink.written c.go_on.new.out) (g.F.Flash.state c.go_on.new.flash) in
    subst (λ (session : Session). MadeStep (due_in catalog asks journal c.args.self.now) before
    (session_side session.teller.printer.failed (g.O.Sink.faults c.go_on.new.out) (g.O.Sink.written c.go_on.new.out) (g.F.Flash.state c.go_on.new.flash)) c.args.self.now session) (sym c.give_back.ensures.same)
    (made_with before now c.args.self.now c.go_on.new.self c.take_buffers.new.self.buffers c.give_back.new.self.buffers (lease_of c.take_buffers.new.self.replies) (lease_of c.give_back.new.self.replies) c.take_buffers.new.self.frame c.give_back.new.self.frame (due_in catalog asks journal c.args.self.now)
    (subst (λ (session : Session). MadeStep (due_in catalog asks journal session)
    (session_side session.teller.printer.failed (g.O.Sink.faults c.args.out.now) (g.O.Sink.written c.args.out.now) (g.F.Flash.state c.args.flash.now)) now session c.go_on.new.self) c.take_buffers.ensures.same
    (c.go_on.ensures.made catalog asks journal
    (after_still catalog asks journal c.args.self.now c.take_buffers.new.self c.take_buffers.ensures.same after))))

pub returns-clause-plan : goal.returns-clause-plan
returns-clause-plan g c = ap (λ (session : Session). session.teller.plan) c.give_back.ensures.same ∙ (c.go_on.ensures.plan ∙ ap (λ (session : Session). session.teller.plan) c.take_buffers.ensures.same)

pub returns-clause-cat : goal.returns-clause-cat
returns-clause-cat g c = ap (λ (session : Session). session.cat) c.give_back.ensures.same ∙ (c.go_on.ensures.cat ∙ ap (λ (session : Session). session.cat) c.take_buffers.ensures.same)

pub returns-clause-at : goal.returns-clause-at
returns-clause-at g c = ap (λ (session : Session). session.at) c.give_back.ensures.same ∙ (c.go_on.ensures.at ∙ ap (λ (session : Session). session.at) c.take_buffers.ensures.same)

pub returns-clause-fewer : goal.returns-clause-fewer
returns-clause-fewer g c =
    let first = ap steps_left c.take_buffers.ensures.same in
    let less = c.go_on.ensures.fewer in
    let last = ap steps_left c.give_back.ensures.same in
    omega (arith, first, less, last)
