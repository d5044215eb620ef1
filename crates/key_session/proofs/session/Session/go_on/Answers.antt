use Rattle.std.proofs.Common.{◌≡◌, ◌+◌, ◌∙◌, sym, ap, subst, arith, refl, true, false}
use Rattle.std.specs.Prelude.{is_some}
use Rattle.ghost_model.specs.core.Asks.{asked_of}
use Rattle.channel_pump.specs.Here.{moves_left}
use Rattle.channel_pump.specs.Entries.{WentBy}
use Rattle.channel_pump.specs.declared.state.Pump.{Pump}
use Rattle.key_session.specs.Telling.{session_side}
use Rattle.leakless_plan.specs.declared.plan.Plan.{Plan}
use Rattle.key_session.specs.Going.{IsLive, WasMoved, WentOn, MadeStep, left_of}
use Rattle.key_session.specs.Order.{is_closed}
use Rattle.key_session.specs.declared.pace.Due.{Due}
use Rattle.key_session.specs.declared.teller.Teller.{Teller}
use Rattle.key_session.proofs.Attending.{near_due, next_due}
use Rattle.key_lines.specs.Handing.{handed}
use Rattle.key_session.proofs.Leasing.{spoken, taken_amid, taken_channel}
use Rattle.key_session.proofs.session.Session.go_on.Goals as goal

pub go-requires-clause-some : goal.go-requires-clause-some
go-requires-clause-some g c =
    let some = c.requires.some in
    let amid = taken_amid some.by g.F.Flash.told some.texts some.journal some.since _ c.args.pool.now c.args.self.now c.requires.taken some.live in
    let cat = c.args.self.now.cat.now in
    record {
      by = some.by;
      texts = some.texts;
      journal = some.journal;
      since = some.since;
      sink = _;
      near = near_due c.over_texts_are_settled.ensures c.texts_come_in_order.ensures c.texts_are_decided.ensures c.texts_have_outcomes.ensures cat c.args.self.now.at.now some.texts some.journal c.args.self.now.pump
          c.args.self.now.teller c.args.self.now.pace.owed amid.going.telling.left_are (sym c.in-Move.is ∙ c.due.ensures.rule cat (asked_of cat.schema some.texts) some.journal (spoken g.F.Flash.told some.by some.texts some.journal some.since _ c.args.pool.now c.args.self.now some.live).1.after);
      channel = taken_channel cat c.args.self.now.at.now some.texts some.journal c.args.pool.now c.args.self.now.frame c.args.self.now.pump c.args.self.now.buffers c.requires.taken some.live.channel;
      amid = amid;
    }

pub returns-in-Move-clause-live : goal.returns-in-Move-clause-live
returns-in-Move-clause-live g c = λ plan texts journal since live.
    let cat = c.args.self.now.cat.now in
    let near = near_due c.over_texts_are_settled.ensures c.texts_come_in_order.ensures c.texts_are_decided.ensures c.texts_have_outcomes.ensures cat c.args.self.now.at.now texts journal c.args.self.now.pump
    c.args.self.now.teller c.args.self.now.pace.owed (taken_amid plan g.F.Flash.told texts journal since _ c.args.pool.now c.args.self.now c.requires.taken live).going.telling.left_are (sym c.in-Move.is ∙ c.due.ensures.rule cat (asked_of cat.schema texts) journal (spoken g.F.Flash.told plan texts journal since _ c.args.pool.now c.args.self.now live).1.after) in
    let before = session_side c.args.self.now.teller.printer.failed (g.O.Sink.faults c.args.out.now) (g.O.Sink.written c.args.out.now) (g.F.Flash.state c.args.flash.now) in
    subst (λ (due : Due). WentOn due (WentBy (λ more. g.L.Link.went c.args.link.now more c.go.new.link) (g.L.Link.faults c.args.link.now) (g.L.Link.faults c.go.new.link)) plan g.F.Flash.told texts journal since before
    (session_side c.go.new.self.teller.printer.failed (g.O.Sink.faults c.args.out.now) (g.O.Sink.written c.args.out.now) (g.F.Flash.state c.go.new.flash)) c.go.new.pool c.args.self.now c.go.new.self)
    (sym c.in-Move.is ∙ c.due.ensures.by_rule plan g.F.Flash.told texts journal since before c.args.pool.now live)
    (subst (λ (teller : Teller). WasMoved (WentBy (λ more. g.L.Link.went c.args.link.now more c.go.new.link) (g.L.Link.faults c.args.link.now) (g.L.Link.faults c.go.new.link)) plan g.F.Flash.told texts journal since before
    (session_side teller.printer.failed (g.O.Sink.faults c.args.out.now) (g.O.Sink.written c.args.out.now) (g.F.Flash.state c.go.new.flash)) c.go.new.pool c.args.self.now c.go.new.self) (sym c.go.ensures.teller)
    (c.go.ensures.live plan texts journal since (handed c.args.self.now.teller.printer.failed (g.O.Sink.faults c.args.out.now) (g.O.Sink.written c.args.out.now)) near live))

pub returns-in-Move-clause-made : goal.returns-in-Move-clause-made
returns-in-Move-clause-made g c = λ catalog asks journal after.
    let less = c.go.ensures.fewer in
    let before = session_side c.args.self.now.teller.printer.failed (g.O.Sink.faults c.args.out.now) (g.O.Sink.written c.args.out.now) (g.F.Flash.state c.args.flash.now) in
    subst (λ (due : Due). MadeStep due before (session_side c.go.new.self.teller.printer.failed (g.O.Sink.faults c.args.out.now) (g.O.Sink.written c.args.out.now) (g.F.Flash.state c.go.new.flash)) c.args.self.now c.go.new.self)
    (sym c.in-Move.is ∙ c.due.ensures.rule catalog asks journal after)
    (record {
      sink = ap (λ (teller : Teller). handed teller.printer.failed (g.O.Sink.faults c.args.out.now) (g.O.Sink.written c.args.out.now)) c.go.ensures.teller;
      writes = c.go.ensures.writes;
      teller = c.go.ensures.teller;
      fewer = omega (arith, less);
    })

pub returns-in-Move-clause-fewer : goal.returns-in-Move-clause-fewer
returns-in-Move-clause-fewer g c =
    let less = c.go.ensures.fewer in
    let same = ap left_of c.go.ensures.teller in
    omega (arith, less, same)

pub returns-in-Slice-clause-live : goal.returns-in-Slice-clause-live
returns-in-Slice-clause-live g c = λ plan texts journal since live.
    let cat = c.args.self.now.cat.now in
    let next = next_due c.over_texts_are_settled.ensures c.texts_come_in_order.ensures c.texts_are_decided.ensures c.texts_have_outcomes.ensures cat c.args.self.now.at.now texts journal c.args.self.now.pump
    (is_some c.args.self.now.teller.ahead) c.args.self.now.pace.owed (c.args.self.now.teller.count + 1) (spoken g.F.Flash.told plan texts journal since _ c.args.pool.now c.args.self.now live).1.proper
    (λ closed. c.closed_is_finished.ensures.finished cat c.args.self.now.at.now (asked_of cat.schema texts) journal c.args.self.now.pump (spoken g.F.Flash.told plan texts journal since _ c.args.pool.now c.args.self.now live).0 (spoken g.F.Flash.told plan texts journal since _ c.args.pool.now c.args.self.now live).1 closed)
    (sym c.in-Slice.is ∙ c.due.ensures.rule cat (asked_of cat.schema texts) journal (spoken g.F.Flash.told plan texts journal since _ c.args.pool.now c.args.self.now live).1.after) in
    subst (λ (due : Due). WentOn due (WentBy (λ more. g.L.Link.went c.args.link.now more c.args.link.now) (g.L.Link.faults c.args.link.now) (g.L.Link.faults c.args.link.now)) plan g.F.Flash.told texts journal since
    (session_side c.args.self.now.teller.printer.failed (g.O.Sink.faults c.args.out.now) (g.O.Sink.written c.args.out.now) (g.F.Flash.state c.args.flash.now))
    (session_side c.tell.new.self.teller.printer.failed (g.O.Sink.faults c.tell.new.out) (g.O.Sink.written c.tell.new.out) (g.F.Flash.state c.tell.new.flash)) c.tell.new.pool c.args.self.now c.tell.new.self)
    (sym c.in-Slice.is ∙ c.due.ensures.by_rule plan g.F.Flash.told texts journal since (session_side c.args.self.now.teller.printer.failed (g.O.Sink.faults c.args.out.now) (g.O.Sink.written c.args.out.now) (g.F.Flash.state c.args.flash.now)) c.args.pool.now live)
    (record {
      went = record { gone = g.met.L.Link.stays _; counts = c.moves_join.ensures.joined.none _; short = refl };
      sliced = c.tell.ensures.sliced;
      spends = λ is_pre. c.tell.ensures.spends texts journal since next
          (subst (λ (by : Plan). IsLive by g.F.Flash.told texts journal since (session_side c.args.self.now.teller.printer.failed (g.O.Sink.faults c.args.out.now) (g.O.Sink.written c.args.out.now) (g.F.Flash.state c.args.flash.now)) c.args.pool.now c.args.self.now) is_pre live);
      counts = c.tell.ensures.counts;
      cat = ap (λ (cat : _). cat.now) c.tell.ensures.cat;
      live = c.tell.ensures.live plan texts journal since next live;
    })

pub returns-in-Slice-clause-made : goal.returns-in-Slice-clause-made
returns-in-Slice-clause-made g c = λ catalog asks journal after.
    let less = c.tell.ensures.fewer in
    subst (λ (due : Due). MadeStep due (session_side c.args.self.now.teller.printer.failed (g.O.Sink.faults c.args.out.now) (g.O.Sink.written c.args.out.now) (g.F.Flash.state c.args.flash.now))
    (session_side c.tell.new.self.teller.printer.failed (g.O.Sink.faults c.tell.new.out) (g.O.Sink.written c.tell.new.out) (g.F.Flash.state c.tell.new.flash)) c.args.self.now c.tell.new.self)
    (sym c.in-Slice.is ∙ c.due.ensures.rule catalog asks journal after)
    (record { pump = c.tell.ensures.pump; turn = c.tell.ensures.turn; few = c.tell.ensures.few; counted = c.tell.ensures.counted; kept = c.tell.ensures.kept; fewer = omega (arith, less); sliced = c.tell.ensures.sliced })

pub returns-in-Slice-clause-fewer : goal.returns-in-Slice-clause-fewer
returns-in-Slice-clause-fewer g c =
    let less = c.tell.ensures.fewer in
    let same = ap (λ (pump : Pump). moves_left pump) c.tell.ensures.pump in
    omega (arith, less, same)

pub returns-in-Ended-clause-live : goal.returns-in-Ended-clause-live
returns-in-Ended-clause-live g c = λ plan texts journal since live. absurd (true_false (sym (c.requires.going (ap is_closed (c.due.ensures.closed c.in-Ended.is))) ∙ c.due.ensures.none c.in-Ended.is))
  where
    true_false : true ≡ false → ⊥
    true_false e = cc

pub returns-in-Ended-clause-made : goal.returns-in-Ended-clause-made
returns-in-Ended-clause-made g c = λ catalog asks journal after. absurd (true_false (sym (c.requires.going (ap is_closed (c.due.ensures.closed c.in-Ended.is))) ∙ c.due.ensures.none c.in-Ended.is))
  where
    true_false : true ≡ false → ⊥
    true_false e = cc

pub returns-in-Ended-clause-fewer : goal.returns-in-Ended-clause-fewer
returns-in-Ended-clause-fewer g c = absurd (true_false (sym (c.requires.going (ap is_closed (c.due.ensures.closed c.in-Ended.is))) ∙ c.due.ensures.none c.in-Ended.is))
  where
    true_false : true ≡ false → ⊥
    true_false e = cc

pub tell-requires-clause-left : goal.tell-requires-clause-left
tell-requires-clause-left g c = c.due.ensures.left c.in-Slice.is
