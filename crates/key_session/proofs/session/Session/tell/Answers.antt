use Rattle.std.proofs.Common.{◌+◌, ◌∙◌, ℕ, List, sym, subst, arith, Bool}
use Rattle.ghost_model.specs.core.Asks.{asked_of}
use Rattle.channel_pump.specs.Sessions.{IsLive}
use Rattle.key_lines.specs.Handing.{handed}
use Rattle.key_exec.specs.Rows.{TakesTurn}
use Rattle.key_session.specs.Telling.{session_side}
use Rattle.session_laws.specs.TextEnds.{heard_in}
use Rattle.key_session.specs.Kept.{lease_of}
use Rattle.key_session.specs.Going.{CanRun, IsBegun, Speaks, Stands}
use Rattle.key_session.specs.declared.buffers.Buffers.{Buffers}
use Rattle.key_session.proofs.Leasing.{taken_amid, taken_channel}
use Rattle.leakless_plan.specs.declared.plan.Plan.{Plan}
use Rattle.key_exec.specs.Plans.{by_pre}
use Rattle.key_session.specs.Spending.{AreCountedBy, IsServedText, spent_by}
use Rattle.key_session.proofs.Beginning.{keeps_spool}
use Rattle.key_session.proofs.Spent.{same_spent}
use Rattle.key_session.proofs.Unsent.{later_far}
use Rattle.key_session.proofs.Stepping.{still_suffices}
use Rattle.key_session.proofs.session.Session.tell.Goals as goal

pub go_on-requires-clause-can : goal.go_on-requires-clause-can
go_on-requires-clause-can g c =
    let some = c.requires.some in
    let amid = taken_amid some.by g.F.Flash.told some.texts some.journal some.since _ c.args.pool.now c.args.self.now c.requires.taken some.live in
    let half = c.kept_halves_are_halves.ensures.half g.F.Flash.told (g.F.Flash.state c.args.flash.now) c.args.pool.now c.args.self.now.cat.now (heard_in c.args.self.now.cat.now some.texts some.journal) (c.args.self.now.teller.count + 1) amid.going.top
    (c.args.self.now.teller.count + 1) c.args.self.now.replies amid.going.telling.kept (omega arith) in
    record {
      by = c.args.self.now.teller.plan;
      catalog = c.args.self.now.cat.now;
      lease = lease_of c.args.self.now.replies;
      run = c.take_up.ensures.can g.F.Flash.told (g.F.Flash.state c.args.flash.now) c.args.pool.now (lease_of c.args.self.now.replies) c.requires.can.suffices half c.requires.can.has.run;
    }

pub returns-clause-can : goal.returns-clause-can
returns-clause-can g c =
    let some = c.requires.some in
    let amid = taken_amid some.by g.F.Flash.told some.texts some.journal some.since _ c.args.pool.now c.args.self.now c.requires.taken some.live in
    let half = c.kept_halves_are_halves.ensures.half g.F.Flash.told (g.F.Flash.state c.args.flash.now) c.args.pool.now c.args.self.now.cat.now (heard_in c.args.self.now.cat.now some.texts some.journal) (c.args.self.now.teller.count + 1) amid.going.top
    (c.args.self.now.teller.count + 1) c.args.self.now.replies amid.going.telling.kept (omega arith) in
    let run = c.take_up.ensures.can g.F.Flash.told (g.F.Flash.state c.args.flash.now) c.args.pool.now (lease_of c.args.self.now.replies) c.requires.can.suffices half c.requires.can.has.run in
    let framed = c.take_up.ensures.can g.F.Flash.told (g.F.Flash.state c.args.flash.now) c.args.pool.now c.args.self.now.frame c.requires.can.suffices half (record { can = c.requires.can.has.run.can; alone = c.requires.can.has.apart.out }) in
    let keeps = keeps_spool c.args.self.now.teller.plan c.args.self.now.cat.now (g.F.Flash.state c.args.flash.now) (g.F.Flash.state c.go_on.new.flash) (c.go_on.ensures.kept c.args.self.now.teller.plan c.args.self.now.cat.now (lease_of c.args.self.now.replies) run) in
    record {
      version = c.requires.can.version;
      suffices = still_suffices c.args.self.now.cat.now (g.F.Flash.state c.args.flash.now) (g.F.Flash.state c.go_on.new.flash) keeps.page_count c.requires.can.suffices;
      has = record {
        run = subst (λ (plan : Plan). CanRun plan g.F.Flash.told c.args.self.now.cat.now (g.F.Flash.state c.go_on.new.flash) c.go_on.new.pool (c.go_on.new.self.count + 1) (lease_of c.args.self.now.replies) c.go_on.new.self.running)
            (sym (c.go_on.ensures.plan ∙ c.take_up.ensures.plan)) (c.go_on.ensures.can c.args.self.now.teller.plan c.args.self.now.cat.now (lease_of c.args.self.now.replies) run);
        apart = record { out = (c.go_on.ensures.can c.args.self.now.teller.plan c.args.self.now.cat.now c.args.self.now.frame framed).alone; replies = c.requires.can.has.apart.replies };
      };
    }

pub returns-clause-kept : goal.returns-clause-kept
returns-clause-kept g c =
    let some = c.requires.some in
    let amid = taken_amid some.by g.F.Flash.told some.texts some.journal some.since _ c.args.pool.now c.args.self.now c.requires.taken some.live in
    let half = c.kept_halves_are_halves.ensures.half g.F.Flash.told (g.F.Flash.state c.args.flash.now) c.args.pool.now c.args.self.now.cat.now (heard_in c.args.self.now.cat.now some.texts some.journal) (c.args.self.now.teller.count + 1) amid.going.top
    (c.args.self.now.teller.count + 1) c.args.self.now.replies amid.going.telling.kept (omega arith) in
    c.go_on.ensures.kept c.args.self.now.teller.plan c.args.self.now.cat.now (lease_of c.args.self.now.replies)
    (c.take_up.ensures.can g.F.Flash.told (g.F.Flash.state c.args.flash.now) c.args.pool.now (lease_of c.args.self.now.replies) c.requires.can.suffices half c.requires.can.has.run)

pub returns-clause-live : goal.returns-clause-live
returns-clause-live g c = λ plan texts journal since next live.
    let side = session_side c.args.self.now.teller.printer.failed (g.O.Sink.faults c.args.out.now) (g.O.Sink.written c.args.out.now) (g.F.Flash.state c.args.flash.now) in
    let amid = taken_amid plan g.F.Flash.told texts journal since side c.args.pool.now c.args.self.now c.requires.taken live in
    let channel = taken_channel c.args.self.now.cat.now c.args.self.now.at.now texts journal c.args.pool.now c.args.self.now.frame c.args.self.now.pump c.args.self.now.buffers c.requires.taken live.channel in
    let begun = c.take_up.ensures.told plan g.F.Flash.told texts journal since side c.args.pool.now c.requires.can.suffices channel.bytes
    (subst (λ (by : Plan). CanRun by g.F.Flash.told c.args.self.now.cat.now (g.F.Flash.state c.args.flash.now) c.args.pool.now (c.args.self.now.teller.count + 1) (lease_of c.args.self.now.replies) c.args.self.now.teller.running) amid.plan c.requires.can.has.run)
    channel.after next amid in
    let half = c.kept_halves_are_halves.ensures.half g.F.Flash.told (g.F.Flash.state c.args.flash.now) c.args.pool.now c.args.self.now.cat.now (heard_in c.args.self.now.cat.now texts journal) (c.args.self.now.teller.count + 1) amid.going.top
    (c.args.self.now.teller.count + 1) c.args.self.now.replies amid.going.telling.kept (omega arith) in
    let run = subst (λ (by : Plan). CanRun by g.F.Flash.told c.args.self.now.cat.now (g.F.Flash.state c.args.flash.now) c.args.pool.now (c.take_up.new.self.count + 1) (lease_of c.args.self.now.replies) c.take_up.new.self.running) amid.plan
    (c.take_up.ensures.can g.F.Flash.told (g.F.Flash.state c.args.flash.now) c.args.pool.now (lease_of c.args.self.now.replies) c.requires.can.suffices half c.requires.can.has.run) in
    let framed = c.take_up.ensures.can g.F.Flash.told (g.F.Flash.state c.args.flash.now) c.args.pool.now c.args.self.now.frame c.requires.can.suffices half (record { can = c.requires.can.has.run.can; alone = c.requires.can.has.apart.out }) in
    let same = c.go_on.ensures.others.bytes c.args.self.now.frame framed.alone.out in
    record {
      channel = subst (λ (b : Buffers). Speaks b c.args.self.now.cat.now c.args.self.now.at.now texts journal c.go_on.new.pool c.args.self.now.frame c.args.self.now.pump) (sym c.requires.taken)
          (subst (λ (page : List ℕ). IsLive c.args.self.now.cat.now c.args.self.now.at.now (asked_of c.args.self.now.cat.now.schema texts) journal c.args.self.now.pump page) (sym same) channel);
      amid = subst (λ (b : Buffers). Stands b plan g.F.Flash.told c.args.self.now.cat.now texts journal since
          (session_side c.go_on.new.self.printer.failed (g.O.Sink.faults c.go_on.new.out) (g.O.Sink.written c.go_on.new.out) (g.F.Flash.state c.go_on.new.flash)) c.go_on.new.pool c.args.self.now.pump c.go_on.new.self c.args.self.now.replies)
          (sym c.requires.taken) (c.go_on.ensures.told plan c.args.self.now.cat.now texts journal since c.args.self.now.pump c.args.self.now.replies c.a_catalog_has_a_layout.ensures.layout.tree run
          (subst (λ (failed : Bool). IsBegun plan g.F.Flash.told c.args.self.now.cat.now texts journal since
          (session_side failed (g.O.Sink.faults c.args.out.now) (g.O.Sink.written c.args.out.now) (g.F.Flash.state c.args.flash.now)) c.args.pool.now c.args.self.now.pump c.take_up.new.self c.args.self.now.replies)
          (sym c.take_up.ensures.printer) begun));
      refusal_is = live.refusal_is;
      owed = λ some. (let is = c.sliced.ensures.sliced.owed in live.owed (omega (arith, is, some)));
      far = later_far c.args.self.now.cat.now c.args.self.now.at.now texts journal c.args.self.now.teller.count c.go_on.new.self.count (let same = c.take_up.ensures.count in let onward = c.go_on.ensures.onward in omega (arith, same, onward)) live.far;
    }

pub returns-clause-turn : goal.returns-clause-turn
returns-clause-turn g c =
    subst (λ (failed : Bool). TakesTurn (handed failed (g.O.Sink.faults c.args.out.now) (g.O.Sink.written c.args.out.now))
    (handed c.go_on.new.self.printer.failed (g.O.Sink.faults c.go_on.new.out) (g.O.Sink.written c.go_on.new.out)) (g.F.Flash.state c.args.flash.now).calls (g.F.Flash.state c.go_on.new.flash).calls)
    c.take_up.ensures.printer c.go_on.ensures.turn

pub returns-clause-fewer : goal.returns-clause-fewer
returns-clause-fewer g c =
    let begun = c.take_up.ensures.fewer in
    let on = c.go_on.ensures.fewer in
    omega (arith, begun, on)

pub returns-clause-spends : goal.returns-clause-spends
returns-clause-spends g c = λ texts journal since next live database served unfailed.
    let side = session_side c.args.self.now.teller.printer.failed (g.O.Sink.faults c.args.out.now) (g.O.Sink.written c.args.out.now) (g.F.Flash.state c.args.flash.now) in
    let amid = taken_amid by_pre g.F.Flash.told texts journal since side c.args.pool.now c.args.self.now c.requires.taken live in
    let channel = taken_channel c.args.self.now.cat.now c.args.self.now.at.now texts journal c.args.pool.now c.args.self.now.frame c.args.self.now.pump c.args.self.now.buffers c.requires.taken live.channel in
    let begun = c.take_up.ensures.told by_pre g.F.Flash.told texts journal since side c.args.pool.now c.requires.can.suffices channel.bytes
    (subst (λ (by : Plan). CanRun by g.F.Flash.told c.args.self.now.cat.now (g.F.Flash.state c.args.flash.now) c.args.pool.now (c.args.self.now.teller.count + 1) (lease_of c.args.self.now.replies) c.args.self.now.teller.running) amid.plan c.requires.can.has.run)
    channel.after next amid in
    let half = c.kept_halves_are_halves.ensures.half g.F.Flash.told (g.F.Flash.state c.args.flash.now) c.args.pool.now c.args.self.now.cat.now (heard_in c.args.self.now.cat.now texts journal) (c.args.self.now.teller.count + 1) amid.going.top
    (c.args.self.now.teller.count + 1) c.args.self.now.replies amid.going.telling.kept (omega arith) in
    let run = subst (λ (by : Plan). CanRun by g.F.Flash.told c.args.self.now.cat.now (g.F.Flash.state c.args.flash.now) c.args.pool.now (c.take_up.new.self.count + 1) (lease_of c.args.self.now.replies) c.take_up.new.self.running) amid.plan
    (c.take_up.ensures.can g.F.Flash.told (g.F.Flash.state c.args.flash.now) c.args.pool.now (lease_of c.args.self.now.replies) c.requires.can.suffices half c.requires.can.has.run) in
    same_spent c.args.self.now.cat.now.schema database texts c.args.self.now.teller c.take_up.new.self c.take_up.ensures.count c.take_up.ensures.unspent (g.F.Flash.state c.go_on.new.flash).calls _
    (c.go_on.ensures.spends c.args.self.now.cat.now texts journal since c.args.self.now.pump c.args.self.now.replies c.a_catalog_has_a_layout.ensures.layout.tree run
    (subst (λ (failed : Bool). IsBegun by_pre g.F.Flash.told c.args.self.now.cat.now texts journal since
    (session_side failed (g.O.Sink.faults c.args.out.now) (g.O.Sink.written c.args.out.now) (g.F.Flash.state c.args.flash.now)) c.args.pool.now c.args.self.now.pump c.take_up.new.self c.args.self.now.replies)
    (sym c.take_up.ensures.printer) begun)
    database (subst (λ (n : ℕ). IsServedText g.F.Flash.told since.flash.page c.args.self.now.cat.now texts journal n database) (sym c.take_up.ensures.count) served) unfailed)

pub returns-clause-counted : goal.returns-clause-counted
returns-clause-counted g c = λ going.
    subst (λ (spent : ℕ). AreCountedBy spent (spent_by c.go_on.new.self.running) (g.F.Flash.state c.args.flash.now).calls (g.F.Flash.state c.go_on.new.flash).calls) c.take_up.ensures.unspent (c.go_on.ensures.counted going)
