use Rattle.std.proofs.Common.{◌≡◌, ◌+◌, ◌∙◌, ◌≤◌, ap, false, true, sym, subst, Option, Some, None}
use Rattle.std.specs.Prelude.{◌%◌, is_some, take, sum_by}
use Rattle.key_exec.specs.Plans.{by_pre}
use Rattle.key_exec.specs.Within.{text_work}
use Rattle.key_exec.specs.declared.telling.Telling.{Telling}
use Rattle.key_exec.specs.declared.text.Told.{Told}
use Rattle.key_session.specs.Spending.{AreCountedBy, spent_by}
use Rattle.key_lines.specs.Handing.{handed}
use Rattle.key_lines.specs.declared.printer.Printer.{Printer}
use Rattle.key_session.specs.Kept.{is_lost, lease_of}
use Rattle.key_exec.specs.Telling as lines
use Rattle.key_lines.specs.declared.told.ToldText.{ToldText}
use Rattle.key_exec.specs.Telling.{HasTold}
use Rattle.key_exec.specs.Rows.{TakesTurn}
use Rattle.key_session.specs.Telling.{session_side}
use Rattle.key_session.proofs.Beginning.{keeps_spool, has, still_going, still_runs, was_told, alone_still, ended_run, text_run, text_alone}
use Rattle.key_session.proofs.OneMore.{PageLaws}
use Rattle.key_session.proofs.Spent.{SpendLaws, served, undamaged, ended_within, goes_on_spent, ended_spent, faults_stay}
use Rattle.key_session.proofs.teller.Teller.go_on.Goals as goal

pub returns-in-None-clause-told : goal.returns-in-None-clause-told
returns-in-None-clause-told g c = λ plan cat texts journal since pump replies tree can begun.
    let run = text_run plan g.F.Flash.told cat (g.F.Flash.state c.args.flash.now) c.args.pool.now (c.args.self.now.count + 1) (lease_of replies) c.args.self.now.running c.in-Some.telling c.in-Some.is can in
    let keeps = keeps_spool plan cat (g.F.Flash.state c.args.flash.now) (g.F.Flash.state c.step.new.flash) (c.step.ensures.kept plan cat ((c.args.self.now.count + 1) % 2) run.0) in
    let before = session_side c.args.self.now.printer.failed (g.O.Sink.faults c.args.out.now) (g.O.Sink.written c.args.out.now) (g.F.Flash.state c.args.flash.now) in
    let now = session_side c.step.new.printer.failed (g.O.Sink.faults c.step.new.out) (g.O.Sink.written c.step.new.out) (g.F.Flash.state c.step.new.flash) in
    let laws : PageLaws = record { but = c.knowledge_stays.ensures.but; damage = c.knowledge_stays.ensures.damage } in
    let taken = has c.pieces_join.ensures c.texts_are_decided.ensures laws c.replies_stay_kept.ensures.kept c.later_texts_are_unmarked.ensures.unmarked c.low_rises.ensures.kept plan g.F.Flash.told cat texts journal since before now c.args.pool.now c.step.new.pool pump c.args.self.now replies
    c.in-Some.telling c.step.new.self c.in-Some.is begun keeps c.step.ensures.number c.step.ensures.others c.step.ensures.kept_others run.1 in
    record {
      plan = begun.plan;
      sink = begun.first.sink;
      going = still_going c.pieces_join.ensures c.texts_are_decided.ensures laws c.replies_stay_kept.ensures.kept c.later_texts_are_unmarked.ensures.unmarked c.low_rises.ensures.kept plan g.F.Flash.told cat texts journal since before now c.args.pool.now c.step.new.pool pump c.args.self.now replies
          c.in-Some.telling c.step.new.self c.in-Some.is begun keeps c.step.ensures.number c.step.ensures.others c.step.ensures.kept_others run.1 c.in-None.ensures.faults;
      running = still_runs c.pieces_join.ensures c.texts_are_decided.ensures laws c.replies_stay_kept.ensures.kept c.later_texts_are_unmarked.ensures.unmarked c.low_rises.ensures.kept plan g.F.Flash.told cat texts journal since before now c.args.pool.now c.step.new.pool pump c.args.self.now replies
          c.in-Some.telling c.step.new.self c.in-Some.is begun keeps c.step.ensures.number c.step.ensures.others c.step.ensures.kept_others run.1
          (c.in-None.ensures.goes plan cat ((c.args.self.now.count + 1) % 2) taken.written begun.state (is_lost replies (c.args.self.now.count + 1)) begun.half begun.first.flash begun.first.sink taken.under_way);
    }

pub returns-in-Some-step-clause-told : goal.returns-in-Some-step-clause-told
returns-in-Some-step-clause-told g c = λ plan cat texts journal since pump replies tree can begun.
    let run = text_run plan g.F.Flash.told cat (g.F.Flash.state c.args.flash.now) c.args.pool.now (c.args.self.now.count + 1) (lease_of replies) c.args.self.now.running c.in-Some.telling c.in-Some.is can in
    let keeps = keeps_spool plan cat (g.F.Flash.state c.args.flash.now) (g.F.Flash.state c.step.new.flash) (c.step.ensures.kept plan cat ((c.args.self.now.count + 1) % 2) run.0) in
    let before = session_side c.args.self.now.printer.failed (g.O.Sink.faults c.args.out.now) (g.O.Sink.written c.args.out.now) (g.F.Flash.state c.args.flash.now) in
    let now = session_side c.end.new.self.printer.failed (g.O.Sink.faults c.step.new.out) (g.O.Sink.written c.step.new.out) (g.F.Flash.state c.step.new.flash) in
    let laws : PageLaws = record { but = c.knowledge_stays.ensures.but; damage = c.knowledge_stays.ensures.damage } in
    let taken = has c.pieces_join.ensures c.texts_are_decided.ensures laws c.replies_stay_kept.ensures.kept c.later_texts_are_unmarked.ensures.unmarked c.low_rises.ensures.kept plan g.F.Flash.told cat texts journal since before now c.args.pool.now c.step.new.pool pump c.args.self.now replies
    c.in-Some.telling c.step.new.self c.in-Some.is begun keeps c.step.ensures.number c.step.ensures.others c.step.ensures.kept_others run.1 in
    was_told c.pieces_join.ensures c.texts_are_decided.ensures laws c.replies_stay_kept.ensures.kept c.later_texts_are_unmarked.ensures.unmarked c.low_rises.ensures.kept plan g.F.Flash.told cat texts journal since before now c.args.pool.now c.step.new.pool pump c.args.self.now replies
    c.in-Some.telling c.step.new.self c.in-Some.is begun keeps c.step.ensures.number c.step.ensures.others c.step.ensures.kept_others run.1
    tree c.end.new.self c.in-Some-step.told c.told-one.result c.in-Some-step.ensures.faults
    (subst (λ (printer : Printer). HasTold plan g.F.Flash.told cat ((c.args.self.now.count + 1) % 2) c.step.new.self.number taken.written begun.state (is_lost replies (c.args.self.now.count + 1)) begun.half begun.first.flash (g.F.Flash.state c.step.new.flash) begun.first.sink
    (handed printer.failed (g.O.Sink.faults c.step.new.out) (g.O.Sink.written c.step.new.out)) c.in-Some-step.told c.told-one.result) (sym c.end.ensures.printer)
    (subst (λ (one : ToldText). HasTold plan g.F.Flash.told cat ((c.args.self.now.count + 1) % 2) c.step.new.self.number taken.written begun.state (is_lost replies (c.args.self.now.count + 1)) begun.half begun.first.flash (g.F.Flash.state c.step.new.flash) begun.first.sink
    (handed c.step.new.printer.failed (g.O.Sink.faults c.step.new.out) (g.O.Sink.written c.step.new.out)) c.in-Some-step.told one) (sym c.told-one.ensures.told)
    (c.in-Some-step.ensures.goes plan cat ((c.args.self.now.count + 1) % 2) taken.written begun.state (is_lost replies (c.args.self.now.count + 1)) begun.half begun.first.flash begun.first.sink taken.under_way)))
    (record { plan = c.end.ensures.ended.plan; texts = c.end.ensures.ended.texts; count = c.end.ensures.ended.count; running = c.end.ensures.ended.running; counted = c.end.ensures.ended.counted; first = c.end.ensures.ended.first; told = c.end.ensures.ended.told })

pub returns-in-Some-step-clause-turn : goal.returns-in-Some-step-clause-turn
returns-in-Some-step-clause-turn g c =
    subst (λ (printer : Printer). TakesTurn (handed c.args.self.now.printer.failed (g.O.Sink.faults c.args.out.now) (g.O.Sink.written c.args.out.now))
    (handed printer.failed (g.O.Sink.faults c.step.new.out) (g.O.Sink.written c.step.new.out)) (g.F.Flash.state c.args.flash.now).calls (g.F.Flash.state c.step.new.flash).calls) (sym c.end.ensures.printer) c.step.ensures.turn

pub returns-in-None-clause-can : goal.returns-in-None-clause-can
returns-in-None-clause-can g c = λ plan cat lease run.
    let before = text_run plan g.F.Flash.told cat (g.F.Flash.state c.args.flash.now) c.args.pool.now (c.args.self.now.count + 1) lease c.args.self.now.running c.in-Some.telling c.in-Some.is run in
    record {
      can = c.in-None.ensures.can plan cat ((c.args.self.now.count + 1) % 2) before.0;
      alone = alone_still (lines.leases_of c.in-Some.telling) (lines.leases_of c.step.new.self) c.args.pool.now c.step.new.pool lease c.step.ensures.others c.step.ensures.kept_others before.1;
    }

pub returns-in-Some-step-clause-can : goal.returns-in-Some-step-clause-can
returns-in-Some-step-clause-can g c = λ plan cat lease run.
    ended_run plan g.F.Flash.told cat (g.F.Flash.state c.step.new.flash) c.args.pool.now c.step.new.pool _ lease (lines.leases_of c.in-Some.telling) (lines.leases_of c.step.new.self) c.end.new.self.running c.end.ensures.ended.running
    c.in-Some-step.ensures.back c.step.ensures.others c.step.ensures.kept_others (text_alone c.args.pool.now lease c.args.self.now.running c.in-Some.telling c.in-Some.is run.alone)

pub step-requires : goal.step-requires
step-requires g c =
    let run = text_run c.requires.can.by g.F.Flash.told c.requires.can.catalog (g.F.Flash.state c.args.flash.now) c.args.pool.now (c.args.self.now.count + 1) c.requires.can.lease c.args.self.now.running c.in-Some.telling c.in-Some.is c.requires.can.run in
    record { can = record { by = c.requires.can.by; cat = c.requires.can.catalog; side = (c.args.self.now.count + 1) % 2; can = run.0 } }

pub returns-in-None-clause-kept : goal.returns-in-None-clause-kept
returns-in-None-clause-kept g c = λ plan cat lease can.
    c.step.ensures.kept plan cat ((c.args.self.now.count + 1) % 2)
    (text_run plan g.F.Flash.told cat (g.F.Flash.state c.args.flash.now) c.args.pool.now (c.args.self.now.count + 1) lease c.args.self.now.running c.in-Some.telling c.in-Some.is can).0

pub returns-in-Some-step-clause-kept : goal.returns-in-Some-step-clause-kept
returns-in-Some-step-clause-kept g c = λ plan cat lease can.
    c.step.ensures.kept plan cat ((c.args.self.now.count + 1) % 2)
    (text_run plan g.F.Flash.told cat (g.F.Flash.state c.args.flash.now) c.args.pool.now (c.args.self.now.count + 1) lease c.args.self.now.running c.in-Some.telling c.in-Some.is can).0

pub returns-in-None-clause-spends : goal.returns-in-None-clause-spends
returns-in-None-clause-spends g c = λ cat texts journal since pump replies tree can begun database served unfailed.
    let most = c.step.ensures.spent.most in
    subst (λ (running : Option Telling). (g.F.Flash.state c.step.new.flash).calls + (sum_by (text_work cat.schema database) (take c.args.self.now.count texts) + spent_by running)
    ≤ (g.F.Flash.state c.args.flash.now).calls + (sum_by (text_work cat.schema database) (take c.args.self.now.count texts) + lines.spent_of c.step.new.self)) (sym c.in-Some.is)
    (goes_on_spent (text_work cat.schema database) texts c.args.self.now.count (lines.spent_of c.in-Some.telling) (lines.spent_of c.step.new.self) (g.F.Flash.state c.args.flash.now).calls (g.F.Flash.state c.step.new.flash).calls most c.step.ensures.rises)

pub returns-in-Some-step-clause-spends : goal.returns-in-Some-step-clause-spends
returns-in-Some-step-clause-spends g c = λ cat texts journal since pump replies tree can begun database served_is unfailed.
    let run = text_run by_pre g.F.Flash.told cat (g.F.Flash.state c.args.flash.now) c.args.pool.now (c.args.self.now.count + 1) (lease_of replies) c.args.self.now.running c.in-Some.telling c.in-Some.is can in
    let keeps = keeps_spool by_pre cat (g.F.Flash.state c.args.flash.now) (g.F.Flash.state c.step.new.flash) (c.step.ensures.kept by_pre cat ((c.args.self.now.count + 1) % 2) run.0) in
    let before = session_side c.args.self.now.printer.failed (g.O.Sink.faults c.args.out.now) (g.O.Sink.written c.args.out.now) (g.F.Flash.state c.args.flash.now) in
    let now = session_side c.step.new.printer.failed (g.O.Sink.faults c.step.new.out) (g.O.Sink.written c.step.new.out) (g.F.Flash.state c.step.new.flash) in
    let page_laws : PageLaws = record { but = c.knowledge_stays.ensures.but; damage = c.knowledge_stays.ensures.damage } in
    let taken = has c.pieces_join.ensures c.texts_are_decided.ensures page_laws c.replies_stay_kept.ensures.kept c.later_texts_are_unmarked.ensures.unmarked c.low_rises.ensures.kept by_pre g.F.Flash.told cat texts journal since before now c.args.pool.now c.step.new.pool pump c.args.self.now replies
    c.in-Some.telling c.step.new.self c.in-Some.is begun keeps c.step.ensures.number c.step.ensures.others c.step.ensures.kept_others run.1 in
    let laws : SpendLaws = record { never = c.damage_is_never_met.ensures.never; enough = c.knowledge_is_enough.ensures.enough; stays = c.knowledge_stays.ensures.pages; decided = c.texts_are_decided.ensures } in
    let is_served = served laws g.F.Flash.told cat tree texts journal since begun.first before c.args.self.now.count (is_lost replies (c.args.self.now.count + 1)) begun.state begun.half c.args.pool.now c.in-Some.telling taken database served_is in
    let within = c.in-Some-step.ensures.within cat ((c.args.self.now.count + 1) % 2) taken.written begun.state (is_lost replies (c.args.self.now.count + 1)) begun.half begun.first.flash begun.first.sink taken.under_way database _ is_served in
    let goes = c.in-Some-step.ensures.goes by_pre cat ((c.args.self.now.count + 1) % 2) taken.written begun.state (is_lost replies (c.args.self.now.count + 1)) begun.half begun.first.flash begun.first.sink taken.under_way in
    let calls = ended_within (lines.spent_of c.in-Some.telling) (lines.spent_of c.step.new.self) (text_work cat.schema database taken.written) (g.F.Flash.state c.args.flash.now).calls (g.F.Flash.state c.step.new.flash).calls
    (g.F.Flash.state c.args.flash.now).faults (g.F.Flash.state c.step.new.flash).faults c.in-Some-step.told
    c.step.ensures.spent c.step.ensures.rises within c.in-Some-step.ensures.faults unfailed
    (λ damage e. undamaged laws g.F.Flash.told cat tree texts journal since begun.first before c.args.self.now.count (is_lost replies (c.args.self.now.count + 1)) begun.state begun.half c.args.pool.now c.in-Some.telling taken database served_is
    ((c.args.self.now.count + 1) % 2) c.step.new.self.number (g.F.Flash.state c.step.new.flash) now.sink damage (lines.told_of c.step.new.self)
    (subst (λ (result : Told). HasTold by_pre g.F.Flash.told cat ((c.args.self.now.count + 1) % 2) c.step.new.self.number taken.written begun.state (is_lost replies (c.args.self.now.count + 1)) begun.half begun.first.flash (g.F.Flash.state c.step.new.flash) begun.first.sink now.sink result (lines.told_of c.step.new.self)) e goes)) in
    let sums = ended_spent (text_work cat.schema database) texts c.args.self.now.count c.end.new.self.count (lines.spent_of c.in-Some.telling) (g.F.Flash.state c.args.flash.now).calls (g.F.Flash.state c.step.new.flash).calls taken.written
    taken.stands c.end.ensures.ended.count calls in
    subst (λ (later : Option Telling). (g.F.Flash.state c.step.new.flash).calls + (sum_by (text_work cat.schema database) (take c.args.self.now.count texts) + spent_by c.args.self.now.running)
    ≤ (g.F.Flash.state c.args.flash.now).calls + (sum_by (text_work cat.schema database) (take c.end.new.self.count texts) + spent_by later)) (sym c.end.ensures.ended.running)
    (subst (λ (running : Option Telling). (g.F.Flash.state c.step.new.flash).calls + (sum_by (text_work cat.schema database) (take c.args.self.now.count texts) + spent_by running)
    ≤ (g.F.Flash.state c.args.flash.now).calls + (sum_by (text_work cat.schema database) (take c.end.new.self.count texts) + 0)) (sym c.in-Some.is) sums)

pub returns-in-None-clause-counts : goal.returns-in-None-clause-counts
returns-in-None-clause-counts g c = record { calls = c.step.ensures.never_falls; faults = faults_stay (g.F.Flash.state c.args.flash.now).faults (g.F.Flash.state c.step.new.flash).faults None c.in-None.ensures.faults }

pub returns-in-Some-step-clause-counts : goal.returns-in-Some-step-clause-counts
returns-in-Some-step-clause-counts g c = record { calls = c.step.ensures.never_falls; faults = faults_stay (g.F.Flash.state c.args.flash.now).faults (g.F.Flash.state c.step.new.flash).faults (Some c.in-Some-step.told) c.in-Some-step.ensures.faults }

pub returns-in-None-clause-counted : goal.returns-in-None-clause-counted
returns-in-None-clause-counted g c = λ going.
    subst (λ (running : Option Telling). AreCountedBy (spent_by running) (lines.spent_of c.step.new.self) (g.F.Flash.state c.args.flash.now).calls (g.F.Flash.state c.step.new.flash).calls) (sym c.in-Some.is)
    (record { rises = c.step.ensures.rises; counts = c.step.ensures.spent })

pub returns-in-Some-step-clause-counted : goal.returns-in-Some-step-clause-counted
returns-in-Some-step-clause-counted g c = λ going. absurd (none_goes (sym (ap (λ (later : Option Telling). is_some later) c.end.ensures.ended.running) ∙ going))
  where
    none_goes : false ≡ true → ⊥
    none_goes e = cc
