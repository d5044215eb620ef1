use Rattle.std.proofs.Common.{◌∙◌, sym, refl, ap, subst, arith, Bool, false, []}
use Rattle.ghost_model.specs.core.Texts.{texts_of}
use Rattle.channel_pump.specs.Entries.{WentBy}
use Rattle.key_lines.specs.Handing.{handed}
use Rattle.key_exec.specs.Rows.{PrintsSome}
use Rattle.key_session.specs.Telling.{session_side}
use Rattle.key_session.specs.Going.{IsLive}
use Rattle.key_session.specs.Running.{HasRun}
use Rattle.key_session.proofs.Running.{flash_rose, flash_same}
use Rattle.key_session.proofs.Stepping.{last_of, come_on, cat_still, at_still}
use Rattle.key_session.specs.Order.{is_closed}
use Rattle.key_session.proofs.Leasing.{idle_at_end}
use Rattle.key_session.proofs.session.run_session.Goals as goal

pub steps-init : goal.steps-init
steps-init g c =
    let live =
    subst (λ (failed : Bool). IsLive c.args.options.now.plan g.F.Flash.told (texts_of c.args.script.now) [] (session_side false (g.O.Sink.faults c.args.out.now) (g.O.Sink.written c.args.out.now) (g.F.Flash.state c.args.flash.now))
    (session_side failed (g.O.Sink.faults c.args.out.now) (g.O.Sink.written c.args.out.now) (g.F.Flash.state c.args.flash.now)) c.args.pool.now c.begin-session.result) (sym c.begin-session.ensures.fresh)
    (c.begin-session.ensures.live g.F.Flash.told (session_side false (g.O.Sink.faults c.args.out.now) (g.O.Sink.written c.args.out.now) (g.F.Flash.state c.args.flash.now)) c.args.pool.now c.requires.suffices) in (
      c.begin-session.ensures.can g.F.Flash.told (g.F.Flash.state c.args.flash.now) c.args.pool.now c.requires.suffices c.requires.idle,
      c.begin-session.ensures.cat,
      c.begin-session.ensures.at,
      omega arith,
      record {
        journal = [];
        went = record { gone = g.met.L.Link.stays _; counts = c.moves_join.ensures.joined.none _; short = refl };
        live = live;
        faults = omega arith;
        few_calls = λ is_pre database served. omega arith;
      },
    )

pub steps-preserved : goal.steps-preserved
steps-preserved g c =
    let before = c.steps.invariant.3 in
    let more = c.step.ensures.faults in (
      c.step.ensures.can,
      cat_still c.steps.session c.step.new.self c.step.ensures.cat ∙ c.steps.invariant.1,
      at_still c.steps.session c.step.new.self c.step.ensures.at ∙ c.steps.invariant.2,
      omega (arith, before, more),
      come_on c.steps_take_few_calls.ensures (WentBy (λ journal. g.L.Link.went c.args.link.now journal c.steps.link) (g.L.Link.faults c.args.link.now) (g.L.Link.faults c.steps.link))
          (WentBy (λ journal. g.L.Link.went c.steps.link journal c.step.new.link) (g.L.Link.faults c.steps.link) (g.L.Link.faults c.step.new.link))
          (WentBy (λ journal. g.L.Link.went c.args.link.now journal c.step.new.link) (g.L.Link.faults c.args.link.now) (g.L.Link.faults c.step.new.link)) c.args.options.now.plan g.F.Flash.told (texts_of c.args.script.now)
          (session_side false (g.O.Sink.faults c.args.out.now) (g.O.Sink.written c.args.out.now) (g.F.Flash.state c.args.flash.now)) _ _ c.steps.pool c.step.new.pool c.steps.session c.step.new.self
          (λ first made one other. record {
            gone = g.met.L.Link.joins _ _ _ first made one.gone other.gone;
            counts = c.moves_join.ensures.joined.two _ _ _ first made one.counts other.counts;
            short = c.moves_join.ensures.joined.short first made one.short other.short;
          })
          (λ journal live. c.step.ensures.live c.args.options.now.plan (texts_of c.args.script.now) journal (session_side false (g.O.Sink.faults c.args.out.now) (g.O.Sink.written c.args.out.now) (g.F.Flash.state c.args.flash.now)) live)
          c.steps.invariant.4,
    )

pub returns-in-Ended-clause-prints : goal.returns-in-Ended-clause-prints
returns-in-Ended-clause-prints g c =
    let last = last_of c.steps_take_few_calls.ensures c.later_texts_are_unmarked.ensures.unmarked c.knowledge_is_enough.ensures.enough c.damage_is_never_met.ensures.never c.honest_sessions_are_smooth.ensures c.honest_lines_are_printed.ensures c.closed_is_finished.ensures.finished c.args.cat.now c.a_catalog_is_short.ensures.catalog c.a_catalog_has_a_layout.ensures.layout.tree (texts_of c.args.script.now) c.requires.few
    (λ journal. g.L.Link.went c.args.link.now journal c.steps.link) (g.L.Link.faults c.args.link.now) (g.L.Link.faults c.steps.link) c.args.options.now.plan g.F.Flash.told c.args.options.now.at.now
    (session_side false (g.O.Sink.faults c.args.out.now) (g.O.Sink.written c.args.out.now) (g.F.Flash.state c.args.flash.now)) (g.O.Sink.faults c.steps.out) (g.O.Sink.written c.steps.out) (g.F.Flash.state c.steps.flash) c.steps.pool c.steps.session c.tally.result
    c.steps.invariant.1 c.steps.invariant.2 c.steps.invariant.4 (c.due.ensures.closed c.in-Ended.is) (c.due.ensures.none c.in-Ended.is) c.tally.ensures.texts c.tally.ensures.refused c.tally.ensures.faulted c.tally.ensures.told c.tally.ensures.status in
    subst (λ (failed : Bool). PrintsSome (handed false (g.O.Sink.faults c.args.out.now) (g.O.Sink.written c.args.out.now)) (handed failed (g.O.Sink.faults c.steps.out) (g.O.Sink.written c.steps.out))) (sym c.tally.ensures.sink) last.prints

pub returns-in-Ended-clause-idle : goal.returns-in-Ended-clause-idle
returns-in-Ended-clause-idle g c =
    idle_at_end g.F.Flash.told (g.F.Flash.state c.steps.flash) c.steps.pool c.steps.session c.steps.invariant.0 (ap is_closed (c.due.ensures.closed c.in-Ended.is)) (c.due.ensures.none c.in-Ended.is)

pub step-requires-clause-some : goal.step-requires-clause-some
step-requires-clause-some g c = record { by = c.args.options.now.plan; texts = _; journal = c.steps.invariant.4.journal; since = _; live = c.steps.invariant.4.live }

pub returns-in-Ended-clause-texts : goal.returns-in-Ended-clause-texts
returns-in-Ended-clause-texts g c =
    let last = last_of c.steps_take_few_calls.ensures c.later_texts_are_unmarked.ensures.unmarked c.knowledge_is_enough.ensures.enough c.damage_is_never_met.ensures.never c.honest_sessions_are_smooth.ensures c.honest_lines_are_printed.ensures c.closed_is_finished.ensures.finished c.args.cat.now c.a_catalog_is_short.ensures.catalog c.a_catalog_has_a_layout.ensures.layout.tree (texts_of c.args.script.now) c.requires.few
    (λ journal. g.L.Link.went c.args.link.now journal c.steps.link) (g.L.Link.faults c.args.link.now) (g.L.Link.faults c.steps.link) c.args.options.now.plan g.F.Flash.told c.args.options.now.at.now
    (session_side false (g.O.Sink.faults c.args.out.now) (g.O.Sink.written c.args.out.now) (g.F.Flash.state c.args.flash.now)) (g.O.Sink.faults c.steps.out) (g.O.Sink.written c.steps.out) (g.F.Flash.state c.steps.flash) c.steps.pool c.steps.session c.tally.result
    c.steps.invariant.1 c.steps.invariant.2 c.steps.invariant.4 (c.due.ensures.closed c.in-Ended.is) (c.due.ensures.none c.in-Ended.is) c.tally.ensures.texts c.tally.ensures.refused c.tally.ensures.faulted c.tally.ensures.told c.tally.ensures.status in
    last.many

pub returns-in-Ended-clause-sink_same : goal.returns-in-Ended-clause-sink_same
returns-in-Ended-clause-sink_same g c =
    let last = last_of c.steps_take_few_calls.ensures c.later_texts_are_unmarked.ensures.unmarked c.knowledge_is_enough.ensures.enough c.damage_is_never_met.ensures.never c.honest_sessions_are_smooth.ensures c.honest_lines_are_printed.ensures c.closed_is_finished.ensures.finished c.args.cat.now c.a_catalog_is_short.ensures.catalog c.a_catalog_has_a_layout.ensures.layout.tree (texts_of c.args.script.now) c.requires.few
    (λ journal. g.L.Link.went c.args.link.now journal c.steps.link) (g.L.Link.faults c.args.link.now) (g.L.Link.faults c.steps.link) c.args.options.now.plan g.F.Flash.told c.args.options.now.at.now
    (session_side false (g.O.Sink.faults c.args.out.now) (g.O.Sink.written c.args.out.now) (g.F.Flash.state c.args.flash.now)) (g.O.Sink.faults c.steps.out) (g.O.Sink.written c.steps.out) (g.F.Flash.state c.steps.flash) c.steps.pool c.steps.session c.tally.result
    c.steps.invariant.1 c.steps.invariant.2 c.steps.invariant.4 (c.due.ensures.closed c.in-Ended.is) (c.due.ensures.none c.in-Ended.is) c.tally.ensures.texts c.tally.ensures.refused c.tally.ensures.faulted c.tally.ensures.told c.tally.ensures.status in
    λ e. (last.prints.handed.whole (sym c.tally.ensures.sink ∙ e)).faults

pub returns-in-Ended-clause-flash_called : goal.returns-in-Ended-clause-flash_called
returns-in-Ended-clause-flash_called g c =
    let last = last_of c.steps_take_few_calls.ensures c.later_texts_are_unmarked.ensures.unmarked c.knowledge_is_enough.ensures.enough c.damage_is_never_met.ensures.never c.honest_sessions_are_smooth.ensures c.honest_lines_are_printed.ensures c.closed_is_finished.ensures.finished c.args.cat.now c.a_catalog_is_short.ensures.catalog c.a_catalog_has_a_layout.ensures.layout.tree (texts_of c.args.script.now) c.requires.few
    (λ journal. g.L.Link.went c.args.link.now journal c.steps.link) (g.L.Link.faults c.args.link.now) (g.L.Link.faults c.steps.link) c.args.options.now.plan g.F.Flash.told c.args.options.now.at.now
    (session_side false (g.O.Sink.faults c.args.out.now) (g.O.Sink.written c.args.out.now) (g.F.Flash.state c.args.flash.now)) (g.O.Sink.faults c.steps.out) (g.O.Sink.written c.steps.out) (g.F.Flash.state c.steps.flash) c.steps.pool c.steps.session c.tally.result
    c.steps.invariant.1 c.steps.invariant.2 c.steps.invariant.4 (c.due.ensures.closed c.in-Ended.is) (c.due.ensures.none c.in-Ended.is) c.tally.ensures.texts c.tally.ensures.refused c.tally.ensures.faulted c.tally.ensures.told c.tally.ensures.status in
    last.called

pub returns-in-Ended-clause-damage_called : goal.returns-in-Ended-clause-damage_called
returns-in-Ended-clause-damage_called g c =
    let last = last_of c.steps_take_few_calls.ensures c.later_texts_are_unmarked.ensures.unmarked c.knowledge_is_enough.ensures.enough c.damage_is_never_met.ensures.never c.honest_sessions_are_smooth.ensures c.honest_lines_are_printed.ensures c.closed_is_finished.ensures.finished c.args.cat.now c.a_catalog_is_short.ensures.catalog c.a_catalog_has_a_layout.ensures.layout.tree (texts_of c.args.script.now) c.requires.few
    (λ journal. g.L.Link.went c.args.link.now journal c.steps.link) (g.L.Link.faults c.args.link.now) (g.L.Link.faults c.steps.link) c.args.options.now.plan g.F.Flash.told c.args.options.now.at.now
    (session_side false (g.O.Sink.faults c.args.out.now) (g.O.Sink.written c.args.out.now) (g.F.Flash.state c.args.flash.now)) (g.O.Sink.faults c.steps.out) (g.O.Sink.written c.steps.out) (g.F.Flash.state c.steps.flash) c.steps.pool c.steps.session c.tally.result
    c.steps.invariant.1 c.steps.invariant.2 c.steps.invariant.4 (c.due.ensures.closed c.in-Ended.is) (c.due.ensures.none c.in-Ended.is) c.tally.ensures.texts c.tally.ensures.refused c.tally.ensures.faulted c.tally.ensures.told c.tally.ensures.status in
    last.damage_called

pub returns-in-Ended-clause-flash_rose : goal.returns-in-Ended-clause-flash_rose
returns-in-Ended-clause-flash_rose g c =
    let last = last_of c.steps_take_few_calls.ensures c.later_texts_are_unmarked.ensures.unmarked c.knowledge_is_enough.ensures.enough c.damage_is_never_met.ensures.never c.honest_sessions_are_smooth.ensures c.honest_lines_are_printed.ensures c.closed_is_finished.ensures.finished c.args.cat.now c.a_catalog_is_short.ensures.catalog c.a_catalog_has_a_layout.ensures.layout.tree (texts_of c.args.script.now) c.requires.few
    (λ journal. g.L.Link.went c.args.link.now journal c.steps.link) (g.L.Link.faults c.args.link.now) (g.L.Link.faults c.steps.link) c.args.options.now.plan g.F.Flash.told c.args.options.now.at.now
    (session_side false (g.O.Sink.faults c.args.out.now) (g.O.Sink.written c.args.out.now) (g.F.Flash.state c.args.flash.now)) (g.O.Sink.faults c.steps.out) (g.O.Sink.written c.steps.out) (g.F.Flash.state c.steps.flash) c.steps.pool c.steps.session c.tally.result
    c.steps.invariant.1 c.steps.invariant.2 c.steps.invariant.4 (c.due.ensures.closed c.in-Ended.is) (c.due.ensures.none c.in-Ended.is) c.tally.ensures.texts c.tally.ensures.refused c.tally.ensures.faulted c.tally.ensures.told c.tally.ensures.status in
    λ e. flash_rose last.ran e

pub returns-in-Ended-clause-flash_same : goal.returns-in-Ended-clause-flash_same
returns-in-Ended-clause-flash_same g c =
    let last = last_of c.steps_take_few_calls.ensures c.later_texts_are_unmarked.ensures.unmarked c.knowledge_is_enough.ensures.enough c.damage_is_never_met.ensures.never c.honest_sessions_are_smooth.ensures c.honest_lines_are_printed.ensures c.closed_is_finished.ensures.finished c.args.cat.now c.a_catalog_is_short.ensures.catalog c.a_catalog_has_a_layout.ensures.layout.tree (texts_of c.args.script.now) c.requires.few
    (λ journal. g.L.Link.went c.args.link.now journal c.steps.link) (g.L.Link.faults c.args.link.now) (g.L.Link.faults c.steps.link) c.args.options.now.plan g.F.Flash.told c.args.options.now.at.now
    (session_side false (g.O.Sink.faults c.args.out.now) (g.O.Sink.written c.args.out.now) (g.F.Flash.state c.args.flash.now)) (g.O.Sink.faults c.steps.out) (g.O.Sink.written c.steps.out) (g.F.Flash.state c.steps.flash) c.steps.pool c.steps.session c.tally.result
    c.steps.invariant.1 c.steps.invariant.2 c.steps.invariant.4 (c.due.ensures.closed c.in-Ended.is) (c.due.ensures.none c.in-Ended.is) c.tally.ensures.texts c.tally.ensures.refused c.tally.ensures.faulted c.tally.ensures.told c.tally.ensures.status in
    λ e. flash_same last.ran c.texts_have_outcomes.ensures e

pub returns-in-Ended-clause-sink_rose : goal.returns-in-Ended-clause-sink_rose
returns-in-Ended-clause-sink_rose g c =
    let last = last_of c.steps_take_few_calls.ensures c.later_texts_are_unmarked.ensures.unmarked c.knowledge_is_enough.ensures.enough c.damage_is_never_met.ensures.never c.honest_sessions_are_smooth.ensures c.honest_lines_are_printed.ensures c.closed_is_finished.ensures.finished c.args.cat.now c.a_catalog_is_short.ensures.catalog c.a_catalog_has_a_layout.ensures.layout.tree (texts_of c.args.script.now) c.requires.few
    (λ journal. g.L.Link.went c.args.link.now journal c.steps.link) (g.L.Link.faults c.args.link.now) (g.L.Link.faults c.steps.link) c.args.options.now.plan g.F.Flash.told c.args.options.now.at.now
    (session_side false (g.O.Sink.faults c.args.out.now) (g.O.Sink.written c.args.out.now) (g.F.Flash.state c.args.flash.now)) (g.O.Sink.faults c.steps.out) (g.O.Sink.written c.steps.out) (g.F.Flash.state c.steps.flash) c.steps.pool c.steps.session c.tally.result
    c.steps.invariant.1 c.steps.invariant.2 c.steps.invariant.4 (c.due.ensures.closed c.in-Ended.is) (c.due.ensures.none c.in-Ended.is) c.tally.ensures.texts c.tally.ensures.refused c.tally.ensures.faulted c.tally.ensures.told c.tally.ensures.status in
    λ e. last.prints.handed.rose refl (sym c.tally.ensures.sink ∙ e)

pub returns-in-Ended-clause-pages : goal.returns-in-Ended-clause-pages
returns-in-Ended-clause-pages g c =
    let last = last_of c.steps_take_few_calls.ensures c.later_texts_are_unmarked.ensures.unmarked c.knowledge_is_enough.ensures.enough c.damage_is_never_met.ensures.never c.honest_sessions_are_smooth.ensures c.honest_lines_are_printed.ensures c.closed_is_finished.ensures.finished c.args.cat.now c.a_catalog_is_short.ensures.catalog c.a_catalog_has_a_layout.ensures.layout.tree (texts_of c.args.script.now) c.requires.few
    (λ journal. g.L.Link.went c.args.link.now journal c.steps.link) (g.L.Link.faults c.args.link.now) (g.L.Link.faults c.steps.link) c.args.options.now.plan g.F.Flash.told c.args.options.now.at.now
    (session_side false (g.O.Sink.faults c.args.out.now) (g.O.Sink.written c.args.out.now) (g.F.Flash.state c.args.flash.now)) (g.O.Sink.faults c.steps.out) (g.O.Sink.written c.steps.out) (g.F.Flash.state c.steps.flash) c.steps.pool c.steps.session c.tally.result
    c.steps.invariant.1 c.steps.invariant.2 c.steps.invariant.4 (c.due.ensures.closed c.in-Ended.is) (c.due.ensures.none c.in-Ended.is) c.tally.ensures.texts c.tally.ensures.refused c.tally.ensures.faulted c.tally.ensures.told c.tally.ensures.status in
    last.pages

pub returns-in-Ended-clause-flash_calls : goal.returns-in-Ended-clause-flash_calls
returns-in-Ended-clause-flash_calls g c =
    let last = last_of c.steps_take_few_calls.ensures c.later_texts_are_unmarked.ensures.unmarked c.knowledge_is_enough.ensures.enough c.damage_is_never_met.ensures.never c.honest_sessions_are_smooth.ensures c.honest_lines_are_printed.ensures c.closed_is_finished.ensures.finished c.args.cat.now c.a_catalog_is_short.ensures.catalog c.a_catalog_has_a_layout.ensures.layout.tree (texts_of c.args.script.now) c.requires.few
    (λ journal. g.L.Link.went c.args.link.now journal c.steps.link) (g.L.Link.faults c.args.link.now) (g.L.Link.faults c.steps.link) c.args.options.now.plan g.F.Flash.told c.args.options.now.at.now
    (session_side false (g.O.Sink.faults c.args.out.now) (g.O.Sink.written c.args.out.now) (g.F.Flash.state c.args.flash.now)) (g.O.Sink.faults c.steps.out) (g.O.Sink.written c.steps.out) (g.F.Flash.state c.steps.flash) c.steps.pool c.steps.session c.tally.result
    c.steps.invariant.1 c.steps.invariant.2 c.steps.invariant.4 (c.due.ensures.closed c.in-Ended.is) (c.due.ensures.none c.in-Ended.is) c.tally.ensures.texts c.tally.ensures.refused c.tally.ensures.faulted c.tally.ensures.told c.tally.ensures.status in
    last.calls

pub returns-in-Ended-clause-flash_faults : goal.returns-in-Ended-clause-flash_faults
returns-in-Ended-clause-flash_faults g c =
    let last = last_of c.steps_take_few_calls.ensures c.later_texts_are_unmarked.ensures.unmarked c.knowledge_is_enough.ensures.enough c.damage_is_never_met.ensures.never c.honest_sessions_are_smooth.ensures c.honest_lines_are_printed.ensures c.closed_is_finished.ensures.finished c.args.cat.now c.a_catalog_is_short.ensures.catalog c.a_catalog_has_a_layout.ensures.layout.tree (texts_of c.args.script.now) c.requires.few
    (λ journal. g.L.Link.went c.args.link.now journal c.steps.link) (g.L.Link.faults c.args.link.now) (g.L.Link.faults c.steps.link) c.args.options.now.plan g.F.Flash.told c.args.options.now.at.now
    (session_side false (g.O.Sink.faults c.args.out.now) (g.O.Sink.written c.args.out.now) (g.F.Flash.state c.args.flash.now)) (g.O.Sink.faults c.steps.out) (g.O.Sink.written c.steps.out) (g.F.Flash.state c.steps.flash) c.steps.pool c.steps.session c.tally.result
    c.steps.invariant.1 c.steps.invariant.2 c.steps.invariant.4 (c.due.ensures.closed c.in-Ended.is) (c.due.ensures.none c.in-Ended.is) c.tally.ensures.texts c.tally.ensures.refused c.tally.ensures.faulted c.tally.ensures.told c.tally.ensures.status in
    last.faults

pub returns-in-Ended-clause-ran : goal.returns-in-Ended-clause-ran
returns-in-Ended-clause-ran g c =
    let last = last_of c.steps_take_few_calls.ensures c.later_texts_are_unmarked.ensures.unmarked c.knowledge_is_enough.ensures.enough c.damage_is_never_met.ensures.never c.honest_sessions_are_smooth.ensures c.honest_lines_are_printed.ensures c.closed_is_finished.ensures.finished c.args.cat.now c.a_catalog_is_short.ensures.catalog c.a_catalog_has_a_layout.ensures.layout.tree (texts_of c.args.script.now) c.requires.few
    (λ journal. g.L.Link.went c.args.link.now journal c.steps.link) (g.L.Link.faults c.args.link.now) (g.L.Link.faults c.steps.link) c.args.options.now.plan g.F.Flash.told c.args.options.now.at.now
    (session_side false (g.O.Sink.faults c.args.out.now) (g.O.Sink.written c.args.out.now) (g.F.Flash.state c.args.flash.now)) (g.O.Sink.faults c.steps.out) (g.O.Sink.written c.steps.out) (g.F.Flash.state c.steps.flash) c.steps.pool c.steps.session c.tally.result
    c.steps.invariant.1 c.steps.invariant.2 c.steps.invariant.4 (c.due.ensures.closed c.in-Ended.is) (c.due.ensures.none c.in-Ended.is) c.tally.ensures.texts c.tally.ensures.refused c.tally.ensures.faulted c.tally.ensures.told c.tally.ensures.status in
    subst (λ (failed : Bool). HasRun (λ journal. g.L.Link.went c.args.link.now journal c.steps.link) (g.L.Link.faults c.args.link.now) (g.L.Link.faults c.steps.link) c.args.options.now.plan g.F.Flash.told c.args.cat.now c.args.options.now.at.now (texts_of c.args.script.now)
    (session_side false (g.O.Sink.faults c.args.out.now) (g.O.Sink.written c.args.out.now) (g.F.Flash.state c.args.flash.now)) (session_side failed (g.O.Sink.faults c.steps.out) (g.O.Sink.written c.steps.out) (g.F.Flash.state c.steps.flash)) c.tally.result) (sym c.tally.ensures.sink)
    last.ran
