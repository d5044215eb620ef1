use Rattle.std.proofs.Common.{[], arith, ap, refl, sym, subst}
use Rattle.std.specs.Prelude.{Option}
use Rattle.ghost_model.specs.core.Texts.{texts_of}
use Rattle.ghost_model.specs.core.Asks.{asked_of}
use Rattle.ghost_model.specs.core.NextMove.{Heard}
use Rattle.key_exec.specs.declared.telling.Telling.{Telling}
use Rattle.key_session.specs.Going.{Runs}
use Rattle.key_session.specs.Kept.{with_lease}
use Rattle.key_session.specs.Refusing.{first_code}
use Rattle.key_session.specs.Order.{is_closed}
use Rattle.key_session.proofs.Moving.{heard_none}
use Rattle.key_session.proofs.Running.{at_first}
use Rattle.key_session.proofs.Unsent.{none_at_first}
use Rattle.key_session.proofs.session.Session.begin.Goals as goal

pub returns-clause-live : goal.returns-clause-live
returns-clause-live c = λ told now pool suffices. record {
  channel = λ page. c.sessions_begin.ensures.begun c.args.cat.now c.args.options.now.at.now (asked_of c.args.cat.now.schema (texts_of c.args.script.now)) c.begin.result page c.begin.ensures.after;
  amid = λ later lease out. record {
    plan = c.new.ensures.plan;
    sink = now.sink;
    going = at_first c.pieces_join.ensures c.args.options.now.plan told c.args.cat.now (texts_of c.args.script.now) now later _ c.new.result.count c.new.result.counts _ (with_lease lease c.begin-2.result) c.new.ensures.texts c.new.ensures.count c.new.ensures.counts
        (c.begin-2.ensures.kept told now.flash later lease suffices.pages suffices.small out) c.begin-2.ensures.unmarked;
    running = subst (λ (running : Option Telling). Runs c.args.options.now.plan told c.args.cat.now (texts_of c.args.script.now) [] c.new.result.count now.flash now.sink now later (with_lease lease c.begin-2.result) running) (sym c.new.ensures.running) refl;
  };
  refusal_is = sym (ap (λ (heard : Heard). first_code heard.ended) (heard_none c.args.cat.now (texts_of c.args.script.now)));
  owed = λ some. (let none = c.new-2.ensures.unpaced.owed in absurd (omega (arith, none, some)));
  far = none_at_first c.args.cat.now c.args.options.now.at.now (texts_of c.args.script.now) c.new.result.count;
}

pub returns-clause-can : goal.returns-clause-can
returns-clause-can c = λ told device pool suffices idle. record {
  version = c.requires.version;
  suffices = suffices;
  buffers = record { idle = idle; none = c.new.ensures.running; opened = ap is_closed c.begin.ensures.want };
}
