use Rattle.std.proofs.Common.{List, subst, sym, ◌∙◌, ℕ, refl}
use Rattle.ghost_model.specs.core.Causes.{Rose}
use Rattle.key_inputs.specs.Outside.{outside}
use Rattle.key_commands.specs.query.Openings.{IsScript}
use Rattle.key_commands.specs.query.Results.{side_since, side_now}
use Rattle.key_commands.proofs.query_lemmas.Endings.{session_causes, unopened_causes}
use Rattle.key_commands.proofs.NamedDevices.{own_pages, others_stay, others_since, none_but_named}
use Rattle.key_commands.proofs.query.command.query.Goals as goal

pub returns-in-Ok-clause-ran : goal.returns-in-Ok-clause-ran
returns-in-Ok-clause-ran g c =
    let device = g.F.Flash.state c.open.new.flash in
    let before = outside (g.D.Depot.contents c.args.depot.now) (g.D.Depot.faults c.args.depot.now) (g.D.Depot.append_faults c.args.depot.now) (g.F.Flash.state c.args.flash.now) (g.O.Sink.written c.args.out.now) (g.O.Sink.faults c.args.out.now) in
    let after = outside (g.D.Depot.contents c.open.new.depot) (g.D.Depot.faults c.open.new.depot) (g.D.Depot.append_faults c.open.new.depot) (g.F.Flash.state c.run_session.new.flash) (g.O.Sink.written c.run_session.new.out) (g.O.Sink.faults c.run_session.new.out) in
    let since = side_since before device in
    let now = side_now c.run_session.result after in
    let opened = c.in-Ok.ensures.opened in
    let is_script : IsScript (g.D.Depot.contents c.args.depot.now) c.args.words.now.script.now c.deref.result.now =
    subst (λ (script : List ℕ). IsScript (g.D.Depot.contents c.args.depot.now) c.args.words.now.script.now script) (sym c.deref.ensures.value) opened.script in
    record {
      opened = device;
      opens = record {
        name = opened.name;
        page = λ told. sym (own_pages device c.args.words.now.flash.now opened.name) ∙ c.in-Ok.ensures.kept.kept told c.args.words.now.flash.now;
        kept = c.in-Ok.ensures.kept.kept;
        faults = c.in-Ok.ensures.flash.same refl;
        deep_reads = c.in-Ok.ensures.kept.deep_reads;
      };
      cat = c.in-Ok.opened.cat;
      current = record { proper = c.a_catalog_is_short.ensures.catalog; version = opened.current };
      catalog = opened.catalog;
      enough = opened.suffices.pages;
      script = c.deref.result.now;
      is_script = is_script;
      ran = c.run_session.ensures.ran;
      answered = c.run_session.ensures.ran.answered;
      texts = c.run_session.ensures.texts;
      prints = c.run_session.ensures.prints;
      kept = c.run_session.ensures.pages;
      called = c.run_session.ensures.flash_called;
      damage_called = c.run_session.ensures.damage_called;
    }

pub returns-in-Ok-clause-causes : goal.returns-in-Ok-clause-causes
returns-in-Ok-clause-causes g c =
    let before = outside (g.D.Depot.contents c.args.depot.now) (g.D.Depot.faults c.args.depot.now) (g.D.Depot.append_faults c.args.depot.now) (g.F.Flash.state c.args.flash.now) (g.O.Sink.written c.args.out.now) (g.O.Sink.faults c.args.out.now) in
    let after = outside (g.D.Depot.contents c.open.new.depot) (g.D.Depot.faults c.open.new.depot) (g.D.Depot.append_faults c.open.new.depot) (g.F.Flash.state c.run_session.new.flash) (g.O.Sink.written c.run_session.new.out) (g.O.Sink.faults c.run_session.new.out) in
    let opened = c.in-Ok.ensures.flash.same refl in
    session_causes c.run_session.result.status before after c.run_session.ensures.sink_rose c.run_session.ensures.sink_same (c.in-Ok.ensures.depot.same refl) c.in-Ok.ensures.appends
    (λ blamed. subst (λ (count : ℕ). Rose count after.device.faults) opened (c.run_session.ensures.flash_rose blamed))
    (λ spared. c.run_session.ensures.flash_same spared ∙ opened)

pub returns-in-Err-clause-causes : goal.returns-in-Err-clause-causes
returns-in-Err-clause-causes g c =
    let before = outside (g.D.Depot.contents c.args.depot.now) (g.D.Depot.faults c.args.depot.now) (g.D.Depot.append_faults c.args.depot.now) (g.F.Flash.state c.args.flash.now) (g.O.Sink.written c.args.out.now) (g.O.Sink.faults c.args.out.now) in
    let after = outside (g.D.Depot.contents c.open.new.depot) (g.D.Depot.faults c.open.new.depot) (g.D.Depot.append_faults c.open.new.depot) (g.F.Flash.state c.open.new.flash) (g.O.Sink.written c.args.out.now) (g.O.Sink.faults c.args.out.now) in
    unopened_causes c.in-Err.failure before after refl c.in-Err.ensures.depot c.in-Err.ensures.appends c.in-Err.ensures.flash

pub returns-in-Ok-clause-other_flashes : goal.returns-in-Ok-clause-other_flashes
returns-in-Ok-clause-other_flashes g c =
    let device = g.F.Flash.state c.open.new.flash in
    let flash = c.args.words.now.flash.now in
    others_since g.F.Flash.told flash (g.F.Flash.state c.args.flash.now) device (g.F.Flash.state c.run_session.new.flash) c.in-Ok.ensures.kept.kept
    (others_stay g.F.Flash.told _ _ device (g.F.Flash.state c.run_session.new.flash) flash c.run_session.ensures.pages c.in-Ok.ensures.opened.name)

pub returns-in-Err-clause-other_flashes : goal.returns-in-Err-clause-other_flashes
returns-in-Err-clause-other_flashes g c = none_but_named g.F.Flash.told c.args.words.now.flash.now (g.F.Flash.state c.args.flash.now) (g.F.Flash.state c.open.new.flash) c.in-Err.ensures.kept.kept
