use Rattle.std.proofs.Common.{◌≡◌, inr, refl, sym, ap, ◌∙◌, ℕ, List, Option, Ok, Err, subst}
use Rattle.std.proofs.lemmas.Result.{err_from_is_err_and}
use Rattle.ghost_model.specs.core.Causes.{Rose}
use Rattle.ghost_model.specs.core.Channel.{Catalog}
use Rattle.ghost_model.specs.core.Split.{Hidden}
use Rattle.ghost_model.specs.core.Texts.{texts_of}
use Rattle.ghost_model.specs.forms.Flash.{Holds}
use Rattle.flash_build.specs.Building.{load_calls}
use Rattle.edge_traits.specs.Devices.{Counts}
use Rattle.edge_traits.specs.Files.{Files}
use Rattle.key_words.specs.Views.{local_view}
use Rattle.key_inputs.specs.Outside.{HasCauses, outside}
use Rattle.key_inputs.proofs.Causes.{stays, rises, causes_since}
use Rattle.key_lines.specs.Told.{told_in}
use Rattle.key_commands.specs.local.Openings.{local_opening}
use Rattle.key_commands.specs.local.Results.{EndsLocal, told_by}
use Rattle.key_commands.specs.local.Sessions.{SameBesides, subject, told_by_end}
use Rattle.key_commands.specs.declared.local.ends.LocalFailure.TheVariants as failure
use Rattle.key_commands.proofs.NamedDevices.{others_stay, others_on}
use Rattle.key_commands.proofs.local_lemmas.Causing.{same_fault, unmade_causes}
use Rattle.key_commands.proofs.local_lemmas.Endings.{part_stands, made_of, ran_of, unmade, ends_spelled, ends_some, faultless}
use Rattle.key_commands.proofs.local_lemmas.Keeping.{besides_joined}
use Rattle.key_commands.proofs.local_lemmas.Renamed.{unread, unread_some, names_shown}
use Rattle.key_commands.proofs.local.command.local.Goals as goal

pub run-requires-clause-version : goal.run-requires-clause-version
run-requires-clause-version g c = ap (λ (cat : Catalog). cat.version) c.in-Ok-prepare.ensures.cat

pub returns-in-Err-clause-ends : goal.returns-in-Err-clause-ends
returns-in-Err-clause-ends g c = λ files held.
    let words = local_view c.args.words.now in
    let before = outside (g.D.Depot.contents c.args.depot.now) (g.D.Depot.faults c.args.depot.now) (g.D.Depot.append_faults c.args.depot.now) (g.F.Flash.state c.args.flash.now) (g.O.Sink.written c.args.out.now) (g.O.Sink.faults c.args.out.now) in
    rw c.failure_of.ensures
    (unread g.F.Flash.told (local_opening files words) words before
    (outside (g.D.Depot.contents c.open_inputs.new.depot) (g.D.Depot.faults c.open_inputs.new.depot) (g.D.Depot.append_faults c.open_inputs.new.depot) (g.F.Flash.state c.args.flash.now) (g.O.Sink.written c.args.out.now) (g.O.Sink.faults c.args.out.now))
    c.in-Err.fault (record { device = refl; files = c.in-Err.ensures.same }) (c.in-Err.ensures.told files held))

pub returns-in-Err-clause-names : goal.returns-in-Err-clause-names
returns-in-Err-clause-names g c = λ files held.
    rw c.failure_of.ensures (names_shown files c.args.words.now.schema.now c.args.words.now.tables.now c.in-Err.fault (c.in-Err.ensures.names files held))

pub returns-in-Err-clause-ran : goal.returns-in-Err-clause-ran
returns-in-Err-clause-ran g c =
    let words = local_view c.args.words.now in
    let before = outside (g.D.Depot.contents c.args.depot.now) (g.D.Depot.faults c.args.depot.now) (g.D.Depot.append_faults c.args.depot.now) (g.F.Flash.state c.args.flash.now) (g.O.Sink.written c.args.out.now) (g.O.Sink.faults c.args.out.now) in
    rw c.failure_of.ensures
    (unread_some g.F.Flash.told words before
    (outside (g.D.Depot.contents c.open_inputs.new.depot) (g.D.Depot.faults c.open_inputs.new.depot) (g.D.Depot.append_faults c.open_inputs.new.depot) (g.F.Flash.state c.args.flash.now) (g.O.Sink.written c.args.out.now) (g.O.Sink.faults c.args.out.now))
    c.in-Err.fault (record { device = refl; files = c.in-Err.ensures.same }))

pub returns-in_err-make_flash-clause-ends : goal.returns-in_err-make_flash-clause-ends
returns-in_err-make_flash-clause-ends g c = λ files told.
    let words = local_view c.args.words.now in
    let opened = c.in-Ok.opened in
    let prepared = c.in-Ok-prepare.prepared in
    let was = c.in-Ok-prepare.ensures in
    let before = outside (g.D.Depot.contents c.args.depot.now) (g.D.Depot.faults c.args.depot.now) (g.D.Depot.append_faults c.args.depot.now) (g.F.Flash.state c.args.flash.now) (g.O.Sink.written c.args.out.now) (g.O.Sink.faults c.args.out.now) in
    let after = outside (g.D.Depot.contents c.open_inputs.new.depot) (g.D.Depot.faults c.open_inputs.new.depot) (g.D.Depot.append_faults c.open_inputs.new.depot) (g.F.Flash.state c.make_flash.new.flash) (g.O.Sink.written c.args.out.now) (g.O.Sink.faults c.args.out.now) in
    let fault = c.in_err-make_flash.field-0.0 in
    let p = err_from_is_err_and c.from_residual.result c.from_residual.ensures.1 in
    let same : c.from_residual.result ≡ Err fault = p.1 ∙ ap Err p.2 in
    let ended : EndsLocal g.F.Flash.told (subject opened.tables.schema opened.tables.tables (texts_of opened.script.items) words) (Err fault) before after =
    unmade g.F.Flash.told opened.tables.schema opened.tables.tables (texts_of opened.script.items) words prepared.cat prepared.hidden before after fault was.cat was.hidden
    c.in_err-make_flash.ensures.kinds c.in_err-make_flash.ensures.few_calls in
    rw same (ends_spelled g.F.Flash.told (local_opening files words) opened words (Err fault) before after (c.in-Ok.ensures.spelled files told) ended)

pub returns-in_err-make_flash-clause-ran : goal.returns-in_err-make_flash-clause-ran
returns-in_err-make_flash-clause-ran g c =
    let words = local_view c.args.words.now in
    let opened = c.in-Ok.opened in
    let prepared = c.in-Ok-prepare.prepared in
    let was = c.in-Ok-prepare.ensures in
    let before = outside (g.D.Depot.contents c.args.depot.now) (g.D.Depot.faults c.args.depot.now) (g.D.Depot.append_faults c.args.depot.now) (g.F.Flash.state c.args.flash.now) (g.O.Sink.written c.args.out.now) (g.O.Sink.faults c.args.out.now) in
    let after = outside (g.D.Depot.contents c.open_inputs.new.depot) (g.D.Depot.faults c.open_inputs.new.depot) (g.D.Depot.append_faults c.open_inputs.new.depot) (g.F.Flash.state c.make_flash.new.flash) (g.O.Sink.written c.args.out.now) (g.O.Sink.faults c.args.out.now) in
    let fault = c.in_err-make_flash.field-0.0 in
    let p = err_from_is_err_and c.from_residual.result c.from_residual.ensures.1 in
    let same : c.from_residual.result ≡ Err fault = p.1 ∙ ap Err p.2 in
    let ended : EndsLocal g.F.Flash.told (subject opened.tables.schema opened.tables.tables (texts_of opened.script.items) words) (Err fault) before after =
    unmade g.F.Flash.told opened.tables.schema opened.tables.tables (texts_of opened.script.items) words prepared.cat prepared.hidden before after fault was.cat was.hidden
    c.in_err-make_flash.ensures.kinds c.in_err-make_flash.ensures.few_calls in
    rw same (ends_some g.F.Flash.told opened words (Err fault) before after c.in-Ok.ensures.database ended)

pub returns-in_err-make_flash-clause-never_other : goal.returns-in_err-make_flash-clause-never_other
returns-in_err-make_flash-clause-never_other g c = inr c.make_flash.ensures.never_other

pub returns-in_err-make_flash-clause-causes : goal.returns-in_err-make_flash-clause-causes
returns-in_err-make_flash-clause-causes g c =
    let before = outside (g.D.Depot.contents c.args.depot.now) (g.D.Depot.faults c.args.depot.now) (g.D.Depot.append_faults c.args.depot.now) (g.F.Flash.state c.args.flash.now) (g.O.Sink.written c.args.out.now) (g.O.Sink.faults c.args.out.now) in
    let after = outside (g.D.Depot.contents c.open_inputs.new.depot) (g.D.Depot.faults c.open_inputs.new.depot) (g.D.Depot.append_faults c.open_inputs.new.depot) (g.F.Flash.state c.make_flash.new.flash) (g.O.Sink.written c.args.out.now) (g.O.Sink.faults c.args.out.now) in
    let fault = c.in_err-make_flash.field-0.0 in
    let p = err_from_is_err_and c.from_residual.result c.from_residual.ensures.1 in
    let same : c.from_residual.result ≡ Err fault = p.1 ∙ ap Err p.2 in
    rw same
    (unmade_causes fault before after c.in_err-make_flash.ensures.kinds refl (c.in-Ok.ensures.other (λ e. let bad : ⊥ = cc in bad)) c.in-Ok.ensures.appends
    (λ e. c.in_err-make_flash.ensures.flash (ap Err e)) (λ never. c.in_err-make_flash.ensures.no_flash (λ e. never (same_fault fault failure.Flash (Err fault) refl e))))

pub returns-in-Err-begin_journal-clause-ends : goal.returns-in-Err-begin_journal-clause-ends
returns-in-Err-begin_journal-clause-ends g c = λ files told.
    let words = local_view c.args.words.now in
    let opened = c.in-Ok.opened in
    let prepared = c.in-Ok-prepare.prepared in
    let was = c.in-Ok-prepare.ensures in
    let before = outside (g.D.Depot.contents c.args.depot.now) (g.D.Depot.faults c.args.depot.now) (g.D.Depot.append_faults c.args.depot.now) (g.F.Flash.state c.args.flash.now) (g.O.Sink.written c.args.out.now) (g.O.Sink.faults c.args.out.now) in
    let after = outside (g.D.Depot.contents c.begin_journal.new.depot) (g.D.Depot.faults c.begin_journal.new.depot) (g.D.Depot.append_faults c.begin_journal.new.depot) (g.F.Flash.state c.make_flash.new.flash) (g.O.Sink.written c.args.out.now) (g.O.Sink.faults c.args.out.now) in
    let made = c.in_ok-make_flash.ensures in
    let ended : EndsLocal g.F.Flash.told (subject opened.tables.schema opened.tables.tables (texts_of opened.script.items) words) (Err failure.Depot) before after =
    made_of g.F.Flash.told opened.tables.schema opened.tables.tables (texts_of opened.script.items) words prepared.cat prepared.hidden after was.cat was.hidden made.named made.holds made.pages in
    ends_spelled g.F.Flash.told (local_opening files words) opened words (Err failure.Depot) before after (c.in-Ok.ensures.spelled files told) ended

pub returns-in-Err-begin_journal-clause-ran : goal.returns-in-Err-begin_journal-clause-ran
returns-in-Err-begin_journal-clause-ran g c =
    let words = local_view c.args.words.now in
    let opened = c.in-Ok.opened in
    let prepared = c.in-Ok-prepare.prepared in
    let was = c.in-Ok-prepare.ensures in
    let before = outside (g.D.Depot.contents c.args.depot.now) (g.D.Depot.faults c.args.depot.now) (g.D.Depot.append_faults c.args.depot.now) (g.F.Flash.state c.args.flash.now) (g.O.Sink.written c.args.out.now) (g.O.Sink.faults c.args.out.now) in
    let after = outside (g.D.Depot.contents c.begin_journal.new.depot) (g.D.Depot.faults c.begin_journal.new.depot) (g.D.Depot.append_faults c.begin_journal.new.depot) (g.F.Flash.state c.make_flash.new.flash) (g.O.Sink.written c.args.out.now) (g.O.Sink.faults c.args.out.now) in
    let made = c.in_ok-make_flash.ensures in
    let ended : EndsLocal g.F.Flash.told (subject opened.tables.schema opened.tables.tables (texts_of opened.script.items) words) (Err failure.Depot) before after =
    made_of g.F.Flash.told opened.tables.schema opened.tables.tables (texts_of opened.script.items) words prepared.cat prepared.hidden after was.cat was.hidden made.named made.holds made.pages in
    ends_some g.F.Flash.told opened words (Err failure.Depot) before after c.in-Ok.ensures.database ended

pub returns-in-Err-begin_journal-clause-never_other : goal.returns-in-Err-begin_journal-clause-never_other
returns-in-Err-begin_journal-clause-never_other g c = inr c.make_flash.ensures.never_other

pub returns-in-Err-begin_journal-clause-others : goal.returns-in-Err-begin_journal-clause-others
returns-in-Err-begin_journal-clause-others g c =
    subst (λ (held : Option Files). SameBesides (local_view c.args.words.now).journal held (g.D.Depot.contents c.begin_journal.new.depot)) c.in-Ok.ensures.same c.begin_journal.ensures.others

pub returns-in-Err-begin_journal-clause-causes : goal.returns-in-Err-begin_journal-clause-causes
returns-in-Err-begin_journal-clause-causes g c =
    let same = c.in-Ok.ensures.other (λ e. let bad : ⊥ = cc in bad) in
    record {
      sink = stays refl;
      depot = rises (subst (λ (count : ℕ). Rose count (g.D.Depot.faults c.begin_journal.new.depot)) same c.in-Err-begin_journal.ensures.cause.failed);
      append = stays (c.begin_journal.ensures.appends ∙ c.in-Ok.ensures.appends);
      flash = stays (c.in_ok-make_flash.ensures.no_flash (λ e. let bad : ⊥ = cc in bad));
    }

pub returns-clause-ends : goal.returns-clause-ends
returns-clause-ends g c = λ files told.
    let words = local_view c.args.words.now in
    let opened = c.in-Ok.opened in
    let prepared = c.in-Ok-prepare.prepared in
    let was = c.in-Ok-prepare.ensures in
    let before = outside (g.D.Depot.contents c.args.depot.now) (g.D.Depot.faults c.args.depot.now) (g.D.Depot.append_faults c.args.depot.now) (g.F.Flash.state c.args.flash.now) (g.O.Sink.written c.args.out.now) (g.O.Sink.faults c.args.out.now) in
    let middle = outside (g.D.Depot.contents c.begin_journal.new.depot) (g.D.Depot.faults c.begin_journal.new.depot) (g.D.Depot.append_faults c.begin_journal.new.depot) (g.F.Flash.state c.make_flash.new.flash) (g.O.Sink.written c.args.out.now) (g.O.Sink.faults c.args.out.now) in
    let after = outside (g.D.Depot.contents c.run.new.depot) (g.D.Depot.faults c.run.new.depot) (g.D.Depot.append_faults c.run.new.depot) (g.F.Flash.state c.run.new.flash) (g.O.Sink.written c.run.new.out) (g.O.Sink.faults c.run.new.out) in
    let made = c.in_ok-make_flash.ensures in
    let schema = opened.tables.schema in
    let database = opened.tables.tables in
    let cat = prepared.cat in
    let page = (g.F.Flash.state c.make_flash.new.flash).page in
    let limited = c.catalogs_are_limited.ensures cat was.stored.proper in
    let ended : EndsLocal g.F.Flash.told (subject schema database (texts_of opened.script.items) words) (Ok c.run.result) before after =
    subst (λ (script : List ℕ). EndsLocal g.F.Flash.told (subject schema database (texts_of script) words) (Ok c.run.result) before after) c.deref.ensures.value
    (ran_of g.F.Flash.told schema database (texts_of c.deref.result.now) words c.run.result.end (told_in c.run.result.told) cat before middle after was.cat
    (c.run.ensures.ran database was.stored was.hosted (λ t.
    c.held_pages_are_known.ensures.known c.args.words.now.plan g.F.Flash.told page cat database t was.stored.is_database was.stored.counts_are was.stored.proper
    (part_stands page cat schema database prepared.hidden was.cat was.hidden (made.holds t)).files))
    (made.no_flash (λ e. let bad : ⊥ = cc in bad)) (c.begin_journal.ensures.appends ∙ c.in-Ok.ensures.appends) refl refl c.in-Ok-begin_journal.ensures.begun made.named
    (subst (λ (part : Hidden). Counts (load_calls cat part) (g.F.Flash.state c.args.flash.now).calls (g.F.Flash.state c.make_flash.new.flash).calls) was.hidden made.exact)
    (λ t. subst (Holds page cat) was.hidden (made.holds t)) made.pages c.run.ensures.pages
    c.holdings_are_kept.ensures limited.tree (c.files_lie_in_order.ensures cat)) in
    ends_spelled g.F.Flash.told (local_opening files words) opened words (Ok c.run.result) before after (c.in-Ok.ensures.spelled files told) ended

pub returns-clause-ran : goal.returns-clause-ran
returns-clause-ran g c =
    let words = local_view c.args.words.now in
    let opened = c.in-Ok.opened in
    let prepared = c.in-Ok-prepare.prepared in
    let was = c.in-Ok-prepare.ensures in
    let before = outside (g.D.Depot.contents c.args.depot.now) (g.D.Depot.faults c.args.depot.now) (g.D.Depot.append_faults c.args.depot.now) (g.F.Flash.state c.args.flash.now) (g.O.Sink.written c.args.out.now) (g.O.Sink.faults c.args.out.now) in
    let middle = outside (g.D.Depot.contents c.begin_journal.new.depot) (g.D.Depot.faults c.begin_journal.new.depot) (g.D.Depot.append_faults c.begin_journal.new.depot) (g.F.Flash.state c.make_flash.new.flash) (g.O.Sink.written c.args.out.now) (g.O.Sink.faults c.args.out.now) in
    let after = outside (g.D.Depot.contents c.run.new.depot) (g.D.Depot.faults c.run.new.depot) (g.D.Depot.append_faults c.run.new.depot) (g.F.Flash.state c.run.new.flash) (g.O.Sink.written c.run.new.out) (g.O.Sink.faults c.run.new.out) in
    let made = c.in_ok-make_flash.ensures in
    let schema = opened.tables.schema in
    let database = opened.tables.tables in
    let cat = prepared.cat in
    let page = (g.F.Flash.state c.make_flash.new.flash).page in
    let limited = c.catalogs_are_limited.ensures cat was.stored.proper in
    let ended : EndsLocal g.F.Flash.told (subject schema database (texts_of opened.script.items) words) (Ok c.run.result) before after =
    subst (λ (script : List ℕ). EndsLocal g.F.Flash.told (subject schema database (texts_of script) words) (Ok c.run.result) before after) c.deref.ensures.value
    (ran_of g.F.Flash.told schema database (texts_of c.deref.result.now) words c.run.result.end (told_in c.run.result.told) cat before middle after was.cat
    (c.run.ensures.ran database was.stored was.hosted (λ t.
    c.held_pages_are_known.ensures.known c.args.words.now.plan g.F.Flash.told page cat database t was.stored.is_database was.stored.counts_are was.stored.proper
    (part_stands page cat schema database prepared.hidden was.cat was.hidden (made.holds t)).files))
    (made.no_flash (λ e. let bad : ⊥ = cc in bad)) (c.begin_journal.ensures.appends ∙ c.in-Ok.ensures.appends) refl refl c.in-Ok-begin_journal.ensures.begun made.named
    (subst (λ (part : Hidden). Counts (load_calls cat part) (g.F.Flash.state c.args.flash.now).calls (g.F.Flash.state c.make_flash.new.flash).calls) was.hidden made.exact)
    (λ t. subst (Holds page cat) was.hidden (made.holds t)) made.pages c.run.ensures.pages
    c.holdings_are_kept.ensures limited.tree (c.files_lie_in_order.ensures cat)) in
    ends_some g.F.Flash.told opened words (Ok c.run.result) before after c.in-Ok.ensures.database ended

pub returns-clause-complete : goal.returns-clause-complete
returns-clause-complete g c = λ files input held no_depot no_flash no_sink spelled.
    let words = local_view c.args.words.now in
    let opened = c.in-Ok.opened in
    let prepared = c.in-Ok-prepare.prepared in
    let was = c.in-Ok-prepare.ensures in
    let before = outside (g.D.Depot.contents c.args.depot.now) (g.D.Depot.faults c.args.depot.now) (g.D.Depot.append_faults c.args.depot.now) (g.F.Flash.state c.args.flash.now) (g.O.Sink.written c.args.out.now) (g.O.Sink.faults c.args.out.now) in
    let middle = outside (g.D.Depot.contents c.begin_journal.new.depot) (g.D.Depot.faults c.begin_journal.new.depot) (g.D.Depot.append_faults c.begin_journal.new.depot) (g.F.Flash.state c.make_flash.new.flash) (g.O.Sink.written c.args.out.now) (g.O.Sink.faults c.args.out.now) in
    let after = outside (g.D.Depot.contents c.run.new.depot) (g.D.Depot.faults c.run.new.depot) (g.D.Depot.append_faults c.run.new.depot) (g.F.Flash.state c.run.new.flash) (g.O.Sink.written c.run.new.out) (g.O.Sink.faults c.run.new.out) in
    let made = c.in_ok-make_flash.ensures in
    let schema = opened.tables.schema in
    let database = opened.tables.tables in
    let cat = prepared.cat in
    let page = (g.F.Flash.state c.make_flash.new.flash).page in
    let limited = c.catalogs_are_limited.ensures cat was.stored.proper in
    let ended : EndsLocal g.F.Flash.told (subject schema database (texts_of opened.script.items) words) (Ok c.run.result) before after =
    subst (λ (script : List ℕ). EndsLocal g.F.Flash.told (subject schema database (texts_of script) words) (Ok c.run.result) before after) c.deref.ensures.value
    (ran_of g.F.Flash.told schema database (texts_of c.deref.result.now) words c.run.result.end (told_in c.run.result.told) cat before middle after was.cat
    (c.run.ensures.ran database was.stored was.hosted (λ t.
    c.held_pages_are_known.ensures.known c.args.words.now.plan g.F.Flash.told page cat database t was.stored.is_database was.stored.counts_are was.stored.proper
    (part_stands page cat schema database prepared.hidden was.cat was.hidden (made.holds t)).files))
    (made.no_flash (λ e. let bad : ⊥ = cc in bad)) (c.begin_journal.ensures.appends ∙ c.in-Ok.ensures.appends) refl refl c.in-Ok-begin_journal.ensures.begun made.named
    (subst (λ (part : Hidden). Counts (load_calls cat part) (g.F.Flash.state c.args.flash.now).calls (g.F.Flash.state c.make_flash.new.flash).calls) was.hidden made.exact)
    (λ t. subst (Holds page cat) was.hidden (made.holds t)) made.pages c.run.ensures.pages
    c.holdings_are_kept.ensures limited.tree (c.files_lie_in_order.ensures cat)) in
    let causes : HasCauses (told_by (Ok c.run.result)) before after =
    causes_since (told_by_end c.run.result.end) before middle after refl (c.in-Ok-begin_journal.ensures.cause.other ∙ c.in-Ok.ensures.other (λ e. let bad : ⊥ = cc in bad))
    (c.begin_journal.ensures.appends ∙ c.in-Ok.ensures.appends) (c.in_ok-make_flash.ensures.no_flash (λ e. let bad : ⊥ = cc in bad)) c.run.ensures.causes in
    faultless g.F.Flash.told (subject schema database (texts_of opened.script.items) words) (Ok c.run.result) before after ended
    (λ e. no_depot (causes.depot.rose e)) (λ e. no_flash (causes.flash.rose e)) (λ e. no_sink (causes.sink.rose e))

pub returns-clause-causes : goal.returns-clause-causes
returns-clause-causes g c =
    let before = outside (g.D.Depot.contents c.args.depot.now) (g.D.Depot.faults c.args.depot.now) (g.D.Depot.append_faults c.args.depot.now) (g.F.Flash.state c.args.flash.now) (g.O.Sink.written c.args.out.now) (g.O.Sink.faults c.args.out.now) in
    let middle = outside (g.D.Depot.contents c.begin_journal.new.depot) (g.D.Depot.faults c.begin_journal.new.depot) (g.D.Depot.append_faults c.begin_journal.new.depot) (g.F.Flash.state c.make_flash.new.flash) (g.O.Sink.written c.args.out.now) (g.O.Sink.faults c.args.out.now) in
    let after = outside (g.D.Depot.contents c.run.new.depot) (g.D.Depot.faults c.run.new.depot) (g.D.Depot.append_faults c.run.new.depot) (g.F.Flash.state c.run.new.flash) (g.O.Sink.written c.run.new.out) (g.O.Sink.faults c.run.new.out) in
    let causes : HasCauses (told_by (Ok c.run.result)) before after =
    causes_since (told_by_end c.run.result.end) before middle after refl (c.in-Ok-begin_journal.ensures.cause.other ∙ c.in-Ok.ensures.other (λ e. let bad : ⊥ = cc in bad))
    (c.begin_journal.ensures.appends ∙ c.in-Ok.ensures.appends) (c.in_ok-make_flash.ensures.no_flash (λ e. let bad : ⊥ = cc in bad)) c.run.ensures.causes in
    causes

pub returns-clause-never_other : goal.returns-clause-never_other
returns-clause-never_other g c = inr (λ other e. c.make_flash.ensures.never_other other (sym c.run.ensures.pages.name ∙ e))

pub returns-clause-other_flashes : goal.returns-clause-other_flashes
returns-clause-other_flashes g c =
    let flash = c.args.words.now.flash.now in
    let made = g.F.Flash.state c.make_flash.new.flash in
    others_on g.F.Flash.told flash (g.F.Flash.state c.args.flash.now) made (g.F.Flash.state c.run.new.flash) c.make_flash.ensures.others
    (others_stay g.F.Flash.told _ _ made (g.F.Flash.state c.run.new.flash) flash c.run.ensures.pages c.in_ok-make_flash.ensures.named)

pub returns-clause-others : goal.returns-clause-others
returns-clause-others g c =
    besides_joined _ _ _ _
    (subst (λ (held : Option Files). SameBesides (local_view c.args.words.now).journal held (g.D.Depot.contents c.begin_journal.new.depot)) c.in-Ok.ensures.same c.begin_journal.ensures.others) c.run.ensures.others
