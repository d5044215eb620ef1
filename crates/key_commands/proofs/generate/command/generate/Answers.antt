use Rattle.std.proofs.Common.{◌≡◌, ◌++◌, Bool, false, List, ℕ, None, Err, length, refl, sym, ap, ◌∙◌, subst}
use Rattle.std.proofs.lemmas.List.{length-map}
use Rattle.ghost_model.specs.core.Channel.{Catalog}
use Rattle.ghost_model.specs.core.Split.{Hidden}
use Rattle.ghost_model.specs.core.Texts.{texts_of}
use Rattle.ghost_model.specs.examples.Clinic.{clinic_schema}
use Rattle.ghost_model.specs.forms.Flash.{Holds}
use Rattle.flash_build.specs.Building.{load_calls}
use Rattle.edge_traits.specs.Devices.{Counts}
use Rattle.key_inputs.specs.Outside.{outside}
use Rattle.key_lines.specs.Handing.{Hands, handed}
use Rattle.key_lines.specs.Told.{told_in}
use Rattle.key_lines.specs.declared.told.ToldText.{ToldText}
use Rattle.key_words.specs.Views.{gen_view}
use Rattle.key_commands.specs.generate.Counting.{moves_line, rows_given, rows_meant, rows_of_text, text_lines}
use Rattle.key_commands.specs.generate.Drawing.{drawn_database, drawn_texts}
use Rattle.key_commands.specs.generate.Ends.{is_sink}
use Rattle.key_commands.specs.generate.Running.{RanCounted}
use Rattle.key_commands.proofs.NamedDevices.{others_stay, others_on}
use Rattle.key_commands.proofs.local_lemmas.Endings.{part_stands}
use Rattle.key_commands.proofs.generate_lemmas.Drawn.{wants_memory, unmade, unmade_causes, unmade_faultless, ran_drawn, drawn_causes, drawn_faultless}
use Rattle.key_commands.proofs.generate_lemmas.RowsGiven.{all_told}
use Rattle.key_commands.proofs.generate_lemmas.RowsMeant.{texts_mean}
use Rattle.key_commands.proofs.generate.command.generate.Goals as goal

pub hold-held-requires-clause-version : goal.hold-held-requires-clause-version
hold-held-requires-clause-version g c = ap (λ (cat : Catalog). cat.version) c.in-Ok.ensures.ready.cat

pub returns-in-Err-clause-ends : goal.returns-in-Err-clause-ends
returns-in-Err-clause-ends g c = λ files faults appends.
    let is = c.in-Ok.ensures.ready in
    unmade g.F.Flash.told (gen_view c.args.words.now) c.failure_of.result c.in-Ok.ready.prepared.cat c.in-Ok.ready.prepared.hidden
    (outside files faults appends (g.F.Flash.state c.args.flash.now) (g.O.Sink.written c.args.out.now) (g.O.Sink.faults c.args.out.now))
    (outside files faults appends (g.F.Flash.state c.make_flash.new.flash) (g.O.Sink.written c.args.out.now) (g.O.Sink.faults c.args.out.now))
    is.cat is.hidden c.make_flash.ensures.few_calls

pub returns-in-Err-clause-complete : goal.returns-in-Err-clause-complete
returns-in-Err-clause-complete g c = λ calm written.
    unmade_faultless g.F.Flash.told c.failure_of.result (g.F.Flash.state c.args.flash.now).faults (g.F.Flash.state c.make_flash.new.flash).faults
    (λ is. c.in-Err.ensures.flash (ap Err (c.failure_of.ensures.flash is))) calm

pub returns-in-Err-clause-causes : goal.returns-in-Err-clause-causes
returns-in-Err-clause-causes g c = λ files faults appends.
    unmade_causes c.failure_of.result
    (outside files faults appends (g.F.Flash.state c.args.flash.now) (g.O.Sink.written c.args.out.now) (g.O.Sink.faults c.args.out.now))
    (outside files faults appends (g.F.Flash.state c.make_flash.new.flash) (g.O.Sink.written c.args.out.now) (g.O.Sink.faults c.args.out.now))
    (λ is. c.in-Err.ensures.flash (ap Err (c.failure_of.ensures.flash is)))
    (λ is. c.in-Err.ensures.no_flash (λ e. wants_memory c.in-Err.fault (Err c.in-Err.fault) (c.failure_of.ensures.memory is) refl e)) refl refl refl

pub print_counts-failed-requires-clause-as_many : goal.print_counts-failed-requires-clause-as_many
print_counts-failed-requires-clause-as_many g c =
    let words = gen_view c.args.words.now in
    let is = c.in-Ok.ensures.ready in
    let cat = c.in-Ok.ready.prepared.cat in
    let database = drawn_database words in
    let page = (g.F.Flash.state c.make_flash.new.flash).page in
    let made = c.in_default-make_flash.ensures in
    let counts = c.hold-held.ensures.ran database is.stored is.hosted (λ t.
    c.held_pages_are_known.ensures.known words.plan g.F.Flash.told page cat database t is.stored.is_database is.stored.counts_are is.stored.proper
    (part_stands page cat clinic_schema database c.in-Ok.ready.prepared.hidden is.cat is.hidden (made.holds t)).files) None 0 0 in
    let told : length (told_in c.hold-held.result.session.told) ≡ length (texts_of c.deref.result.now) =
    all_told words.plan g.F.Flash.told cat database (texts_of c.deref.result.now) None c.hold-held.result.session.end _ _ (told_in c.hold-held.result.session.told) counts.ran in
    let meant : length (rows_meant words) ≡ length (drawn_texts words) =
    sym (ap length (texts_mean words (c.texts_are_good.ensures.good words.texts c.args.words.now.drawn.few_texts))) ∙ length-map (drawn_texts words) (rows_of_text clinic_schema database) in
    ap length c.as_slice.ensures.texts ∙ told ∙ ap length (ap texts_of c.deref.ensures.value ∙ is.texts) ∙ sym meant ∙ ap length (sym is.meant) ∙ ap length (sym c.deref-2.ensures.0)

pub returns-clause-ends : goal.returns-clause-ends
returns-clause-ends g c = λ files faults appends.
    let words = gen_view c.args.words.now in
    let is = c.in-Ok.ensures.ready in
    let cat = c.in-Ok.ready.prepared.cat in
    let hidden = c.in-Ok.ready.prepared.hidden in
    let database = drawn_database words in
    let held = c.hold-held.result in
    let page = (g.F.Flash.state c.make_flash.new.flash).page in
    let made = c.in_default-make_flash.ensures in
    let limited = c.catalogs_are_limited.ensures cat is.stored.proper in
    let before = outside files faults appends (g.F.Flash.state c.args.flash.now) (g.O.Sink.written c.args.out.now) (g.O.Sink.faults c.args.out.now) in
    let middle = outside files faults appends (g.F.Flash.state c.make_flash.new.flash) (g.O.Sink.written c.args.out.now) (g.O.Sink.faults c.args.out.now) in
    let after = outside files faults appends (g.F.Flash.state c.hold-held.new.flash) (g.O.Sink.written c.print_counts-failed.new.out) (g.O.Sink.faults c.print_counts-failed.new.out) in
    let counts = c.hold-held.ensures.ran database is.stored is.hosted (λ t.
    c.held_pages_are_known.ensures.known words.plan g.F.Flash.told page cat database t is.stored.is_database is.stored.counts_are is.stored.proper
    (part_stands page cat clinic_schema database hidden is.cat is.hidden (made.holds t)).files) files faults appends in
    let mine : RanCounted words.plan g.F.Flash.told cat database (drawn_texts words) held (outside files faults appends (g.F.Flash.state c.make_flash.new.flash) None 0) (outside files faults appends (g.F.Flash.state c.hold-held.new.flash) None 0) =
    subst (λ (texts : List (List ℕ)). RanCounted words.plan g.F.Flash.told cat database texts held (outside files faults appends (g.F.Flash.state c.make_flash.new.flash) None 0) (outside files faults appends (g.F.Flash.state c.hold-held.new.flash) None 0))
    (ap texts_of c.deref.ensures.value ∙ is.texts) counts in
    let meant = c.deref-2.ensures.0 ∙ is.meant in
    let moves = moves_line held.moves held.sent held.taken in
    let hands : Hands (text_lines 1 (rows_given (told_in held.session.told)) (rows_meant words) ++ moves) (handed false before.sink_faults before.written) (handed (is_sink c.end_of.result) after.sink_faults after.written) =
    subst (λ (told : List ToldText). Hands (text_lines 1 (rows_given told) (rows_meant words) ++ moves) (handed false before.sink_faults before.written) (handed (is_sink c.end_of.result) after.sink_faults after.written)) c.as_slice.ensures.texts
    (subst (λ (rows : List ℕ). Hands (text_lines 1 (rows_given c.as_slice.result.now) rows ++ moves) (handed false before.sink_faults before.written) (handed (is_sink c.end_of.result) after.sink_faults after.written)) meant
    (subst (λ (failed : Bool). Hands (text_lines 1 (rows_given c.as_slice.result.now) c.deref-2.result.now ++ moves) (handed false before.sink_faults before.written) (handed failed after.sink_faults after.written)) (sym c.end_of.ensures.sink) c.print_counts-failed.ensures.handed)) in
    ran_drawn g.F.Flash.told words held c.end_of.result cat before middle after is.cat mine
    (record {
      faults = made.no_flash (λ e. let bad : ⊥ = cc in bad);
      name = made.named;
      built = subst (λ (part : Hidden). Counts (load_calls cat part) (g.F.Flash.state c.args.flash.now).calls (g.F.Flash.state c.make_flash.new.flash).calls) is.hidden made.exact;
      holds = λ t. subst (Holds page cat) is.hidden (made.holds t);
      pages = made.pages;
      kept = c.hold-held.ensures.pages;
    })
    c.holdings_are_kept.ensures limited.tree (c.files_lie_in_order.ensures cat) refl c.end_of.ensures.session
    (texts_mean words (c.texts_are_good.ensures.good words.texts c.args.words.now.drawn.few_texts)) hands

pub returns-clause-causes : goal.returns-clause-causes
returns-clause-causes g c = λ files faults appends.
    let before = outside files faults appends (g.F.Flash.state c.args.flash.now) (g.O.Sink.written c.args.out.now) (g.O.Sink.faults c.args.out.now) in
    let middle = outside files faults appends (g.F.Flash.state c.make_flash.new.flash) (g.O.Sink.written c.args.out.now) (g.O.Sink.faults c.args.out.now) in
    let after = outside files faults appends (g.F.Flash.state c.hold-held.new.flash) (g.O.Sink.written c.print_counts-failed.new.out) (g.O.Sink.faults c.print_counts-failed.new.out) in
    let piece = text_lines 1 (rows_given c.as_slice.result.now) c.deref-2.result.now ++ moves_line c.hold-held.result.moves c.hold-held.result.sent c.hold-held.result.taken in
    drawn_causes c.end_of.result c.hold-held.result.session.end piece before middle after c.end_of.ensures.session
    (subst (λ (failed : Bool). Hands piece (handed false before.sink_faults before.written) (handed failed after.sink_faults after.written)) (sym c.end_of.ensures.sink) c.print_counts-failed.ensures.handed)
    (c.in_default-make_flash.ensures.no_flash (λ e. let bad : ⊥ = cc in bad)) (c.hold-held.ensures.causes files faults appends) refl refl

pub returns-clause-complete : goal.returns-clause-complete
returns-clause-complete g c = λ calm written.
    let words = gen_view c.args.words.now in
    let is = c.in-Ok.ensures.ready in
    let cat = c.in-Ok.ready.prepared.cat in
    let database = drawn_database words in
    let page = (g.F.Flash.state c.make_flash.new.flash).page in
    let made = c.in_default-make_flash.ensures in
    let counts = c.hold-held.ensures.ran database is.stored is.hosted (λ t.
    c.held_pages_are_known.ensures.known words.plan g.F.Flash.told page cat database t is.stored.is_database is.stored.counts_are is.stored.proper
    (part_stands page cat clinic_schema database c.in-Ok.ready.prepared.hidden is.cat is.hidden (made.holds t)).files) None 0 0 in
    drawn_faultless g.F.Flash.told c.end_of.result c.hold-held.result.session.end
    (outside None 0 0 (g.F.Flash.state c.args.flash.now) (g.O.Sink.written c.args.out.now) (g.O.Sink.faults c.args.out.now))
    (outside None 0 0 (g.F.Flash.state c.hold-held.new.flash) (g.O.Sink.written c.print_counts-failed.new.out) (g.O.Sink.faults c.print_counts-failed.new.out))
    c.end_of.ensures.session counts.ran.undamaged (returns-clause-causes g c None 0 0) calm written

pub returns-clause-other_flashes : goal.returns-clause-other_flashes
returns-clause-other_flashes g c =
    let flash = c.args.words.now.flash.now in
    let made = g.F.Flash.state c.make_flash.new.flash in
    others_on g.F.Flash.told flash (g.F.Flash.state c.args.flash.now) made (g.F.Flash.state c.hold-held.new.flash) c.make_flash.ensures.others
    (others_stay g.F.Flash.told _ _ made (g.F.Flash.state c.hold-held.new.flash) flash c.hold-held.ensures.pages c.in_default-make_flash.ensures.named)
