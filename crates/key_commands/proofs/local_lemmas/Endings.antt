-- How the command ended, from what its parts did.
use Rattle.std.proofs.Common.{◌≡◌, ◌⊎◌, inl, inr, ◌≤◌, ◌<◌, ◌+◌, min, ℕ, Bool, true, false, List, [], length, Option, Some, Result, Ok, Err, refl, sym, ap, ◌∙◌, subst, arith}
use Rattle.std.specs.Prelude.{count_by, flat_map}
use Rattle.std.specs.List.{concat}
use Rattle.std.proofs.lemmas.Bool.{cases_lt}
use Rattle.ghost_model.specs.core.Causes.{Rose, last_count}
use Rattle.ghost_model.specs.core.Channel.{Catalog, Journal}
use Rattle.ghost_model.specs.core.Lines.{Reason}
use Rattle.ghost_model.specs.core.Database.{IsDatabase}
use Rattle.ghost_model.specs.forms.Flash.{Holds}
use Rattle.ghost_model.specs.forms.Layout.{need, static_end, scratch_end}
use Rattle.ghost_model.specs.laws.FlashLaws.{HoldingsAreKept}
use Rattle.ghost_model.specs.laws.LayoutLaws.{LieInOrder}
use Rattle.ghost_model.specs.laws.SchemaTrees.{IsTree}
use Rattle.ghost_model.specs.core.Printed.{printed}
use Rattle.ghost_model.specs.core.Schema.{Schema}
use Rattle.ghost_model.specs.core.Split.{Hidden, hidden_of}
use Rattle.ghost_model.specs.core.Texts.{texts_of}
use Rattle.ghost_model.specs.core.Values.{Database}
use Rattle.flash_build.specs.Building.{load_calls}
use Rattle.edge_traits.specs.Devices.{Device, Counts, ChangesOnly}
use Rattle.edge_traits.specs.Written.{grown}
use Rattle.key_inputs.specs.Openings.{Opening}
use Rattle.key_inputs.specs.Outside.{Outside, Risen}
use Rattle.key_session.specs.Counting.{is_flash}
use Rattle.key_session.specs.Reasons.{HaveReasons, HaveLines}
use Rattle.key_session.specs.Calls.{session_calls}
use Rattle.key_words.specs.Words.{Local}
use Rattle.key_inputs.specs.Whole.{WholeInput}
use Rattle.key_lines.specs.Handing.{Hands, handed}
use Rattle.key_lines.specs.Told.{AreTold}
use Rattle.key_lines.specs.declared.told.ToldText.{ToldText}
use Rattle.key_commands.specs.local.Lines.{Gives, bytes_given, is_cut}
use Rattle.key_commands.specs.local.Sessions.{Subject, subject, catalog_for, Ran, HasLines, TellsReasons, session_side_in, is_sink, is_damaged, told_by_end}
use Rattle.key_commands.specs.local.Results.{EndsLocal, EndsLocalCall, EndsSomeLocal, IsMade, subject_of, is_faultless, is_faultless_end, told_by}
use Rattle.key_commands.specs.local.Making.{IsOfMaking}
use Rattle.key_inputs.specs.Whole.{IsSpelled}
use Rattle.key_commands.specs.local.Running.{RanOver}
use Rattle.key_commands.specs.declared.local.ends.LocalEnd.{LocalEnd}
use Rattle.key_commands.specs.declared.local.ends.LocalRun.{LocalRun}
use Rattle.key_commands.specs.declared.local.ends.LocalEnd.TheVariants as ends
use Rattle.key_commands.specs.declared.local.ends.LocalFailure.{LocalFailure}
use Rattle.key_commands.specs.declared.local.ends.LocalFailure.TheVariants as failure
use Rattle.key_inputs.specs.declared.whole.Opened.{Opened}
use Rattle.key_commands.proofs.local_lemmas.Keeping.{lines_there}

-- what was given since the flash was made was given since before
abbrev gives_since : (schema : Schema) (database : Database) (texts : List (List ℕ)) (failed : Bool) (before middle after : Outside)
    → middle.device.faults ≡ before.device.faults → middle.sink_faults ≡ before.sink_faults → middle.written ≡ before.written
    → Gives schema database texts (session_side_in false middle) (session_side_in failed after) → Gives schema database texts (session_side_in false before) (session_side_in failed after)
gives_since schema database texts failed before middle after faults sink written gives = record {
  given = gives.given;
  lines = gives.lines;
  handed_on =
      subst (λ (written : Option (List ℕ)). Hands (bytes_given gives.given) (handed false before.sink_faults written) (handed failed after.sink_faults after.written)) written
      (subst (λ (count : ℕ). Hands (bytes_given gives.given) (handed false count middle.written) (handed failed after.sink_faults after.written)) sink gives.handed_on);
  blamed = subst (λ (count : ℕ). min (count + count_by is_cut gives.given) last_count ≤ after.device.faults) faults gives.blamed;
  unblamed = λ none. gives.unblamed none ∙ faults;
}

-- what was written of a database's hidden part is of the catalog's database
pub part_stands : (page : ℕ → List ℕ) (catalog : Catalog) (schema : Schema) (database : Database) (hidden : Hidden) → catalog ≡ catalog_for schema database → hidden ≡ hidden_of schema database
    → Holds page catalog hidden → Holds page catalog (hidden_of catalog.schema database)
part_stands page catalog schema database hidden same is holds =
    subst (Holds page catalog) (is ∙ sym (ap (λ (c : Catalog). hidden_of c.schema database) same)) holds

-- the public pages and the static files stay where only pages behind them change
pub still_holds : HoldingsAreKept → (catalog : Catalog) (hidden : Hidden) → IsTree catalog.schema → LieInOrder catalog → (before after : Device) → ChangesOnly (static_end catalog) (scratch_end catalog) before after
    → Holds before.page catalog hidden → Holds after.page catalog hidden
still_holds laws catalog hidden tree order before after changes holds = record {
  catalog = laws.catalog before.page after.page catalog (λ number from to. (changes.below number (omega (arith, to, order.catalog, order.some, order.static))).bytes) holds.catalog;
  fresh = λ current. laws.fresh before.page after.page catalog current (λ number from to. (changes.below number (omega (arith, to, order.some, order.static))).bytes) (holds.fresh current);
  files = laws.files before.page after.page catalog hidden tree (λ number from to. (changes.below number (omega (arith, to, order.static))).bytes) holds.files;
}

-- a call after those that were counted
pub rose_after : (before more now later : ℕ) → Counts more before now → Rose now later → Rose (before + more) later
rose_after before more now later counts rose = of_cases (cases_lt now last_count)
  where
    of_cases : (now < last_count) ⊎ (last_count ≤ now) → Rose (before + more) later
    of_cases (inl below) = let is = counts.exact below in omega (arith, is, rose)
    of_cases (inr last) = omega (arith, last, rose)

-- so many calls more
pub few_since : (before more now later texts : ℕ) → Counts more before now → later ≤ now + texts → later ≤ before + (more + texts)
few_since before more now later texts counts few = let most = counts.most in omega (arith, most, few)

abbrev reasons_since : (catalog : Catalog) (texts : List (List ℕ)) (journal : Journal) (Counted : List Reason → Type 0) (before middle after : Outside) → middle.device.faults ≡ before.device.faults
    → HaveReasons catalog texts journal (length texts) Counted middle.device.faults after.device.faults → HaveReasons catalog texts journal (length texts) Counted before.device.faults after.device.faults
reasons_since catalog texts journal Counted before middle after faults have = record {
  reasons = have.reasons;
  as_many = have.as_many;
  each = have.each;
  blamed = subst (λ (count : ℕ). min (count + count_by is_flash have.reasons) last_count ≤ after.device.faults) faults have.blamed;
  unblamed = λ flash broken. have.unblamed flash broken ∙ faults;
  counted = have.counted;
}

pub lines_since : (catalog : Catalog) (texts : List (List ℕ)) (journal : Journal) (reasons : List Reason) (failed : Bool) (before middle after : Outside) → middle.sink_faults ≡ before.sink_faults → middle.written ≡ before.written
    → (lines : HaveLines catalog texts journal reasons (handed false middle.sink_faults middle.written) (handed failed after.sink_faults after.written))
    → (same : HaveLines catalog texts journal reasons (handed false before.sink_faults before.written) (handed failed after.sink_faults after.written)) × (same.lines ≡ lines.lines)
lines_since catalog texts journal reasons failed before middle after sink written lines = (
  record {
    lines = lines.lines;
    as_many = lines.as_many;
    each = lines.each;
    handed_on = subst (λ (faults : ℕ). Hands (flat_map concat lines.lines) (handed false faults before.written) (handed failed after.sink_faults after.written)) sink
        (subst (λ (held : Option (List ℕ)). Hands (flat_map concat lines.lines) (handed false middle.sink_faults held) (handed failed after.sink_faults after.written)) written lines.handed_on);
  },
  refl,
)

-- the session ran over what was made for it
unfoldable pub ran_since : (told : Bool) (schema : Schema) (database : Database) (texts : List (List ℕ)) (words : Local) (end : LocalEnd) (entries : List ToldText) (before middle after : Outside)
    → RanOver words.plan told (catalog_for schema database) database texts words.journal end middle after entries
    → middle.device.faults ≡ before.device.faults → middle.append_faults ≡ before.append_faults → middle.sink_faults ≡ before.sink_faults → middle.written ≡ before.written
    → HasLines middle.files words.journal []
    → middle.device.name ≡ Some words.flash → Counts (load_calls (catalog_for schema database) (hidden_of schema database)) before.device.calls middle.device.calls
    → (told ≡ true → Holds after.device.page (catalog_for schema database) (hidden_of schema database))
    → middle.device.page_count ≡ need (catalog_for schema database) → after.device.name ≡ middle.device.name → after.device.page_count ≡ middle.device.page_count
    → Ran told (subject schema database texts words) end before after entries
ran_since told schema database texts words end entries before middle after mine faults appends sink written empty named built there pages same_name same_pages =
    let given = lines_since (catalog_for schema database) texts mine.journal mine.reasons.reasons (is_sink end) before middle after sink written mine.lines in
    record {
      journal = mine.journal;
      is_local = mine.is_local;
      finished = mine.finished;
      since = session_side_in false middle;
      same_output = rw (sink, written) refl;
      begun = built;
      kept = λ calm. lines_there words.journal mine.journal middle.files after.files mine.finished empty
          (mine.kept (λ rose. calm (subst (λ (count : ℕ). Rose count after.append_faults) appends rose)));
      all_kept = λ fine. lines_there words.journal mine.journal middle.files after.files mine.finished empty (mine.all_kept fine);
      reasons = reasons_since (catalog_for schema database) texts mine.journal (λ reasons. TellsReasons end reasons) before middle after faults mine.reasons;
      lines = given.0;
      are_told = subst (λ (lines : List (List (List ℕ))). AreTold schema texts lines entries) (sym given.1) mine.are_told;
      same = λ t. mine.same t ∙ sym given.1;
      gives = λ t. gives_since schema database texts (is_sink end) before middle after faults sink written (mine.gives t);
      printed_all = λ t whole. mine.printed_all t whole ∙ ap (λ (held : Option (List ℕ)). grown held (printed schema texts database)) written;
      few_calls = λ t is_pre unfailed.
          few_since before.device.calls (load_calls (catalog_for schema database) (hidden_of schema database)) middle.device.calls after.device.calls (session_calls schema database texts) built
          (mine.few_calls t is_pre (λ rose. unfailed (subst (λ (count : ℕ). Rose count after.device.faults) faults rose)));
      cut = λ t is. mine.cut t is;
      more_calls = λ is. rose_after before.device.calls (load_calls (catalog_for schema database) (hidden_of schema database)) middle.device.calls after.device.calls built (mine.called is);
      damage_called = λ is. rose_after before.device.calls (load_calls (catalog_for schema database) (hidden_of schema database)) middle.device.calls after.device.calls built (mine.damage_called is);
      undamaged = mine.undamaged;
      damaged = mine.damaged;
      damage_read = mine.damage_read;
      holds = there;
      name = same_name ∙ named;
      pages = same_pages ∙ pages;
    }

-- and so over the catalog that was made
pub ran_of : (told : Bool) (schema : Schema) (database : Database) (texts : List (List ℕ)) (words : Local) (end : LocalEnd) (entries : List ToldText) (catalog : Catalog) (before middle after : Outside)
    → catalog ≡ catalog_for schema database → RanOver words.plan told catalog database texts words.journal end middle after entries
    → middle.device.faults ≡ before.device.faults → middle.append_faults ≡ before.append_faults → middle.sink_faults ≡ before.sink_faults → middle.written ≡ before.written
    → HasLines middle.files words.journal []
    → middle.device.name ≡ Some words.flash → Counts (load_calls catalog (hidden_of schema database)) before.device.calls middle.device.calls
    → (told ≡ true → Holds middle.device.page catalog (hidden_of schema database))
    → middle.device.page_count ≡ need catalog → ChangesOnly (static_end catalog) (scratch_end catalog) middle.device after.device
    → HoldingsAreKept → IsTree catalog.schema → LieInOrder catalog
    → Ran told (subject schema database texts words) end before after entries
ran_of told schema database texts words end entries catalog before middle after same ran faults appends sink written empty named counts there pages kept laws tree order =
    ran_since told schema database texts words end entries before middle after
    (subst (λ (c : Catalog). RanOver words.plan told c database texts words.journal end middle after entries) same ran)
    faults appends sink written empty named
    (subst (λ (c : Catalog). Counts (load_calls c (hidden_of schema database)) before.device.calls middle.device.calls) same counts)
    (λ t. subst (λ (c : Catalog). Holds after.device.page c (hidden_of schema database)) same
    (still_holds laws catalog (hidden_of schema database) tree order middle.device after.device kept (there t)))
    (pages ∙ ap need same) kept.name kept.page_count

-- what was made for the session
pub made_of : (told : Bool) (schema : Schema) (database : Database) (texts : List (List ℕ)) (words : Local) (catalog : Catalog) (hidden : Hidden) (after : Outside)
    → catalog ≡ catalog_for schema database → hidden ≡ hidden_of schema database → after.device.name ≡ Some words.flash
    → (told ≡ true → Holds after.device.page catalog hidden)
    → after.device.page_count ≡ need catalog → IsMade told (subject schema database texts words) after
made_of told schema database texts words catalog hidden after same is named there pages = record {
  name = named;
  holds = λ t. subst (Holds after.device.page (catalog_for schema database)) is
      (subst (λ (c : Catalog). Holds after.device.page c hidden) same (there t));
  pages = pages ∙ ap need same;
}

-- the making failed
pub unmade : (told : Bool) (schema : Schema) (database : Database) (texts : List (List ℕ)) (words : Local) (catalog : Catalog) (hidden : Hidden) (before after : Outside) (fault : LocalFailure)
    → catalog ≡ catalog_for schema database → hidden ≡ hidden_of schema database → IsOfMaking {T = Unit {0}} (Err fault)
    → after.device.calls ≤ before.device.calls + load_calls catalog hidden
    → EndsLocal told (subject schema database texts words) (Err fault) before after
unmade told schema database texts words catalog hidden before after failure.NoMemory same is of few = tt
unmade told schema database texts words catalog hidden before after failure.Depot same is of few = absurd of
unmade told schema database texts words catalog hidden before after (failure.Input broken) same is of few = of
unmade told schema database texts words catalog hidden before after failure.Flash same is of few =
    record {
      few_calls = subst (λ (part : Hidden). after.device.calls ≤ before.device.calls + load_calls (catalog_for schema database) part) is
          (subst (λ (c : Catalog). after.device.calls ≤ before.device.calls + load_calls c hidden) same few);
    }

abbrev inputs_of : Opened → (files : List (List ℕ)) → WholeInput
inputs_of opened files = record { schema = opened.tables.schema; files = files; script = opened.script.items }

abbrev subject_read : Opened → Local → Subject
subject_read opened words = subject opened.tables.schema opened.tables.tables (texts_of opened.script.items) words

same_subject : (opened : Opened) (opening : Opening WholeInput) (words : Local) → (are : IsSpelled opening opened)
    → subject_read opened words ≡ subject_of (inputs_of opened are.files) words
same_subject opened opening words are =
    ap (λ (database : Database). subject opened.tables.schema database (texts_of opened.script.items) words) are.tables

-- the call ended so over what the files spell
pub ends_spelled : (told : Bool) (opening : Opening WholeInput) (opened : Opened) (words : Local) (result : Result LocalRun LocalFailure) (before after : Outside)
    → IsSpelled opening opened → EndsLocal told (subject_read opened words) result before after → EndsLocalCall told opening words result before after
ends_spelled told opening opened words (Ok run) before after are ended = record {
  input = inputs_of opened are.files;
  spelled = are.spelled;
  ended = subst (λ (one : Subject). EndsLocal told one (Ok run) before after) (same_subject opened opening words are) ended;
}
ends_spelled told opening opened words (Err failure.NoMemory) before after are ended = inr (record {
  input = inputs_of opened are.files;
  spelled = are.spelled;
  ended = subst (λ (one : Subject). EndsLocal told one (Err failure.NoMemory) before after) (same_subject opened opening words are) ended;
})
ends_spelled told opening opened words (Err failure.Depot) before after are ended = inr (record {
  input = inputs_of opened are.files;
  spelled = are.spelled;
  ended = subst (λ (one : Subject). EndsLocal told one (Err failure.Depot) before after) (same_subject opened opening words are) ended;
})
ends_spelled told opening opened words (Err (failure.Input broken)) before after are ended = absurd ended
ends_spelled told opening opened words (Err failure.Flash) before after are ended = record {
  input = inputs_of opened are.files;
  spelled = are.spelled;
  ended = subst (λ (one : Subject). EndsLocal told one (Err failure.Flash) before after) (same_subject opened opening words are) ended;
}

-- it ended so over what was read
pub ends_some : (told : Bool) (opened : Opened) (words : Local) (result : Result LocalRun LocalFailure) (before after : Outside)
    → IsDatabase opened.tables.schema opened.tables.tables → EndsLocal told (subject_read opened words) result before after → EndsSomeLocal told words result before after
ends_some told opened words (Ok run) before after are ended = record {
  schema = opened.tables.schema;
  database = opened.tables.tables;
  texts = texts_of opened.script.items;
  are = are;
  ended = ended;
}
ends_some told opened words (Err failure.NoMemory) before after are ended = inr (record {
  schema = opened.tables.schema;
  database = opened.tables.tables;
  texts = texts_of opened.script.items;
  are = are;
  ended = ended;
})
ends_some told opened words (Err failure.Depot) before after are ended = inr (record {
  schema = opened.tables.schema;
  database = opened.tables.tables;
  texts = texts_of opened.script.items;
  are = are;
  ended = ended;
})
ends_some told opened words (Err (failure.Input broken)) before after are ended = tt
ends_some told opened words (Err failure.Flash) before after are ended = record {
  schema = opened.tables.schema;
  database = opened.tables.tables;
  texts = texts_of opened.script.items;
  are = are;
  ended = ended;
}

-- no end that is to be faultless is another
by_end : (told : Bool) (end : LocalEnd) → (told ≡ true → is_damaged end ≡ false)
    → ((told_by_end end).depot ≡ Risen → ⊥) → ((told_by_end end).flash ≡ Risen → ⊥) → ((told_by_end end).sink ≡ Risen → ⊥) → is_faultless_end told end ≡ true
by_end told ends.Ok undamaged depot flash sink = refl
by_end told ends.Sink undamaged depot flash sink = absurd (sink refl)
by_end told ends.Depot undamaged depot flash sink = absurd (depot refl)
by_end told ends.Flash undamaged depot flash sink = absurd (flash refl)
by_end true (ends.Damaged damage) undamaged depot flash sink = let none = undamaged refl in cc
by_end false (ends.Damaged damage) undamaged depot flash sink = refl

-- nothing that was to be unbroken ended otherwise
pub faultless : (told : Bool) (one : Subject) (result : Result LocalRun LocalFailure) (before after : Outside) → EndsLocal told one result before after
    → ((told_by result).depot ≡ Risen → ⊥) → ((told_by result).flash ≡ Risen → ⊥) → ((told_by result).sink ≡ Risen → ⊥) → is_faultless told result ≡ true
faultless told one (Ok run) before after ended depot flash sink = by_end told run.end ended.undamaged depot flash sink
faultless told one (Err failure.NoMemory) before after ended depot flash sink = refl
faultless told one (Err failure.Depot) before after ended depot flash sink = absurd (depot refl)
faultless told one (Err (failure.Input broken)) before after ended depot flash sink = absurd ended
faultless told one (Err failure.Flash) before after ended depot flash sink = absurd (flash refl)
