-- What a call of `gen` did, from what its parts did.
use Rattle.std.proofs.Common.{◌≡◌, ◌≤◌, ◌+◌, ◌++◌, ℕ, Bool, true, false, List, map, None, Some, Result, Err, refl, ap, ◌∙◌, subst}
use Rattle.ghost_model.specs.core.Causes.{Rose}
use Rattle.ghost_model.specs.core.Channel.{Catalog}
use Rattle.ghost_model.specs.core.Split.{Hidden, hidden_of}
use Rattle.ghost_model.specs.forms.Flash.{Holds}
use Rattle.ghost_model.specs.forms.Layout.{need, static_end, scratch_end}
use Rattle.ghost_model.specs.laws.FlashLaws.{HoldingsAreKept}
use Rattle.ghost_model.specs.laws.LayoutLaws.{LieInOrder}
use Rattle.ghost_model.specs.laws.SchemaTrees.{IsTree}
use Rattle.ghost_model.specs.examples.Clinic.{clinic_schema}
use Rattle.edge_traits.specs.Devices.{Device, Counts, ChangesOnly}
use Rattle.edge_traits.specs.Written.{grown}
use Rattle.flash_build.specs.Building.{load_calls}
use Rattle.local_links.specs.Counting.{moves_in, bytes_sent}
use Rattle.key_inputs.specs.Outside.{Outside, HasCauses}
use Rattle.key_inputs.proofs.Causes.{stays, rises, untold, all_same}
use Rattle.key_lines.specs.Handing.{Hands, handed}
use Rattle.key_lines.specs.Told.{told_in}
use Rattle.key_words.specs.Words.{Gen}
use Rattle.key_commands.specs.generate.Counting.{counted, counted_lines, line_of_moves, moves_line, rows_given, rows_meant, rows_of_text, text_lines}
use Rattle.key_commands.specs.generate.Drawing.{drawn_database, drawn_texts, session_words}
use Rattle.key_commands.specs.generate.Ends.{EndsAs, is_sink}
use Rattle.key_commands.specs.generate.Results.{EndsGen, RanDrawn, unheard, is_faultless, is_faultless_end, told_by, told_by_end}
use Rattle.key_commands.specs.generate.Running.{RanCounted}
use Rattle.key_commands.specs.local.Sessions.{catalog_for, is_damaged, told_by_end as session_tells}
use Rattle.key_commands.specs.declared.local.ends.LocalEnd.{LocalEnd}
use Rattle.key_commands.specs.declared.local.ends.LocalEnd.TheVariants as local_end
use Rattle.key_commands.specs.declared.local.ends.LocalFailure.{LocalFailure}
use Rattle.key_commands.specs.declared.local.ends.LocalFailure.TheVariants as local_failure
use Rattle.key_commands.specs.declared.generate.ends.GenEnd.{GenEnd}
use Rattle.key_commands.specs.declared.generate.ends.GenEnd.TheVariants as ends
use Rattle.key_commands.specs.declared.generate.ends.GenFailure.{GenFailure}
use Rattle.key_commands.specs.declared.generate.ends.GenFailure.TheVariants as failure
use Rattle.key_commands.specs.declared.generate.running.Held.{Held}
use Rattle.key_commands.proofs.local_lemmas.Endings.{ran_since, still_holds}
use Rattle.key_commands.proofs.generate_lemmas.RowsGiven.{rows_of_session}

-- what was made for the session, and the lines that were handed on behind it
pub record IsFilled (told : Bool) (words : Gen) (catalog : Catalog) (before middle after : Device) : Type 0 where
  pub faults : middle.faults ≡ before.faults
  pub name : middle.name ≡ Some words.flash
  pub built : Counts (load_calls catalog (hidden_of clinic_schema (drawn_database words))) before.calls middle.calls
  pub holds : told ≡ true → Holds middle.page catalog (hidden_of clinic_schema (drawn_database words))
  pub pages : middle.page_count ≡ need catalog
  pub kept : ChangesOnly (static_end catalog) (scratch_end catalog) middle after

module _ (told : Bool) (words : Gen) (held : Held) where
  abbrev the_catalog : Catalog
  the_catalog = catalog_for clinic_schema (drawn_database words)

  -- over the catalog of the drawn clinic
  exactly : (end : GenEnd) (before middle after : Outside)
      → RanCounted words.plan told the_catalog (drawn_database words) (drawn_texts words) held (unheard middle) (unheard after)
      → IsFilled told words the_catalog before.device middle.device after.device
      → HoldingsAreKept → IsTree clinic_schema → LieInOrder the_catalog
      → middle.append_faults ≡ before.append_faults
      → EndsAs end held.session.end
      → map (rows_of_text clinic_schema (drawn_database words)) (drawn_texts words) ≡ rows_meant words
      → Hands (text_lines 1 (rows_given (told_in held.session.told)) (rows_meant words) ++ moves_line held.moves held.sent held.taken)
      (handed false before.sink_faults before.written) (handed (is_sink end) after.sink_faults after.written)
      → RanDrawn told words end before after (told_in held.session.told)
  unfolding ran_since
  exactly end before middle after counts filled laws tree order appends as_session means hands =
      let entries = told_in held.session.told in
      let ran = counts.ran in
      let moves : moves_line held.moves held.sent held.taken ≡ line_of_moves ran.journal =
      ap (λ n. moves_line n held.sent held.taken) counts.moves
      ∙ (ap (λ n. moves_line (counted (moves_in ran.journal)) n held.taken) counts.sent
      ∙ ap (λ n. moves_line (counted (moves_in ran.journal)) (counted (bytes_sent ran.journal)) n) counts.taken) in
      let handed_on : Hands (counted_lines (rows_given entries) (rows_meant words) ran.journal) (handed false before.sink_faults before.written) (handed (is_sink end) after.sink_faults after.written) =
      subst (λ (line : List ℕ). Hands (text_lines 1 (rows_given entries) (rows_meant words) ++ line) (handed false before.sink_faults before.written) (handed (is_sink end) after.sink_faults after.written)) moves hands in
      record {
        session_end = held.session.end;
        session = ran_since told clinic_schema (drawn_database words) (drawn_texts words) (session_words words) held.session.end entries (unheard before) (unheard middle) (unheard after)
            ran filled.faults appends refl refl tt filled.name filled.built
            (λ t. still_holds laws the_catalog (hidden_of clinic_schema (drawn_database words)) tree order middle.device after.device filled.kept (filled.holds t))
            filled.pages filled.kept.name filled.kept.page_count;
        as_session = as_session;
        handed_on = handed_on;
        printed = λ t fine.
            let whole : held.session.end ≡ local_end.Ok = subst (λ (e : GenEnd). EndsAs e held.session.end) fine as_session in
            let rows : rows_given entries ≡ rows_meant words =
            rows_of_session words.plan told the_catalog (drawn_database words) (drawn_texts words) None held.session.end (unheard middle) (unheard after) entries ran t whole ∙ means in
            (handed_on.whole (ap is_sink fine)).written
            ∙ ap (λ (given : List ℕ). grown before.written (counted_lines given (rows_meant words) ran.journal)) rows;
      }

  -- over the catalog that was made
  pub ran_drawn : (end : GenEnd) (catalog : Catalog) (before middle after : Outside) → catalog ≡ the_catalog
      → RanCounted words.plan told catalog (drawn_database words) (drawn_texts words) held (unheard middle) (unheard after)
      → IsFilled told words catalog before.device middle.device after.device
      → HoldingsAreKept → IsTree catalog.schema → LieInOrder catalog
      → middle.append_faults ≡ before.append_faults
      → EndsAs end held.session.end
      → map (rows_of_text clinic_schema (drawn_database words)) (drawn_texts words) ≡ rows_meant words
      → Hands (text_lines 1 (rows_given (told_in held.session.told)) (rows_meant words) ++ moves_line held.moves held.sent held.taken)
      (handed false before.sink_faults before.written) (handed (is_sink end) after.sink_faults after.written)
      → RanDrawn told words end before after (told_in held.session.told)
  ran_drawn end catalog before middle after same counts filled laws tree order appends as_session means hands =
      exactly end before middle after
      (subst (λ (c : Catalog). RanCounted words.plan told c (drawn_database words) (drawn_texts words) held (unheard middle) (unheard after)) same counts)
      (subst (λ (c : Catalog). IsFilled told words c before.device middle.device after.device) same filled)
      laws (subst (λ (c : Catalog). IsTree c.schema) same tree) (subst LieInOrder same order) appends as_session means hands

-- the counts of faults: of the sink by what was handed on, of the flash by the session
pub drawn_causes : (end : GenEnd) (session : LocalEnd) (piece : List ℕ) (before middle after : Outside) → EndsAs end session
    → Hands piece (handed false before.sink_faults before.written) (handed (is_sink end) after.sink_faults after.written)
    → middle.device.faults ≡ before.device.faults → HasCauses (session_tells session) (unheard middle) (unheard after)
    → after.depot_faults ≡ before.depot_faults → after.append_faults ≡ before.append_faults
    → HasCauses (told_by_end end) before after
drawn_causes ends.Ok session piece before middle after is hands faults causes depot append =
    let flash : after.device.faults ≡ middle.device.faults = causes.flash.same (ap (λ (e : LocalEnd). (session_tells e).flash) is) in
    all_same before after (hands.whole refl).faults depot append (flash ∙ faults)
drawn_causes ends.Sink session piece before middle after is hands faults causes depot append = record {
  sink = rises (hands.rose refl refl);
  depot = stays depot;
  append = stays append;
  flash = untold;
}
drawn_causes ends.Flash session piece before middle after is hands faults causes depot append =
    let rose : Rose middle.device.faults after.device.faults = causes.flash.rose (ap (λ (e : LocalEnd). (session_tells e).flash) is) in
    record {
      sink = stays (hands.whole refl).faults;
      depot = stays depot;
      append = stays append;
      flash = rises (subst (λ (n : ℕ). Rose n after.device.faults) faults rose);
    }
drawn_causes (ends.Damaged damage) session piece before middle after is hands faults causes depot append =
    let flash : after.device.faults ≡ middle.device.faults = causes.flash.same (ap (λ (e : LocalEnd). (session_tells e).flash) is) in
    all_same before after (hands.whole refl).faults depot append (flash ∙ faults)

-- no end that is to be faultless is another
pub drawn_faultless : (told : Bool) (end : GenEnd) (session : LocalEnd) (before after : Outside) → EndsAs end session → (told ≡ true → is_damaged session ≡ false)
    → HasCauses (told_by_end end) before after → (Rose before.device.faults after.device.faults → ⊥) → (Rose before.sink_faults after.sink_faults → ⊥)
    → is_faultless_end told end ≡ true
drawn_faultless told ends.Ok session before after is undamaged causes flash sink = refl
drawn_faultless told ends.Sink session before after is undamaged causes flash sink = absurd (sink (causes.sink.rose refl))
drawn_faultless told ends.Flash session before after is undamaged causes flash sink = absurd (flash (causes.flash.rose refl))
drawn_faultless true (ends.Damaged damage) session before after is undamaged causes flash sink =
    let none : is_damaged session ≡ false = undamaged refl in
    let found : is_damaged session ≡ true = ap is_damaged is in
    cc
drawn_faultless false (ends.Damaged damage) session before after is undamaged causes flash sink = refl

-- the making of the flash failed so
pub unmade : (told : Bool) (words : Gen) (fault : GenFailure) (catalog : Catalog) (hidden : Hidden) (before after : Outside)
    → catalog ≡ catalog_for clinic_schema (drawn_database words) → hidden ≡ hidden_of clinic_schema (drawn_database words)
    → after.device.calls ≤ before.device.calls + load_calls catalog hidden → EndsGen told words (Err fault) before after
unmade told words failure.NoMemory catalog hidden before after same is few = record {
  few_calls = subst (λ (part : Hidden). after.device.calls ≤ before.device.calls + load_calls (catalog_for clinic_schema (drawn_database words)) part) is
      (subst (λ (c : Catalog). after.device.calls ≤ before.device.calls + load_calls c hidden) same few);
}
unmade told words failure.Flash catalog hidden before after same is few = record {
  few_calls = subst (λ (part : Hidden). after.device.calls ≤ before.device.calls + load_calls (catalog_for clinic_schema (drawn_database words)) part) is
      (subst (λ (c : Catalog). after.device.calls ≤ before.device.calls + load_calls c hidden) same few);
}

pub unmade_causes : (fault : GenFailure) (before after : Outside) → (fault ≡ failure.Flash → Rose before.device.faults after.device.faults)
    → (fault ≡ failure.NoMemory → after.device.faults ≡ before.device.faults)
    → after.sink_faults ≡ before.sink_faults → after.depot_faults ≡ before.depot_faults → after.append_faults ≡ before.append_faults
    → HasCauses (told_by (Err fault)) before after
unmade_causes failure.NoMemory before after flash memory sink depot append = all_same before after sink depot append (memory refl)
unmade_causes failure.Flash before after flash memory sink depot append =
    record { sink = stays sink; depot = stays depot; append = stays append; flash = rises (flash refl) }

pub unmade_faultless : (told : Bool) (fault : GenFailure) (before after : ℕ) → (fault ≡ failure.Flash → Rose before after) → (Rose before after → ⊥)
    → is_faultless told (Err fault) ≡ true
unmade_faultless told failure.NoMemory before after flash calm = refl
unmade_faultless told failure.Flash before after flash calm = absurd (calm (flash refl))

-- want of memory is no fault of the flash
pub wants_memory : (fault : LocalFailure) (made : Result (Unit {0}) LocalFailure) → fault ≡ local_failure.NoMemory → made ≡ Err fault → made ≡ Err local_failure.Flash → ⊥
wants_memory fault made is one other = let bad : ⊥ = cc in bad
