-- What a session ran over, from what the key, the link and the journal's file tell.
use Rattle.std.proofs.Common.{◌≡◌, ◌+◌, ◌≤◌, ℕ, Bool, true, false, List, [], ◌∷◌, length, Option, None, refl, sym, ap, ◌∙◌, subst}
use Rattle.std.specs.Prelude.{take, flat_map}
use Rattle.std.specs.List.{concat, list_any}
use Rattle.ghost_model.specs.core.Asks.{asked_of}
use Rattle.ghost_model.specs.core.Causes.{Rose}
use Rattle.ghost_model.specs.core.Channel.{Catalog, Journal}
use Rattle.ghost_model.specs.core.NextMove.{Standing, standing_after, IsFinished}
use Rattle.ghost_model.specs.core.Schema.{Schema}
use Rattle.ghost_model.specs.core.Values.{Database}
use Rattle.ghost_model.specs.forms.Layout.{static_end, scratch_end}
use Rattle.ghost_model.specs.laws.SchemaTrees.{IsTree}
use Rattle.edge_traits.specs.Devices.{Device, ChangesOnly}
use Rattle.edge_traits.specs.Files.{Files}
use Rattle.edge_traits.specs.Written.{grown}
use Rattle.ghost_model.specs.core.Honest.{IsHonest}
use Rattle.ghost_model.specs.core.Local.{IsServedBy}
use Rattle.ghost_model.specs.core.Split.{public_of}
use Rattle.ghost_model.specs.laws.SessionLaws.{ThisHostIsHonest}
use Rattle.session_laws.specs.Local.{IsLocal, IsUnbroken, LocalSessionsAreServed, holding_of}
use Rattle.key_session.specs.Reasons.{HaveReasons, HaveLines}
use Rattle.key_session.specs.Refusing.{first_code}
use Rattle.key_session.specs.Running.{IsTallied, blames_flash, is_sink as wrote_none, is_damaged as is_damage}
use Rattle.leakless_plan.specs.declared.plan.Plan.{Plan}
use Rattle.key_exec.specs.Plans.{by_pre}
use Rattle.key_session.specs.Calls.{session_calls}
use Rattle.key_exec.specs.Laws.{DamageStays}
use Rattle.key_exec.specs.declared.damage.Damage.{Damage}
use Rattle.key_session.specs.declared.tally.SessionStatus.TheVariants as status
use Rattle.key_session.specs.declared.tally.Tally.{Tally}
use Rattle.key_lines.specs.Handing.{Hands, handed}
use Rattle.key_lines.specs.Told.{AreTold, told_in}
use Rattle.key_lines.specs.declared.told.ToldText.{ToldText}
use Rattle.key_commands.specs.local.Lines.{AreAnswered, Gives, GivesByTally, ToldTextsAreGiven, is_cut, bytes_given}
use Rattle.key_commands.specs.local.Running.{RanOver, KeepsLines}
use Rattle.key_inputs.specs.Outside.{Outside, outside}
use Rattle.key_commands.specs.local.Sessions.{IsFirstSlot, HaveSlots, session_side_in, is_sink, is_damaged}
use Rattle.key_commands.specs.declared.local.ends.LocalEnd.{LocalEnd}
use Rattle.key_commands.specs.declared.local.ends.LocalEnd.TheVariants as ends
use Rattle.key_commands.proofs.local_lemmas.FirstSlots.{slot_stays}
use Rattle.key_commands.proofs.local_lemmas.Statuses.{none_stops, no_code, whole_status, flash_status, damage_found, no_damage, tells_reasons}

pub not_so : (b : Bool) → (b ≡ true → ⊥) → b ≡ false
not_so true never = absurd (never refl)
not_so false never = refl

pub false_is_not : false ≡ true → ⊥
false_is_not e = cc

module _ (catalog : Catalog) (database : Database) (texts : List (List ℕ)) (journal : Journal) (unbroken : IsUnbroken catalog database texts journal) where
  abbrev session : Standing
  session = standing_after catalog (asked_of catalog.schema texts) journal

  pub going : session.stopped ≡ false
  going = none_stops journal unbroken.goes_on

  pub valid : session.heard.broken ≡ false
  valid = unbroken.valid

  pub granted : first_code session.heard.ended ≡ None
  granted = no_code session.heard.ended unbroken.none_refused

-- what was given while the sink failed so
abbrev gives_as : (schema : Schema) (database : Database) (texts : List (List ℕ)) (wrote failed : Bool) (before after : Outside) → wrote ≡ failed
    → Gives schema database texts (session_side_in false before) (session_side_in wrote after) → Gives schema database texts (session_side_in false before) (session_side_in failed after)
gives_as schema database texts wrote failed before after same gives = record {
  given = gives.given;
  lines = gives.lines;
  handed_on = subst (λ (f : Bool). Hands (bytes_given gives.given) (handed false before.sink_faults before.written) (handed f after.sink_faults after.written)) same gives.handed_on;
  blamed = gives.blamed;
  unblamed = gives.unblamed;
}

-- a session was held to its end
unfoldable pub ran_over : (by : Plan) (told : Bool) (catalog : Catalog) (database : Database) (texts : List (List ℕ)) (name : Option (List ℕ)) (end : LocalEnd) (tally : Tally) (before after : Outside) (journal : Journal)
    → LocalSessionsAreServed → ToldTextsAreGiven → DamageStays → IsTree catalog.schema
    → IsLocal catalog database [] texts journal → IsFinished journal
    → ((Rose before.append_faults after.append_faults → ⊥) → KeepsLines before.files after.files name journal)
    → (end ≡ ends.Ok → KeepsLines before.files after.files name journal)
    → (answered : told ≡ true → AreAnswered by told before.device.page catalog database texts journal (wrote_none tally.status) (standing_after catalog (asked_of catalog.schema texts) journal) tally (session_side_in false before) (session_side_in (wrote_none tally.status) after))
    → (reasons : HaveReasons catalog texts journal (length texts)
    (λ reasons. IsTallied by told before.device.page catalog texts (wrote_none tally.status) (standing_after catalog (asked_of catalog.schema texts) journal) reasons tally) before.device.faults after.device.faults)
    → (lines : HaveLines catalog texts journal reasons.reasons (handed false before.sink_faults before.written) (handed (wrote_none tally.status) after.sink_faults after.written))
    → AreTold catalog.schema texts lines.lines (told_in tally.told) → ((t : told ≡ true) → (answered t).answers.lines ≡ lines.lines)
    → ((damage : Damage) → tally.status ≡ status.Damaged damage → IsFirstSlot by told before.device.page before.device.calls after.device catalog texts reasons.reasons damage)
    → HaveSlots by told before.device.calls after.device catalog texts reasons.reasons → ChangesOnly (static_end catalog) (scratch_end catalog) before.device after.device
    → is_sink end ≡ wrote_none tally.status → (end ≡ ends.Ok → tally.status ≡ status.Ok) → (end ≡ ends.Flash → blames_flash tally.status ≡ true)
    → (blames_flash tally.status ≡ true → Rose before.device.calls after.device.calls) → (is_damage tally.status ≡ true → Rose before.device.calls after.device.calls)
    → ((damage : Damage) → end ≡ ends.Damaged damage → tally.status ≡ status.Damaged damage)
    → (told ≡ true → by ≡ by_pre → (Rose before.device.faults after.device.faults → ⊥)
    → after.device.calls ≤ before.device.calls + session_calls catalog.schema database texts)
    → RanOver by told catalog database texts name end before after (told_in tally.told)
ran_over by told catalog database texts name end tally before after journal served given stays_damaged tree is_local finished kept all_kept answered reasons lines entries same blamed was_read pages sink whole flash called read damaged few =
    let unbroken = served catalog database [] texts journal is_local in
    let stays = going catalog database texts journal unbroken in
    let right = valid catalog database texts journal unbroken in
    let none = granted catalog database texts journal unbroken in
    let by_tally : (t : told ≡ true) → GivesByTally (wrote_none tally.status) (standing_after catalog (asked_of catalog.schema texts) journal) tally catalog.schema database texts (session_side_in false before) (session_side_in (wrote_none tally.status) after) (answered t).answers.lines =
    (λ t. given by told before.device.page catalog database texts journal (wrote_none tally.status) (standing_after catalog (asked_of catalog.schema texts) journal) tally (session_side_in false before) (session_side_in (wrote_none tally.status) after) is_local finished (answered t)) in
    record {
      journal = journal;
      is_local = is_local;
      finished = finished;
      kept = kept;
      all_kept = all_kept;
      reasons = record {
        reasons = reasons.reasons;
        as_many = reasons.as_many;
        each = reasons.each;
        blamed = reasons.blamed;
        unblamed = reasons.unblamed;
        counted = tells_reasons end tally.status (wrote_none tally.status) (standing_after catalog (asked_of catalog.schema texts) journal) reasons.reasons reasons.counted.damage stays right none
            reasons.counted.status_is reasons.counted.found whole flash damaged;
      };
      lines = record {
        lines = lines.lines;
        as_many = lines.as_many;
        each = lines.each;
        handed_on = subst (λ (failed : Bool). Hands (flat_map concat lines.lines) (handed false before.sink_faults before.written) (handed failed after.sink_faults after.written)) (sym sink) lines.handed_on;
      };
      are_told = entries;
      same = λ t. (by_tally t).same ∙ same t;
      uncut = λ t is.
          let all = by_tally t in
          whole_status (wrote_none tally.status) (standing_after catalog (asked_of catalog.schema texts) journal) (list_any is_cut all.gives.given) stays right none (sym all.status_is ∙ whole is);
      gives = λ t. gives_as catalog.schema database texts (wrote_none tally.status) (is_sink end) before after (sym sink) (by_tally t).gives;
      printed_all = λ t is.
          let all = by_tally t in
          let fine : tally.status ≡ status.Ok = whole is in
          let uncut : list_any is_cut all.gives.given ≡ false = whole_status (wrote_none tally.status) (standing_after catalog (asked_of catalog.schema texts) journal) (list_any is_cut all.gives.given) stays right none (sym all.status_is ∙ fine) in
          let took = all.gives.handed_on.whole (ap wrote_none fine) in
          took.written ∙ ap (λ (piece : List ℕ). grown before.written piece) (all.gives.lines.whole uncut);
      few_calls = few;
      cut = λ t is.
          let all = by_tally t in
          flash_status (wrote_none tally.status) (standing_after catalog (asked_of catalog.schema texts) journal) (list_any is_cut all.gives.given) stays right none
          (sym (ap blames_flash all.status_is) ∙ flash is);
      called = λ is. called (flash is);
      damage_called = λ is. read (damage_found end tally.status damaged is);
      undamaged = λ t. not_so (is_damaged end) (λ found.
          let all = by_tally t in
          let none_found : is_damage tally.status ≡ false = ap is_damage all.status_is ∙ no_damage (wrote_none tally.status) (standing_after catalog (asked_of catalog.schema texts) journal) (list_any is_cut all.gives.given) stays right none in
          false_is_not (sym none_found ∙ damage_found end tally.status damaged found));
      damaged = λ damage is.
          slot_stays stays_damaged by told before.device.page after.device.page before.device.calls after.device catalog texts reasons.reasons damage tree
          (λ number static. (pages.below number static).bytes) (blamed damage (damaged damage is));
      damage_read = was_read;
    }

-- and so over what the files and their counts are known to be
pub ran_as : {D : Type 0} (contents : D → Option Files) (failed appends : D → ℕ) (by : Plan) (told : Bool) (catalog : Catalog) (database : Database) (texts : List (List ℕ)) (name called : Option (List ℕ)) (end : LocalEnd) (entries : List ToldText)
    (device device_now : Device) (before earlier after later : D) (written written_now : Option (List ℕ)) (faults faults_now : ℕ)
    → name ≡ called → before ≡ earlier → after ≡ later
    → RanOver by told catalog database texts name end (outside (contents before) (failed before) (appends before) device written faults) (outside (contents after) (failed after) (appends after) device_now written_now faults_now) entries
    → RanOver by told catalog database texts called end (outside (contents earlier) (failed earlier) (appends earlier) device written faults) (outside (contents later) (failed later) (appends later) device_now written_now faults_now) entries
ran_as {D} contents failed appends by told catalog database texts name called end entries device device_now before earlier after later written written_now faults faults_now names starts comes ran =
    subst (λ (one : Option (List ℕ)). RanOver by told catalog database texts one end (outside (contents earlier) (failed earlier) (appends earlier) device written faults) (outside (contents later) (failed later) (appends later) device_now written_now faults_now) entries) names
    (subst (λ (d : D). RanOver by told catalog database texts name end (outside (contents d) (failed d) (appends d) device written faults) (outside (contents later) (failed later) (appends later) device_now written_now faults_now) entries) starts
    (subst (λ (d : D). RanOver by told catalog database texts name end (outside (contents before) (failed before) (appends before) device written faults) (outside (contents d) (failed d) (appends d) device_now written_now faults_now) entries) comes ran))

take_all : {X : Type 0} (some : List X) → take (length some) some ≡ some
take_all [] = refl
take_all {X} (first ∷ some) = ap (λ (xs : List X). first ∷ xs) (take_all some)

-- the host in the process is honest
pub is_honest : ThisHostIsHonest → (catalog : Catalog) (database : Database) (texts : List (List ℕ)) (journal : Journal) → IsLocal catalog database [] texts journal → IsUnbroken catalog database texts journal
    → IsHonest catalog (public_of catalog.schema database) journal
is_honest honest catalog database texts journal is_local unbroken =
    let served : IsServedBy (holding_of catalog database) journal = subst (λ (one : Journal). IsServedBy (holding_of catalog database) one) (take_all journal) (unbroken.throughout (length journal)) in
    honest catalog (public_of catalog.schema database) [] texts journal served.rest is_local.setting is_local.proper unbroken.goes_on served.said
