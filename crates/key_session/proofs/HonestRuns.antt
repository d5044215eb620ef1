-- A session with an honest host over sound pages prints what its texts print.
use Rattle.std.proofs.Common.{◌≡◌, ℕ, suc, zero, ◌+◌, ◌≤◌, min, Bool, true, false, List, [], ◌∷◌, ◌++◌, length, flat_map, count_by, ◌||◌, slice_get, Option, Some, None, refl, sym, ap, ◌∙◌, subst, arith, append_assoc}
use Rattle.std.specs.List.{list_any, concat}
use Rattle.std.specs.Prelude.{cond, is_some}
use Rattle.std.proofs.lemmas.List.Sums.{sum_by-cons}
use Rattle.ghost_model.specs.core.Causes.{Rose, last_count}
use Rattle.ghost_model.specs.core.Values.{Database}
use Rattle.ghost_model.specs.forms.Catalog.{IsCatalog}
use Rattle.ghost_model.specs.core.Channel.{Catalog, Journal, Entry}
use Rattle.ghost_model.specs.core.Asks.{asked_of}
use Rattle.ghost_model.specs.core.Moves.{answers}
use Rattle.ghost_model.specs.core.NextMove.{Standing, standing_after, EndedAsk, Ending, Answered, Refused, is_stop, IsProper, IsFinished}
use Rattle.ghost_model.specs.core.Split.{hidden_of}
use Rattle.ghost_model.specs.core.Lines.{Reason, WasRefused, WasBroken, WasAnswered, MetFault, OnFlash, OnDamage, was_refused}
use Rattle.ghost_model.specs.core.Printed.{printed}
use Rattle.edge_traits.specs.Written.{grown}
use Rattle.session_laws.specs.TextEnds.{heard_in}
use Rattle.session_laws.specs.HonestSessions.{IsHonestSession, HonestSessionsAreSmooth, HonestLinesArePrinted, AreAllLines, is_own_fault}
use Rattle.ghost_model.specs.laws.SchemaTrees.{IsTree}
use Rattle.key_exec.specs.Laws.{KnowledgeIsEnough}
use Rattle.key_exec.specs.Reading.{KnowsBy, KnowsButBy}
use Rattle.leakless_plan.specs.declared.plan.Plan.{Plan}
use Rattle.key_session.specs.Answering.{AnswersWhereSound}
use Rattle.key_session.specs.Counting.{is_flash, is_damage}
use Rattle.key_session.specs.Refusing.{first_code}
use Rattle.key_session.specs.Reasons.{HaveReasons, HaveAnswerLines, HasAnswerLines}
use Rattle.key_session.specs.Running.{IsTallied, status_of, status_with}
use Rattle.key_session.specs.Telling.{SessionSide}
use Rattle.key_exec.specs.declared.damage.Damage.{Damage}
use Rattle.key_session.specs.declared.tally.Tally.{Tally}
use Rattle.key_session.specs.declared.tally.SessionStatus.TheVariants as status
use Rattle.key_session.proofs.Settings.{setting, stored}

none_of_both : (test : Bool) (others : ℕ) → cond test 1 0 + others ≡ 0 → (test ≡ false) × (others ≡ 0)
none_of_both true others none = (let bad : ⊥ = omega (arith, none) in absurd bad)
none_of_both false others none = (refl, omega (arith, none))

none_of_all : (reason : Reason) (reasons : List Reason) → count_by is_flash (reason ∷ reasons) ≡ 0
    → (is_flash reason ≡ false) × (count_by is_flash reasons ≡ 0)
none_of_all reason reasons none =
    none_of_both (is_flash reason) (count_by is_flash reasons) (sym (sum_by-cons (λ (one : Reason). cond (is_flash one) 1 0) reason reasons) ∙ none)

-- what none of the reasons is the one at a place is not
or_false : (first second : Bool) → (first || second) ≡ false → (first ≡ false) × (second ≡ false)
or_false true second e = cc
or_false false second e = (refl, e)

pub none_at : (test : Reason → Bool) (reasons : List Reason) (place : ℕ) (reason : Reason) → list_any test reasons ≡ false → slice_get reasons place ≡ Some reason → test reason ≡ false
none_at test [] place reason none e = (let bad : ⊥ = cc in absurd bad)
none_at test (first ∷ reasons) zero reason none e =
    let same : first ≡ reason = cc in
    subst (λ (one : Reason). test one ≡ false) same (or_false (test first) (list_any test reasons) none).0
none_at test (first ∷ reasons) (suc place) reason none e =
    none_at test reasons place reason (or_false (test first) (list_any test reasons) none).1 e

-- the reason for the lines at a place
pub reason_at : (reasons : List Reason) (lines : List (List (List ℕ))) (place : ℕ) (one : List (List ℕ)) → length lines ≡ length reasons → slice_get lines place ≡ Some one
    → (reason : Reason) × (slice_get reasons place ≡ Some reason)
reason_at reasons [] place one many e = (let bad : ⊥ = cc in absurd bad)
reason_at [] (first ∷ lines) place one many e = absurd (omega (arith, many))
reason_at (reason ∷ reasons) (first ∷ lines) zero one many e = (reason, refl)
reason_at (reason ∷ reasons) (first ∷ lines) (suc place) one many e = reason_at reasons lines place one (omega (arith, many)) e

pub none_any : (reasons : List Reason) → count_by is_flash reasons ≡ 0 → list_any is_flash reasons ≡ false
none_any [] none = refl
none_any (reason ∷ reasons) none =
    let both = none_of_all reason reasons none in
    rw (both.0, none_any reasons both.1) refl

pub no_flash : (before count now : ℕ) → min (before + count) last_count ≤ now → (Rose before now → ⊥) → count ≡ 0
no_flash before zero now blamed rose = refl
no_flash before (suc count) now blamed rose = absurd (rose (omega (arith, blamed)))

pub not_own : (reason : Reason) → is_flash reason ≡ false → is_damage reason ≡ false → is_own_fault reason ≡ false
not_own WasRefused flash damage = refl
not_own WasBroken flash damage = refl
not_own WasAnswered flash damage = refl
not_own (MetFault OnFlash) flash damage = cc
not_own (MetFault OnDamage) flash damage = cc

concat_two : (first second : List (List ℕ)) → concat (first ++ second) ≡ concat first ++ concat second
concat_two [] second = refl
concat_two (line ∷ first) second = ap (λ xs. line ++ xs) (concat_two first second) ∙ sym (append_assoc line (concat first) (concat second))

bytes_in : (lines : List (List (List ℕ))) → flat_map concat lines ≡ concat (flat_map (λ one. one) lines)
bytes_in [] = refl
bytes_in (one ∷ lines) =
    ap (λ xs. concat one ++ xs) (bytes_in lines) ∙ sym (concat_two one (flat_map (λ one. one) lines))

no_damage : (damage : Option Damage) → is_some damage ≡ false → damage ≡ None
no_damage None e = refl
no_damage (Some damage) e = cc

no_code : (ended : List EndedAsk) → was_refused ended ≡ false → first_code ended ≡ None
no_code [] none = refl
no_code (end ∷ ended) none = code_of_end end.ending none (λ h. no_code ended h)
  where
    code_of_end : (ending : Ending) → was_refused (record end { ending = ending } ∷ ended) ≡ false
        → (was_refused ended ≡ false → first_code ended ≡ None) → first_code (record end { ending = ending } ∷ ended) ≡ None
    code_of_end (Answered rows) h later = later h
    code_of_end (Refused code) h later = cc

no_stop : (journal : Journal) → list_any is_stop (answers journal) ≡ false → list_any (λ (entry : Entry). is_stop entry.answer) journal ≡ false
no_stop [] none = refl
no_stop (entry ∷ journal) none =
    let later : list_any is_stop (answers journal) ≡ false = grind arith in
    grind (arith, no_stop journal later)

all_well : (session : Standing) → session.stopped ≡ false → session.heard.broken ≡ false → first_code session.heard.ended ≡ None
    → status_of false session false ≡ status.Ok
all_well session stopped broken code = rw (stopped, broken, code) refl

module _ (catalog : Catalog) (at : List ℕ) (texts : List (List ℕ)) (database : Database) (journal : Journal) where
  sound_lines : (reasons : List Reason) (lines : List (List (List ℕ))) → list_any is_flash reasons ≡ false → list_any is_damage reasons ≡ false → length reasons ≡ length texts → length lines ≡ length reasons
      → ((place : ℕ) (reason : Reason) (one : List (List ℕ)) → slice_get reasons place ≡ Some reason → slice_get lines place ≡ Some one
      → HasAnswerLines catalog (hidden_of catalog.schema database) texts journal place reason one)
      → AreAllLines catalog (hidden_of catalog.schema database) texts journal lines
  sound_lines reasons lines unfailed undamaged all many each = record {
    as_many = many ∙ all;
    each = λ place one e.
        let found = reason_at reasons lines place one many e in
        let is = each place found.0 one found.1 e in
        record {
          lines_are = record {
            place = place;
            numbered = omega arith;
            written = is.written;
            stands = is.stands;
            reason = found.0;
            lines_are = is.lines_are;
          };
          sound = not_own found.0 (none_at is_flash reasons place found.0 unfailed found.1) (none_at is_damage reasons place found.0 undamaged found.1);
        };
  }

-- what a finished session told of its texts
pub record AreAnswered (plan : Plan) (told : Bool) (cat : Catalog) (texts : List (List ℕ)) (journal : Journal) (since now : SessionSide) (tally : Tally) : Type 0 where
  pub reasons : HaveReasons cat texts journal (length texts)
      (λ reasons. IsTallied plan told since.flash.page cat texts now.sink.failed (standing_after cat (asked_of cat.schema texts) journal) reasons tally) since.flash.faults now.flash.faults
  pub answers : (database : Database) → KnowsButBy plan told since.flash.page cat database
      → HaveAnswerLines cat (hidden_of cat.schema database) texts journal reasons.reasons since.sink now.sink
  pub undamaged : (database : Database) → KnowsBy plan told since.flash.page cat database → list_any is_damage reasons.reasons ≡ false

pub answers_all : HonestSessionsAreSmooth → HonestLinesArePrinted → KnowledgeIsEnough → (plan : Plan) (told : Bool) (cat : Catalog) (at : List ℕ) (texts : List (List ℕ)) (journal : Journal) (since now : SessionSide) (tally : Tally)
    → IsCatalog cat → IsTree cat.schema → length texts ≤ 64 → IsProper cat at texts journal → IsFinished journal → AreAnswered plan told cat texts journal since now tally
    → AnswersWhereSound plan told cat texts journal since now tally
answers_all smooth prints enough plan told cat at texts journal since now tally proper tree few is_proper finished tells = λ database sound.
    let session_is : IsHonestSession cat database at texts journal =
    record {
      setting = setting cat texts proper few;
      stored = stored plan told since.flash.page cat database proper sound.pages;
      proper = is_proper;
      honest = sound.host;
    } in
    let are = tells.reasons in
    let have = tells.answers database (enough plan told since.flash.page cat database tree sound.pages) in
    let undamaged = tells.undamaged database sound.pages in
    let unfailed : list_any is_flash are.reasons ≡ false =
    none_any are.reasons (no_flash since.flash.faults (count_by is_flash are.reasons) now.flash.faults are.blamed sound.flash) in
    let went = smooth cat database at texts journal session_is in
    let session = standing_after cat (asked_of cat.schema texts) journal in
    let ok : status_of false session false ≡ status.Ok =
    all_well session (no_stop journal sound.host.nothing_breaks_off) went.valid
    (no_code (heard_in cat texts journal).ended went.none_refused) in
    let all : flat_map concat have.lines ≡ printed cat.schema texts database =
    bytes_in have.lines
    ∙ ap concat (prints cat database at texts journal have.lines session_is finished
    (sound_lines cat at texts database journal are.reasons have.lines unfailed undamaged are.as_many have.as_many have.each)) in
    record {
      printed_all = (have.handed_on.whole sound.sink).written ∙ ap (λ bytes. grown since.sink.written bytes) all;
      status_is =
          are.counted.status_is
          ∙ (ap (λ (failed : Bool). status_with failed session (list_any is_flash are.reasons) are.counted.damage) sound.sink
          ∙ (ap (λ (by_flash : Bool). status_with false session by_flash are.counted.damage) unfailed
          ∙ (ap (λ (damage : Option Damage). status_with false session false damage) (no_damage are.counted.damage (are.counted.found ∙ undamaged)) ∙ ok)));
    }
