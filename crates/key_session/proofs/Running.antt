-- A whole session.
use Rattle.std.proofs.Common.{◌≡◌, ◌≤◌, ◌<◌, ℕ, suc, ◌+◌, arith, Bool, true, false, ◌||◌, List, [], ◌∷◌, length, map, refl, sym, ap, ◌∙◌, subst, Option, None, Some, slice_get}
use Rattle.edge_traits.proofs.DeviceFrames.{kept_same, changes_kept}
use Rattle.std.specs.Prelude.{◌%◌, min, if◌then◌else◌, ◌==◌, ◌&&◌, count_by, is_err, is_some}
use Rattle.std.specs.Option.{option_or}
use Rattle.std.specs.List.{list_any}
use Rattle.std.proofs.lemmas.List.Sums.{sum_by-cons}
use Rattle.ghost_model.specs.core.Causes.{Rose, last_count}
use Rattle.ghost_model.specs.core.Values.{Database}
use Rattle.ghost_model.specs.core.Channel.{Catalog, Journal, Entry}
use Rattle.ghost_model.specs.core.Asks.{asked_of}
use Rattle.ghost_model.specs.core.Lines.{Reason, WasRefused, WasBroken, WasAnswered, MetFault, all_done, is_refused_by}
use Rattle.ghost_model.specs.core.NextMove.{Standing, Heard, standing_after, IsProper, IsFinished, EndedAsk, Ending, Answered, Refused, is_stop, ended_of}
use Rattle.page_pool.specs.Pools.{Pool}
use Rattle.channel_pump.specs.Entries.{WentBy}
use Rattle.channel_pump.specs.Sessions.{IsLive}
use Rattle.session_laws.specs.TextEnds.{heard_in}
use Rattle.ghost_model.specs.core.Query.{Query}
use Rattle.ghost_model.specs.core.Moves.{answers}
use Rattle.session_laws.specs.TextCases.{Outcome, IsDone, ByHost, ByLink, ByFrame, TextsHaveOutcomes}
use Rattle.key_session.specs.Kept.{IsKept, is_lost, none_heard}
use Rattle.key_session.specs.Laws.{LaterTextsAreUnmarked}
use Rattle.key_session.specs.declared.replies.Replies.{Replies}
use Rattle.key_lines.specs.Handing.{PiecesJoin}
use Rattle.ghost_model.specs.laws.SchemaTrees.{IsTree}
use Rattle.leakless_plan.specs.declared.plan.Plan.{Plan}
use Rattle.key_exec.specs.Laws.{DamageIsNeverMet}
use Rattle.key_exec.specs.Reading.{KnowsBy}
use Rattle.key_exec.specs.Rows.{PrintsSome}
use Rattle.key_session.specs.Answering.{AnswersWhereSound, CallsAreFew}
use Rattle.key_session.specs.Counting.{AreNone, AreCounted, is_refusal, is_flash, is_broken, is_damage, one_if}
use Rattle.key_session.specs.Reasons.{HaveReasons, AreBlamed, CameTo, IsReason, HasReason, is_refused_text}
use Rattle.key_session.specs.Damages.{IsSlot}
use Rattle.key_session.specs.Refusing.{code_of, first_code}
use Rattle.key_session.specs.Telling.{SessionSide, AreLeft, KeepsFiles, IsTelling, marks_behind}
use Rattle.key_session.specs.Going.{IsGoing}
use Rattle.channel_pump.specs.declared.state.Pump.{Pump}
use Rattle.key_session.specs.Running.{HasRun, IsTallied, status_with, protocol_or, host_or, blames_flash, is_damaged, spares_flash}
use Rattle.key_lines.specs.Told.{AreTold, told_in}
use Rattle.key_lines.specs.declared.told.ToldText.{ToldText}
use Rattle.key_lines.specs.declared.told.ToldTexts.{ToldTexts}
use Rattle.key_session.specs.declared.counts.Counts.{Counts}
use Rattle.key_exec.specs.declared.damage.Damage.{Damage}
use Rattle.key_session.specs.declared.tally.SessionStatus.{SessionStatus}
use Rattle.key_session.specs.declared.tally.SessionStatus.TheVariants as way
use Rattle.key_session.specs.declared.tally.Tally.{Tally}
use Rattle.key_session.proofs.HonestRuns.{AreAnswered}
use Rattle.key_session.proofs.Attending.{none_behind, true_is_not_false}
use Rattle.key_session.proofs.Moving.{heard_none}

-- before the first move
pub at_first : PiecesJoin → (plan : Plan) (pages_told : Bool) (catalog : Catalog) (texts : List (List ℕ)) (since : SessionSide) (pool : Pool) (pump : Pump) (count : ℕ) (counts : Counts) (left : List (List ℕ)) (replies : Replies)
    → left ≡ texts → count ≡ 0 → AreNone counts
    → IsKept pages_told since.flash pool catalog (none_heard catalog) 1 0 replies → ((text : ℕ) → 0 < text → is_lost replies text ≡ false)
    → IsGoing plan pages_told catalog texts [] since since.sink since.flash pool pump left count counts replies
at_first join plan pages_told catalog texts since pool pump count counts left replies all none is_none kept unmarked = record {
  top = 0;
  telling = record {
    left_are = subst (λ (n : ℕ). AreLeft texts left n) (sym none) (record { left_are = all; within = omega arith });
    kept = subst (λ (n : ℕ). IsKept pages_told since.flash pool catalog (heard_in catalog texts []) n 0 replies) first (subst (λ (h : Heard). IsKept pages_told since.flash pool catalog h 1 0 replies) (sym (heard_none catalog texts)) kept);
    near = omega arith;
    within = omega arith;
    pages = changes_kept (kept_same since.flash) _ _;
    calls = omega arith;
    called = λ e. absurd (none_failed (sym is_none.by_flash ∙ e));
    damage_called = λ e. absurd (none_failed (sym (ap (λ (met : Option Damage). is_some met) is_none.damage) ∙ e));
    faults = omega arith;
    marked = record {
      called = λ text from e. absurd (none_failed (sym (unmarked text (omega (arith, from))) ∙ e));
      accepted = λ place written from stands e. absurd (none_failed (sym (unmarked (suc place) (omega arith)) ∙ e));
    };
    prints = record { piece = []; handed = join.none since.sink };
    damaged = λ damage e. absurd (none_some damage (sym is_none.damage ∙ e));
    read = λ place damage e. cc;
    reasons = record {
      reasons = [];
      as_many = sym none;
      each = λ place reason e. cc;
      counted = record {
        kept = record {
          counted = none_counted;
          met = record { damages = []; by_reason = refl; each = λ place damage e. cc; first_is = is_none.damage };
        };
        faults = no_faults;
      };
    };
    lines = record { lines = []; as_many = refl; each = λ place reason one e f. cc; handed_on = join.none since.sink };
    answers = λ database knows. record { lines = []; as_many = refl; each = λ place reason one e f. cc; handed_on = join.none since.sink };
    same = λ database knows. refl;
    are_told = subst (λ (told : List ToldText). AreTold catalog.schema texts [] told) (sym is_none.told) (record { as_many = refl; each = λ place own one e f. cc });
  };
  settled = λ opened text from upto. (let bad : ⊥ = omega (arith, from, upto, none) in absurd bad);
  onward = λ text un. omega arith;
}
  where
    first : 1 ≡ count + 1
    first = omega (arith, none)

    none_failed : false ≡ true → ⊥
    none_failed e = cc

    none_some : (damage : Damage) → None ≡ Some damage → ⊥
    none_some damage e = cc

    none_counted : AreCounted [] counts
    none_counted = record {
      refused = is_none.refused;
      faulted = is_none.faulted;
      by_flash = is_none.by_flash;
      found = ap (λ (met : Option Damage). is_some met) is_none.damage;
    }

    no_marks : marks_behind replies count ≡ 0
    no_marks =
        let one : one_if (is_lost replies (count + 1)) ≡ 0 = ap one_if (unmarked (count + 1) (omega arith)) in
        let two : one_if (is_lost replies (count + 2)) ≡ 0 = ap one_if (unmarked (count + 2) (omega arith)) in
        omega (arith, one, two)

    zero_blamed : (most before marks : ℕ) → marks ≡ 0 → min (before + (0 + marks)) most ≤ before
    zero_blamed most before marks e = omega (arith, e)

    no_faults : AreBlamed (marks_behind replies count) [] since.flash.faults since.flash.faults
    no_faults = record {
      blamed = zero_blamed last_count since.flash.faults (marks_behind replies count) no_marks;
      unblamed = λ flash broken marks. refl;
    }

-- all texts were told
all_told : (texts left : List (List ℕ)) (count : ℕ) → AreLeft texts left count → left ≡ [] → count ≡ length texts
all_told texts left count are none =
    let behind = none_behind texts count (sym none ∙ are.left_are) in
    let within : count ≤ length texts = are.within in
    omega (arith, behind, within)

-- two lists whose elements at each place pass their tests alike
count_same : {X Y : Type 0} (p : X → Bool) (q : Y → Bool) (xs : List X) (ys : List Y) → length xs ≡ length ys
    → ((i : ℕ) (x : X) (y : Y) → slice_get xs i ≡ Some x → slice_get ys i ≡ Some y → p x ≡ q y) → count_by p xs ≡ count_by q ys
count_same p q [] [] long same = refl
count_same p q [] (y ∷ ys) long same = (let bad : ⊥ = omega (arith, long) in absurd bad)
count_same p q (x ∷ xs) [] long same = (let bad : ⊥ = omega (arith, long) in absurd bad)
count_same {X} {Y} p q (x ∷ xs) (y ∷ ys) long same =
    sum_by-cons (λ (z : X). if p z then 1 else 0) x xs
    ∙ ap (λ (b : Bool). (if b then 1 else 0) + count_by p xs) (same 0 x y refl refl)
    ∙ ap (λ (n : ℕ). (if q y then 1 else 0) + n) (count_same p q xs ys (omega (arith, long)) (λ i. same (suc i)))
    ∙ sym (sum_by-cons (λ (z : Y). if q z then 1 else 0) y ys)

same_text : (x y : List ℕ) (o : Option (List ℕ)) → o ≡ Some x → o ≡ Some y → x ≡ y
same_text x y o e f = cc

refusal_read : (catalog : Catalog) (texts : List (List ℕ)) (journal : Journal) (number : ℕ) (written : List ℕ) (reason : Reason) → IsReason reason catalog texts journal number written
    → is_refusal reason ≡ is_refused_text catalog.schema written
refusal_read catalog texts journal number written WasRefused is = sym (ap is_err is.refused)
refusal_read catalog texts journal number written WasBroken is = sym (ap is_err is.accepted)
refusal_read catalog texts journal number written WasAnswered is = sym (ap is_err is.accepted)
refusal_read catalog texts journal number written (MetFault fault) is = sym (ap is_err is.accepted)

refusals_read : (catalog : Catalog) (texts : List (List ℕ)) (journal : Journal) (reasons : List Reason) → length reasons ≡ length texts
    → ((place : ℕ) (reason : Reason) → slice_get reasons place ≡ Some reason → HasReason catalog texts journal place reason)
    → count_by is_refusal reasons ≡ count_by (is_refused_text catalog.schema) texts
refusals_read catalog texts journal reasons long each =
    count_same is_refusal (is_refused_text catalog.schema) reasons texts long (λ i reason text e f.
    let has = each i reason e in
    refusal_read catalog texts journal (suc i) has.written reason has.is_reason
    ∙ ap (is_refused_text catalog.schema) (same_text has.written text (slice_get texts i) has.stands f))

-- a status by all that it goes by
abbrev status_by : (failed stopped broken : Bool) (kind at : ℕ) (code : Option ℕ) (by_flash : Bool) (damage : Option Damage) → SessionStatus
status_by failed stopped broken kind at code by_flash damage =
    if failed then way.Sink else if stopped then way.Link else protocol_or (if broken then Some (record { kind = kind; at = at }) else None) (host_or code by_flash damage)

blamed_so : (failed stopped broken : Bool) (kind at : ℕ) (code : Option ℕ) (by_flash : Bool) (damage : Option Damage) → blames_flash (status_by failed stopped broken kind at code by_flash damage) ≡ true → by_flash ≡ true
blamed_so true stopped broken kind at code by_flash damage e = cc
blamed_so false true broken kind at code by_flash damage e = cc
blamed_so false false true kind at code by_flash damage e = cc
blamed_so false false false kind at (Some code) by_flash damage e = cc
blamed_so false false false kind at None true damage e = refl
blamed_so false false false kind at None false None e = cc
blamed_so false false false kind at None false (Some damage) e = cc

spared_so : (failed stopped broken : Bool) (kind at : ℕ) (code : Option ℕ) (by_flash : Bool) (damage : Option Damage) → spares_flash (status_by failed stopped broken kind at code by_flash damage) ≡ true → by_flash ≡ false
spared_so true stopped broken kind at code by_flash damage e = cc
spared_so false true broken kind at code by_flash damage e = cc
spared_so false false true kind at code by_flash damage e = cc
spared_so false false false kind at (Some code) by_flash damage e = cc
spared_so false false false kind at None true damage e = cc
spared_so false false false kind at None false damage e = refl

damaged_so : (failed stopped broken : Bool) (kind at : ℕ) (code : Option ℕ) (by_flash : Bool) (damage : Option Damage) (met : Damage) → status_by failed stopped broken kind at code by_flash damage ≡ way.Damaged met → damage ≡ Some met
damaged_so true stopped broken kind at code by_flash damage met e = cc
damaged_so false true broken kind at code by_flash damage met e = cc
damaged_so false false true kind at code by_flash damage met e = cc
damaged_so false false false kind at (Some code) by_flash damage met e = cc
damaged_so false false false kind at None true damage met e = cc
damaged_so false false false kind at None false None met e = cc
damaged_so false false false kind at None false (Some damage) met e = (let same : damage ≡ met = cc in ap Some same)

met_so : (failed stopped broken : Bool) (kind at : ℕ) (code : Option ℕ) (by_flash : Bool) (damage : Option Damage) → is_damaged (status_by failed stopped broken kind at code by_flash damage) ≡ true → is_some damage ≡ true
met_so true stopped broken kind at code by_flash damage e = cc
met_so false true broken kind at code by_flash damage e = cc
met_so false false true kind at code by_flash damage e = cc
met_so false false false kind at (Some code) by_flash damage e = cc
met_so false false false kind at None true damage e = cc
met_so false false false kind at None false None e = cc
met_so false false false kind at None false (Some damage) e = refl

-- where a text met a failure of the flash, its count of faults rose
one_met : (b more : Bool) (count : ℕ) → (more ≡ true → 1 ≤ count) → (b || more) ≡ true → 1 ≤ (if b then 1 else 0) + count
one_met true more count met e = omega arith
one_met false more count met e = (let some = met e in omega (arith, some))

some_met : (p : Reason → Bool) (reasons : List Reason) → list_any p reasons ≡ true → 1 ≤ count_by p reasons
some_met p [] e = cc
some_met p (reason ∷ reasons) e =
    subst (λ (n : ℕ). 1 ≤ n) (sym (sum_by-cons (λ (z : Reason). if p z then 1 else 0) reason reasons))
    (one_met (p reason) (list_any p reasons) (count_by p reasons) (some_met p reasons) e)

rose_once : (most before count now : ℕ) → 1 ≤ count → min (before + count) most ≤ now → min (before + 1) most ≤ now
rose_once most before count now some e = omega (arith, some, e)

-- where all went well no text was broken off
spared_well : (failed stopped broken : Bool) (kind at : ℕ) (code : Option ℕ) (by_flash : Bool) (damage : Option Damage) → spares_flash (status_by failed stopped broken kind at code by_flash damage) ≡ true
    → (stopped ≡ false) × (broken ≡ false) × (code ≡ None)
spared_well true stopped broken kind at code by_flash damage e = cc
spared_well false true broken kind at code by_flash damage e = cc
spared_well false false true kind at code by_flash damage e = cc
spared_well false false false kind at (Some code) by_flash damage e = cc
spared_well false false false kind at None by_flash damage e = (refl, refl, refl)

none_any_broken : (reasons : List Reason) → ((place : ℕ) (reason : Reason) → slice_get reasons place ≡ Some reason → is_broken reason ≡ false) → list_any is_broken reasons ≡ false
none_any_broken [] each = refl
none_any_broken (reason ∷ reasons) each = rw (each 0 reason refl, none_any_broken reasons (λ place. each (suc place))) refl

any_stop : (journal : Journal) → list_any is_stop (answers journal) ≡ list_any (λ (entry : Entry). is_stop entry.answer) journal
any_stop [] = refl
any_stop (entry ∷ journal) = ap (λ (b : Bool). is_stop entry.answer || b) (any_stop journal)

-- a refused ask has a code
some_code : (text : ℕ) (ends : List EndedAsk) → first_code ends ≡ None → list_any (λ (end : EndedAsk). is_refused_by end.ending && end.asked.text == text) ends ≡ false
some_code text [] e = refl
some_code text (end ∷ ends) e = by end.ending e (λ f. some_code text ends f)
  where
    by : (ending : Ending) → option_or (code_of ending) (first_code ends) ≡ None
        → (first_code ends ≡ None → list_any (λ (end : EndedAsk). is_refused_by end.ending && end.asked.text == text) ends ≡ false)
        → (is_refused_by ending && end.asked.text == text || list_any (λ (end : EndedAsk). is_refused_by end.ending && end.asked.text == text) ends) ≡ false
    by (Answered rows) e later = later e
    by (Refused code) e later = cc

none_broken : (catalog : Catalog) (texts : List (List ℕ)) (journal : Journal) (place : ℕ) (query : Query) → all_done catalog.schema query (ended_of catalog (asked_of catalog.schema texts) journal (suc place)) ≡ false
    → ((standing_after catalog (asked_of catalog.schema texts) journal).stopped ≡ false) × ((standing_after catalog (asked_of catalog.schema texts) journal).heard.broken ≡ false)
    × (first_code (standing_after catalog (asked_of catalog.schema texts) journal).heard.ended ≡ None)
    → Outcome catalog texts journal (suc place) query → ⊥
none_broken catalog texts journal place query undone well (IsDone d) = true_is_not_false (sym d ∙ undone)
none_broken catalog texts journal place query undone well (ByHost d refused word) = true_is_not_false (sym refused ∙ some_code (suc place) (heard_in catalog texts journal).ended well.2)
none_broken catalog texts journal place query undone well (ByLink d r stop word) = true_is_not_false (sym stop ∙ (any_stop journal ∙ well.0))
none_broken catalog texts journal place query undone well (ByFrame d r stop broken word) = true_is_not_false (sym broken ∙ well.1)

pub record IsLast (went : Journal → Type 0) (link_before link_now : ℕ) (plan : Plan) (pages_told : Bool) (catalog : Catalog) (at : List ℕ) (texts : List (List ℕ)) (since now : SessionSide) (tally : Tally) : Type 0 where
  pub ran : HasRun went link_before link_now plan pages_told catalog at texts since now tally
  pub many : tally.texts ≡ length texts
  pub prints : PrintsSome since.sink now.sink
  pub pages : KeepsFiles catalog since.flash now.flash
  pub calls : min since.flash.calls last_count ≤ now.flash.calls
  pub called : blames_flash tally.status ≡ true → Rose since.flash.calls now.flash.calls
  pub damage_called : is_damaged tally.status ≡ true → Rose since.flash.calls now.flash.calls
  pub faults : min since.flash.faults last_count ≤ now.flash.faults

-- what the status says of the flash
module _ {went : Journal → Type 0} {link_before link_now : ℕ} {plan : Plan} {pages_told : Bool} {catalog : Catalog} {at : List ℕ} {texts : List (List ℕ)} {since now : SessionSide} {tally : Tally}
    (ran : HasRun went link_before link_now plan pages_told catalog at texts since now tally) where
  abbrev session : Standing
  session = standing_after catalog (asked_of catalog.schema texts) ran.journal

  pub flash_rose : blames_flash tally.status ≡ true → Rose since.flash.faults now.flash.faults
  flash_rose e =
      rose_once last_count since.flash.faults (count_by is_flash ran.reasons.reasons) now.flash.faults
      (some_met is_flash ran.reasons.reasons (blamed_so now.sink.failed session.stopped session.heard.broken _ _ _ (list_any is_flash ran.reasons.reasons) ran.reasons.counted.damage
      (ap blames_flash (sym ran.reasons.counted.status_is) ∙ e)))
      ran.reasons.blamed

  -- where all went well, the asks of each text came to their end
  spared : (place : ℕ) (reason : Reason) → TextsHaveOutcomes → spares_flash tally.status ≡ true → HasReason catalog texts ran.journal place reason → is_broken reason ≡ false
  spared place WasRefused outcomes e has = refl
  spared place WasAnswered outcomes e has = refl
  spared place (MetFault fault) outcomes e has = refl
  spared place WasBroken outcomes e has =
      let came : CameTo false catalog texts ran.journal (suc place) has.written = has.is_reason in
      absurd (none_broken catalog texts ran.journal place came.query came.done
      (spared_well now.sink.failed (standing_after catalog (asked_of catalog.schema texts) ran.journal).stopped (standing_after catalog (asked_of catalog.schema texts) ran.journal).heard.broken _ _
      (first_code (standing_after catalog (asked_of catalog.schema texts) ran.journal).heard.ended) (list_any is_flash ran.reasons.reasons) ran.reasons.counted.damage (ap spares_flash (sym ran.reasons.counted.status_is) ∙ e))
      (outcomes catalog at texts ran.journal place has.written came.query ran.proper ran.finished has.stands came.accepted))

  pub flash_same : TextsHaveOutcomes → spares_flash tally.status ≡ true → now.flash.faults ≡ since.flash.faults
  flash_same outcomes e =
      ran.reasons.unblamed (spared_so now.sink.failed session.stopped session.heard.broken _ _ _ (list_any is_flash ran.reasons.reasons) ran.reasons.counted.damage
      (ap spares_flash (sym ran.reasons.counted.status_is) ∙ e))
      (none_any_broken ran.reasons.reasons (λ place reason f. spared place reason outcomes e (ran.reasons.each place reason f)))

blamed_last : (most since now count marks : ℕ) → min (since + (count + marks)) most ≤ now → min (since + count) most ≤ now
blamed_last most since now count marks e = omega (arith, e)

-- where no slot is damaged no text met damage
none_met : (Is : Damage → Type 0) → ((damage : Damage) → Is damage → ⊥) → (reasons : List Reason) (damages : List (Option Damage)) → map is_some damages ≡ map is_damage reasons
    → ((place : ℕ) (damage : Damage) → slice_get damages place ≡ Some (Some damage) → Is damage) → list_any is_damage reasons ≡ false
none_met Is none [] damages e each = refl
none_met Is none (reason ∷ reasons) [] e each = cc
none_met Is none (reason ∷ reasons) (None ∷ damages) e each =
    let first : is_damage reason ≡ false = cc in
    let later : map is_some damages ≡ map is_damage reasons = cc in
    rw (first, none_met Is none reasons damages later (λ place damage f. each (suc place) damage f)) refl
none_met Is none (reason ∷ reasons) (Some damage ∷ damages) e each = absurd (none damage (each 0 damage refl))

pub has_run : LaterTextsAreUnmarked → DamageIsNeverMet → (went : Journal → Type 0) (link_before link_now : ℕ) (plan : Plan) (pages_told : Bool) (catalog : Catalog) (at : List ℕ) (texts : List (List ℕ)) (since now : SessionSide) (pump : Pump) (page : List ℕ) (journal : Journal) (top : ℕ) (pool : Pool) (left : List (List ℕ)) (count : ℕ) (counts : Counts) (replies : Replies)
    (tally : Tally)
    → IsTree catalog.schema → WentBy went link_before link_now journal → IsLive catalog at (asked_of catalog.schema texts) journal pump page → IsFinished journal
    → IsTelling plan pages_told catalog texts journal top since now.sink now.flash pool left count counts replies
    → left ≡ []
    → tally.texts ≡ count → tally.refused ≡ counts.refused → tally.faulted ≡ counts.faulted → tally.told ≡ counts.told
    → tally.status ≡ status_with now.sink.failed (standing_after catalog (asked_of catalog.schema texts) journal) counts.by_flash counts.damage
    → (IsProper catalog at texts journal → IsFinished journal → AreAnswered plan pages_told catalog texts journal since now tally → AnswersWhereSound plan pages_told catalog texts journal since now tally)
    → (IsProper catalog at texts journal → IsFinished journal → count ≡ length texts → CallsAreFew plan pages_told catalog texts journal since now)
    → IsLast went link_before link_now plan pages_told catalog at texts since now tally
has_run later never went link_before link_now plan pages_told catalog at texts since now pump page journal top pool left many_told counts replies tally tree went_by live is_finished last none many refused faulted told_is status_is answers few =
    let have : HaveReasons catalog texts journal (length texts)
    (λ reasons. IsTallied plan pages_told since.flash.page catalog texts now.sink.failed (standing_after catalog (asked_of catalog.schema texts) journal) reasons tally) since.flash.faults now.flash.faults =
    record {
      reasons = last.reasons.reasons;
      as_many = last.reasons.as_many ∙ count;
      each = last.reasons.each;
      blamed = blamed_last last_count since.flash.faults now.flash.faults (count_by is_flash last.reasons.reasons) (marks_behind replies many_told) last.reasons.counted.faults.blamed;
      unblamed = λ flash broken. last.reasons.counted.faults.unblamed flash broken no_marks;
      counted = record {
        refused = refused ∙ last.reasons.counted.kept.counted.refused;
        faulted = faulted ∙ last.reasons.counted.kept.counted.faulted;
        damage = counts.damage;
        found = last.reasons.counted.kept.counted.found;
        first = last.reasons.counted.kept.met;
        status_is = status_is ∙ ap (λ (b : Bool). status_with now.sink.failed (standing_after catalog (asked_of catalog.schema texts) journal) b counts.damage) last.reasons.counted.kept.counted.by_flash;
      };
    } in
    record {
      ran = record {
        journal = journal;
        went = went_by.gone;
        counts = went_by.counts;
        short = went_by.short;
        proper = live.proper;
        finished = is_finished;
        refused = refused ∙ last.reasons.counted.kept.counted.refused ∙ refusals_read catalog texts journal last.reasons.reasons (last.reasons.as_many ∙ count) last.reasons.each;
        reasons = have;
        lines = last.lines;
        answers = last.answers;
        same = last.same;
        are_told = subst (λ (told : ToldTexts). AreTold catalog.schema texts last.lines.lines (told_in told)) (sym told_is) last.are_told;
        damaged = λ damage e.
            last.damaged damage
            (damaged_so now.sink.failed (standing_after catalog (asked_of catalog.schema texts) journal).stopped (standing_after catalog (asked_of catalog.schema texts) journal).heard.broken _ _ _ counts.by_flash counts.damage damage
            (sym status_is ∙ e));
        damage_read = last.read;
        undamaged = undamaged;
        answered = answers live.proper is_finished (record { reasons = have; answers = last.answers; undamaged = undamaged });
        few_calls = few live.proper is_finished count;
      };
      many = many ∙ count;
      prints = last.prints;
      pages = last.pages;
      calls = last.calls;
      called = λ e.
          last.called
          (blamed_so now.sink.failed (standing_after catalog (asked_of catalog.schema texts) journal).stopped (standing_after catalog (asked_of catalog.schema texts) journal).heard.broken _ _ _ counts.by_flash counts.damage
          (ap blames_flash (sym status_is) ∙ e));
      damage_called = λ e.
          last.damage_called
          (met_so now.sink.failed (standing_after catalog (asked_of catalog.schema texts) journal).stopped (standing_after catalog (asked_of catalog.schema texts) journal).heard.broken _ _ _ counts.by_flash counts.damage
          (ap is_damaged (sym status_is) ∙ e));
      faults = last.faults;
    }
  where
    count : many_told ≡ length texts
    count = all_told texts left many_told last.left_are none

    -- no text is left whose replies could be marked
    no_marks : marks_behind replies many_told ≡ 0
    no_marks =
        let upto : top ≤ length texts = last.within in
        let one : one_if (is_lost replies (many_told + 1)) ≡ 0 =
        ap one_if (later pages_told now.flash pool catalog (heard_in catalog texts journal) (many_told + 1) top (many_told + 1) replies last.kept (omega (arith, upto, count))) in
        let two : one_if (is_lost replies (many_told + 2)) ≡ 0 =
        ap one_if (later pages_told now.flash pool catalog (heard_in catalog texts journal) (many_told + 1) top (many_told + 2) replies last.kept (omega (arith, upto, count))) in
        omega (arith, one, two)

    undamaged : (database : Database) → KnowsBy plan pages_told since.flash.page catalog database → list_any is_damage last.reasons.reasons ≡ false
    undamaged database knows =
        let met = last.reasons.counted.kept.met in
        none_met (IsSlot plan pages_told since.flash.page catalog texts)
        (λ damage is.
        let of = is.1.is in
        never plan pages_told since.flash.page catalog of.query of.top ((is.0 + 1) % 2) is.1.half database damage.page damage.slot damage.found tree knows of.is)
        last.reasons.reasons met.damages met.by_reason (λ place damage e. (place, met.each place damage e))

-- a claim of whether a write failed, at the first and at last
pub as_said : (P : Bool → Bool → Type 0) (first last said : Bool) → first ≡ false → said ≡ last → P first last → P false said
as_said P first last said e f p = subst (λ (b : Bool). P b said) e (subst (λ (b : Bool). P first b) (sym f) p)
