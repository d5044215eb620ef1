-- Sessions by two plans hand on the same bytes where they went by the same journal.
use Rattle.std.proofs.Common.{◌≡◌, ℕ, suc, arith, true, false, List, [], ◌∷◌, length, flat_map, count_by, slice_get, Option, Some, refl, sym, ap, ap₂, ◌∙◌, subst}
use Rattle.std.specs.List.{concat, list_any}
use Rattle.ghost_model.specs.core.Query.{Query}
use Rattle.ghost_model.specs.refusals.QueryMeaning.{Refusal}
use Rattle.ghost_model.specs.core.Channel.{Catalog, Journal}
use Rattle.ghost_model.specs.core.Split.{Hidden, hidden_of}
use Rattle.ghost_model.specs.core.Lines.{Reason, WasRefused, WasBroken, WasAnswered, MetFault, SessionText, AreLinesFor, rows_for, session_text}
use Rattle.ghost_model.specs.core.Printed.{answer_lines, refusal_line}
use Rattle.session_laws.specs.HonestSessions.{is_own_fault}
use Rattle.key_lines.specs.Handing.{Handed, Hands}
use Rattle.key_exec.specs.Laws.{KnowledgeIsEnough}
use Rattle.key_session.specs.Agreeing.{HandTheSame, PlansAgree, HeldPlansAgree}
use Rattle.key_session.specs.Counting.{is_flash, is_damage}
use Rattle.key_session.specs.Reasons.{HaveAnswerLines}
use Rattle.key_session.proofs.HonestRuns.{no_flash, none_any, none_at, not_own, reason_at}

true_false : true ≡ false → ⊥
true_false e = cc

-- lines of a text are the same for each reason that is no fault of the key's own
one_lines : (text : SessionText) (reason other : Reason) (lines more : List (List ℕ)) → is_own_fault reason ≡ false → is_own_fault other ≡ false
    → AreLinesFor reason text lines → AreLinesFor other text more → lines ≡ more
one_lines text (MetFault fault) other lines more own none are is = absurd (true_false own)
one_lines text WasRefused (MetFault fault) lines more own none are is = absurd (true_false none)
one_lines text WasBroken (MetFault fault) lines more own none are is = absurd (true_false none)
one_lines text WasAnswered (MetFault fault) lines more own none are is = absurd (true_false none)
one_lines text WasRefused WasRefused lines more own none are is =
    let same : are.refusal ≡ is.refusal = cc (are.refused, is.refused) in
    are.line ∙ (ap (λ (refusal : Refusal). refusal_line text.number refusal ∷ []) same ∙ sym is.line)
one_lines text WasRefused WasBroken lines more own none are is = cc (are.refused, is.accepted)
one_lines text WasRefused WasAnswered lines more own none are is = cc (are.refused, is.accepted)
one_lines text WasBroken WasRefused lines more own none are is = cc (are.accepted, is.refused)
one_lines text WasAnswered WasRefused lines more own none are is = cc (are.accepted, is.refused)
one_lines text WasBroken WasBroken lines more own none are is = are.line ∙ sym is.line
one_lines text WasBroken WasAnswered lines more own none are is =
    let same : are.query ≡ is.query = cc (are.accepted, is.accepted) in
    cc (are.broken, is.done, same)
one_lines text WasAnswered WasBroken lines more own none are is =
    let same : are.query ≡ is.query = cc (are.accepted, is.accepted) in
    cc (are.done, is.broken, same)
one_lines text WasAnswered WasAnswered lines more own none are is =
    let same : are.query ≡ is.query = cc (are.accepted, is.accepted) in
    are.answer ∙ (ap (λ (query : Query). answer_lines text.number (rows_for text query)) same ∙ sym is.answer)

all_same : {X : Type 0} (xs ys : List X) → length xs ≡ length ys → ((place : ℕ) (x y : X) → slice_get xs place ≡ Some x → slice_get ys place ≡ Some y → x ≡ y) → xs ≡ ys
all_same [] [] long same = refl
all_same [] (y ∷ ys) long same = absurd (omega (arith, long))
all_same (x ∷ xs) [] long same = absurd (omega (arith, long))
all_same {X} (x ∷ xs) (y ∷ ys) long same = ap₂ (λ (z : X) (zs : List X). z ∷ zs) (same 0 x y refl refl) (all_same xs ys (omega (arith, long)) (λ place. same (suc place)))

same_text : (x y : List ℕ) (o : Option (List ℕ)) → o ≡ Some x → o ≡ Some y → x ≡ y
same_text x y o e f = cc

module _ (catalog : Catalog) (kept : Hidden) (texts : List (List ℕ)) (journal : Journal) (since now other_since other_now : Handed) where
  -- of two sessions, where no reason is a fault of the key's own
  same_lines : (reasons others : List Reason) → length reasons ≡ length others
      → ((place : ℕ) (reason : Reason) → slice_get reasons place ≡ Some reason → is_own_fault reason ≡ false)
      → ((place : ℕ) (reason : Reason) → slice_get others place ≡ Some reason → is_own_fault reason ≡ false)
      → (are : HaveAnswerLines catalog kept texts journal reasons since now) → (is : HaveAnswerLines catalog kept texts journal others other_since other_now)
      → are.lines ≡ is.lines
  same_lines reasons others long own none are is =
      let many = are.as_many in
      let more = is.as_many in
      all_same are.lines is.lines (omega (arith, long, many, more)) (λ place lines later e f.
      let reason = reason_at reasons are.lines place lines are.as_many e in
      let other = reason_at others is.lines place later is.as_many f in
      let has = are.each place reason.0 lines reason.1 e in
      let had = is.each place other.0 later other.1 f in
      one_lines (session_text catalog kept texts journal (suc place) has.written) reason.0 other.0 lines later (own place reason.0 reason.1) (none place other.0 other.1) has.lines_are
      (subst (λ (written : List ℕ). AreLinesFor other.0 (session_text catalog kept texts journal (suc place) written) later) (same_text had.written has.written (slice_get texts place) had.stands has.stands) had.lines_are))

  hand_same : (reasons others : List Reason) → length reasons ≡ length others
      → ((place : ℕ) (reason : Reason) → slice_get reasons place ≡ Some reason → is_own_fault reason ≡ false)
      → ((place : ℕ) (reason : Reason) → slice_get others place ≡ Some reason → is_own_fault reason ≡ false)
      → HaveAnswerLines catalog kept texts journal reasons since now → HaveAnswerLines catalog kept texts journal others other_since other_now
      → HandTheSame since now other_since other_now
  hand_same reasons others long own none are is = record {
    bytes = flat_map concat are.lines;
    one = are.handed_on;
    other = subst (λ (bytes : List ℕ). Hands bytes other_since other_now) (sym (ap (λ (all : List (List (List ℕ))). flat_map concat all) (same_lines reasons others long own none are is))) is.handed_on;
  }

no_own : (reasons : List Reason) → list_any is_flash reasons ≡ false → list_any is_damage reasons ≡ false
    → (place : ℕ) (reason : Reason) → slice_get reasons place ≡ Some reason → is_own_fault reason ≡ false
no_own reasons flash damage place reason e = not_own reason (none_at is_flash reasons place reason flash e) (none_at is_damage reasons place reason damage e)

pub agree : (goes other_goes : Journal → Type 0) → PlansAgree goes other_goes
agree goes other_goes catalog at texts failed fails other_failed other_fails plan other_plan told other_told since now other_since other_now tally other_tally one other same database meets met =
    hand_same catalog (hidden_of catalog.schema database) texts one.journal since.sink now.sink other_since.sink other_now.sink one.reasons.reasons other.reasons.reasons
    (one.reasons.as_many ∙ sym other.reasons.as_many)
    (no_own one.reasons.reasons meets.unfailed meets.undamaged) (no_own other.reasons.reasons met.unfailed met.undamaged)
    (one.answers database meets.pages)
    (subst (λ (journal : Journal). HaveAnswerLines catalog (hidden_of catalog.schema database) texts journal other.reasons.reasons other_since.sink other_now.sink) (sym same) (other.answers database met.pages))

pub held_agree : KnowledgeIsEnough → (goes other_goes : Journal → Type 0) → HeldPlansAgree goes other_goes
held_agree enough goes other_goes catalog at texts failed fails other_failed other_fails plan other_plan told other_told since now other_since other_now tally other_tally one other same tree database holds held =
    agree goes other_goes catalog at texts failed fails other_failed other_fails plan other_plan told other_told since now other_since other_now tally other_tally one other same database
    (record {
      pages = enough plan told since.flash.page catalog database tree holds.pages;
      undamaged = one.undamaged database holds.pages;
      unfailed = none_any one.reasons.reasons (no_flash since.flash.faults (count_by is_flash one.reasons.reasons) now.flash.faults one.reasons.blamed holds.unfailed);
    })
    (record {
      pages = enough other_plan other_told other_since.flash.page catalog database tree held.pages;
      undamaged = other.undamaged database held.pages;
      unfailed = none_any other.reasons.reasons (no_flash other_since.flash.faults (count_by is_flash other.reasons.reasons) other_now.flash.faults other.reasons.blamed held.unfailed);
    })
