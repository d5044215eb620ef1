-- How the audit of a journal's file ends.
use Rattle.std.proofs.Common.{◌≡◌, ℕ, ◌+◌, ◌<◌, Bool, List, [], ◌∷◌, ◌++◌, length, Option, Result, Err, refl, sym, ap, subst, ◌∙◌, arith, append_assoc, append-nil, length-append}
use Rattle.ghost_model.specs.core.Asks.{NumberedAsk}
use Rattle.ghost_model.specs.core.Channel.{Catalog, Journal}
use Rattle.ghost_model.specs.core.NextMove.{standing_after}
use Rattle.ghost_model.specs.core.Recorded.{IsProperFile, IsNoLineAt}
use Rattle.edge_traits.specs.Files.{Files, HasFile}
use Rattle.channel_audit.specs.Audited.{IsAudited}
use Rattle.channel_audit.specs.Laws.{LinesArePassed}
use Rattle.channel_audit.specs.declared.audit.Audit.{Audit}
use Rattle.key_audit.specs.Journals.{HasPassed, Fails, EndsJournal}
use Rattle.key_inputs.specs.Outside.{IsTold, Same, Risen}
use Rattle.key_audit.specs.Parts.{ReadsFront, ReadsLine, ReadsNoLine}
use Rattle.key_audit.specs.Results.{told_by}
use Rattle.key_audit.specs.Verdicts.{HoldsFile}
use Rattle.key_audit.specs.Windows.{ahead, StandsBehind}
use Rattle.key_audit.specs.declared.failures.Audited.{Audited}
use Rattle.key_audit.specs.declared.failures.AuditFailure.{AuditFailure}
use Rattle.key_audit.specs.declared.failures.AuditFailure.TheVariants as failure
use Rattle.key_audit.specs.declared.lines.Front.{Front}
use Rattle.key_audit.specs.declared.window.Window.{Window}
use Rattle.key_audit.proofs.Deciding.{err_once}

module _ (contents : Option Files) (name : List ℕ) (catalog : Catalog) (asks : List NumberedAsk) (passed : List ℕ) where
  -- all its lines were passed
  pub whole_file : LinesArePassed → (audit : Audit) (moves : ℕ) (closed : Bool) → HasPassed catalog asks passed audit moves
      → ((journal : Journal) → IsAudited catalog asks journal audit → closed ≡ (standing_after catalog asks journal).closed) → HasFile contents name passed
      → HoldsFile contents name (λ file. IsProperFile catalog asks file moves closed)
  whole_file laws audit moves closed has ends is =
      let at = has.stands passed [] (sym (append-nil passed)) in
      record { file = passed; is_file = is; said = laws.ends catalog asks passed audit (length passed) moves closed at (ends at.journal at.audited) }

  -- there is no line behind those that were passed
  pub no_line_there : LinesArePassed → (audit : Audit) (moves : ℕ) → HasPassed catalog asks passed audit moves → ReadsNoLine contents name passed
      → HoldsFile contents name (λ file. IsNoLineAt catalog asks file (moves + 1))
  no_line_there laws audit moves has reads = record {
    file = passed ++ reads.rest;
    is_file = reads.is_file;
    said = laws.endless catalog asks (passed ++ reads.rest) reads.rest audit (length passed) moves (has.stands (passed ++ reads.rest) reads.rest refl) reads.some reads.endless;
  }

  module _ (line : List ℕ) (window : Window) (stands : StandsBehind contents name (passed ++ (line ++ 10 ∷ [])) window) where
    some_passed : 0 < length (passed ++ (line ++ 10 ∷ [])) + length (ahead window)
    some_passed =
        let one = length-append passed (line ++ 10 ∷ []) in
        let other = length-append line (10 ∷ []) in
        omega (arith, one, other)

    -- the file, with what stands in it behind the line
    file_there : (says : List ℕ → Type 0) → ((rest : List ℕ) → says (passed ++ (line ++ 10 ∷ rest))) → HoldsFile contents name says
    file_there says all =
        let front = stands.read some_passed in
        let rest = ahead window ++ front.begins.rest in
        let joined : front.file ≡ passed ++ (line ++ 10 ∷ rest) =
        front.begins.joined
        ∙ (append_assoc (passed ++ (line ++ 10 ∷ [])) (ahead window) front.begins.rest
        ∙ (append_assoc passed (line ++ 10 ∷ []) rest ∙ ap (λ (xs : List ℕ). passed ++ xs) (append_assoc line (10 ∷ []) rest))) in
        record { file = front.file; is_file = front.is_file; said = subst says (sym joined) (all rest) }

    -- the audit ended at the line
    pub ends_there : (ends : AuditFailure) → ((rest : List ℕ) → Fails catalog asks (passed ++ (line ++ 10 ∷ rest)) ends) → EndsJournal contents name catalog asks (Err ends)
    ends_there (failure.Wrong at told due) fails = file_there (λ file. Fails catalog asks file (failure.Wrong at told due)) fails
    ends_there (failure.BadJournal number) fails = file_there (λ file. Fails catalog asks file (failure.BadJournal number)) fails
    ends_there failure.NoMemory fails = absurd (fails [])
    ends_there failure.Depot fails = absurd (fails [])
    ends_there (failure.Input broken) fails = absurd (fails [])
    ends_there failure.Sink fails = absurd (fails [])
    ends_there failure.NotTheFile fails = absurd (fails [])

  -- so many bytes were passed with a line
  pub passed_with : (line : List ℕ) (window : Window) → ReadsLine contents name passed line window → window.passed ≡ length passed + (length line + 1)
  passed_with line window reads =
      reads.stands.passed_is ∙ (length-append passed (line ++ 10 ∷ []) ∙ ap (λ (n : ℕ). length passed + n) (length-append line (10 ∷ [])))

same_is_risen : Same ≡ Risen → ⊥
same_is_risen e = cc e

pub is_same : (before after : ℕ) → after ≡ before → IsTold Same before after
is_same before after same = record { rose = λ e. absurd (same_is_risen e); same = λ _. same }

no_depot : (ends : AuditFailure) → (ends ≡ failure.Depot → ⊥) → ◌≡◌ {A = Result Audited AuditFailure} (Err ends) (Err failure.Depot) → ⊥
no_depot ends other e = other (err_once ends failure.Depot e)

module _ (catalog : Catalog) (asks : List NumberedAsk) (file : List ℕ) where
  -- what the journal holds blames nobody
  pub blames_nobody : (ends : AuditFailure) (before after : ℕ) → Fails catalog asks file ends → after ≡ before → IsTold (told_by (Err ends)).depot before after
  blames_nobody (failure.Wrong at told due) before after fails same = is_same before after same
  blames_nobody (failure.BadJournal number) before after fails same = is_same before after same
  blames_nobody failure.NoMemory before after fails same = absurd fails
  blames_nobody failure.Depot before after fails same = absurd fails
  blames_nobody (failure.Input broken) before after fails same = absurd fails
  blames_nobody failure.Sink before after fails same = absurd fails
  blames_nobody failure.NotTheFile before after fails same = absurd fails

  pub is_no_fault : (ends : AuditFailure) → Fails catalog asks file ends → ends ≡ failure.Depot → ⊥
  is_no_fault ends fails e = subst (Fails catalog asks file) e fails

  pub is_never_depot : (ends : AuditFailure) → Fails catalog asks file ends → ◌≡◌ {A = Result Audited AuditFailure} (Err ends) (Err failure.Depot) → ⊥
  is_never_depot ends fails = no_depot ends (is_no_fault ends fails)

-- what was read of a depot whose files are the same
pub still_read : (now before : Option Files) (name passed items line : List ℕ) (old window : Window) (front answer : Front) → now ≡ before → StandsBehind before name passed old
    → ((bytes : List ℕ) → StandsBehind now name bytes old → ReadsFront now name bytes items window front) → line ≡ items → front ≡ answer
    → ReadsFront before name passed line window answer
still_read now before name passed items line old window front answer same stands reads is answers =
    subst (λ (f : Front). ReadsFront before name passed line window f) answers
    (subst (λ (xs : List ℕ). ReadsFront before name passed xs window front) (sym is)
    (subst (λ (k : Option Files). ReadsFront k name passed items window front) same (reads passed (subst (λ (k : Option Files). StandsBehind k name passed old) (sym same) stands))))
