-- How a call of the command ends, by what was judged and by what was printed of it.
use Rattle.std.proofs.Common.{◌≡◌, ℕ, Bool, true, false, Option, Result, Ok, Err, refl, sym, ap, subst}
use Rattle.ghost_model.specs.core.Causes.{Rose}
use Rattle.ghost_model.specs.core.Recorded.{Proper, Wrong}
use Rattle.ghost_model.specs.laws.CatalogLaws.{CatalogsHaveOneSpelling}
use Rattle.ghost_model.specs.laws.RecordedLaws.{FilesHaveOneFinding}
use Rattle.edge_traits.specs.Files.{Files}
use Rattle.edge_traits.specs.Written.{grown, GrowsByFront}
use Rattle.edge_traits.specs.declared.Failed.{Failed}
use Rattle.key_words.specs.Words.{Audit}
use Rattle.key_inputs.specs.Outside.{Outside, HasCauses, IsTold, Same, Risen}
use Rattle.channel_audit.specs.Audited.{IsWrongMove}
use Rattle.channel_audit.specs.declared.audit.Due.{Due}
use Rattle.key_audit.specs.Doing.{AuditDid}
use Rattle.key_audit.specs.Judgings.{Judges}
use Rattle.key_audit.specs.Results.{EndsAudit, writes_nothing, told_by}
use Rattle.key_audit.specs.Telling.{has_line, line_of}
use Rattle.key_audit.specs.Verdicts.{HasVerdict, HoldsJournal, Found}
use Rattle.key_audit.specs.declared.failures.Audited.{Audited}
use Rattle.key_audit.specs.declared.failures.AuditFailure.{AuditFailure}
use Rattle.key_audit.specs.declared.failures.AuditFailure.TheVariants as failure
use Rattle.key_audit.proofs.Deciding.{completes}
use Rattle.key_audit.proofs.FileEnds.{is_same}

true_is_false : true ≡ false → ⊥
true_is_false e = cc e

risen_is_same : Risen ≡ Same → ⊥
risen_is_same e = cc e

is_risen : (before after : ℕ) → Rose before after → IsTold Risen before after
is_risen before after rose = record { rose = λ _. rose; same = λ e. absurd (risen_is_same e) }

-- a wrong move is a finding
wrong_found : (contents : Option Files) (words : Audit) (at : ℕ) (told due : Due) → HoldsJournal contents words (λ catalog asks file. IsWrongMove catalog asks file at told due)
    → HasVerdict contents words (Found (Wrong at))
wrong_found contents words at told due is = record {
  catalog = is.catalog;
  head = is.head;
  script = is.script;
  is_script = is.is_script;
  journal = record { file = is.journal.file; is_file = is.journal.is_file; said = is.journal.said.wrong };
}

module _ (spelling : CatalogsHaveOneSpelling) (findings : FilesHaveOneFinding) (before after : Outside) (words : Audit)
    (files : after.files ≡ before.files) (appends : after.append_faults ≡ before.append_faults) (flash : after.device ≡ before.device) where
  ends : (outcome : Result Audited AuditFailure) → Judges before.files words outcome
      → (has_line outcome ≡ true → after.written ≡ grown before.written (line_of outcome)) → EndsAudit before.files words outcome before.written after.written
  ends (Ok audited) judged printed = record { found = judged; printed = printed refl }
  ends (Err (failure.Wrong at told due)) judged printed = record {
    prints = record { found = wrong_found before.files words at told due judged; printed = printed refl };
    moves = judged;
  }
  ends (Err (failure.BadJournal line)) judged printed = judged
  ends (Err failure.NotTheFile) judged printed = judged
  ends (Err (failure.Input broken)) judged printed = judged
  ends (Err failure.NoMemory) judged printed = tt
  ends (Err failure.Depot) judged printed = tt
  ends (Err failure.Sink) judged printed = absurd judged

  silent : (outcome : Result Audited AuditFailure) → Judges before.files words outcome → writes_nothing outcome ≡ true → has_line outcome ≡ false
  silent (Ok audited) judged e = absurd (true_is_false (sym e))
  silent (Err (failure.Wrong at told due)) judged e = absurd (true_is_false (sym e))
  silent (Err (failure.BadJournal line)) judged e = refl
  silent (Err failure.NotTheFile) judged e = refl
  silent (Err (failure.Input broken)) judged e = refl
  silent (Err failure.NoMemory) judged e = refl
  silent (Err failure.Depot) judged e = refl
  silent (Err failure.Sink) judged e = absurd judged

  causes : (outcome : Result Audited AuditFailure) → Judges before.files words outcome → IsTold (told_by outcome).depot before.depot_faults after.depot_faults
      → after.sink_faults ≡ before.sink_faults → HasCauses (told_by outcome) before after
  causes (Ok audited) judged depot sink = record { sink = is_same _ _ sink; depot = depot; append = is_same _ _ appends; flash = is_same _ _ (ap (λ d. d.faults) flash) }
  causes (Err (failure.Wrong at told due)) judged depot sink = record { sink = is_same _ _ sink; depot = depot; append = is_same _ _ appends; flash = is_same _ _ (ap (λ d. d.faults) flash) }
  causes (Err (failure.BadJournal line)) judged depot sink = record { sink = is_same _ _ sink; depot = depot; append = is_same _ _ appends; flash = is_same _ _ (ap (λ d. d.faults) flash) }
  causes (Err failure.NotTheFile) judged depot sink = record { sink = is_same _ _ sink; depot = depot; append = is_same _ _ appends; flash = is_same _ _ (ap (λ d. d.faults) flash) }
  causes (Err (failure.Input broken)) judged depot sink = record { sink = is_same _ _ sink; depot = depot; append = is_same _ _ appends; flash = is_same _ _ (ap (λ d. d.faults) flash) }
  causes (Err failure.NoMemory) judged depot sink = record { sink = is_same _ _ sink; depot = depot; append = is_same _ _ appends; flash = is_same _ _ (ap (λ d. d.faults) flash) }
  causes (Err failure.Depot) judged depot sink = record { sink = is_same _ _ sink; depot = depot; append = is_same _ _ appends; flash = is_same _ _ (ap (λ d. d.faults) flash) }
  causes (Err failure.Sink) judged depot sink = absurd judged

  blamed : (outcome : Result Audited AuditFailure) → IsTold (told_by outcome).depot before.depot_faults after.depot_faults → outcome ≡ Err failure.Depot
      → Rose before.depot_faults after.depot_faults
  blamed outcome depot is = (subst (λ (o : Result Audited AuditFailure). IsTold (told_by o).depot before.depot_faults after.depot_faults) is depot).rose refl

  -- what was judged is told
  pub printed_whole : (outcome : Result Audited AuditFailure) → Judges before.files words outcome → IsTold (told_by outcome).depot before.depot_faults after.depot_faults
      → after.sink_faults ≡ before.sink_faults → (has_line outcome ≡ true → after.written ≡ grown before.written (line_of outcome))
      → (has_line outcome ≡ false → after.written ≡ before.written) → AuditDid outcome before after words
  printed_whole outcome judged depot sink printed nothing = record {
    ends = ends outcome judged printed;
    complete = λ held verdict is_held no_fault no_sink has.
        completes spelling findings held words outcome verdict (subst (λ (c : Option Files). Judges c words outcome) is_held judged) (λ is. no_fault (blamed outcome depot is)) has;
    nothing_written = λ e. nothing (silent outcome judged e);
    causes = causes outcome judged depot sink;
    files = files;
    flash = flash;
  }

  front : (outcome : Result Audited AuditFailure) → Judges before.files words outcome → has_line outcome ≡ true
      → GrowsByFront before.written (line_of outcome) after.written → EndsAudit before.files words (Err failure.Sink) before.written after.written
  front (Ok audited) judged e grows = record { finding = Proper audited.moves audited.closed; has_line = refl; found = judged; front = grows }
  front (Err (failure.Wrong at told due)) judged e grows = record { finding = Wrong at; has_line = refl; found = wrong_found before.files words at told due judged; front = grows }
  front (Err (failure.BadJournal line)) judged e grows = absurd (true_is_false (sym e))
  front (Err failure.NotTheFile) judged e grows = absurd (true_is_false (sym e))
  front (Err (failure.Input broken)) judged e grows = absurd (true_is_false (sym e))
  front (Err failure.NoMemory) judged e grows = absurd (true_is_false (sym e))
  front (Err failure.Depot) judged e grows = absurd (true_is_false (sym e))
  front (Err failure.Sink) judged e grows = absurd judged

  unblamed : (outcome : Result Audited AuditFailure) → has_line outcome ≡ true → IsTold (told_by outcome).depot before.depot_faults after.depot_faults
      → after.depot_faults ≡ before.depot_faults
  unblamed (Ok audited) e depot = depot.same refl
  unblamed (Err (failure.Wrong at told due)) e depot = depot.same refl
  unblamed (Err (failure.BadJournal line)) e depot = absurd (true_is_false (sym e))
  unblamed (Err failure.NotTheFile) e depot = absurd (true_is_false (sym e))
  unblamed (Err (failure.Input broken)) e depot = absurd (true_is_false (sym e))
  unblamed (Err failure.NoMemory) e depot = absurd (true_is_false (sym e))
  unblamed (Err failure.Depot) e depot = absurd (true_is_false (sym e))
  unblamed (Err failure.Sink) e depot = absurd (true_is_false (sym e))

  -- the line of what was judged was not printed whole
  pub printed_front : (outcome : Result Audited AuditFailure) → Judges before.files words outcome → IsTold (told_by outcome).depot before.depot_faults after.depot_faults
      → Rose before.sink_faults after.sink_faults → has_line outcome ≡ true → GrowsByFront before.written (line_of outcome) after.written
      → AuditDid (Err failure.Sink) before after words
  printed_front outcome judged depot sink has grows = record {
    ends = front outcome judged has grows;
    complete = λ held verdict is_held no_fault no_sink has_verdict. absurd (no_sink sink);
    nothing_written = λ e. absurd (true_is_false (sym e));
    causes = record {
      sink = is_risen _ _ sink;
      depot = is_same _ _ (unblamed outcome has depot);
      append = is_same _ _ appends;
      flash = is_same _ _ (ap (λ d. d.faults) flash);
    };
    files = files;
    flash = flash;
  }

err_is_ok : (failed : Failed) → ◌≡◌ {A = Result (Unit {0}) Failed} (Err failed) (Ok tt) → ⊥
err_is_ok failed e = cc e

-- what could not be printed has a line
pub has_one : (b : Bool) (failed : Failed) → (b ≡ false → ◌≡◌ {A = Result (Unit {0}) Failed} (Err failed) (Ok tt)) → b ≡ true
has_one true failed other = refl
has_one false failed other = absurd (err_is_ok failed (other refl))
