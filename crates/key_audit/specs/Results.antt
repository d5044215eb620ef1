-- How a call of `audit` ended, by its result.
use Rattle.std.specs.Prelude.{◌≡◌, ℕ, Bool, true, false, List, Option, None, Some, Result, Ok, Err, ⊤}
use Rattle.ghost_model.specs.core.Recorded.{Finding, Proper, Wrong, NoLine}
use Rattle.edge_traits.specs.Files.{Files}
use Rattle.edge_traits.specs.Written.{grown, GrowsByFront}
use Rattle.key_words.specs.Words.{Audit}
use Rattle.key_inputs.specs.Outside.{Verdicts, Risen, Same, verdicts}
use Rattle.key_inputs.specs.Views.{rule_of}
use Rattle.channel_audit.specs.Audited.{IsWrongMove}
use Rattle.channel_audit.specs.declared.audit.Due.{Due}
use Rattle.key_audit.specs.Verdicts.{AuditVerdict, NoCatalog, BrokenScript, Found, HasVerdict, HoldsJournal, is_printed, finding_line}
use Rattle.key_audit.specs.declared.failures.Audited.{Audited}
use Rattle.key_audit.specs.declared.failures.AuditFailure.{AuditFailure}
use Rattle.key_audit.specs.declared.failures.AuditFailure.TheVariants as failure

-- what a result says of the files; none where a fault or want of memory came first
abbrev pub verdict_of : Result Audited AuditFailure → Option AuditVerdict
verdict_of (Ok audited) = Some (Found (Proper audited.moves audited.closed))
verdict_of (Err failure.NotTheFile) = Some NoCatalog
verdict_of (Err (failure.Input broken)) = Some (BrokenScript (rule_of broken))
verdict_of (Err (failure.Wrong at told due)) = Some (Found (Wrong at))
verdict_of (Err (failure.BadJournal line)) = Some (Found (NoLine line))
verdict_of _ = None

-- this is found in the journal, and its line was printed
pub record PrintsFound (contents : Option Files) (words : Audit) (finding : Finding) (before after : Option (List ℕ)) : Type 0 where
  pub found : HasVerdict contents words (Found finding)
  pub printed : after ≡ grown before (finding_line finding)

-- something that has a line is found in the journal, and a front of that line was printed
pub record PrintsFoundFront (contents : Option Files) (words : Audit) (before after : Option (List ℕ)) : Type 0 where
  pub finding : Finding
  pub has_line : is_printed finding ≡ true
  pub found : HasVerdict contents words (Found finding)
  pub front : GrowsByFront before (finding_line finding) after

-- a wrong move was printed, and it and the one that was due are told
pub record PrintsWrong (contents : Option Files) (words : Audit) (before after : Option (List ℕ)) (at : ℕ) (told due : Due) : Type 0 where
  pub prints : PrintsFound contents words (Wrong at) before after
  pub moves : HoldsJournal contents words (λ catalog asks file. IsWrongMove catalog asks file at told due)

-- how a call ended; where the depot tells its files this is said of them, and else of some bytes that may be theirs
abbrev pub EndsAudit : Option Files → Audit → Result Audited AuditFailure → (before after : Option (List ℕ)) → Type 0
EndsAudit contents words (Ok audited) before after = PrintsFound contents words (Proper audited.moves audited.closed) before after
EndsAudit contents words (Err (failure.Wrong at told due)) before after = PrintsWrong contents words before after at told due
EndsAudit contents words (Err (failure.BadJournal line)) before after = HasVerdict contents words (Found (NoLine line))
EndsAudit contents words (Err failure.NotTheFile) before after = HasVerdict contents words NoCatalog
EndsAudit contents words (Err (failure.Input broken)) before after = HasVerdict contents words (BrokenScript (rule_of broken))
EndsAudit contents words (Err failure.Sink) before after = PrintsFoundFront contents words before after
EndsAudit contents words (Err failure.NoMemory) before after = ⊤
EndsAudit contents words (Err failure.Depot) before after = ⊤

-- whether a call ends so without a write
abbrev pub writes_nothing : Result Audited AuditFailure → Bool
writes_nothing (Ok _) = false
writes_nothing (Err (failure.Wrong at told due)) = false
writes_nothing (Err failure.Sink) = false
writes_nothing _ = true

-- what an outcome tells of the counts of faults of the sink, the depot, its appends and the flash
abbrev pub told_by : Result Audited AuditFailure → Verdicts
told_by (Err failure.Depot) = verdicts Same Risen Same Same
told_by (Err failure.Sink) = verdicts Risen Same Same Same
told_by _ = verdicts Same Same Same Same
