-- What the command did, by its words and its outcome: all that it answers for, from what it found to what it left.
use Rattle.std.specs.Prelude.{◌≡◌, ◌⊎◌, true, Some, Result, Err}
use Rattle.ghost_model.specs.core.Causes.{Rose}
use Rattle.edge_traits.specs.Files.{Files}
use Rattle.key_words.specs.Words.{Audit}
use Rattle.key_inputs.specs.Outside.{Outside, HasCauses}
use Rattle.key_audit.specs.Results.{EndsAudit, verdict_of, writes_nothing, told_by}
use Rattle.key_audit.specs.Verdicts.{AuditVerdict, HasVerdict}
use Rattle.key_audit.specs.declared.failures.Audited.{Audited}
use Rattle.key_audit.specs.declared.failures.AuditFailure.{AuditFailure}
use Rattle.key_audit.specs.declared.failures.AuditFailure.TheVariants as failure

pub record AuditDid (outcome : Result Audited AuditFailure) (before after : Outside) (words : Audit) : Type 0 where
  pub ends : EndsAudit before.files words outcome before.written after.written
  -- what the files hold is told, unless memory was wanting
  pub complete : (files : Files) (verdict : AuditVerdict) → before.files ≡ Some files
      → (Rose before.depot_faults after.depot_faults → ⊥) → (Rose before.sink_faults after.sink_faults → ⊥)
      → HasVerdict (Some files) words verdict → (verdict_of outcome ≡ Some verdict) ⊎ (outcome ≡ Err failure.NoMemory)
  pub nothing_written : writes_nothing outcome ≡ true → after.written ≡ before.written
  pub causes : HasCauses (told_by outcome) before after
  pub files : after.files ≡ before.files
  pub flash : after.device ≡ before.device

-- nothing that the files hold decides, as where one of them is not there
abbrev pub IsUndecided : Files → Audit → Type 0
IsUndecided files words = (verdict : AuditVerdict) → HasVerdict (Some files) words verdict → ⊥
