-- How a fault of the depot that comes before a session stands to the rules of the inputs, over files that are told and
-- whose reads go well: no file that was read up to there breaks one.
use Rattle.std.specs.Prelude.{◌≡◌, Result, Err, Option}
use Rattle.edge_traits.specs.Files.{Files}
use Rattle.key_words.specs.Words.{Command, Plain, Load, Local, Query, Audit, PlainCommand, LoadCommand, LocalCommand, QueryCommand, AuditCommand}
use Rattle.key_inputs.specs.Openings.{InputFault, Opening, Broken, tables_opening}
use Rattle.key_inputs.specs.Scripts.{script_opening}
use Rattle.key_session.specs.declared.tally.Tally.{Tally}
use Rattle.key_plain.specs.Openings.{plain_opening}
use Rattle.key_plain.specs.declared.faults.PlainFault.{PlainFault}
use Rattle.key_plain.specs.declared.faults.PlainFault.TheVariants as plain_fault
use Rattle.key_load.specs.declared.failures.LoadFailure.{LoadFailure}
use Rattle.key_load.specs.declared.failures.LoadFailure.TheVariants as load_failure
use Rattle.key_audit.specs.Doing.{IsUndecided}
use Rattle.key_audit.specs.declared.failures.Audited.{Audited}
use Rattle.key_audit.specs.declared.failures.AuditFailure.{AuditFailure}
use Rattle.key_audit.specs.declared.failures.AuditFailure.TheVariants as audit_failure
use Rattle.key_commands.specs.local.Openings.{local_opening}
use Rattle.key_commands.specs.declared.local.ends.LocalRun.{LocalRun}
use Rattle.key_commands.specs.declared.local.ends.LocalFailure.{LocalFailure}
use Rattle.key_commands.specs.declared.local.ends.LocalFailure.TheVariants as local_failure
use Rattle.key_commands.specs.declared.query.failures.QueryFailure.{QueryFailure}
use Rattle.key_commands.specs.declared.query.failures.QueryFailure.TheVariants as query_failure
use Rattle.key_commands.specs.Endings.{DoesAs, OfPlain, OfLoad, OfLocal, OfQuery, OfAudit}
use Rattle.key_commands.specs.declared.ending.Ended.{Ended}

-- no rule is the first to be broken
abbrev pub IsUnbroken : {X : Type 0} → Opening X → Type 0
IsUnbroken opening = (rule : InputFault) → opening ≡ Broken rule → ⊥

pub record JudgesPlain (files : Files) (outcome : Result (Unit {0}) PlainFault) (words : Plain) : Type 0 where
  pub unbroken : outcome ≡ Err plain_fault.Depot → IsUnbroken (plain_opening files words)

pub record JudgesLoad (files : Files) (outcome : Result (Unit {0}) LoadFailure) (words : Load) : Type 0 where
  pub unbroken : outcome ≡ Err load_failure.Depot → IsUnbroken (tables_opening files words.schema words.tables)

pub record JudgesLocal (files : Files) (outcome : Result LocalRun LocalFailure) (words : Local) : Type 0 where
  pub unbroken : outcome ≡ Err local_failure.Depot → IsUnbroken (local_opening files words)

pub record JudgesQuery (files : Files) (outcome : Result Tally QueryFailure) (words : Query) : Type 0 where
  pub unbroken : outcome ≡ Err query_failure.Depot → IsUnbroken (script_opening files words.script)

-- nothing that the files hold decides
pub record JudgesAudit (files : Files) (outcome : Result Audited AuditFailure) (words : Audit) : Type 0 where
  pub undecided : outcome ≡ Err audit_failure.Depot → IsUndecided files words

-- where a command ended by the depot before a session, no rule of the inputs that its words name is broken first
pub record Judges (files : Files) (read : Option Command) (ending : Ended) : Type 0 where
  pub plain : OfPlain ending (λ run. DoesAs PlainCommand read (JudgesPlain files run.outcome))
  pub load : OfLoad ending (λ outcome. DoesAs LoadCommand read (JudgesLoad files outcome))
  pub local : OfLocal ending (λ outcome. DoesAs LocalCommand read (JudgesLocal files outcome))
  pub query : OfQuery ending (λ outcome. DoesAs QueryCommand read (JudgesQuery files outcome))
  pub audit : OfAudit ending (λ outcome. DoesAs AuditCommand read (JudgesAudit files outcome))
