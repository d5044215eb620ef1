-- How a call ended: its exit code, and what is said of one command alone.
use Rattle.std.specs.Prelude.{◌≡◌, ℕ, List, [], Bool, true, false, Option, Some, Result, Ok, Err, ⊤}
use Rattle.key_lines.specs.Told.{told_in}
use Rattle.key_lines.specs.declared.told.ToldText.{ToldText}
use Rattle.key_words.specs.Words.{Command}
use Rattle.key_words.specs.declared.words.UsageFault.{UsageFault}
use Rattle.key_plain.specs.declared.faults.PlainFault.{PlainFault}
use Rattle.key_plain.specs.declared.faults.PlainFault.TheVariants as plain_fault
use Rattle.key_load.specs.declared.failures.LoadFailure.{LoadFailure}
use Rattle.key_load.specs.declared.failures.LoadFailure.TheVariants as load_failure
use Rattle.key_migrate.specs.declared.failures.MigrateFailure.{MigrateFailure}
use Rattle.key_migrate.specs.declared.failures.MigrateFailure.TheVariants as migrate_failure
use Rattle.key_audit.specs.declared.failures.Audited.{Audited}
use Rattle.key_audit.specs.declared.failures.AuditFailure.{AuditFailure}
use Rattle.key_audit.specs.declared.failures.AuditFailure.TheVariants as audit_failure
use Rattle.key_commands.specs.declared.local.ends.LocalEnd.{LocalEnd}
use Rattle.key_commands.specs.declared.local.ends.LocalRun.{LocalRun}
use Rattle.key_commands.specs.declared.local.ends.LocalEnd.TheVariants as local_end
use Rattle.key_commands.specs.declared.local.ends.LocalFailure.{LocalFailure}
use Rattle.key_commands.specs.declared.local.ends.LocalFailure.TheVariants as local_failure
use Rattle.key_commands.specs.declared.generate.ends.GenEnd.{GenEnd}
use Rattle.key_commands.specs.declared.generate.ends.GenEnd.TheVariants as gen_end
use Rattle.key_commands.specs.declared.generate.ends.GenRun.{GenRun}
use Rattle.key_commands.specs.declared.generate.ends.GenFailure.{GenFailure}
use Rattle.key_commands.specs.declared.generate.ends.GenFailure.TheVariants as gen_failure
use Rattle.key_commands.specs.declared.query.failures.QueryFailure.{QueryFailure}
use Rattle.key_commands.specs.declared.query.failures.QueryFailure.TheVariants as query_failure
use Rattle.key_session.specs.declared.tally.Tally.{Tally}
use Rattle.key_session.specs.declared.tally.SessionStatus.{SessionStatus}
use Rattle.key_session.specs.declared.tally.SessionStatus.TheVariants as status
use Rattle.key_commands.specs.declared.ending.Ended.{Ended}
use Rattle.key_commands.specs.declared.ending.PlainRun.{PlainRun}
use Rattle.key_commands.specs.declared.ending.Ended.TheVariants as ended

abbrev pub plain_code : Result (Unit {0}) PlainFault → ℕ
plain_code (Ok _) = 0
plain_code (Err plain_fault.NoMemory) = 3
plain_code (Err (plain_fault.Input broken)) = 4
plain_code (Err plain_fault.Depot) = 5
plain_code (Err plain_fault.Sink) = 9

abbrev pub load_code : Result (Unit {0}) LoadFailure → ℕ
load_code (Ok _) = 0
load_code (Err load_failure.NoMemory) = 3
load_code (Err (load_failure.Input broken)) = 4
load_code (Err load_failure.Depot) = 5
load_code (Err load_failure.Flash) = 6
load_code (Err load_failure.Sink) = 9
load_code (Err (load_failure.TooSmall needed had)) = 10

-- of a session of `local` that was held
abbrev pub end_code : LocalEnd → ℕ
end_code local_end.Ok = 0
end_code local_end.Sink = 9
end_code local_end.Depot = 5
end_code local_end.Flash = 6
end_code (local_end.Damaged damage) = 13

abbrev pub local_code : Result LocalRun LocalFailure → ℕ
local_code (Ok run) = end_code run.end
local_code (Err local_failure.NoMemory) = 3
local_code (Err (local_failure.Input broken)) = 4
local_code (Err local_failure.Depot) = 5
local_code (Err local_failure.Flash) = 6

-- of a session that was begun
abbrev pub status_code : SessionStatus → ℕ
status_code status.Ok = 0
status_code status.Sink = 9
status_code status.Link = 7
status_code (status.Protocol kind at) = 8
status_code (status.Host code) = 12
status_code status.Flash = 6
status_code (status.Damaged damage) = 13

abbrev pub query_code : Result Tally QueryFailure → ℕ
query_code (Ok tally) = status_code tally.status
query_code (Err query_failure.NoMemory) = 3
query_code (Err (query_failure.Input broken)) = 4
query_code (Err query_failure.Depot) = 5
query_code (Err query_failure.Flash) = 6
query_code (Err (query_failure.TooSmall needed had)) = 10
query_code (Err query_failure.NotAKey) = 11

abbrev pub audit_code : Result Audited AuditFailure → ℕ
audit_code (Ok audited) = 0
audit_code (Err audit_failure.NoMemory) = 3
audit_code (Err (audit_failure.Input broken)) = 4
audit_code (Err audit_failure.Depot) = 5
audit_code (Err audit_failure.Sink) = 9
audit_code (Err audit_failure.NotTheFile) = 16
audit_code (Err (audit_failure.Wrong at told due)) = 18
audit_code (Err (audit_failure.BadJournal line)) = 19

-- of a session over a drawn clinic that was held
abbrev pub gen_end_code : GenEnd → ℕ
gen_end_code gen_end.Ok = 0
gen_end_code gen_end.Sink = 9
gen_end_code gen_end.Flash = 6
gen_end_code (gen_end.Damaged damage) = 13

abbrev pub gen_code : Result GenRun GenFailure → ℕ
gen_code (Ok run) = gen_end_code run.end
gen_code (Err gen_failure.NoMemory) = 3
gen_code (Err gen_failure.Flash) = 6

abbrev pub migrate_code : Result (Unit {0}) MigrateFailure → ℕ
migrate_code (Ok _) = 0
migrate_code (Err migrate_failure.NoMemory) = 3
migrate_code (Err (migrate_failure.NullName item)) = 4
migrate_code (Err migrate_failure.Depot) = 5
migrate_code (Err migrate_failure.Flash) = 6
migrate_code (Err migrate_failure.Sink) = 9
migrate_code (Err (migrate_failure.OldTooSmall needed had)) = 10
migrate_code (Err (migrate_failure.TooSmall needed had)) = 10
migrate_code (Err migrate_failure.NotAKey) = 11
migrate_code (Err (migrate_failure.Damaged number slot found)) = 13
migrate_code (Err migrate_failure.NotTheFile) = 16

abbrev pub exit_code : Ended → ℕ
exit_code (ended.Usage fault) = 2
exit_code ended.NoMemory = 3
exit_code (ended.Plain run) = plain_code run.outcome
exit_code (ended.Load outcome) = load_code outcome
exit_code (ended.Local outcome) = local_code outcome
exit_code (ended.Query outcome) = query_code outcome
exit_code (ended.Audit outcome) = audit_code outcome
exit_code (ended.Gen outcome) = gen_code outcome
exit_code (ended.Migrate outcome) = migrate_code outcome

-- what was told of each text of a script
abbrev pub told_of : Ended → List ToldText
told_of (ended.Plain run) = told_in run.told
told_of (ended.Local (Ok run)) = told_in run.told
told_of (ended.Query (Ok tally)) = told_in tally.told
told_of (ended.Gen (Ok run)) = told_in run.told
told_of _ = []

-- whether no command was begun: the words are refused, or there was no memory to read them
abbrev pub is_unbegun : Ended → Bool
is_unbegun (ended.Usage fault) = true
is_unbegun ended.NoMemory = true
is_unbegun _ = false

abbrev pub is_usage : Ended → Bool
is_usage (ended.Usage fault) = true
is_usage _ = false

-- whether the command is the one that calls on the link
abbrev pub is_query : Ended → Bool
is_query (ended.Query outcome) = true
is_query _ = false

-- what is said of refused words
abbrev pub OfUsage : Ended → (UsageFault → Type 0) → Type 0
OfUsage (ended.Usage fault) says = says fault
OfUsage _ says = ⊤

-- what is said of `plain`
abbrev pub OfPlain : Ended → (PlainRun → Type 0) → Type 0
OfPlain (ended.Plain run) says = says run
OfPlain _ says = ⊤

-- what is said of `load`
abbrev pub OfLoad : Ended → (Result (Unit {0}) LoadFailure → Type 0) → Type 0
OfLoad (ended.Load outcome) says = says outcome
OfLoad _ says = ⊤

-- what is said of `local`
abbrev pub OfLocal : Ended → (Result LocalRun LocalFailure → Type 0) → Type 0
OfLocal (ended.Local outcome) says = says outcome
OfLocal _ says = ⊤

-- what is said of `query`
abbrev pub OfQuery : Ended → (Result Tally QueryFailure → Type 0) → Type 0
OfQuery (ended.Query outcome) says = says outcome
OfQuery _ says = ⊤

-- what is said of `audit`
abbrev pub OfAudit : Ended → (Result Audited AuditFailure → Type 0) → Type 0
OfAudit (ended.Audit outcome) says = says outcome
OfAudit _ says = ⊤

-- what is said of `gen`
abbrev pub OfGen : Ended → (Result GenRun GenFailure → Type 0) → Type 0
OfGen (ended.Gen outcome) says = says outcome
OfGen _ says = ⊤

-- what is said of `migrate`
abbrev pub OfMigrate : Ended → (Result (Unit {0}) MigrateFailure → Type 0) → Type 0
OfMigrate (ended.Migrate outcome) says = says outcome
OfMigrate _ says = ⊤

-- the words say this command, and this was done
pub record DoesAs {W : Type 0} (command : W → Command) (read : Option Command) (Did : W → Type 0) : Type 0 where
  pub words : W
  pub said : read ≡ Some (command words)
  pub did : Did words
