-- What stands for a fault of the hidden columns, and for one of the making.
use Rattle.std.specs.Prelude.{◌≡◌}
use Rattle.flash_build.specs.declared.faults.ReadFault.{ReadFault}
use Rattle.flash_build.specs.declared.faults.ReadFault.TheVariants as read_fault
use Rattle.key_load.specs.declared.failures.LoadFailure.{LoadFailure}
use Rattle.key_load.specs.declared.failures.LoadFailure.TheVariants as load_failure
use Rattle.key_migrate.specs.declared.failures.MigrateFailure.{MigrateFailure}
use Rattle.key_migrate.specs.declared.failures.MigrateFailure.TheVariants as failure

abbrev pub as_failure : ReadFault → MigrateFailure
as_failure read_fault.NoMemory = failure.NoMemory
as_failure read_fault.Flash = failure.Flash
as_failure (read_fault.Damaged number slot found) = failure.Damaged number slot found

-- a making has no other faults
abbrev pub IsAsMade : LoadFailure → MigrateFailure → Type 0
IsAsMade load_failure.NoMemory fault = fault ≡ failure.NoMemory
IsAsMade load_failure.Depot fault = fault ≡ failure.Depot
IsAsMade load_failure.Flash fault = fault ≡ failure.Flash
IsAsMade _ fault = ⊥
