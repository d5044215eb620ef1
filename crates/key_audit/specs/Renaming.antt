-- What stands for a fault of the script.
use Rattle.key_inputs.specs.declared.faults.OpenFault.{OpenFault}
use Rattle.key_inputs.specs.declared.faults.OpenFault.TheVariants as open_fault
use Rattle.key_audit.specs.declared.failures.AuditFailure.{AuditFailure}
use Rattle.key_audit.specs.declared.failures.AuditFailure.TheVariants as failure

abbrev pub as_failure : OpenFault → AuditFailure
as_failure open_fault.NoMemory = failure.NoMemory
as_failure open_fault.Depot = failure.Depot
as_failure (open_fault.Input broken) = failure.Input broken
