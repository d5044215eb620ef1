-- What stands for a fault of the script.
use Rattle.key_inputs.specs.declared.faults.OpenFault.{OpenFault}
use Rattle.key_inputs.specs.declared.faults.OpenFault.TheVariants as open_fault
use Rattle.key_commands.specs.declared.query.failures.QueryFailure.{QueryFailure}
use Rattle.key_commands.specs.declared.query.failures.QueryFailure.TheVariants as failure

abbrev pub as_failure : OpenFault → QueryFailure
as_failure open_fault.NoMemory = failure.NoMemory
as_failure open_fault.Depot = failure.Depot
as_failure (open_fault.Input fault) = failure.Input fault
