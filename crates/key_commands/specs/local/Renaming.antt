-- What stands for a fault of the inputs.
use Rattle.key_inputs.specs.declared.faults.OpenFault.{OpenFault}
use Rattle.key_inputs.specs.declared.faults.OpenFault.TheVariants as open_fault
use Rattle.key_commands.specs.declared.local.ends.LocalFailure.{LocalFailure}
use Rattle.key_commands.specs.declared.local.ends.LocalFailure.TheVariants as failure

abbrev pub as_failure : OpenFault → LocalFailure
as_failure open_fault.NoMemory = failure.NoMemory
as_failure open_fault.Depot = failure.Depot
as_failure (open_fault.Input fault) = failure.Input fault
