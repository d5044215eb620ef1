-- What stands for a fault of the inputs.
use Rattle.key_inputs.specs.declared.faults.OpenFault.{OpenFault}
use Rattle.key_inputs.specs.declared.faults.OpenFault.TheVariants as open_fault
use Rattle.key_plain.specs.declared.faults.PlainFault.{PlainFault}
use Rattle.key_plain.specs.declared.faults.PlainFault.TheVariants as fault

abbrev pub as_fault : OpenFault → PlainFault
as_fault open_fault.NoMemory = fault.NoMemory
as_fault open_fault.Depot = fault.Depot
as_fault (open_fault.Input broken) = fault.Input broken
