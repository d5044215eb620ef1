-- What stands for the fault of a file's reading, where too long a file breaks that rule.
use Rattle.edge_traits.specs.declared.reading.ReadFault.{ReadFault}
use Rattle.edge_traits.specs.declared.reading.ReadFault.TheVariants as read
use Rattle.key_inputs.specs.declared.faults.InputFault.{InputFault}
use Rattle.key_inputs.specs.declared.faults.OpenFault.{OpenFault}
use Rattle.key_inputs.specs.declared.faults.OpenFault.TheVariants as open_fault

abbrev pub as_fault : (too_long : InputFault) → ReadFault → OpenFault
as_fault too_long read.Depot = open_fault.Depot
as_fault too_long read.NoMemory = open_fault.NoMemory
as_fault too_long read.TooLong = open_fault.Input too_long
