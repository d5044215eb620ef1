-- The faults of a key where there may be no value, and of a row where there may be none.
use Rattle.std.specs.Prelude.{ℕ, List, [], Option, Some, None}
use Rattle.ghost_model.specs.refusals.LoadFaults.{LoadFault, Place, reference_fault_in}
use Rattle.ghost_model.specs.core.Values.{Value, Row, Database}

abbrev pub key_faults_in : Database → Place → (child : Option ℕ) → Option Value → List LoadFault
key_faults_in database at child None = []
key_faults_in database at child (Some value) = reference_fault_in database at child value

abbrev pub row_or_none : Option Row → Row
row_or_none None = []
row_or_none (Some row) = row
