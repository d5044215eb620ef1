use Rattle.std.proofs.Common.{◌≡◌, drop}
use Rattle.ghost_model.specs.refusals.LoadFaults as faults
use Rattle.csv_split.proofs.references.check_references.Given as goal

abbrev pub invariant-loop-table : goal.invariant-loop-table
invariant-loop-table l =
    faults.reference_faults l.schema l.tables ≡ faults.references_from l.tables l.table (drop l.table l.schema) (drop l.table l.tables)
