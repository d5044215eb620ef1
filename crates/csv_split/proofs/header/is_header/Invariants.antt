use Rattle.std.proofs.Common.{◌≡◌, ◌+◌, drop}
use Rattle.csv.specs.Records.{fields_of}
use Rattle.ghost_model.specs.refusals.LoadFaults as faults
use Rattle.csv_split.specs.Reading.{columns_of, with_identifier}
use Rattle.csv_split.proofs.header.is_header.Given as goal

abbrev pub invariant-loop-i : goal.invariant-loop-i
invariant-loop-i l =
    faults.is_header (with_identifier (columns_of l.declared)) (fields_of l.row)
    ≡ faults.is_header (drop l.i (columns_of l.declared)) (drop (l.i + 1) (fields_of l.row))
