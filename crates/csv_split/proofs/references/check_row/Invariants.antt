use Rattle.std.proofs.Common.{◌≡◌, map, drop}
use Rattle.ghost_model.specs.core.Database as database
use Rattle.ghost_model.specs.refusals.LoadFaults as faults
use Rattle.tree_schema.specs.Views.{column_of}
use Rattle.csv_split.specs.References.{row_or_none}
use Rattle.csv_split.proofs.references.check_row.Given as goal

abbrev pub invariant-loop-i : goal.invariant-loop-i
invariant-loop-i l =
    faults.row_reference_faults l.tables l.at.table l.at.rec 0 (map column_of l.columns) (row_or_none (database.row_of l.tables l.at.table l.identifier))
    ≡ faults.row_reference_faults l.tables l.at.table l.at.rec l.i (drop l.i (map column_of l.columns)) (drop l.i (row_or_none (database.row_of l.tables l.at.table l.identifier)))
