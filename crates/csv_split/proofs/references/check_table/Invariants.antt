use Rattle.std.proofs.Common.{◌≡◌, ◌+◌, map, drop}
use Rattle.ghost_model.specs.core.Database as database
use Rattle.ghost_model.specs.refusals.LoadFaults as faults
use Rattle.tree_schema.specs.Views.{column_of}
use Rattle.csv_split.proofs.references.check_table.Given as goal

abbrev pub invariant-loop-place : goal.invariant-loop-place
invariant-loop-place l =
    faults.table_references l.tables l.table 2 (map column_of l.columns) (database.rows_of l.tables l.table)
    ≡ faults.table_references l.tables l.table (l.place + 2) (map column_of l.columns) (drop l.place (database.rows_of l.tables l.table))
