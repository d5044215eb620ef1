use Rattle.key_inputs.proofs.ReadFiles.{ReadSoFar, Keeps}
use Rattle.key_inputs.proofs.opening.open_files.Given as goal

abbrev pub invariant-loop-table : goal.invariant-loop-table
invariant-loop-table g l =
    ReadSoFar (g.D.Depot.contents l.initial.depot) l.folder l.schema l.table l.tables
    × Keeps (g.D.Depot.contents l.initial.depot) (g.D.Depot.contents l.depot) (g.D.Depot.faults l.initial.depot) (g.D.Depot.faults l.depot)
    (g.D.Depot.append_faults l.initial.depot) (g.D.Depot.append_faults l.depot)
    (g.D.Depot.sure l.initial.depot) (g.D.Depot.sure l.depot)
