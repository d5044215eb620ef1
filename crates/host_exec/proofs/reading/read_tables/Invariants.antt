use Rattle.std.proofs.Common.{◌≡◌, ◌≤◌, ◌-◌}
use Rattle.host_exec.specs.Reading.{ReadsTables}
use Rattle.host_exec.proofs.reading.read_tables.Given as goal

abbrev pub invariant-tables : goal.invariant-tables
invariant-tables g l = record {
  same : g.D.Depot.contents l.depot ≡ g.D.Depot.contents l.fn.depot;
  faults : g.D.Depot.faults l.depot ≡ g.D.Depot.faults l.fn.depot;
  appends : g.D.Depot.append_faults l.depot ≡ g.D.Depot.append_faults l.fn.depot;
  sure : g.D.Depot.sure l.fn.depot l.name → g.D.Depot.sure l.depot l.name;
  within : l.table ≤ l.tables;
  read : ReadsTables (g.D.Depot.contents l.fn.depot) l.name l.cat l.table l.public.visible;
}

abbrev pub decreases-tables : goal.decreases-tables
decreases-tables g l = l.tables - l.table
