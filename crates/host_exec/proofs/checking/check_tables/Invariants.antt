use Rattle.std.proofs.Common.{◌≡◌, ◌<◌, ◌-◌, ℕ, List, Some}
use Rattle.edge_traits.specs.Files.{file_of}
use Rattle.host_exec.specs.Checked.{GoodTable}
use Rattle.host_exec.proofs.checking.check_tables.Given as goal

abbrev pub invariant-tables : goal.invariant-tables
invariant-tables g l = record {
  same : g.D.Depot.contents l.depot ≡ g.D.Depot.contents l.fn.depot;
  faults : g.D.Depot.faults l.depot ≡ g.D.Depot.faults l.fn.depot;
  appends : g.D.Depot.append_faults l.depot ≡ g.D.Depot.append_faults l.fn.depot;
  sure : g.D.Depot.sure l.fn.depot l.name → g.D.Depot.sure l.depot l.name;
  good : (file : List ℕ) → file_of (g.D.Depot.contents l.fn.depot) l.name ≡ Some file → (table : ℕ) → table < l.table → GoodTable l.catalog file table;
}

abbrev pub decreases-tables : goal.decreases-tables
decreases-tables g l = l.tables - l.table
