use Rattle.std.proofs.Common.{◌≡◌, ◌≤◌, ◌-◌, ◌*◌, map}
use Rattle.ghost_base.specs.Views.{kind_of}
use Rattle.host_exec.specs.Columns.{AreColumns}
use Rattle.host_exec.specs.Reading.{ReadsRows}
use Rattle.host_exec.proofs.reading.read_rows.Given as goal

abbrev pub invariant-pieces : goal.invariant-pieces
invariant-pieces g l = record {
  same : g.D.Depot.contents l.depot ≡ g.D.Depot.contents l.fn.depot;
  faults : g.D.Depot.faults l.depot ≡ g.D.Depot.faults l.fn.depot;
  appends : g.D.Depot.append_faults l.depot ≡ g.D.Depot.append_faults l.fn.depot;
  sure : g.D.Depot.sure l.fn.depot l.name → g.D.Depot.sure l.depot l.name;
  within : l.columns.rows ≤ l.rows;
  columns : AreColumns (map kind_of l.kinds) l.columns;
  read : ReadsRows (g.D.Depot.contents l.fn.depot) l.name (map kind_of l.kinds) l.start (l.columns.rows * l.width) l.columns.rows l.fn.columns l.columns;
}

abbrev pub decreases-pieces : goal.decreases-pieces
decreases-pieces g l = l.rows - l.columns.rows
