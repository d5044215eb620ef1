use Rattle.std.proofs.Common.{◌≡◌, ◌≤◌, ◌-◌, ℕ, List, Some, map}
use Rattle.ghost_base.specs.Views.{kind_of}
use Rattle.edge_traits.specs.Files.{file_of}
use Rattle.host_exec.specs.Checked.{GoodRows}
use Rattle.host_exec.proofs.checking.check_rows.Given as goal

abbrev pub invariant-pieces : goal.invariant-pieces
invariant-pieces g l = record {
  same : g.D.Depot.contents l.depot ≡ g.D.Depot.contents l.fn.depot;
  faults : g.D.Depot.faults l.depot ≡ g.D.Depot.faults l.fn.depot;
  appends : g.D.Depot.append_faults l.depot ≡ g.D.Depot.append_faults l.fn.depot;
  sure : g.D.Depot.sure l.fn.depot l.name → g.D.Depot.sure l.depot l.name;
  within : l.next ≤ l.rows;
  good : (file : List ℕ) → file_of (g.D.Depot.contents l.fn.depot) l.name ≡ Some file → GoodRows (map kind_of l.kinds) file l.start l.width 0 l.next;
}

abbrev pub decreases-pieces : goal.decreases-pieces
decreases-pieces g l = l.rows - l.next
