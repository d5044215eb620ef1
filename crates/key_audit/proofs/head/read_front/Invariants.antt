use Rattle.std.proofs.Common.{◌≡◌, ◌-◌, ◌≤◌, ℕ, List, length}
use Rattle.key_audit.specs.Windows.{StandsBehind}
use Rattle.key_audit.proofs.head.read_front.Given as goal

abbrev pub invariant-pieces : goal.invariant-pieces
invariant-pieces g l = record {
  same : g.D.Depot.contents l.depot ≡ g.D.Depot.contents l.fn.depot;
  faults : g.D.Depot.faults l.depot ≡ g.D.Depot.faults l.fn.depot;
  appends : g.D.Depot.append_faults l.depot ≡ g.D.Depot.append_faults l.fn.depot;
  stays_sure : (other : List ℕ) → g.D.Depot.sure l.fn.depot other → g.D.Depot.sure l.depot other;
  within : length l.head.items ≤ 16640;
  counted : l.window.passed ≡ length l.head.items;
  stands : StandsBehind (g.D.Depot.contents l.fn.depot) l.name l.head.items l.window;
}

abbrev pub decreases-pieces : goal.decreases-pieces
decreases-pieces g l = 16640 - length l.head.items
