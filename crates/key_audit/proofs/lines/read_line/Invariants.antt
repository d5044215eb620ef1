use Rattle.std.proofs.Common.{◌≡◌, ◌+◌, ◌-◌, ◌≤◌, ℕ, true, List, ◌++◌, length}
use Rattle.ghost_model.specs.core.Recorded.{lacks}
use Rattle.key_audit.specs.Windows.{StandsBehind}
use Rattle.key_audit.proofs.lines.read_line.Given as goal

abbrev pub invariant-parts : goal.invariant-parts
invariant-parts g l = record {
  same : g.D.Depot.contents l.depot ≡ g.D.Depot.contents l.fn.depot;
  faults : g.D.Depot.faults l.depot ≡ g.D.Depot.faults l.fn.depot;
  appends : g.D.Depot.append_faults l.depot ≡ g.D.Depot.append_faults l.fn.depot;
  stays_sure : (other : List ℕ) → g.D.Depot.sure l.fn.depot other → g.D.Depot.sure l.depot other;
  lacking : lacks 10 l.line.items ≡ true;
  within : length l.line.items ≤ 4200;
  counted : l.window.passed ≡ l.fn.window.passed + length l.line.items;
  stands : (passed : List ℕ) → StandsBehind (g.D.Depot.contents l.fn.depot) l.name passed l.fn.window
      → StandsBehind (g.D.Depot.contents l.fn.depot) l.name (passed ++ l.line.items) l.window;
}

abbrev pub decreases-parts : goal.decreases-parts
decreases-parts g l = 4200 - length l.line.items
