use Rattle.std.proofs.Common.{◌≡◌, ◌≤◌, ◌-◌, ◌*◌, map, take, drop}
use Rattle.ghost_base.specs.Views.{kind_of}
use Rattle.host_exec.specs.Columns.{AreColumns, AddsRows}
use Rattle.host_exec.proofs.columns.take_rows.Given as goal

abbrev pub invariant-rows : goal.invariant-rows
invariant-rows l = record {
  within : l.passed ≤ l.count;
  ahead : l.rest ≡ drop (l.passed * l.width) l.piece;
  columns : AreColumns (map kind_of l.kinds) l.columns;
  added : AddsRows (map kind_of l.kinds) l.passed (take (l.passed * l.width) l.piece) l.fn.columns l.columns;
}

abbrev pub decreases-rows : goal.decreases-rows
decreases-rows l = l.count - l.passed
