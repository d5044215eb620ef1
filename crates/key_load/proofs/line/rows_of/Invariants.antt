use Rattle.std.proofs.Common.{◌≡◌, ◌≤◌, ◌*◌, take}
use Rattle.std.specs.List.{sum}
use Rattle.key_load.proofs.line.rows_of.Given as goal

abbrev pub invariant-loop-table : goal.invariant-loop-table
invariant-loop-table l = record {
  same : l.rows ≡ sum (take l.table l.cat.counts);
  few : l.rows ≤ l.table * 1000000;
}
