use Rattle.std.proofs.Common.{◌≡◌, ◌≤◌, ◌-◌, ◌*◌}
use Rattle.host_exec.specs.RowBytes as rows
use Rattle.host_exec.proofs.form.width_before.Given as goal

abbrev pub invariant-loop-at : goal.invariant-loop-at
invariant-loop-at l = record {
  told : l.width ≡ rows.width_before (rows.data_columns l.schema l.table) (l.at - 1);
  narrow : l.width ≤ 65 * (l.at - 1);
  within : l.at - 1 ≤ l.column - 1;
}
