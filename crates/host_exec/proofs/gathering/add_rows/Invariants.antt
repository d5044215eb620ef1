use Rattle.std.proofs.Common.{◌≡◌, ◌≤◌, ◌+◌, ◌-◌}
use Rattle.host_exec.specs.FormViews.{form_view}
use Rattle.host_exec.specs.Gathering.{HasRoom}
use Rattle.host_exec.proofs.Rows.{Passed}
use Rattle.host_exec.proofs.gathering.add_rows.Given as goal

abbrev pub invariant-rows : goal.invariant-rows
invariant-rows l = record {
  room : HasRoom (form_view l.form) l.most l.batch;
  within : l.passed ≤ l.count;
  gathered : Passed (form_view l.form) l.place l.count l.piece l.fn.batch.rows l.fn.batch.bytes.items l.passed l.rest l.batch.rows l.batch.bytes.items;
  sparse : l.batch.rows ≤ l.fn.batch.rows + l.passed;
  first : l.passed ≡ 0 → l.batch.rows ≡ l.fn.batch.rows;
}

abbrev pub decreases-rows : goal.decreases-rows
decreases-rows l = l.count - l.passed
