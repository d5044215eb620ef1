use Rattle.std.proofs.Common.{arith}
use Rattle.host_exec.specs.FormViews.{form_view}
use Rattle.host_exec.proofs.Rows.{passed_one}
use Rattle.host_exec.proofs.gathering.add_rows.Goals as goal

pub rows-preserved : goal.rows-preserved
rows-preserved c = record {
  room = c.add_row.ensures.room;
  within = omega (arith, c.rows-test.true);
  gathered = passed_one (form_view c.args.form.now) c.args.place c.args.count c.args.piece.now c.args.batch.now.rows c.args.batch.now.bytes.items
      c.rows.passed c.rows.rest.now c.front-row.result.now c.behind-rest.result.now c.rows.batch.rows c.add_row.new.batch.rows c.rows.batch.bytes.items c.add_row.new.batch.bytes.items
      c.rows.invariant.gathered c.rows-test.true c.front-row.ensures c.behind-rest.ensures c.add_row.ensures.found c.add_row.ensures.passed;
  sparse = omega (arith, c.rows.invariant.sparse, c.add_row.ensures.one);
  first = λ e. absurd (omega (arith, e));
}
