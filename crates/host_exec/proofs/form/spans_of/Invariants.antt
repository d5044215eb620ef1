use Rattle.std.proofs.Common.{◌≡◌, ◌≤◌, ◌+◌, ◌++◌, length, map}
use Rattle.arrayvec.specs.ArrayVec.{array_vec_len}
use Rattle.host_exec.specs.RowBytes as rows
use Rattle.host_exec.specs.FormViews.{span_view}
use Rattle.host_exec.proofs.form.spans_of.Given as goal

abbrev pub invariant-columns : goal.invariant-columns
invariant-columns l = record {
  told : map span_view l.spans.items ++ map (rows.span_of l.schema l.table) l.rest ≡ map (rows.span_of l.schema l.table) l.columns;
  room : array_vec_len l.spans + length l.rest ≤ 24;
}

abbrev pub decreases-columns : goal.decreases-columns
decreases-columns l = length l.rest
