use Rattle.std.proofs.Common.{◌≡◌, ◌≤◌, ◌+◌, ◌++◌, length, map, flat_map, sum}
use Rattle.arrayvec.specs.ArrayVec.{array_vec_len}
use Rattle.host_exec.specs.RowBytes as rows
use Rattle.host_exec.specs.FormViews.{span_view}
use Rattle.host_exec.proofs.gathering.put_cells.Given as goal

abbrev pub invariant-spans : goal.invariant-spans
invariant-spans l = record {
  told : l.out.items ++ flat_map (rows.cut l.row) (map span_view l.rest) ≡ l.fn.out.items ++ flat_map (rows.cut l.row) (map span_view l.spans);
  room : array_vec_len l.out + sum (map (λ span. span.size) l.rest) ≤ array_vec_len l.fn.out + sum (map (λ span. span.size) l.spans);
}

abbrev pub decreases-spans : goal.decreases-spans
decreases-spans l = length l.rest
