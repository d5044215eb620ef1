use Rattle.std.proofs.Common.{◌≡◌, ◌≤◌, ◌+◌, ◌++◌, true, length, map}
use Rattle.std.specs.List.{list_all}
use Rattle.arrayvec.specs.ArrayVec.{array_vec_len}
use Rattle.channel_codec.specs.AskViews.{test_view, has_kind}
use Rattle.host_exec.specs.RowBytes as rows
use Rattle.host_exec.specs.FormViews.{check_view}
use Rattle.host_exec.proofs.form.checks_of.Given as goal

abbrev pub invariant-tests : goal.invariant-tests
invariant-tests l = record {
  told : map check_view l.checks.items ++ map (rows.test_of l.schema l.table) (map test_view l.rest) ≡ map (rows.test_of l.schema l.table) (map test_view l.tests);
  room : array_vec_len l.checks + length l.rest ≤ 16;
  kinds : list_all (has_kind l.schema l.table) (map test_view l.rest) ≡ true;
}

abbrev pub decreases-tests : goal.decreases-tests
decreases-tests l = length l.rest
