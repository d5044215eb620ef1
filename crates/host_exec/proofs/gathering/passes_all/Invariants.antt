use Rattle.std.proofs.Common.{◌≡◌, false, length, map}
use Rattle.ghost_model.specs.readings.GroupReading.{passes_from}
use Rattle.host_exec.specs.RowBytes as rows
use Rattle.host_exec.specs.FormViews.{check_view}
use Rattle.host_exec.proofs.gathering.passes_all.Given as goal

abbrev pub invariant-checks : goal.invariant-checks
invariant-checks l =
    passes_from (λ test. test.more) (rows.passes l.row) l.met (map check_view l.rest)
    ≡ passes_from (λ test. test.more) (rows.passes l.row) false (map check_view l.checks)

abbrev pub decreases-checks : goal.decreases-checks
decreases-checks l = length l.rest
