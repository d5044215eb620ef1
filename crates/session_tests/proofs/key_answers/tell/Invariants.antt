use Rattle.std.proofs.Common.{◌≡◌, not, count_by, length}
use Rattle.page_pool.specs.Pools.{others_out}
use Rattle.leakless_plan.specs.declared.plan.Plan.TheVariants as plan
use Rattle.key_exec.specs.Telling.{CanTell, leases_of, left_of}
use Rattle.session_tests.proofs.key_answers.tell.Given as goal

abbrev pub decreases-steps : goal.decreases-steps
decreases-steps g l = left_of l.telling

abbrev pub invariant-steps : goal.invariant-steps
invariant-steps g l = record {
  can : CanTell plan.Scan g.F.Flash.told l.fn.cat 1 (g.F.Flash.state l.flash) l.pool l.telling;
  free : count_by not (others_out l.pool (leases_of l.telling)) ≡ length l.pool.pages;
}
