use Rattle.std.proofs.Common.{◌≡◌, take, count_by, not}
use Rattle.page_pool.proofs.pool.first_free.Given as goal

abbrev pub invariant-loop-slot : goal.invariant-loop-slot
invariant-loop-slot l = count_by not (take l.slot l.out) ≡ 0
