use Rattle.std.proofs.Common.{true}
use Rattle.edge_traits.specs.MemDevices.{device_of}
use Rattle.id_merge.specs.Merges.{CanMerge, at_hand}
use Rattle.merge_bench.proofs.merging.came.Given as goal

abbrev pub invariant-ids : goal.invariant-ids
invariant-ids l = CanMerge true (device_of l.flash) l.pool l.merge

abbrev pub decreases-ids : goal.decreases-ids
decreases-ids l = at_hand l.merge
