use Rattle.std.proofs.Common.{◌≡◌, true}
use Rattle.edge_traits.specs.MemDevices.{device_of}
use Rattle.candidate_filter.specs.Fills.{IsFilling, fill_left}
use Rattle.merge_tests.proofs.sifting.filled.Given as goal

abbrev pub invariant-steps : goal.invariant-steps
invariant-steps l = record {
  is : IsFilling true (device_of l.flash) l.pool l.filling;
  pages : (device_of l.flash).page_count ≡ (device_of l.fn.flash).page_count;
}

abbrev pub decreases-steps : goal.decreases-steps
decreases-steps l = fill_left l.filling
