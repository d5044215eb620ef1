use Rattle.std.proofs.Common.{◌≡◌, true}
use Rattle.edge_traits.specs.MemDevices.{device_of}
use Rattle.candidate_lists.specs.Closes.{closing_left}
use Rattle.candidate_filter.specs.Sifts.{IsSifting, area_of}
use Rattle.merge_tests.proofs.sifting.sifted.Given as goal

abbrev pub invariant-steps : goal.invariant-steps
invariant-steps l = record {
  is : IsSifting true (device_of l.flash) l.pool l.sifting;
  area : area_of l.sifting ≡ l.fn.first;
  next : l.sifting.scratch.other_lists ≡ l.fn.first;
}

abbrev pub decreases-steps : goal.decreases-steps
decreases-steps l = closing_left l.pool l.sifting.into l.sifting.run
