use Rattle.std.proofs.Common.{true}
use Rattle.edge_traits.specs.MemDevices.{device_of}
use Rattle.spill_pass.specs.Listings.{ready_in, source_in}
use Rattle.spill_pass.specs.Places.{CanGive, source_of}
use Rattle.spill_pass.specs.Reducing.{IsReducing, reduce_left}
use Rattle.merge_tests.proofs.areas.reduced.Given as goal

abbrev pub invariant-steps : goal.invariant-steps
invariant-steps l = record {
  ready : ready_in CanGive true (device_of l.flash) l.pool l.reduce.pass.lists;
  reducing : IsReducing true (device_of l.flash) l.pool (source_in source_of l.reduce.pass.lists) l.reduce.areas l.reduce.pass.groups l.reduce.pass.fan l.reduce.pass.merging;
}

abbrev pub decreases-steps : goal.decreases-steps
decreases-steps l = reduce_left l.pool (source_in source_of l.reduce.pass.lists) l.reduce.areas l.reduce.pass.groups l.reduce.pass.merging
