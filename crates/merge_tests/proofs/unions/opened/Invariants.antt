use Rattle.std.proofs.Common.{true}
use Rattle.edge_traits.specs.MemDevices.{device_of}
use Rattle.spill_pass.specs.Places.{CanGive, source_of}
use Rattle.candidate_lists.specs.Opens.{IsOpening, OpeningGoes}
use Rattle.merge_tests.proofs.unions.opened.Given as goal

abbrev pub invariant-lists : goal.invariant-lists
invariant-lists l = record {
  ready : CanGive true (device_of l.flash) l.pool l.opening.lists;
  opening : IsOpening true (device_of l.flash) l.pool (source_of l.opening.lists) l.opening.candidates l.opening.opened;
  goes : OpeningGoes (device_of l.fn.flash) (device_of l.flash) l.fn.pool l.pool (source_of l.fn.lists) (source_of l.opening.lists) l.fn.uniting.candidates l.opening.candidates;
}

abbrev pub decreases-lists : goal.decreases-lists
decreases-lists l = (source_of l.opening.lists).lists_left
