use Rattle.std.proofs.Common.{◌≡◌, ◌+◌, ◌≤◌, true, length}
use Rattle.edge_traits.specs.MemDevices.{device_of}
use Rattle.page_pool.specs.Pools.{free_count}
use Rattle.id_merge.specs.Cursors.{leases_of}
use Rattle.candidate_lists.specs.Unites.{IsUniting}
use Rattle.merge_tests.specs.Laying.{AreSources}
use Rattle.merge_tests.proofs.unions.united.Given as goal

abbrev pub invariant-members : goal.invariant-members
invariant-members l = record {
  held : IsUniting true (device_of l.flash) l.pool l.uniting;
  buffers : 64 ≤ free_count l.pool + length (leases_of l.uniting.candidates.merge.cursors.items);
  unions : length l.uniting.candidates.merge.unions.items ≡ 1;
  area : l.uniting.candidates.scratch.other_lists ≡ l.fn.scratch.other_lists;
  sources : AreSources (device_of l.flash) l.fn.scratch.other_lists l.sources;
}
