use Rattle.std.proofs.Common.{true, ◌-◌}
use Rattle.edge_traits.specs.MemDevices.{device_of}
use Rattle.flash_pages.specs.Cursors.{IsReady}
use Rattle.index_tests.proofs.found.put_rest.Given as goal

abbrev pub invariant-loop-id : goal.invariant-loop-id
invariant-loop-id l = IsReady true (device_of l.flash) l.pool l.cursor

abbrev pub decreases-loop-id : goal.decreases-loop-id
decreases-loop-id l = l.cursor.list.count - l.cursor.at
