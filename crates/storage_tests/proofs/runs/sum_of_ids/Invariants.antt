use Rattle.std.proofs.Common.{true, ◌-◌}
use Rattle.edge_traits.specs.MemDevices.{device_of}
use Rattle.flash_pages.specs.Cursors.{IsReady}
use Rattle.storage_tests.proofs.runs.sum_of_ids.Given as goal

abbrev pub invariant-loop-id : goal.invariant-loop-id
invariant-loop-id l = IsReady true (device_of l.flash) l.pool l.cursor

abbrev pub decreases-loop-id : goal.decreases-loop-id
decreases-loop-id l = l.cursor.list.count - l.cursor.at
