use Rattle.std.proofs.Common.{arith}
use Rattle.flash_pages.specs.Cursors.{Records}
use Rattle.edge_traits.specs.MemDevices.{device_of}
use Rattle.merge_tests.proofs.merges.came.Goals as goal

pub agrees-agreed-requires : goal.agrees-agreed-requires
agrees-agreed-requires c = record { can = c.merge_of-merge.ensures.can (device_of c.in_ok-laid.laid.flash) c.in_ok-laid.ensures.one (Records (omega (arith, c.in_ok-laid.ensures.one_width))) }
