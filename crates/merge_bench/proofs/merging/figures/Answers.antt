use Rattle.std.proofs.Common.{arith}
use Rattle.edge_traits.specs.MemDevices.{device_of}
use Rattle.flash_pages.specs.Cursors.{Records}
use Rattle.merge_bench.proofs.merging.figures.Goals as goal

pub came-requires : goal.came-requires
came-requires c = record { can = c.merge_of-merge.ensures.can (device_of c.in_ok-laid.laid.flash) c.in_ok-laid.ensures.other (Records (omega (arith, c.in_ok-laid.ensures.other_width))) }
