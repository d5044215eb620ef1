use Rattle.edge_traits.specs.MemDevices.{device_of}
use Rattle.flash_pages.specs.Cursors.{Codes}
use Rattle.merge_bench.proofs.coded.figures.Goals as goal

pub came-requires : goal.came-requires
came-requires c =
    let device = device_of c.in_ok-laid.laid.flash in
    record { can = c.merge_of-merge.ensures.can device (c.bytes_of.ensures.run device c.in_ok-laid.ensures.other) (Codes c.bytes_of.ensures.width) }
