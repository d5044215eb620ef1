use Rattle.edge_traits.specs.MemDevices.{device_of}
use Rattle.flash_pages.specs.Cursors.{Codes}
use Rattle.merge_tests.proofs.merges.coded.Goals as goal

pub agrees-agreed-requires : goal.agrees-agreed-requires
agrees-agreed-requires c =
    let device = device_of c.in_ok-laid.laid.flash in
    record { can = c.merge_of-merge.ensures.can device (c.bytes_of.ensures.run device c.in_ok-laid.ensures.one) (Codes c.bytes_of.ensures.width) }
