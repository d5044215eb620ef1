use Rattle.std.proofs.Common.{true, refl, arith}
use Rattle.edge_traits.specs.MemDevices.{device_of}
use Rattle.flash_pages.specs.Cursors.{Records}
use Rattle.candidate_lists.proofs.Frames.{no_page_leased}
use Rattle.merge_tests.proofs.sifting.filled.Goals as goal

pub steps-init : goal.steps-init
steps-init c =
    let a = c.args in
    let r = c.requires in
    record {
      is = c.begin-filling.ensures.filling true (device_of a.flash.now)
          (record { run = r.run; width = Records (omega (arith, r.width)); within = omega arith }) c.in-Some.ensures.is_out (no_page_leased a.pool.now c.in-Some.lease c.in-Some.ensures.leased);
      pages = refl;
    }
