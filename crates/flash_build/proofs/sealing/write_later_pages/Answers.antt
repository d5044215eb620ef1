use Rattle.std.proofs.Common.{◌≡◌, ◌∙◌, ◌-◌, subst, sym, refl, arith}
use Rattle.edge_traits.specs.Devices.{Counts}
use Rattle.edge_traits.proofs.DeviceFrames.{counts_none, counts_next}
use Rattle.flash_build.proofs.Writes.{changes_same, counts_as}
use Rattle.flash_build.proofs.CatalogPages.{blank_place, holds_more, changes_down}
use Rattle.ghost_model.specs.laws.ShortWords.{catalog_pages}
use Rattle.flash_build.proofs.sealing.write_later_pages.Goals as goal

pub loop-left-init : goal.loop-left-init
loop-left-init g c =
    let device = g.F.Flash.state c.args.flash.now in
    let pages = c.catalog_pages-left.ensures in
    record {
      holds = λ told place from within.
          c.requires.erased.bytes told place (omega arith) within ∙ blank_place c.args.cat.now place (omega (arith, pages.value, from));
      others = changes_same c.catalog_pages-left.result (catalog_pages c.args.cat.now) device;
      exact =
          let none : catalog_pages c.args.cat.now - c.catalog_pages-left.result ≡ 0 = omega (arith, pages.value) in
          subst (λ n. Counts n device.calls device.calls) (sym none) (counts_none device.calls);
      deep_reads = refl;
      faults = refl;
      some = pages.some;
      few = pages.most;
      most = omega (arith, pages.value);
    }

pub loop-left-preserved : goal.loop-left-preserved
loop-left-preserved g c =
    let was = c.loop-left.invariant in
    let step = c.in_ok-write_catalog_page.ensures in
    let left = c.loop-left.left in
    record {
      holds = holds_more c.args.cat.now left was.some was.holds step.others step.holds;
      others = changes_down left (catalog_pages c.args.cat.now) was.some was.most was.others step.others;
      exact = counts_as (omega (arith, was.some, was.most)) was.exact (counts_next step.calls);
      deep_reads = step.deep_reads ∙ was.deep_reads;
      faults = step.cause.other ∙ was.faults;
      some = omega (arith, c.loop-left-test.true);
      few = omega (arith, was.few);
      most = omega (arith, was.most);
    }
