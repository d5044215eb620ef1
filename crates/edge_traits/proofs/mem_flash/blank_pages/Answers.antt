use Rattle.std.proofs.Common.{◌∙◌, ap, replicate, arith}
use Rattle.edge_traits.specs.Pages.{page_at}
use Rattle.edge_traits.proofs.PageLemmas.{one_page_more}
use Rattle.edge_traits.proofs.mem_flash.blank_pages.Goals as goal

pub loop-preserved : goal.loop-preserved
loop-preserved c = record {
  size = omega (arith, c.in_ok-push.ensures.len);
  blank = λ page within.
      ap (λ pages. page_at pages page) c.in_ok-push.ensures.items
      ∙ one_page_more c.loop.pages.items (replicate 2048 255) c.loop.counter (omega (arith, c.loop.pages.ok)) c.loop.invariant.blank page within;
}
