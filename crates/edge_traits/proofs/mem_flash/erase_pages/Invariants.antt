use Rattle.std.proofs.Common.{◌≡◌, ◌≤◌, ◌<◌, ℕ, replicate}
use Rattle.edge_traits.specs.Pages.{page_at}
use Rattle.edge_traits.proofs.mem_flash.erase_pages.Given as goal

abbrev pub invariant-loop-page : goal.invariant-loop-page
invariant-loop-page l = record {
  erased : (page : ℕ) → l.first ≤ page → page < l.page → page_at l.pages page ≡ replicate 2048 255;
  below : (page : ℕ) → page < l.first → page_at l.pages page ≡ page_at l.fn.pages page;
  above : (page : ℕ) → l.page ≤ page → page_at l.pages page ≡ page_at l.fn.pages page;
}
