use Rattle.std.proofs.Common.{◌≡◌, ◌<◌, ℕ, replicate, vec_len}
use Rattle.edge_traits.specs.Pages.{page_at}
use Rattle.edge_traits.proofs.mem_flash.blank_pages.Given as goal

abbrev pub invariant-loop : goal.invariant-loop
invariant-loop l = record {
  size : vec_len l.pages ≡ l.counter;
  blank : (page : ℕ) → page < l.counter → page_at l.pages.items page ≡ replicate 2048 255;
}
