use Rattle.std.proofs.Common.{◌≡◌, ◌<◌, ◌^◌, ℕ, true, List}
use Rattle.visible_spool.specs.Replies.{IsReadable, HoldsRows}
use Rattle.visible_spool.specs.Searches.{IsInHeld, IsSearch, IsSought, left_in}
use Rattle.page_pool.specs.Pools.{page_at}
use Rattle.visible_spool.proofs.Finding.{HasBegun, HasFound, HasRead}
use Rattle.visible_spool.proofs.reply.Reply.find.Given as goal

abbrev pub invariant-steps : goal.invariant-steps
invariant-steps g l =
    let page = (g.F.Flash.state l.initial.flash).page in
    record {
      readable : IsReadable (g.F.Flash.state l.flash) l.self;
      search : IsSearch l.self l.search;
      sought : g.F.Flash.told ≡ true → (rows : List (List ℕ)) → HoldsRows page l.self rows → IsSought l.self rows l.id l.search;
      at_hand : g.F.Flash.told ≡ true → (rows : List (List ℕ)) → HoldsRows page l.self rows → IsInHeld l.self rows (page_at l.initial.pool l.lease) l.id
          → (g.F.Flash.state l.flash ≡ g.F.Flash.state l.initial.flash) × (page_at l.pool l.lease ≡ page_at l.initial.pool l.lease);
      begun : HasBegun (g.F.Flash.state l.initial.flash) (g.F.Flash.state l.flash) l.initial.pool l.pool l.lease l.search;
      frame : HasRead g.F.Flash.told (g.F.Flash.state l.initial.flash) (g.F.Flash.state l.flash) l.initial.pool l.pool l.lease;
      reads : (k : ℕ) → l.self.run.count < 2 ^ k
          → HasFound g.F.Flash.told (g.F.Flash.state l.initial.flash) (g.F.Flash.state l.flash) l.initial.pool l.pool l.lease k l.search;
    }

abbrev pub decreases-steps : goal.decreases-steps
decreases-steps g l = left_in l.self l.search
