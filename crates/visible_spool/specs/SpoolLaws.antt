-- Laws of the spool: what stays of what is at hand where others use other pages and buffers.
use Rattle.std.specs.Prelude.{◌≡◌, ℕ, ◌<◌, ◌≤◌, Bool, false, List}
use Rattle.edge_traits.specs.Devices.{Device, SamePage}
use Rattle.page_pool.specs.Pools.{Pool, IsOut}
use Rattle.page_pool.specs.Laws.{SameBuffer}
use Rattle.visible_spool.specs.declared.spool.Spool.{Spool}
use Rattle.visible_spool.specs.Hands.{area_end}
use Rattle.visible_spool.specs.Sides.{is_marked}
use Rattle.visible_spool.specs.Spools.{IsSpooling, HasPushed}

-- the area and the buffer of the reply at hand are as they were, and the buffer is out
pub record Spares (before now : Device) (pool later : Pool) (spool : Spool) : Type 0 where
  pub page_count : now.page_count ≡ before.page_count
  pub area : (number : ℕ) → spool.hand.reply.run.first ≤ number → number < area_end spool.hand.reply → SamePage before now number
  pub out : IsOut later spool.hand.writer.lease
  pub buffer : SameBuffer pool later spool.hand.writer.lease

-- rows may be pushed to it, and those that were pushed were
abbrev pub StaysSpooling : Type 0
StaysSpooling =
    (before now : Device) (pool later : Pool) (spool : Spool) → Spares before now pool later spool
    → IsSpooling before pool spool → IsSpooling now later spool

abbrev pub StillPushed : Type 0
StillPushed =
    (told : Bool) (before now : Device) (pool later : Pool) (spool : Spool) (text table : ℕ) (rows : List (List ℕ)) → 0 < text → is_marked spool.sides text ≡ false
    → Spares before now pool later spool → IsSpooling before pool spool
    → HasPushed told before.page pool spool text table rows → HasPushed told now.page later spool text table rows
