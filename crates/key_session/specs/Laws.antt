-- What stays of the replies that are kept, and what a job needs of them.
use Rattle.std.specs.Prelude.{◌≡◌, ℕ, ◌+◌, ◌%◌, ◌<◌, ◌≤◌, Bool, false}
use Rattle.ghost_model.specs.core.Channel.{Catalog}
use Rattle.ghost_model.specs.core.NextMove.{Heard}
use Rattle.ghost_model.specs.forms.Layout.{spool_end, scratch_end}
use Rattle.edge_traits.specs.Devices.{Device, ChangesOnly}
use Rattle.page_pool.specs.Pools.{Pool, IsOut}
use Rattle.page_pool.specs.Laws.{SameBuffer}
use Rattle.visible_spool.specs.Sparing.{IsHalf}
use Rattle.key_session.specs.Kept.{IsKept, half_in, is_lost, lease_of}
use Rattle.key_session.specs.declared.replies.Replies.{Replies}

-- others may read pages into other buffers, and write pages behind the spool
abbrev pub RepliesStayKept : Type 0
RepliesStayKept =
    (told : Bool) (before now : Device) (pool later : Pool) (catalog : Catalog) (heard : Heard) (low top : ℕ) (replies : Replies)
    → ChangesOnly (spool_end catalog) (scratch_end catalog) before now → IsOut later (lease_of replies) → SameBuffer pool later (lease_of replies)
    → IsKept told before pool catalog heard low top replies → IsKept told now later catalog heard low top replies

-- a text was answered
abbrev pub LowRises : Type 0
LowRises =
    (told : Bool) (device : Device) (pool : Pool) (catalog : Catalog) (heard : Heard) (low top : ℕ) (replies : Replies)
    → IsKept told device pool catalog heard low top replies → IsKept told device pool catalog heard (low + 1) top replies

-- the half of a text that was not answered yet is one that a job may look up in
abbrev pub KeptHalvesAreHalves : Type 0
KeptHalvesAreHalves =
    (told : Bool) (device : Device) (pool : Pool) (catalog : Catalog) (heard : Heard) (low top text : ℕ) (replies : Replies)
    → IsKept told device pool catalog heard low top replies → low ≤ text → IsHalf told catalog (text % 2) device (half_in replies text)

-- no text behind the last one that was awaited is marked
abbrev pub LaterTextsAreUnmarked : Type 0
LaterTextsAreUnmarked =
    (told : Bool) (device : Device) (pool : Pool) (catalog : Catalog) (heard : Heard) (low top text : ℕ) (replies : Replies)
    → IsKept told device pool catalog heard low top replies → top < text → is_lost replies text ≡ false
