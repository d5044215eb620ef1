-- The replies that a text's query is answered by, as they stand in a half of the spool.
use Rattle.std.specs.Prelude.{◌≡◌, ℕ, ◌<◌, ◌≤◌, true, false, List, map, Some}
use Rattle.ghost_model.specs.core.Schema.{Schema}
use Rattle.ghost_model.specs.core.Channel.{Catalog, Journal}
use Rattle.ghost_model.specs.core.Asks as asks
use Rattle.ghost_model.specs.core.Asks.{NumberedAsk, row_in}
use Rattle.ghost_model.specs.core.Moves.{taken}
use Rattle.ghost_model.specs.core.NextMove.{heard}
use Rattle.ghost_model.specs.core.Replies as given
use Rattle.ghost_model.specs.core.Replies.{replies, reply_about, replied_row}
use Rattle.edge_traits.specs.Devices.{Device}
use Rattle.page_pool.specs.Pools.{Pool}
use Rattle.visible_spool.specs.declared.half.Half.{Half}
use Rattle.visible_spool.specs.declared.reply.Reply.{Reply}
use Rattle.visible_spool.specs.Halves.{reply_of}
use Rattle.visible_spool.specs.Replies.{HoldsRows, kinds_of}
use Rattle.key_exec.specs.Reading.{AreOfRows}
use Rattle.key_session.specs.Kept.{IsKept, half_in, is_lost}
use Rattle.key_session.specs.declared.replies.Replies.{Replies}

-- pages have the rows of a reply that was given
pub record HoldsGiven (page : ℕ → List ℕ) (schema : Schema) (held : Reply) (one : given.Reply) : Type 0 where
  pub rows : List (List ℕ)
  pub holds : HoldsRows page held rows
  pub kinds_are : 0 < held.run.count → kinds_of held ≡ asks.kinds_of schema one.ask
  pub are : one.rows ≡ map (λ bytes. replied_row schema one.ask (row_in bytes)) rows

-- for each table
abbrev pub HoldsAllGiven : (page : ℕ → List ℕ) → Schema → Half → List given.Reply → Type 0
HoldsAllGiven page schema half some =
    (table : ℕ) (one : given.Reply) → reply_about table some ≡ Some one → HoldsGiven page schema (reply_of half table) one

-- the replies to the asks of a text that was not answered yet, and is not marked
abbrev pub KeptAreGiven : Type 0
KeptAreGiven =
    (device : Device) (pool : Pool) (catalog : Catalog) (asks : List NumberedAsk) (journal : Journal) (low top text : ℕ) (kept : Replies)
    → IsKept true device pool catalog (heard catalog asks (taken journal)) low top kept → low ≤ text → is_lost kept text ≡ false
    → HoldsAllGiven device.page catalog.schema (half_in kept text) (replies catalog asks journal text)

-- and each of their rows is one of its table
abbrev pub KeptAreOfRows : Type 0
KeptAreOfRows =
    (device : Device) (pool : Pool) (catalog : Catalog) (asks : List NumberedAsk) (journal : Journal) (low top text : ℕ) (kept : Replies)
    → IsKept true device pool catalog (heard catalog asks (taken journal)) low top kept → low ≤ text → is_lost kept text ≡ false
    → AreOfRows catalog (replies catalog asks journal text)
