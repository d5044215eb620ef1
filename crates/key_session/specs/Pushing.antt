-- The rows of a payload go to the spool, and the reply at hand is ended there.
use Rattle.std.specs.Prelude.{◌≡◌, ℕ, ◌≤◌, Bool, true, false, List, map}
use Rattle.ghost_model.specs.core.NextMove.{rows_fit}
use Rattle.ghost_base.specs.Views.{kind_of}
use Rattle.edge_traits.specs.Devices.{Device, ChangesOnly}
use Rattle.page_pool.specs.Pools.{Pool, ChangesPage}
use Rattle.visible_spool.specs.declared.spool.Spool.{Spool}
use Rattle.visible_spool.specs.Areas.{first_of, end_of}
use Rattle.visible_spool.specs.Halves.{reply_of}
use Rattle.visible_spool.specs.Laws.{LiesWithin}
use Rattle.visible_spool.specs.Replies.{IsReadable, HoldsRows, kinds_of}
use Rattle.visible_spool.specs.Sides.{Changes, is_marked, replies_of, side_of}
use Rattle.visible_spool.specs.Spools.{IsSpooling, IsAsked, HasPushed, area_at, is_at, last_of}
use Rattle.key_session.specs.Rows.{cells_at}
use Rattle.key_session.specs.Hearing.{MarkTells}
use Rattle.key_session.specs.declared.ask.AskAtHand.{AskAtHand}

-- rows of the ask may be pushed
pub record CanPush (device : Device) (pool : Pool) (spool : Spool) (hand : AskAtHand) : Type 0 where
  pub spooling : IsSpooling device pool spool
  pub asked : IsAsked spool hand.text hand.table hand.kinds.items hand.width

-- the whole rows of a payload may come next, behind a row with this identifier
pub record AreNext (spool : Spool) (hand : AskAtHand) (payload : List ℕ) (last : ℕ) : Type 0 where
  pub before : last_of spool hand.text hand.table ≤ last
  pub fit : rows_fit (area_at spool hand.table).rows last (map kind_of hand.kinds.items) (cells_at hand.width payload) ≡ true

pub record MayCome (spool : Spool) (hand : AskAtHand) (payload : List ℕ) : Type 0 where
  pub last : ℕ
  pub are : AreNext spool hand payload last

-- What is written of the reply of a text for a table: pages of its area, through the buffer of the rows at hand. It may mark the
-- text.
pub record Writes (text table : ℕ) (before now : Device) (pool later : Pool) (old new : Spool) : Type 0 where
  pub others : ChangesOnly (first_of (area_at old table) text) (end_of (area_at old table) text) before now
  pub deep_reads : now.deep_reads ≡ before.deep_reads
  pub marks : MarkTells before now (is_marked old.sides text) (is_marked new.sides text)
  pub changes : Changes text old.sides new.sides
  pub areas : new.areas ≡ old.areas
  pub lease : new.hand.writer.lease ≡ old.hand.writer.lease
  pub buffer : ChangesPage pool later old.hand.writer.lease

-- the reply at hand was ended: unless its text is marked the pages have its rows now
pub record Ends (told : Bool) (text table : ℕ) (before now : Device) (pool : Pool) (old new : Spool) : Type 0 where
  pub none : is_at old text table ≡ false → new ≡ old
  pub holds : is_at old text table ≡ true → is_marked new.sides text ≡ false → (rows : List (List ℕ)) → HasPushed told before.page pool old text table rows
      → told ≡ true → HoldsRows now.page (reply_of (replies_of new.sides text) table) rows
  pub readable : is_at old text table ≡ true → is_marked new.sides text ≡ false → IsReadable now (reply_of (replies_of new.sides text) table)
  pub kinds : is_at old text table ≡ true → is_marked new.sides text ≡ false → kinds_of (reply_of (replies_of new.sides text) table) ≡ kinds_of old.hand.reply
  pub rows : is_at old text table ≡ true → is_marked new.sides text ≡ false → (reply_of (replies_of new.sides text) table).rows ≡ old.hand.reply.rows
  pub lies : is_at old text table ≡ true → is_marked new.sides text ≡ false
      → LiesWithin (first_of (area_at old table) text) (end_of (area_at old table) text) (reply_of (replies_of new.sides text) table)
  pub marked : is_marked new.sides text ≡ true → replies_of new.sides text ≡ replies_of old.sides text
  pub others : (other : ℕ) → (other ≡ table → ⊥) → reply_of (replies_of new.sides text) other ≡ reply_of (replies_of old.sides text) other
  pub side_text : (side_of new.sides text).text ≡ (side_of old.sides text).text
  pub hand_text : (new.hand.text ≡ 0 → ⊥) → new.hand.text ≡ old.hand.text
  pub hand_table : new.hand.table ≡ old.hand.table
