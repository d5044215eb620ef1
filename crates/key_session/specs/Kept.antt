-- What is kept of a session's replies: for each text that was not answered yet, the replies to its asks that were ended, in
-- the half of the spool of its number's parity, and at hand the rows that came of the ask that is awaited. Of a text whose page
-- could not be written nothing more is kept: it is marked.
use Rattle.std.specs.Prelude.{◌≡◌, ℕ, ◌+◌, ◌<◌, ◌≤◌, ⊤, Bool, true, false, List, [], ◌∷◌, length, map, Some, IsTrue}
use Rattle.std.specs.List.{list_all}
use Rattle.ghost_model.specs.core.Schema.{Schema}
use Rattle.ghost_model.specs.core.Channel.{Catalog, Ask}
use Rattle.ghost_model.specs.core.Asks as asks
use Rattle.ghost_model.specs.core.Asks.{NumberedAsk, row_width}
use Rattle.ghost_model.specs.core.NextMove.{Heard, EndedAsk, Ending, Answered, Refused, at_first, last_identifier}
use Rattle.ghost_base.specs.Views.{kind_of}
use Rattle.edge_traits.specs.Devices.{Device}
use Rattle.page_pool.specs.Pools.{Pool}
use Rattle.channel_pump.specs.Sessions.{asked_in}
use Rattle.key_session.specs.Fits.{was_ended}
use Rattle.visible_spool.specs.declared.half.Half.{Half}
use Rattle.visible_spool.specs.declared.hand.Hand.{Hand}
use Rattle.visible_spool.specs.declared.reply.Reply.{Reply}
use Rattle.visible_spool.specs.declared.spool.Spool.{Spool}
use Rattle.visible_spool.specs.Areas.{AreAreasOf, first_of, end_of}
use Rattle.visible_spool.specs.Halves.{reply_of, no_reply}
use Rattle.visible_spool.specs.Laws.{LiesWithin}
use Rattle.visible_spool.specs.Replies.{IsReadable, HoldsRows, is_narrow, kinds_of}
use Rattle.visible_spool.specs.Sides.{is_marked, replies_of}
use Rattle.visible_spool.specs.Sparing.{HasSomeRows}
use Rattle.visible_spool.specs.Spools.{IsSpooling, HasPushed, area_at, is_at, last_of}
use Rattle.key_session.specs.Rows.{rows_at, cells_at, rows_cut}
use Rattle.key_session.specs.declared.ask.AskAtHand.{AskAtHand}
use Rattle.key_session.specs.declared.replies.Replies.{Replies}

-- the replies of a text that were ended, whether a page of them could not be written, and the buffer of the rows at hand
abbrev pub half_in : Replies → (text : ℕ) → Half
half_in replies text = replies_of replies.spool.sides text

abbrev pub is_lost : Replies → (text : ℕ) → Bool
is_lost replies text = is_marked replies.spool.sides text

abbrev pub lease_of : Replies → ℕ
lease_of replies = replies.spool.hand.writer.lease

abbrev pub with_lease : (lease : ℕ) → Replies → Replies
with_lease lease replies = record replies { spool = record (replies.spool) { hand = record (replies.spool.hand) { writer = record (replies.spool.hand.writer) { lease = lease } } } }

-- before the first byte
abbrev pub none_heard : Catalog → Heard
none_heard catalog = at_first catalog

-- nothing in the spool is of a text behind this one
pub record IsBy (top : ℕ) (spool : Spool) : Type 0 where
  pub even : spool.sides.even.text ≤ top
  pub odd : spool.sides.odd.text ≤ top
  pub hand : spool.hand.text ≤ top

-- what the spool has at hand is nothing, or the reply to an ask that was ended
abbrev pub IsOver : (ended : List EndedAsk) → Hand → Type 0
IsOver ended hand = (hand.text ≡ 0 → ⊥) → was_ended hand.text hand.table ended ≡ true

-- the ask at hand is one of the definitions: its text, its table, and the cells and the bytes of its rows
pub record IsAskOf (schema : Schema) (asked : NumberedAsk) (hand : AskAtHand) : Type 0 where
  pub some : 0 < hand.text
  pub text_is : hand.text ≡ asked.text
  pub table_is : hand.table ≡ asked.ask.table
  pub kinds_are : map kind_of hand.kinds.items ≡ asks.kinds_of schema asked.ask
  pub width_is : hand.width ≡ row_width schema asked.ask
  pub narrow : IsTrue (list_all is_narrow (map kind_of hand.kinds.items))
  pub few : length hand.kinds.items ≤ 24
  pub least : 4 ≤ hand.width
  pub most : hand.width ≤ 1564

-- the spool has the rows that came for the ask at hand, unless its text is marked
pub record HasCome (told : Bool) (page : ℕ → List ℕ) (pool : Pool) (ended : List EndedAsk) (hand : AskAtHand) (rows : List ℕ) (spool : Spool) : Type 0 where
  pub kinds : is_at spool hand.text hand.table ≡ true → kinds_of spool.hand.reply ≡ map kind_of hand.kinds.items
  pub width : is_at spool hand.text hand.table ≡ true → spool.hand.reply.run.width ≡ hand.width
  pub last : last_of spool hand.text hand.table ≤ last_identifier 0 (cells_at hand.width rows)
  pub pushed : is_marked spool.sides hand.text ≡ false → HasPushed told page pool spool hand.text hand.table (rows_at hand.width rows)
  pub others : is_at spool hand.text hand.table ≡ false → IsOver ended spool.hand

-- the reply at hand is that to the ask that is awaited
pub record IsAt (told : Bool) (page : ℕ → List ℕ) (pool : Pool) (schema : Schema) (heard : Heard) (low top : ℕ) (replies : Replies) : Type 0 where
  pub asked : NumberedAsk
  pub awaited : asked_in heard.awaits ≡ Some asked
  pub near : asked.text ≤ low + 1
  pub latest : asked.text ≡ top
  pub ask : IsAskOf schema asked replies.hand
  pub come : HasCome told page pool heard.ended replies.hand heard.rows replies.spool

-- a reply lies in the area of its table, in the half of a text; where it has a row that table has a visible column, and the rows are
-- some of the table's
pub record LiesInArea (spool : Spool) (text table : ℕ) (reply : Reply) : Type 0 where
  pub most : 0 < reply.run.count → reply.rows ≡ (area_at spool table).rows
  pub visible : 0 < reply.run.count → 4 < (area_at spool table).width
  pub lies : LiesWithin (first_of (area_at spool table) text) (end_of (area_at spool table) text) reply

-- a reply that is kept, whatever rows it has
pub record IsKeptReply (told : Bool) (device : Device) (spool : Spool) (text table : ℕ) (reply : Reply) : Type 0 where
  pub readable : IsReadable device reply
  pub lies : LiesInArea spool text table reply
  pub whole : told ≡ true → HasSomeRows device.page reply

-- the replies that are kept of a text, marked or not: there is none for a table of which no ask was ended
pub record AreKept (told : Bool) (device : Device) (ended : List EndedAsk) (spool : Spool) (text : ℕ) : Type 0 where
  pub each : (table : ℕ) → IsKeptReply told device spool text table (reply_of (replies_of spool.sides text) table)
  pub none : (table : ℕ) → was_ended text table ended ≡ false → reply_of (replies_of spool.sides text) table ≡ no_reply

-- a reply has the rows of an ask that was ended by DONE
pub record HasAnswer (told : Bool) (page : ℕ → List ℕ) (schema : Schema) (ask : Ask) (rows : List ℕ) (reply : Reply) : Type 0 where
  pub holds : told ≡ true → HoldsRows page reply (rows_cut schema ask rows)
  pub kinds : 0 < reply.run.count → kinds_of reply ≡ asks.kinds_of schema ask

abbrev pub HasEnding : (told : Bool) → (page : ℕ → List ℕ) → Schema → Ask → Ending → Reply → Type 0
HasEnding told page schema ask (Answered rows) reply = HasAnswer told page schema ask rows reply
HasEnding told page schema ask (Refused _) reply = ⊤

-- a half has the replies to the asks of a text that were ended
abbrev pub HasEndings : (told : Bool) → (page : ℕ → List ℕ) → Schema → (text : ℕ) → Half → List EndedAsk → Type 0
HasEndings told page schema text half [] = Unit {0}
HasEndings told page schema text half (end ∷ later) =
    (end.asked.text ≡ text → HasEnding told page schema end.asked.ask end.ending (reply_of half end.asked.ask.table))
    × HasEndings told page schema text half later

-- texts from `low` on were not answered yet, and no ask was awaited of a text behind `top`
pub record IsKept (told : Bool) (device : Device) (pool : Pool) (catalog : Catalog) (heard : Heard) (low top : ℕ) (replies : Replies) : Type 0 where
  pub spooling : IsSpooling device pool replies.spool
  pub areas : AreAreasOf catalog replies.spool.areas.items
  pub bound : IsBy top replies.spool
  pub at : replies.is_open ≡ true → IsAt told device.page pool catalog.schema heard low top replies
  pub closed : replies.is_open ≡ false → heard.rows ≡ []
  pub over : replies.is_open ≡ false → IsOver heard.ended replies.spool.hand
  pub halves : (text : ℕ) → low ≤ text → AreKept told device heard.ended replies.spool text
  pub texts : (text : ℕ) → low ≤ text → is_lost replies text ≡ false → HasEndings told device.page catalog.schema text (half_in replies text) heard.ended
