-- The reply at hand, whose rows are written to the area of its table.
use Rattle.std.specs.Prelude.{◌≡◌, ℕ, ◌+◌, ◌%◌, ◌^◌, ◌<◌, ◌≤◌, Bool, true, List, length, IsTrue}
use Rattle.std.specs.List.{list_all}
use Rattle.ghost_model.specs.forms.Runs.{pages_of}
use Rattle.ghost_model.specs.forms.Layout.{in_blocks}
use Rattle.edge_traits.specs.Devices.{Device}
use Rattle.page_pool.specs.Pools.{Pool}
use Rattle.flash_pages.specs.Writing.{IsEntered}
use Rattle.flash_pages.specs.Writers.{HasPut, SameRun, next_page}
use Rattle.visible_spool.specs.declared.reply.Reply.{Reply}
use Rattle.visible_spool.specs.declared.hand.Hand.{Hand}
use Rattle.visible_spool.specs.Replies.{AreRows, id_of, is_narrow, kinds_of}

-- the page after an area with room for all rows of a table, of a width
abbrev pub area_end : Reply → ℕ
area_end reply = reply.run.first + in_blocks (pages_of reply.rows reply.run.width)

-- a reply may be written: it begins at a block, the device has its area, and its rows are those of an ask
pub record CanBegin (device : Device) (reply : Reply) : Type 0 where
  pub block : reply.run.first % 64 ≡ 0
  pub there : area_end reply ≤ device.page_count
  pub small : device.page_count < 2 ^ 32
  pub wide : 4 ≤ reply.run.width
  pub narrow : reply.run.width ≤ 1564
  pub most : reply.rows ≤ 1000000
  pub cells : reply.cells ≤ 24
  pub kinds : IsTrue (list_all is_narrow (kinds_of reply))

-- and more rows may
pub record CanPut (device : Device) (hand : Hand) : Type 0 where
  pub begins : CanBegin device hand.reply
  pub first : hand.writer.filler.first ≡ hand.reply.run.first
  pub width : hand.writer.filler.width ≡ hand.reply.run.width
  pub erase : hand.writer.filler.erase ≡ true
  pub few : hand.writer.filler.count ≤ hand.last
  pub within : hand.last ≤ hand.reply.rows
  pub entered : IsEntered device (next_page hand.writer.filler) true

-- these rows were put
pub record HasRows (told : Bool) (page : ℕ → List ℕ) (pool : Pool) (hand : Hand) (rows : List (List ℕ)) : Type 0 where
  pub put : HasPut told page pool hand.writer rows
  pub are : AreRows hand.reply.rows (kinds_of hand.reply) rows
  pub last : (place : ℕ) → place < length rows → id_of rows place ≤ hand.last

-- it is the same reply, with the same lease
pub record SameHand (before now : Hand) : Type 0 where
  pub table : now.table ≡ before.table
  pub reply : now.reply ≡ before.reply
  pub lease : now.writer.lease ≡ before.writer.lease
  pub run : SameRun before.writer.filler now.writer.filler

-- a reply that was ended: where it lies, and how many rows it has
pub record IsReplyOf (hand : Hand) (reply : Reply) : Type 0 where
  pub first : reply.run.first ≡ hand.writer.filler.first
  pub count : reply.run.count ≡ hand.writer.filler.count
  pub width : reply.run.width ≡ hand.writer.filler.width
  pub rows : reply.rows ≡ hand.reply.rows
  pub cells : reply.cells ≡ hand.reply.cells
  pub kinds : reply.kinds ≡ hand.reply.kinds
