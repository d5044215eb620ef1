-- The spool: what the session must keep, which row may be pushed, and what was pushed.
use Rattle.std.specs.Prelude.{◌≡◌, ℕ, ◌+◌, ◌^◌, ◌<◌, ◌≤◌, Bool, true, false, ◌==◌, ◌&&◌, List, [], length, map, get_or, Result, IfErr, OnErr, IsTrue, if◌then◌else◌}
use Rattle.std.specs.List.{list_all}
use Rattle.ghost_model.specs.forms.Runs.{number_in}
use Rattle.ghost_base.specs.Views.{kind_of}
use Rattle.ghost_base.specs.declared.kind.Kind.{Kind}
use Rattle.edge_traits.specs.Devices.{Device, ChangesOnly}
use Rattle.ghost_model.specs.core.Causes.{HasCause, Rose}
use Rattle.flash_pages.specs.declared.fault.PageFault.{PageFault}
use Rattle.page_pool.specs.Pools.{Pool, IsOut}
use Rattle.visible_spool.specs.declared.area.Area.{Area}
use Rattle.visible_spool.specs.declared.spool.Spool.{Spool}
use Rattle.visible_spool.specs.Replies.{IsFlash, is_narrow, kinds_of}
use Rattle.visible_spool.specs.Areas.{AreAreas, first_of, no_area}
use Rattle.visible_spool.specs.Sides.{Changes, side_of, is_marked, replies_of}
use Rattle.visible_spool.specs.Hands.{CanPut, HasRows}

-- whether the reply at hand is that of a text for a table
abbrev pub is_at : Spool → (text table : ℕ) → Bool
is_at spool text table = spool.hand.text == text && spool.hand.table == table

-- the identifier of the last row that was pushed for a table, 0 before the first
abbrev pub last_of : Spool → (text table : ℕ) → ℕ
last_of spool text table = if is_at spool text table then spool.hand.last else 0

-- how many pages of its reply were written
abbrev pub pages_written : Spool → (text table : ℕ) → ℕ
pages_written spool text table = if is_at spool text table then spool.hand.writer.filler.pages else 0

-- a table's area
abbrev pub area_at : Spool → (table : ℕ) → Area
area_at spool table = get_or spool.areas.items table no_area

-- the reply at hand is written to its area, in the half of its text, unless the text is marked
pub record IsHeld (device : Device) (spool : Spool) : Type 0 where
  pub there : spool.hand.table < length spool.areas.items
  pub holder : (side_of spool.sides spool.hand.text).text ≡ spool.hand.text
  pub first : spool.hand.reply.run.first ≡ first_of (area_at spool spool.hand.table) spool.hand.text
  pub rows : spool.hand.reply.rows ≡ (area_at spool spool.hand.table).rows
  pub visible : 4 < (area_at spool spool.hand.table).width
  pub wide : 4 ≤ spool.hand.reply.run.width
  pub width : spool.hand.reply.run.width ≤ (area_at spool spool.hand.table).width
  pub can : is_marked spool.sides spool.hand.text ≡ false → CanPut device spool.hand

-- what holds between the calls
pub record IsSpooling (device : Device) (pool : Pool) (spool : Spool) : Type 0 where
  pub out : IsOut pool spool.hand.writer.lease
  pub areas : AreAreas device spool.areas.items
  pub few : length spool.areas.items ≤ 12
  pub small : device.page_count < 2 ^ 32
  pub hand : (spool.hand.text ≡ 0 → ⊥) → IsHeld device spool

-- cells of these kinds may come for a table, in rows of so many bytes
pub record IsAsked (spool : Spool) (text table : ℕ) (kinds : List Kind) (width : ℕ) : Type 0 where
  pub some : 0 < text
  pub there : table < length spool.areas.items
  pub visible : 4 < (area_at spool table).width
  pub wide : 4 ≤ width
  pub fits : width ≤ (area_at spool table).width
  pub narrow_row : width ≤ 1564
  pub few : length kinds ≤ 24
  pub narrow : IsTrue (list_all is_narrow (map kind_of kinds))
  pub same_kinds : is_at spool text table ≡ true → kinds_of spool.hand.reply ≡ map kind_of kinds
  pub same_width : is_at spool text table ≡ true → spool.hand.reply.run.width ≡ width

-- a row may be pushed: its identifier is above the last one, and one of the table's rows
pub record IsNextRow (spool : Spool) (text table : ℕ) (row : List ℕ) : Type 0 where
  pub above : last_of spool text table < number_in row 0
  pub within : number_in row 0 ≤ (area_at spool table).rows

-- a text's half is as it was, and so is what was ended of its replies
pub record KeepsSides (text : ℕ) (before now : Spool) : Type 0 where
  pub areas : now.areas ≡ before.areas
  pub lease : now.hand.writer.lease ≡ before.hand.writer.lease
  pub mark : is_marked now.sides text ≡ is_marked before.sides text
  pub replies : replies_of now.sides text ≡ replies_of before.sides text
  pub changes : Changes text before.sides now.sides

-- What a call that writes makes of the device: only pages from `low` on and below `high` change, by two calls at most. It
-- answers the flash alone, whose last call failed then, and was made.
pub record SpoolWrites {T : Type 0} (before now : Device) (low high : ℕ) (result : Result T PageFault) : Type 0 where
  pub others : ChangesOnly low high before now
  pub at_most : now.calls ≤ before.calls + 2
  pub deep_reads : now.deep_reads ≡ before.deep_reads
  pub cause : HasCause before.faults now.faults result
  pub last : OnErr result (now.since_fault ≡ 0)
  pub called : OnErr result (Rose before.calls now.calls)
  pub flash : IfErr result IsFlash

-- these rows were pushed for a table, as yet without `done`
abbrev pub PushedIf : Bool → (told : Bool) → (page : ℕ → List ℕ) → Pool → Spool → (rows : List (List ℕ)) → Type 0
PushedIf true told page pool spool rows = HasRows told page pool spool.hand rows
PushedIf false told page pool spool rows = rows ≡ []

abbrev pub HasPushed : (told : Bool) → (page : ℕ → List ℕ) → Pool → Spool → (text table : ℕ) → (rows : List (List ℕ)) → Type 0
HasPushed told page pool spool text table rows = PushedIf (is_at spool text table) told page pool spool rows
