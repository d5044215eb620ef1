-- What is heard of the reply at hand, and what that makes of the flash, the buffers and the marks.
use Rattle.std.specs.Prelude.{◌≡◌, ◌≢◌, ℕ, ◌+◌, ◌%◌, ◌≤◌, Bool, true, false, not, ◌&&◌, nat_lt, List, Some, None}
use Rattle.ghost_model.specs.core.Causes.{Rose}
use Rattle.ghost_model.specs.core.Channel.{Catalog}
use Rattle.ghost_model.specs.core.Asks.{NumberedAsk}
use Rattle.ghost_model.specs.core.NextMove.{Heard}
use Rattle.edge_traits.specs.Devices.{Device, ChangesOnly}
use Rattle.page_pool.specs.Pools.{Pool}
use Rattle.flash_pages.specs.Writers.{waits}
use Rattle.channel_pump.specs.Progress.{Tells}
use Rattle.channel_pump.specs.declared.state.Event.{Event}
use Rattle.channel_pump.specs.declared.state.Event.TheVariants as event_is
use Rattle.channel_pump.specs.Sessions.{asked_in, leads_on}
use Rattle.key_session.specs.Fits.{Fits}
use Rattle.visible_spool.specs.Areas.{half_begin, half_end}
use Rattle.visible_spool.specs.declared.spool.Spool.{Spool}
use Rattle.visible_spool.specs.Sides.{is_marked}
use Rattle.visible_spool.specs.Spools.{is_at, pages_written}
use Rattle.key_session.specs.Counting.{one_if}
use Rattle.key_session.specs.Kept.{IsKept, is_lost}
use Rattle.key_session.specs.declared.ask.AskAtHand.{AskAtHand}
use Rattle.key_session.specs.declared.replies.Replies.{Replies}

-- an event tells of what was heard before and after it; where an ask is awaited its reply was begun, and its text was not answered
pub record Hears (told : Bool) (device : Device) (pool : Pool) (catalog : Catalog) (page : List ℕ) (event : Event) (before after : Heard) (low top : ℕ) (replies : Replies) : Type 0 where
  pub kept : IsKept told device pool catalog before low top replies
  pub tells : Tells catalog page event before after
  pub same_ask : leads_on event ≡ false → asked_in after.awaits ≡ asked_in before.awaits
  pub greeting : event ≡ event_is.Welcome → asked_in before.awaits ≡ None
  pub fits : Fits catalog before
  pub begun : (asked : NumberedAsk) → asked_in before.awaits ≡ Some asked → (replies.is_open ≡ true) × (low ≤ asked.text)

pub record IsSomeHeard (told : Bool) (device : Device) (pool : Pool) (page : List ℕ) (event : Event) (replies : Replies) : Type 0 where
  pub catalog : Catalog
  pub before : Heard
  pub after : Heard
  pub low : ℕ
  pub top : ℕ
  pub hears : Hears told device pool catalog page event before after low top replies

-- A mark stays. Without a new one the count of faults is as before; a new one comes of a call that failed.
pub record MarkTells (before now : Device) (was is : Bool) : Type 0 where
  pub never_falls : before.faults ≤ now.faults
  pub stays : was ≡ true → is ≡ true
  pub same : is ≡ was → now.faults ≡ before.faults
  pub rose : was ≡ false → is ≡ true → Rose before.faults now.faults
  pub called : was ≡ false → is ≡ true → Rose before.calls now.calls

-- How many pages of the spool rows of the ask at hand are written to: the one that they fill, and one that could not be written,
-- which marks the text.
abbrev pub has_filled : AskAtHand → (old new : Spool) → Bool
has_filled hand old new = nat_lt (pages_written old hand.text hand.table) (pages_written new hand.text hand.table)

abbrev pub has_marked : AskAtHand → (old new : Spool) → Bool
has_marked hand old new = not (is_marked old.sides hand.text) && is_marked new.sides hand.text

abbrev pub pages_tried : AskAtHand → (old new : Spool) → ℕ
pages_tried hand old new = one_if (has_filled hand old new) + one_if (has_marked hand old new)

-- whether rows of the ask at hand wait for their page, which is written at the end of a reply; those of a text that is marked are
-- dropped
abbrev pub has_waiting : AskAtHand → (old : Spool) → Bool
has_waiting hand old = is_at old hand.text hand.table && (waits old.hand.writer.filler && not (is_marked old.sides hand.text))

-- How many pages of the spool an event completes of the ask at hand: rows fill one at most, and the end of a reply completes the
-- last, if rows wait for it. One that could not be written counts as well.
abbrev pub pages_on : Event → AskAtHand → (old new : Spool) → ℕ
pages_on event_is.Part hand old new = 0
pages_on event_is.Welcome hand old new = 0
pages_on (event_is.Rows _) hand old new = pages_tried hand old new
pages_on event_is.Done hand old new = one_if (has_waiting hand old)
pages_on (event_is.Sorry _) hand old new = 0
pages_on (event_is.Invalid _ _) hand old new = 0

-- only pages of the half of a text changed
abbrev pub WritesHalf : Catalog → (text : ℕ) → (before now : Device) → Type 0
WritesHalf catalog text before now = ChangesOnly (half_begin catalog (text % 2)) (half_end catalog (text % 2)) before now

-- what was heard for a text: only pages of its half changed, and no text that was not answered yet but this one has another mark
pub record HasHeard (catalog : Catalog) (low text : ℕ) (before now : Device) (old new : Replies) : Type 0 where
  pub writes : WritesHalf catalog text before now
  pub marks : (other : ℕ) → low ≤ other → other ≢ text → is_lost new other ≡ is_lost old other
