-- What a reader of the static pages and of one half of the spool relies on, and what keeps it.
use Rattle.std.specs.Prelude.{◌≡◌, ◌≢◌, ℕ, ◌%◌, ◌^◌, ◌<◌, ◌≤◌, ◌⊎◌, Bool, true, List, IfSome}
use Rattle.ghost_model.specs.core.Channel.{Catalog}
use Rattle.ghost_model.specs.forms.Layout.{count_of, static_end}
use Rattle.ghost_base.specs.Runs.{run_of}
use Rattle.edge_traits.specs.Devices.{Device, KeepsPages, SamePage, ChangesOnly}
use Rattle.page_pool.specs.Pools.{Pool, page_at}
use Rattle.page_pool.specs.Laws.{KeepsOut, SameBuffer}
use Rattle.flash_pages.specs.Cursors.{IsPageOf}
use Rattle.flash_pages.specs.Reads.{CanRead, WasGiven}
use Rattle.visible_spool.specs.declared.area.Area.{Area}
use Rattle.visible_spool.specs.declared.reply.Reply.{Reply}
use Rattle.visible_spool.specs.declared.half.Half.{Half}
use Rattle.visible_spool.specs.Replies.{IsReadable, HoldsRows}
use Rattle.visible_spool.specs.Areas.{IsAreaOf, first_of, end_of, half_begin, half_end}
use Rattle.visible_spool.specs.Halves.{reply_of, no_half}
use Rattle.visible_spool.specs.Laws.{LiesWithin}

-- the replies lie in half 0 or 1
abbrev pub AreInHalf : Catalog → (side : ℕ) → (replies : Half) → Type 0
AreInHalf cat side replies = (table : ℕ) → table < 12 → LiesWithin (half_begin cat side) (half_end cat side) (reply_of replies table)

-- the device has as many pages, the static ones and those of a half are as they were, and what reads gave they gave
pub record SparesHalf (cat : Catalog) (side : ℕ) (before now : Device) : Type 0 where
  pub page_count : now.page_count ≡ before.page_count
  pub static : (number : ℕ) → number < static_end cat → SamePage before now number
  pub half : (number : ℕ) → half_begin cat side ≤ number → number < half_end cat side → SamePage before now number
  pub never_falls : before.calls ≤ now.calls
  pub gave : (at page : ℕ) (bytes : List ℕ) → before.gave at page bytes ≡ true → now.gave at page bytes ≡ true

-- pages have some rows for a reply
pub record HasSomeRows (page : ℕ → List ℕ) (reply : Reply) : Type 0 where
  pub rows : List (List ℕ)
  pub holds : HoldsRows page reply rows

-- what a job needs of the replies that it looks up in, whatever rows they have
pub record IsHalf (told : Bool) (cat : Catalog) (side : ℕ) (device : Device) (replies : Half) : Type 0 where
  pub readable : (table : ℕ) → table < 12 → IsReadable device (reply_of replies table)
  pub lies : AreInHalf cat side replies
  pub whole : told ≡ true → (table : ℕ) → table < 12 → HasSomeRows device.page (reply_of replies table)
  -- a reply that has a row may have as many as its table
  pub rows : (table : ℕ) → table < 12 → 0 < (reply_of replies table).run.count → (reply_of replies table).rows ≡ count_of cat table

-- a page of one of the replies, and a page that a job may hold in a buffer
pub record IsInReplies (replies : Half) (number : ℕ) : Type 0 where
  pub table : ℕ
  pub there : table < 12
  pub page : IsPageOf (run_of (reply_of replies table).run) number

abbrev pub Uses : Catalog → (replies : Half) → (number : ℕ) → Type 0
Uses cat replies number = (number < static_end cat) ⊎ IsInReplies replies number

-- where nothing happened, each half is spared
abbrev pub NothingSparesHalves : Type 0
NothingSparesHalves = (cat : Catalog) (side : ℕ) (device : Device) → SparesHalf cat side device device

-- a reader spares each half, and what spares it, one after another, does
abbrev pub ReadersSpareHalves : Type 0
ReadersSpareHalves = (cat : Catalog) (side : ℕ) (before now : Device) → KeepsPages before now → SparesHalf cat side before now

abbrev pub HalvesStaySpared : Type 0
HalvesStaySpared =
    (cat : Catalog) (side : ℕ) (first before now : Device) → SparesHalf cat side first before → SparesHalf cat side before now
    → SparesHalf cat side first now

-- what is written for a text spares the half of the others
abbrev pub WritesSpareTheOther : Type 0
WritesSpareTheOther =
    (cat : Catalog) (side table : ℕ) (area : Area) (text : ℕ) (before now : Device) → side < 2 → side ≢ text % 2 → 4 < area.width
    → IsAreaOf cat table area → ChangesOnly (first_of area text) (end_of area text) before now → SparesHalf cat side before now

-- a reply there may be read as before, and has its rows
abbrev pub SparedRepliesStay : Type 0
SparedRepliesStay =
    (cat : Catalog) (side : ℕ) (before now : Device) (reply : Reply) → SparesHalf cat side before now → IsReadable before reply → IsReadable now reply

abbrev pub SparedRowsStay : Type 0
SparedRowsStay =
    (cat : Catalog) (side : ℕ) (before now : Device) (reply : Reply) (rows : List (List ℕ)) → SparesHalf cat side before now
    → LiesWithin (half_begin cat side) (half_end cat side) reply → HoldsRows before.page reply rows → HoldsRows now.page reply rows

abbrev pub SparedHalvesStay : Type 0
SparedHalvesStay =
    (told : Bool) (cat : Catalog) (side : ℕ) (before now : Device) (replies : Half) → SparesHalf cat side before now
    → IsHalf told cat side before replies → IsHalf told cat side now replies

-- no replies are those of each half
abbrev pub NoHalfIsHalf : Type 0
NoHalfIsHalf = (told : Bool) (cat : Catalog) (side : ℕ) (device : Device) → device.page_count < 2 ^ 32 → IsHalf told cat side device no_half

-- the pages that a job may hold are as they were, and so it may go on with its buffers
abbrev pub UsedPagesAreSpared : Type 0
UsedPagesAreSpared =
    (cat : Catalog) (side : ℕ) (before now : Device) (replies : Half) (number : ℕ) → SparesHalf cat side before now → AreInHalf cat side replies
    → Uses cat replies number → SamePage before now number

abbrev pub BuffersStayFilled : Type 0
BuffersStayFilled =
    (told : Bool) (cat : Catalog) (side : ℕ) (before now : Device) (replies : Half) (pool later : Pool) (lease : ℕ) → SparesHalf cat side before now
    → AreInHalf cat side replies → KeepsOut pool later → SameBuffer pool later lease → IfSome (page_at pool lease) (Uses cat replies)
    → CanRead told before pool lease → CanRead told now later lease

abbrev pub BuffersStayGiven : Type 0
BuffersStayGiven =
    (cat : Catalog) (side : ℕ) (before now : Device) (pool later : Pool) (lease since : ℕ) → SparesHalf cat side before now
    → SameBuffer pool later lease → WasGiven since before pool lease → WasGiven since now later lease
