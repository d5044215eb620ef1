-- What a merge gives, as a list that is being written: where it lies, which leases are held, and what the list has so far.
use Rattle.std.specs.Prelude.{◌≡◌, ℕ, ◌+◌, ◌-◌, ◌*◌, ◌/◌, ◌%◌, ◌^◌, ◌<◌, ◌≤◌, ◌⊎◌, ◌↔◌, ◌++◌, Bool, true, false, ⊤, List, [], ◌∷◌, length, map, get_or, Option, Some, None, Result, Ok, Err}
use Rattle.ghost_model.specs.forms.Runs as runs
use Rattle.ghost_base.specs.declared.runs.Run.{Run}
use Rattle.ghost_base.specs.declared.runs.ListRef.{ListRef}
use Rattle.ghost_base.specs.Runs.{run_of}
use Rattle.edge_traits.specs.Devices.{Device, KeepsPages, ChangesOnly}
use Rattle.page_pool.specs.Pools.{Pool, AreOut, KeepsOthers, others_out}
use Rattle.flash_pages.specs.declared.fault.PageFault.{PageFault}
use Rattle.flash_pages.specs.declared.fault.PageFault.TheVariants.{Flash, Damaged}
use Rattle.flash_pages.specs.Writing.{IsEntered}
use Rattle.flash_pages.specs.Writers.{HasPut, next_page}
use Rattle.flash_pages.specs.Cursors.{id_in}
use Rattle.flash_pages.specs.declared.cursor.RunCursor.{RunCursor}
use Rattle.id_merge.specs.declared.cursor.Cursor.{Cursor}
use Rattle.id_merge.specs.declared.cursor.Cursor.TheVariants.{List as OfList, Range}
use Rattle.id_merge.specs.declared.merge.Merge.{Merge}
use Rattle.id_merge.specs.declared.merge.Step.{Step}
use Rattle.id_merge.specs.declared.merge.Step.TheVariants.{More, Found, End}
use Rattle.id_merge.specs.Since.{Since, IsSince}
use Rattle.id_merge.specs.Cursors.{cursor_at, leases_of, AreRight, AllAtMost, AllGiven}
use Rattle.id_merge.specs.Merges.{CanMerge, Remains, unread, at_hand}
pub use Rattle.id_merge.specs.Spared.{LiesOutside, AllOutside}
use Rattle.spill_pass.specs.declared.merging.MergeInto.{MergeInto}

-- the pages of an area for so many identifiers: whole blocks
abbrev pub area_pages : (rows : ℕ) → ℕ
area_pages rows = 64 * ((runs.pages_of rows 4 + 63) / 64)

-- an area on a device, from the first page of a block on
pub record IsArea (device : Device) (first rows : ℕ) : Type 0 where
  pub block : first % 64 ≡ 0
  pub there : first + area_pages rows ≤ device.page_count
  pub small : device.page_count < 2 ^ 32

-- the page after the area that the list is written into
abbrev pub area_end : MergeInto → ℕ
area_end into = into.writer.filler.first + area_pages into.rows

-- the lease of the writer, and those of the lists
abbrev pub leases_held : MergeInto → List ℕ
leases_held into = into.writer.lease ∷ leases_of into.merge.cursors.items

-- a cursor is over one of some lists, for identifiers of the rows
pub record IsOver (some : ListRef → Type 0) (rows : ℕ) (run : RunCursor) : Type 0 where
  pub list : some run.list
  pub rows_are : run.rows ≡ rows

abbrev pub CursorOver : (some : ListRef → Type 0) (rows : ℕ) → Cursor → Type 0
CursorOver some rows (OfList run) = IsOver some rows run
CursorOver some rows (Range first last) = ⊤

abbrev pub AllOver : (some : ListRef → Type 0) (rows : ℕ) → List Cursor → Type 0
AllOver some rows cursors = (i : ℕ) → CursorOver some rows (cursor_at cursors i)

-- one of some cursors is over the same list, for the same rows
pub record IsAmong (cursors : List Cursor) (run : RunCursor) : Type 0 where
  pub at : ℕ
  pub other : RunCursor
  pub is : cursor_at cursors at ≡ OfList other
  pub list : run.list ≡ other.list
  pub rows : run.rows ≡ other.rows

abbrev pub CursorAmong : List Cursor → Cursor → Type 0
CursorAmong cursors (OfList run) = IsAmong cursors run
CursorAmong cursors (Range first last) = ⊤

-- no list is among them that was not
abbrev pub NoOthers : (old new : List Cursor) → Type 0
NoOthers old new = (i : ℕ) → CursorAmong old (cursor_at new i)

-- how much is to do: the pages to be read, and the identifiers that may be found
abbrev pub left_of : Pool → MergeInto → ℕ
left_of pool into = unread pool into.merge + at_hand into.merge

-- how many calls of the flash may be made until the list stands: one a page that is read, and two a page that is written
abbrev pub calls_left : Pool → MergeInto → ℕ
calls_left pool into = unread pool into.merge + 2 * (runs.pages_of into.rows 4 - into.writer.filler.pages)

-- a merge may be written: its lists lie outside of the area, and it gives no identifier above the rows
pub record CanBegin (told : Bool) (device : Device) (pool : Pool) (merge : Merge) (first rows lease : ℕ) : Type 0 where
  pub step : CanMerge told device pool merge
  pub leases : AreOut pool (lease ∷ leases_of merge.cursors.items)
  pub at_most : AllAtMost rows merge.cursors.items
  pub within : merge.last ≤ rows
  pub area : IsArea device first rows
  pub outside : AllOutside first (first + area_pages rows) merge.cursors.items

-- there is room for what may be found: no more is written than the merge came to, or there is room for all that is at hand
abbrev pub HasRoom : MergeInto → Type 0
HasRoom into = (into.writer.filler.count ≤ into.merge.last) ⊎ (into.writer.filler.count + at_hand into.merge ≤ into.rows)

-- a step may be made: no more is written than there are rows
pub record IsMerging (told : Bool) (device : Device) (pool : Pool) (into : MergeInto) : Type 0 where
  pub can : CanBegin told device pool into.merge into.writer.filler.first into.rows into.writer.lease
  pub width : into.writer.filler.width ≡ 4
  pub erase : into.writer.filler.erase ≡ true
  pub count : into.writer.filler.count ≤ into.rows
  pub entered : IsEntered device (next_page into.writer.filler) true

-- an identifier is one of some
pub record IsOneOf (ids : List ℕ) (id : ℕ) : Type 0 where
  pub at : ℕ
  pub within : at < length ids
  pub is : id ≡ get_or ids at 0

abbrev pub AreAscending : (ids : List ℕ) → Type 0
AreAscending ids = (i j : ℕ) → i < j → j < length ids → get_or ids i 0 < get_or ids j 0

-- where pages are told: what a merge had still to give when it began, by right pages, is in the list so far or still to be
-- given. The list ascends, up to what was given last, and stands behind what was written earlier
pub record Gathers (told : Bool) (right : ℕ → List ℕ) (merge : Merge) (earlier : List ℕ) (page : ℕ → List ℕ) (pool : Pool) (into : MergeInto) : Type 0 where
  pub ids : List ℕ
  pub put : HasPut told page pool into.writer (map runs.number_cell (earlier ++ ids))
  pub ascending : AreAscending ids
  pub below : (i : ℕ) → i < length ids → get_or ids i 0 ≤ into.merge.last
  pub all : (id : ℕ) → (IsOneOf ids id ⊎ Remains right into.merge id) ↔ Remains right merge id
  pub lists : AreRight page right into.merge.cursors.items

-- the list has exactly what the merge had to give when it began, ascending
pub record IsListOf (right : ℕ → List ℕ) (merge : Merge) (page : ℕ → List ℕ) (run : Run) : Type 0 where
  pub ids : List ℕ
  pub stores : runs.Stores page (run_of run) (map runs.number_cell ids)
  pub ascending : AreAscending ids
  pub all : (id : ℕ) → IsOneOf ids id ↔ Remains right merge id

abbrev pub GivesList : (told : Bool) (right : ℕ → List ℕ) → Merge → (page : ℕ → List ℕ) → Pool → MergeInto → Result (Option Run) PageFault → Type 0
GivesList told right merge page pool into (Ok None) = Gathers told right merge [] page pool into
GivesList told right merge page pool into (Ok (Some run)) = IsListOf right merge page run
GivesList told right merge page pool into (Err fault) = ⊤

-- after a step of the merge: what it had is in the list so far or still to be given, and nothing is where it answers the end
pub record GathersAll (told : Bool) (right : ℕ → List ℕ) (merge : Merge) (earlier : List ℕ) (page : ℕ → List ℕ) (pool : Pool) (into : MergeInto) : Type 0 where
  pub gathers : Gathers told right merge earlier page pool into
  pub none : (id : ℕ) → Remains right into.merge id → ⊥

abbrev pub AdvanceGives : (told : Bool) (right : ℕ → List ℕ) → Merge → (earlier : List ℕ) (page : ℕ → List ℕ) → Pool → MergeInto → Result Bool PageFault → Type 0
AdvanceGives told right merge earlier page pool into (Ok true) = Gathers told right merge earlier page pool into
AdvanceGives told right merge earlier page pool into (Ok false) = GathersAll told right merge earlier page pool into
AdvanceGives told right merge earlier page pool into (Err fault) = ⊤

-- the calls that a step of a merge made
abbrev pub step_calls : Result Step PageFault → ℕ
step_calls (Ok More) = 1
step_calls (Ok (Found id)) = 0
step_calls (Ok End) = 0
step_calls (Err Flash) = 1
step_calls (Err (Damaged page slot found)) = 0

-- the list lies at the beginning of its area, and has no more identifiers than there are rows
pub record IsPlaced (into : MergeInto) (run : Run) : Type 0 where
  pub first : run.first ≡ into.writer.filler.first
  pub width : run.width ≡ 4
  pub count : run.count ≤ into.rows

-- it is over the same list for the same rows, with the same lease, or is the same range
abbrev pub SameList : (old new : Cursor) → Type 0
SameList (OfList old) (OfList new) = (new.list ≡ old.list) × ((new.rows ≡ old.rows) × (new.lease ≡ old.lease))
SameList (OfList old) (Range low high) = ⊥
SameList (Range low high) new = new ≡ Range low high

-- what is done whatever the answer: of the pages only those of the area changed, of the buffers only those of the leases held,
-- which are still held
pub record Goes (told : Bool) (before now : Device) (pool later : Pool) (old new : MergeInto) : Type 0 where
  pub changes : ChangesOnly old.writer.filler.first (area_end old) before now
  pub out : later.out ≡ pool.out
  pub others : KeepsOthers (others_out pool (leases_held old)) pool later
  pub held : leases_held new ≡ leases_held old
  pub still : AreOut later (leases_held new)
  pub given : (since : Since) → IsSince told before since → AllGiven since before pool old.merge.cursors.items → AllGiven since now later new.merge.cursors.items
  pub same : (i : ℕ) → SameList (cursor_at old.merge.cursors.items i) (cursor_at new.merge.cursors.items i)
  pub outside : (low high : ℕ) → AllOutside low high old.merge.cursors.items → AllOutside low high new.merge.cursors.items
  pub count : length new.merge.cursors.items ≡ length old.merge.cursors.items
  pub first : new.writer.filler.first ≡ old.writer.filler.first
  pub rows : new.rows ≡ old.rows

-- the lists have the same identifiers on other pages
abbrev pub SameIds : (page now : ℕ → List ℕ) → Cursor → Type 0
SameIds page now (OfList run) = (i : ℕ) → i < run.list.count → id_in now run i ≡ id_in page run i
SameIds page now (Range first last) = ⊤

abbrev pub KeepsIds : (page now : ℕ → List ℕ) → List Cursor → Type 0
KeepsIds page now cursors = (i : ℕ) → SameIds page now (cursor_at cursors i)

-- no more calls were made, and no more of them deep reads, than a number
pub record MadeAtMost (most : ℕ) (before now : Device) : Type 0 where
  pub calls : now.calls ≤ before.calls + most
  pub deep_reads : now.deep_reads ≤ before.deep_reads + most

-- what was called by the pages themselves: one call a page that was read, and two a page that was written
pub record WentByPages (before now : ℕ) (pool later : Pool) (old new : MergeInto) : Type 0 where
  pub further : old.writer.filler.pages ≤ new.writer.filler.pages
  pub calls : now + unread later new.merge ≤ before + unread pool old.merge + 2 * (new.writer.filler.pages - old.writer.filler.pages)

-- what was called until the list stood, on as many pages as its identifiers take: one call a page that was read, and two a page that was written
pub record DoneByPages (before now : ℕ) (pool : Pool) (old : MergeInto) (run : Run) : Type 0 where
  pub further : old.writer.filler.pages ≤ runs.pages_of run.count 4
  pub calls : now ≤ before + unread pool old.merge + 2 * (runs.pages_of run.count 4 - old.writer.filler.pages)

-- what is counted in a turn after which there is more to do: the calls so far, before it and now
pub record WentOn (told : Bool) (device : Device) (before now : ℕ) (pool later : Pool) (old new : MergeInto) : Type 0 where
  pub ready : IsMerging told device later new
  pub fewer : left_of later new < left_of pool old
  pub spent : now + calls_left later new ≤ before + calls_left pool old
  pub by_pages : WentByPages before now pool later old new
  pub unions : new.merge.unions ≡ old.merge.unions
  pub written : old.writer.filler.count ≤ new.writer.filler.count
  pub room : new.writer.filler.count + at_hand new.merge ≤ old.writer.filler.count + at_hand old.merge

-- what is counted where the merge has nothing left: no call was made, and no more is written
pub record CameToEnd (told : Bool) (device later_device : Device) (before now : ℕ) (pool later : Pool) (old new : MergeInto) : Type 0 where
  pub ready : IsMerging told later_device later new
  pub none : now ≡ before
  pub calls : later_device.calls ≡ device.calls
  pub deep_reads : later_device.deep_reads ≡ device.deep_reads
  pub kept : KeepsPages device later_device
  pub writer : new.writer ≡ old.writer
  pub unions : new.merge.unions ≡ old.merge.unions
  pub fewer : left_of later new ≤ left_of pool old
  pub spent : calls_left later new ≤ calls_left pool old
  pub written : old.writer.filler.count ≤ new.writer.filler.count
  pub room : new.writer.filler.count + at_hand new.merge ≤ old.writer.filler.count + at_hand old.merge

abbrev pub AdvanceTells : (told : Bool) (device later_device : Device) (before now : ℕ) (pool later : Pool) (old new : MergeInto) → Bool → Type 0
AdvanceTells told device later_device before now pool later old new true = WentOn told later_device before now pool later old new
AdvanceTells told device later_device before now pool later old new false = CameToEnd told device later_device before now pool later old new

-- the list stands
pub record ListDone (before now : ℕ) (pool : Pool) (old : MergeInto) (run : Run) : Type 0 where
  pub placed : IsPlaced old run
  pub spent : now ≤ before + calls_left pool old
  pub by_pages : DoneByPages before now pool old run

abbrev pub TurnTells : (told : Bool) (device : Device) (before now : ℕ) (pool later : Pool) (old new : MergeInto) → Option Run → Type 0
TurnTells told device before now pool later old new None = WentOn told device before now pool later old new
TurnTells told device before now pool later old new (Some run) = ListDone before now pool old run

-- what is spent of the calls that may be made: a fault may cost one more
abbrev pub Spends : (before now : ℕ) (pool later : Pool) (old new : MergeInto) → Result (Option Run) PageFault → Type 0
Spends before now pool later old new (Ok None) = now + calls_left later new ≤ before + calls_left pool old
Spends before now pool later old new (Ok (Some run)) = now ≤ before + calls_left pool old
Spends before now pool later old new (Err fault) = now ≤ before + calls_left pool old + 1

-- what was called by the pages that were read and written, however many rows there are
abbrev pub SpendsByPages : (before now : ℕ) (pool later : Pool) (old new : MergeInto) → Result (Option Run) PageFault → Type 0
SpendsByPages before now pool later old new (Ok None) = WentByPages before now pool later old new
SpendsByPages before now pool later old new (Ok (Some run)) = DoneByPages before now pool old run
SpendsByPages before now pool later old new (Err fault) = ⊤
