-- What a cursor has left of its list, and what its calls give.
use Rattle.std.specs.Prelude.{◌≡◌, ℕ, ◌+◌, ◌-◌, ◌/◌, ◌%◌, ◌<◌, ◌≤◌, ◌⊎◌, ◌&&◌, Bool, if◌then◌else◌, true, false, ⊤, List, [], ◌∷◌, nat_lt, nat_le, Option, Some, None, Result, Ok, Err, IfSome, IfOk, IfErr, OnOk, OnErr, MatchOption}
use Rattle.ghost_model.specs.forms.Runs as runs
use Rattle.ghost_model.specs.forms.Gaps.{are_codes, bytes_at, listed, listed_from, reading_of, told_by}
use Rattle.edge_traits.specs.Devices.{Device, KeepsPages, first_deep_page, next_if}
use Rattle.page_pool.specs.Pools.{Pool, ChangesPage, page_at}
use Rattle.flash_pages.specs.declared.cursor.RunCursor.{RunCursor}
use Rattle.flash_pages.specs.declared.fault.PageFault.{PageFault}
use Rattle.flash_pages.specs.declared.fault.PageFault.TheVariants.{Flash, Damaged}
use Rattle.ghost_base.specs.Runs.{run_of}
use Rattle.flash_pages.specs.Faults.{BlamesNoSlot}
use Rattle.flash_pages.specs.Runs.{HasRun}
use Rattle.flash_pages.specs.Reads.{CanRead, FaultTells, WasGiven, WasListed, must_read, page_after}

-- the page of the next identifier
abbrev pub page_next : RunCursor → ℕ
page_next cursor = runs.page_of (run_of cursor.list.run) cursor.place

-- the identifier of a number that the pages have in a cursor's list
abbrev pub id_in : (ℕ → List ℕ) → RunCursor → (i : ℕ) → ℕ
id_in page cursor i = listed page (run_of cursor.list.run) cursor.list.first i

-- the identifiers that the pages have for the rest of the list
abbrev pub ids_left : (ℕ → List ℕ) → RunCursor → List ℕ
ids_left page cursor = listed_from page (run_of cursor.list.run) cursor.list.first cursor.at (cursor.list.count - cursor.at)

-- an identifier in range and order: above the last one, and one of the rows
pub record IsNext (cursor : RunCursor) (id : ℕ) : Type 0 where
  pub above : cursor.last < id
  pub within : id ≤ cursor.rows

-- the cursor stands where it stood
pub record StandsAt (before now : RunCursor) : Type 0 where
  pub at : now.at ≡ before.at
  pub place : now.place ≡ before.place
  pub last : now.last ≡ before.last

-- it is a cursor over the same list, with the same lease
pub record SameList (before now : RunCursor) : Type 0 where
  pub list : now.list ≡ before.list
  pub rows : now.rows ≡ before.rows
  pub lease : now.lease ≡ before.lease

-- what `next` gives, by the bytes of the pages: the end, the next identifier, or the slot that is out of range or order
pub record GivesId (page : ℕ → List ℕ) (before now : RunCursor) (id : ℕ) : Type 0 where
  pub left : ids_left page before ≡ id ∷ ids_left page now
  pub is_next : IsNext before id
  pub last : now.last ≡ id

pub record GivesDamage (page : ℕ → List ℕ) (before : RunCursor) (at place found : ℕ) : Type 0 where
  pub within : at < before.list.count
  pub found_is : found ≡ runs.found_in (bytes_at page (run_of before.list.run) place)
  pub not_next : IsNext before (id_in page before at) → ⊥

abbrev pub GivesNext : (ℕ → List ℕ) → RunCursor → RunCursor → Result (Option ℕ) PageFault → Type 0
GivesNext page before now (Ok None) = ids_left page before ≡ []
GivesNext page before now (Ok (Some id)) = GivesId page before now id
GivesNext page before now (Err Flash) = ⊤
GivesNext page before now (Err (Damaged number slot found)) = GivesDamage page before before.at before.place found

-- A fault leaves the cursor where it stood. A slot that is blamed is that of an identifier of the list; what a read from that
-- count of calls on gave there tells one that is out of range or order, or none.
pub record BlamesSlot (since : ℕ) (device : Device) (before : RunCursor) (at place number slot found : ℕ) : Type 0 where
  pub within : at < before.list.count
  pub page : number ≡ runs.page_of (run_of before.list.run) place
  pub slot_is : slot ≡ runs.slot_of (run_of before.list.run) place
  pub bytes : List ℕ
  pub read : WasListed since device (run_of before.list.run) place bytes
  pub found_is : found ≡ runs.found_in bytes
  pub not_next : IsNext before (told_by (run_of before.list.run) place before.last bytes) → ⊥

abbrev pub BlamesNext : (since : ℕ) → Device → RunCursor → {T : Type 0} → Result T PageFault → Type 0
BlamesNext since device before (Ok answer) = ⊤
BlamesNext since device before (Err Flash) = ⊤
BlamesNext since device before (Err (Damaged number slot found)) = BlamesSlot since device before before.at before.place number slot found

-- whether the next call reads a page
abbrev pub will_read : Pool → RunCursor → Bool
will_read pool cursor = nat_lt cursor.at cursor.list.count && must_read pool cursor.lease (page_next cursor)

-- What `pass` gives where it goes on: all identifiers up to one of the list that is below the bound. Records before it are not
-- looked at; codes are, and not judged.
pub record Passes (before now : RunCursor) (bound : ℕ) : Type 0 where
  pub further : before.at < now.at
  pub within : now.at ≤ before.list.count
  pub above : before.last < now.last
  pub below : now.last < bound
  pub rows : now.last ≤ before.rows

-- the last record of the list in the page of the next one
pub record IsLastInPage (cursor : RunCursor) (at : ℕ) : Type 0 where
  pub from : cursor.at ≤ at
  pub within : at < cursor.list.count
  pub same_page : runs.page_of (run_of cursor.list.run) (cursor.list.first + at) ≡ page_next cursor
  pub last :
      (later : ℕ) → at < later → later < cursor.list.count
      → runs.page_of (run_of cursor.list.run) (cursor.list.first + later) ≡ page_next cursor → ⊥

-- by the bytes of the pages, that record has an identifier that is not below the bound
pub record Reaches (page : ℕ → List ℕ) (cursor : RunCursor) (bound : ℕ) : Type 0 where
  pub at : ℕ
  pub last : IsLastInPage cursor at
  pub reaches : bound ≤ runs.id_at page (run_of cursor.list.run) (cursor.list.first + at)

-- by the bytes of the pages, the last identifier passed is the cursor's last one
abbrev pub PassesTo : (ℕ → List ℕ) → RunCursor → Type 0
PassesTo page now = now.last ≡ id_in page now (now.at - 1)

-- by the bytes of the pages, a cursor over codes passes all in the page of the next one that are below the bound, up to the first
-- that is out of range or order
pub data StopsAtCode (page : ℕ → List ℕ) (before now : RunCursor) (bound : ℕ) : Type 0 where
  AtEnd : now.at ≡ now.list.count → StopsAtCode page before now bound
  AtPage : (page_next now ≡ page_next before → ⊥) → StopsAtCode page before now bound
  AtBound : bound ≤ id_in page now now.at → StopsAtCode page before now bound
  AtDamage : (IsNext now (id_in page now now.at) → ⊥) → StopsAtCode page before now bound

pub record BlamesLater (since : ℕ) (device : Device) (before : RunCursor) (number slot found : ℕ) : Type 0 where
  pub at : ℕ
  pub from : before.at ≤ at
  pub blames : BlamesSlot since device before at (before.list.first + at) number slot found

-- a slot that `pass` blames, some record of the list from the next one on; over codes it blames none
abbrev pub BlamesPassed : (since : ℕ) → Device → RunCursor → {T : Type 0} → Result T PageFault → Type 0
BlamesPassed since device before (Ok answer) = ⊤
BlamesPassed since device before (Err Flash) = ⊤
BlamesPassed since device before (Err (Damaged number slot found)) = BlamesLater since device before number slot found

pub record HasDamage (page : ℕ → List ℕ) (before : RunCursor) (found : ℕ) : Type 0 where
  pub at : ℕ
  pub from : before.at ≤ at
  pub damage : GivesDamage page before at (before.list.first + at) found

-- the same by the bytes of the pages
abbrev pub GivesPassed : (ℕ → List ℕ) → RunCursor → {T : Type 0} → Result T PageFault → Type 0
GivesPassed page before (Ok answer) = ⊤
GivesPassed page before (Err Flash) = ⊤
GivesPassed page before (Err (Damaged number slot found)) = HasDamage page before found

-- a page of a run
pub record IsPageOf (run : runs.Run) (number : ℕ) : Type 0 where
  pub place : ℕ
  pub within : place < run.count
  pub is : number ≡ runs.page_of run place

-- what a list may be read from: records that begin with an identifier, or single bytes that are codes
pub data IsListWidth (width : ℕ) : Type 0 where
  Codes : width ≡ 1 → IsListWidth width
  Records : 4 ≤ width → IsListWidth width

-- Where a cursor stands in its run: at the record of the next identifier, or at its code; where pages are told reading the list gets
-- there.
pub record StandsInRun (told : Bool) (page : ℕ → List ℕ) (cursor : RunCursor) : Type 0 where
  pub record_is : 4 ≤ cursor.list.run.width → cursor.place ≡ cursor.list.first + cursor.at
  pub within : cursor.at < cursor.list.count → cursor.place < cursor.list.run.count
  pub reading :
      told ≡ true → reading_of page (run_of cursor.list.run) cursor.list.first cursor.at ≡ Some (record { place = cursor.place; last = cursor.last })

-- a call may be made: the device has the run, the list lies in it, the buffer's page is one of the run, and stands there
pub record IsReady (told : Bool) (device : Device) (pool : Pool) (cursor : RunCursor) : Type 0 where
  pub run : HasRun device (run_of cursor.list.run)
  pub width : IsListWidth cursor.list.run.width
  pub list : cursor.list.first + cursor.list.count ≤ cursor.list.run.count
  pub at : cursor.at ≤ cursor.list.count
  pub stands : StandsInRun told device.page cursor
  pub page : IfSome (page_at pool cursor.lease) (IsPageOf (run_of cursor.list.run))
  pub buffer : CanRead told device pool cursor.lease

-- How many pages are still to be read: the one of the next identifier, if it does not stand in the buffer, and those behind it, of
-- records up to that of the last one, of codes at most so many as take 682 each, as many as one has room for.
abbrev pub page_last : RunCursor → ℕ
page_last cursor = runs.page_of (run_of cursor.list.run) (cursor.list.first + (cursor.list.count - 1))

abbrev pub codes_here : (place : ℕ) → ℕ
codes_here place = (2048 - place % 2048) / 3

abbrev pub pages_behind : RunCursor → ℕ
pages_behind cursor =
    if are_codes (run_of cursor.list.run) then (((cursor.list.count - cursor.at) - codes_here cursor.place) + 681) / 682
    else page_last cursor - page_next cursor

abbrev pub unread_list : Pool → RunCursor → ℕ
unread_list pool cursor = pages_behind cursor + (if will_read pool cursor then 1 else 0)

-- a page that is read is no more to be read; one with which the flash failed still is
abbrev pub LeavesUnread : (reads : Bool) → (unread left : ℕ) → {T : Type 0} → Result T PageFault → Type 0
LeavesUnread reads unread left (Ok answer) = left + (if reads then 1 else 0) ≤ unread
LeavesUnread reads unread left (Err Flash) = left ≤ unread
LeavesUnread reads unread left (Err (Damaged number slot found)) = left + (if reads then 1 else 0) ≤ unread

-- What a call of a cursor says of the device and of the buffer: one page is read at most, that of the next record or code, and none
-- at the end of the list.
pub record CursorReads {T : Type 0} (told : Bool) (before now : Device) (pool later : Pool) (cursor : RunCursor) (result : Result T PageFault) : Type 0 where
  pub kept : KeepsPages before now
  pub calls : now.calls ≡ next_if (will_read pool cursor) before.calls
  pub at_most : now.calls ≤ before.calls + 1
  pub deep_reads : now.deep_reads ≡ next_if (will_read pool cursor && nat_le first_deep_page (page_next cursor)) before.deep_reads
  pub no_fault : OnOk result (now.faults ≡ before.faults)
  pub fault : IfErr result (FaultTells before now (will_read pool cursor ≡ true))
  pub buffer : ChangesPage pool later cursor.lease
  pub holds : cursor.at < cursor.list.count → page_at later cursor.lease ≡ page_after result (page_next cursor)
  pub rests : cursor.at ≡ cursor.list.count → later ≡ pool
  pub ready : CanRead told now later cursor.lease
  pub given : (since : ℕ) → since ≤ before.calls → WasGiven since before pool cursor.lease → WasGiven since now later cursor.lease

-- What `next` makes of its cursor, whatever the pages have: it takes one identifier, which is in range and order, and
-- stands where it stood at the end of the list and after a fault. The next call may be made.
pub record TakesNext (told : Bool) (device : Device) (pool : Pool) (before now : RunCursor) (result : Result (Option ℕ) PageFault) : Type 0 where
  pub step :
      IfOk result (λ next.
      MatchOption next ((before.at ≡ before.list.count) × (now ≡ before)) (λ _. (before.at < before.list.count) × (now.at ≡ before.at + 1)))
  pub in_order : IfOk result (λ next. IfSome next (λ id. IsNext before id × (now.last ≡ id)))
  pub fault : OnErr result (now ≡ before)
  pub ready : IsReady told device pool now
  pub same : SameList before now

-- What `pass` gives, by the bytes of the pages: where it passes identifiers, the last one; where it passes no record, the end of the
-- list or an identifier that is not below the bound; where it stops before a code; or a slot that is out of range or order.
pub record GivesPass (page : ℕ → List ℕ) (before now : RunCursor) (bound : ℕ) (result : Result Bool PageFault) : Type 0 where
  pub gives : IfOk result (λ passed. passed ≡ true → PassesTo page now)
  pub ends :
      4 ≤ before.list.run.width
      → IfOk result (λ passed. passed ≡ false → (before.at ≡ before.list.count) ⊎ Reaches page before bound)
  pub stops : before.list.run.width ≡ 1 → OnOk result (StopsAtCode page before now bound)
  pub damage : GivesPassed page before result

-- What it makes of its cursor, whatever the pages have: it passes all records of the list in the page of the next one, or codes of it,
-- or stands where it stood.
pub record PassesOver (told : Bool) (device : Device) (pool : Pool) (before now : RunCursor) (bound : ℕ) (result : Result Bool PageFault) : Type 0 where
  pub passes : IfOk result (λ passed. passed ≡ true → Passes before now bound)
  pub whole : 4 ≤ before.list.run.width → IfOk result (λ passed. passed ≡ true → IsLastInPage before (now.at - 1))
  pub stays : IfOk result (λ passed. passed ≡ false → now ≡ before)
  pub fault : OnErr result (now ≡ before)
  pub blames_none : before.list.run.width ≡ 1 → BlamesNoSlot result
  pub ready : IsReady told device pool now
  pub same : SameList before now
