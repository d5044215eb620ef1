-- The places of lists that lie one behind another in a run.
use Rattle.std.specs.Prelude.{◌≡◌, ℕ, ◌+◌, ◌-◌, ◌^◌, ◌<◌, ◌≤◌, ◌++◌, ◌∷◌, ◌&&◌, ◌||◌, Bool, true, ⊤, List, [], length, get_or, nat_le, nat_lt, Option, Some, None, Result, Ok, Err, IfSome, IfOk, IfErr, OnOk, OnErr, MatchOption}
use Rattle.ghost_model.specs.forms.Runs as runs
use Rattle.ghost_base.specs.declared.runs.Run.{Run}
use Rattle.ghost_base.specs.declared.runs.ListRef.{ListRef}
use Rattle.ghost_base.specs.Runs.{run_of}
use Rattle.edge_traits.specs.Devices.{Device, KeepsPages, first_deep_page, next_if}
use Rattle.page_pool.specs.Pools.{Pool, ChangesPage, page_at}
use Rattle.flash_pages.specs.declared.fault.PageFault.{PageFault}
use Rattle.flash_pages.specs.declared.fault.PageFault.TheVariants.{Flash, Damaged}
use Rattle.flash_pages.specs.Runs.{HasRun}
use Rattle.flash_pages.specs.Cursors.{IsPageOf}
use Rattle.flash_pages.specs.Reads.{CanRead, FaultTells, WasGiven, WasRead, must_read, page_after}
use Rattle.spill_pass.specs.declared.places.PlaceReader.{PlaceReader}
use Rattle.spill_pass.specs.Lists.{IsOrdered, OutOfRowsIn}
use Rattle.spill_pass.specs.Sources.{Source}

-- the place that is read next
abbrev pub place_at : (page : ℕ → List ℕ) → PlaceReader → List ℕ
place_at page reader = runs.record_at page (run_of reader.places) reader.at

-- the next call reads a page
abbrev pub reads_place : Pool → PlaceReader → Bool
reads_place pool reader = nat_lt reader.at reader.places.count && must_read pool reader.lease (runs.page_of (run_of reader.places) reader.at)

-- a place that may come next: of a list that begins where the one before it ended, and ends within the run
pub record IsNextPlace (reader : PlaceReader) (place : List ℕ) : Type 0 where
  pub first : runs.number_in place 0 ≡ reader.next
  pub count : runs.number_in place 4 ≤ reader.lists.count - reader.next

-- the list that a place is of
pub record IsPlaceOf (place : List ℕ) (list : ListRef) : Type 0 where
  pub first : list.first ≡ runs.number_in place 0
  pub count : list.count ≡ runs.number_in place 4

-- by the bytes of the pages, the place that is read next may not come next
pub record IsDamagedPlace (page : ℕ → List ℕ) (before : PlaceReader) : Type 0 where
  pub more : before.at < before.places.count
  pub not_next : IsNextPlace before (place_at page before) → ⊥

-- by the bytes of the pages: the list of the next place, or that this place may not come next
abbrev pub GivesPlace : (page : ℕ → List ℕ) → PlaceReader → Result (Option ListRef) PageFault → Type 0
GivesPlace page before (Ok None) = ⊤
GivesPlace page before (Ok (Some list)) = IsPlaceOf (place_at page before) list
GivesPlace page before (Err Flash) = ⊤
GivesPlace page before (Err (Damaged number slot found)) = IsDamagedPlace page before

-- whatever the pages hold: a list that begins where the one before it ended, and ends within the run
pub record IsNextList (before now : PlaceReader) (list : ListRef) : Type 0 where
  pub run : list.run ≡ before.lists
  pub first : list.first ≡ before.next
  pub within : before.next + list.count ≤ before.lists.count
  pub more : before.at < before.places.count
  pub at : now.at ≡ before.at + 1
  pub next : now.next ≡ before.next + list.count

pub record SamePlaces (before now : PlaceReader) : Type 0 where
  pub places : now.places ≡ before.places
  pub lists : now.lists ≡ before.lists
  pub lease : now.lease ≡ before.lease

-- a page of the areas that a run of records of that width fills
abbrev pub is_of : Run → (width page : ℕ) → Bool
is_of run width page = nat_le run.first page && nat_lt page (run.first + runs.pages_of run.count width)

-- a place that is blamed: what a read from that count of calls on gave there may not come next. It lies on a page of the places, each
-- of which has eight bytes
pub record DamagesPlace (since : ℕ) (device : Device) (reader : PlaceReader) (number slot found : ℕ) : Type 0 where
  pub within : reader.at < reader.places.count
  pub page : number ≡ runs.page_of (run_of reader.places) reader.at
  pub slot_is : slot ≡ runs.slot_of (run_of reader.places) reader.at
  pub bytes : List ℕ
  pub read : WasRead since device (run_of reader.places) reader.at bytes
  pub found_is : found ≡ runs.found_in bytes
  pub not_next : IsNextPlace reader bytes → ⊥
  pub used : is_of reader.places 8 number ≡ true
  pub width : reader.places.width ≡ 8

abbrev pub BlamesPlace : (since : ℕ) → Device → PlaceReader → {T : Type 0} → Result T PageFault → Type 0
BlamesPlace since device reader (Ok answer) = ⊤
BlamesPlace since device reader (Err Flash) = ⊤
BlamesPlace since device reader (Err (Damaged number slot found)) = DamagesPlace since device reader number slot found

-- the page that stands in its buffer, if there is one, is one of the places
abbrev pub HoldsPlaces : Pool → PlaceReader → Type 0
HoldsPlaces pool reader = IfSome (page_at pool reader.lease) (IsPageOf (run_of reader.places))

-- a place may be read
pub record CanReadPlaces (told : Bool) (device : Device) (pool : Pool) (reader : PlaceReader) : Type 0 where
  pub run : HasRun device (run_of reader.places)
  pub width : reader.places.width ≡ 8
  pub place : reader.at ≤ reader.places.count
  pub within : reader.next ≤ reader.lists.count
  pub buffer : CanRead told device pool reader.lease

-- What `next` makes of its reader, whatever the pages have: it stands behind the list that it gave, and where it stood at the end and
-- after a fault. The next call may be made.
pub record TakesPlace (told : Bool) (device : Device) (pool later : Pool) (before now : PlaceReader) (result : Result (Option ListRef) PageFault) : Type 0 where
  pub step : IfOk result (λ list. MatchOption list ((before.at ≡ before.places.count) × (now ≡ before)) (IsNextList before now))
  pub fault : OnErr result (now ≡ before)
  pub ready : CanReadPlaces told device later now
  pub same : SamePlaces before now
  pub holds : HoldsPlaces pool before → HoldsPlaces later now

-- What it says of the device and of the buffer: one page is read at most, that of the next place, and none at their end.
pub record ReadsPlace {T : Type 0} (told : Bool) (before now : Device) (pool later : Pool) (reader : PlaceReader) (result : Result T PageFault) : Type 0 where
  pub kept : KeepsPages before now
  pub calls : now.calls ≡ next_if (reads_place pool reader) before.calls
  pub at_most : now.calls ≤ before.calls + 1
  pub deep_reads : now.deep_reads ≡ next_if (reads_place pool reader && nat_le first_deep_page (runs.page_of (run_of reader.places) reader.at)) before.deep_reads
  pub no_fault : OnOk result (now.faults ≡ before.faults)
  pub fault : IfErr result (FaultTells before now (reads_place pool reader ≡ true))
  pub buffer : ChangesPage pool later reader.lease
  pub holds : reader.at < reader.places.count → page_at later reader.lease ≡ page_after result (runs.page_of (run_of reader.places) reader.at)
  pub rests : reader.at ≡ reader.places.count → later ≡ pool
  pub ready : CanRead told now later reader.lease
  pub given : (since : ℕ) → since ≤ before.calls → WasGiven since before pool reader.lease → WasGiven since now later reader.lease

-- a reader as a source of lists
abbrev pub source_of : PlaceReader → Source
source_of reader = record {
  lists_left = reader.places.count - reader.at;
  ids_left = reader.lists.count - reader.next;
  lease = reader.lease;
  uses = λ page. is_of reader.places 8 page || is_of reader.lists 4 page;
  run = reader.lists;
}

-- its next list may be asked for
pub record CanGive (told : Bool) (device : Device) (pool : Pool) (reader : PlaceReader) : Type 0 where
  pub places : CanReadPlaces told device pool reader
  pub lists : HasRun device (run_of reader.lists)
  pub width : reader.lists.width ≡ 4
  pub few : reader.lists.count < 2 ^ 32
  pub holds : HoldsPlaces pool reader

-- a place of the first list, with its identifiers by right pages
pub record HasPlace (page right : ℕ → List ℕ) (rows : ℕ) (places lists : Run) (at next : ℕ) (first : List ℕ) : Type 0 where
  pub within : at < places.count
  pub inside : next + length first ≤ lists.count
  pub place : runs.record_at page (run_of places) at ≡ runs.number_cell next ++ runs.number_cell (length first)
  pub ordered : IsOrdered page right rows (record { run = lists; first = next; count = length first })
  pub ids : (i : ℕ) → i < length first → runs.id_at right (run_of lists) (next + i) ≡ get_or first i 0

-- the places from one on are those of the lists
abbrev pub HasPlaces : (page right : ℕ → List ℕ) (rows : ℕ) (places lists : Run) (at next : ℕ) → List (List ℕ) → Type 0
HasPlaces page right rows places lists at next [] = at ≡ places.count
HasPlaces page right rows places lists at next (first ∷ rest) = HasPlace page right rows places lists at next first × HasPlaces page right rows places lists (at + 1) (next + length first) rest

pub record ReaderHas (page right : ℕ → List ℕ) (rows : ℕ) (reader : PlaceReader) (ids : List (List ℕ)) : Type 0 where
  pub places_width : reader.places.width ≡ 8
  pub lists_width : reader.lists.width ≡ 4
  pub has : HasPlaces page right rows reader.places reader.lists reader.at reader.next ids

-- whatever the pages have: a list that a reader may give lies in the run of the lists
pub record LiesInLists (page : ℕ → List ℕ) (reader : PlaceReader) (list : ListRef) : Type 0 where
  pub run_is : list.run ≡ reader.lists
  pub within : list.first + list.count ≤ reader.lists.count

-- by the bytes of the pages no place is damaged, but a record of a list that a reader may give may be
pub record DamagesReader (page : ℕ → List ℕ) (rows : ℕ) (reader : PlaceReader) (number slot found : ℕ) : Type 0 where
  pub list : ListRef
  pub lies : LiesInLists page reader list
  pub out : OutOfRowsIn page list rows number slot found
