-- Searches among the entries of a climbing index. Cells are ordered by their bytes.
use Rattle.std.specs.Prelude.{◌≡◌, ◌⊎◌, ℕ, ◌+◌, ◌-◌, ◌*◌, ◌/◌, ◌^◌, ◌<◌, ◌≤◌, min, ⊤, Bool, true, false, not, ◌&&◌, ◌||◌, ◌==◌, nat_le, nat_lt, List, [], length, take, get_or, is_some, Option, Some, None, Result, Ok, Err, IfOk, IfErr, if◌then◌else◌}
use Rattle.std.specs.Cmp.Lexicographic.{slice_cmp}
use Rattle.std.specs.Ordering.{nat_cmp}
use Rattle.std.specs.declared.cmp.Ordering.{Ordering}
use Rattle.std.specs.declared.cmp.Ordering.TheVariants.{Less, Equal, Greater}
use Rattle.ghost_model.specs.core.Values.{Value}
use Rattle.ghost_model.specs.core.Database.{is_of_kind}
use Rattle.ghost_model.specs.forms.Cells.{encode_cell}
use Rattle.ghost_model.specs.forms.Runs.{record_at, page_of, number_in}
use Rattle.edge_traits.specs.Devices.{Device, next_if}
use Rattle.page_pool.specs.Pools.{Pool, page_at}
use Rattle.ghost_base.specs.Runs.{run_of}
use Rattle.ghost_base.specs.Views.{kind_of, value_of}
use Rattle.ghost_base.specs.declared.kind.Kind.{Kind}
use Rattle.flash_pages.specs.declared.fault.PageFault.{PageFault}
use Rattle.flash_pages.specs.declared.fault.PageFault.TheVariants.{Flash, Damaged}
use Rattle.flash_pages.specs.Cursors.{IsPageOf}
use Rattle.flash_pages.specs.Holding.{is_apart}
use Rattle.flash_pages.specs.Reads.{must_read}
use Rattle.climbing_index.specs.declared.directory.Directory.{Directory}
use Rattle.climbing_index.specs.declared.index.ClimbingIndex.{ClimbingIndex}
use Rattle.climbing_index.specs.declared.search.Bound.{Bound}
use Rattle.climbing_index.specs.declared.search.Group.{Group}
use Rattle.climbing_index.specs.declared.search.Span.{Span}
use Rattle.climbing_index.specs.declared.search.Looking.{Looking}
use Rattle.climbing_index.specs.declared.search.Search.{Search}
use Rattle.climbing_index.specs.declared.search.Search.TheVariants.{New, Among}
use Rattle.climbing_index.specs.declared.search.Step.{Step}
use Rattle.climbing_index.specs.declared.search.Step.TheVariants.{More, Found}
use Rattle.climbing_index.specs.Indexes.{IsReadable}
use Rattle.climbing_index.specs.Directories.{entry_bytes, entry_page, entry_stands, HasDamage, BlamesSlot}

-- the bytes of a bound's value
abbrev pub encoded : Option Kind → Value → List ℕ
encoded None value = []
encoded (Some kind) value = encode_cell (kind_of kind) value

-- a bound has a value of the column's kind
abbrev pub fits_kind : Option Kind → Value → Bool
fits_kind None value = false
fits_kind (Some kind) value = is_of_kind (kind_of kind) value

abbrev pub IsOfKind : Option Kind → Option Bound → Type 0
IsOfKind kind None = ⊤
IsOfKind kind (Some bound) = fits_kind kind (value_of bound.value) ≡ true

-- whether a cell lies before a bound, or is the bound and that counts
abbrev pub before_by : (past : Bool) → Ordering → Bool
before_by past Less = true
before_by past Equal = past
before_by past Greater = false

abbrev pub lies_before : (past : Bool) (bound cell : List ℕ) → Bool
lies_before past bound cell = before_by past (slice_cmp nat_cmp cell bound)

-- Two places are looked for: where the group begins, and, as the end, where the entries above it begin. Whether the bound
-- itself lies before such a place, and whether a cell does.
abbrev pub is_past : (end included : Bool) → Bool
is_past true included = included
is_past false included = not included

abbrev pub before : (end : Bool) → Option Kind → Option Bound → (cell : List ℕ) → Bool
before end kind None cell = end
before end kind (Some bound) cell = lies_before (is_past end bound.included) (encoded kind (value_of bound.value)) cell

-- whether a cell lies between bounds
abbrev pub is_between : Option Kind → (low high : Option Bound) → (cell : List ℕ) → Bool
is_between kind low high cell = not (before false kind low cell) && before true kind high cell

abbrev pub cell_at : (cells : List (List ℕ)) (entry : ℕ) → List ℕ
cell_at cells entry = get_or cells entry []

abbrev pub AllAscend : (cells : List (List ℕ)) → Type 0
AllAscend cells = (entry later : ℕ) → entry < later → later < length cells → slice_cmp nat_cmp (cell_at cells entry) (cell_at cells later) ≡ Less

-- the header: its bytes, the number of entries, and whether bytes may stand there
abbrev pub header_bytes : (ℕ → List ℕ) → ClimbingIndex → List ℕ
header_bytes page index = record_at page (run_of index.header) 0

abbrev pub header_count : (ℕ → List ℕ) → ClimbingIndex → ℕ
header_count page index = number_in (header_bytes page index) 0

abbrev pub header_stands : (rows : ℕ) → List ℕ → Bool
header_stands rows bytes = nat_le (number_in bytes 0) rows && (nat_lt 0 (number_in bytes 0) || rows == 0)

abbrev pub rows_of : ClimbingIndex → ℕ
rows_of index = index.directory.run.count

-- Pages have these cells but for slots that are out of range by themselves.
abbrev pub HasEntries : (ℕ → List ℕ) → Directory → (cells : List (List ℕ)) → Type 0
HasEntries page directory cells =
    (entry : ℕ) → entry < length cells
    → (take directory.cell (entry_bytes page directory entry) ≡ cell_at cells entry) ⊎ (entry_stands directory (entry_bytes page directory entry) ≡ false)

pub record HasIndex (page : ℕ → List ℕ) (index : ClimbingIndex) (cells : List (List ℕ)) : Type 0 where
  pub header : (header_count page index ≡ length cells) ⊎ (header_stands (rows_of index) (header_bytes page index) ≡ false)
  pub entries : HasEntries page index.directory cells

-- these are all entries between the bounds
abbrev pub IsIn : Group → (entry : ℕ) → Type 0
IsIn group entry = (group.first ≤ entry) × (entry < group.first + group.count)

pub record IsBetween (kind : Option Kind) (low high : Option Bound) (cells : List (List ℕ)) (group : Group) : Type 0 where
  pub within : group.first + group.count ≤ length cells
  pub found : (entry : ℕ) → IsIn group entry → is_between kind low high (cell_at cells entry) ≡ true
  pub all : (entry : ℕ) → entry < length cells → is_between kind low high (cell_at cells entry) ≡ true → IsIn group entry

-- A span: whether more than one place is left, the entry that is looked at next, and what the entries on both sides pass.
abbrev pub is_open : Span → Bool
is_open span = nat_lt span.low span.high

abbrev pub middle_of : Span → ℕ
middle_of span = span.low + (span.high - span.low) / 2

pub record IsNarrowed (test : List ℕ → Bool) (cells : List (List ℕ)) (span : Span) : Type 0 where
  pub order : span.low ≤ span.high
  pub within : span.high ≤ length cells
  pub below : (entry : ℕ) → entry < span.low → test (cell_at cells entry) ≡ true
  pub above : (entry : ℕ) → span.high ≤ entry → entry < length cells → test (cell_at cells entry) ≡ false

pub record IsHalved (before now : Span) : Type 0 where
  pub order : now.low ≤ now.high
  pub within : now.high ≤ before.high
  pub half : 2 * (now.high - now.low) ≤ before.high - before.low

-- A search: how it begins among so many entries, whether it is over, and what it found
abbrev pub span_of : (low high : ℕ) → Span
span_of low high = record { low = low; high = high }

abbrev pub start_of : (count : ℕ) → Option Bound → Span
start_of count None = span_of 0 0
start_of count (Some bound) = span_of 0 count

abbrev pub end_of : (count : ℕ) → Option Bound → Span
end_of count None = span_of count count
end_of count (Some bound) = span_of 0 count

abbrev pub begun : (count : ℕ) → (low high : Option Bound) → Looking
begun count low high = record { count = count; start = start_of count low; end = end_of count high }

abbrev pub is_done : Looking → Bool
is_done looking = not (is_open looking.start) && not (is_open looking.end)

abbrev pub is_over : Search → Bool
is_over New = false
is_over (Among looking) = is_done looking

abbrev pub group_of : Search → Group
group_of New = record { first = 0; count = 0 }
group_of (Among looking) = record { first = min looking.start.low looking.end.low; count = looking.end.low - looking.start.low }

abbrev pub is_more : Step → Bool
is_more More = true
is_more (Found group) = false

-- the entry that is looked at next, and the page that is
abbrev pub next_entry : Looking → ℕ
next_entry looking = if is_open looking.start then middle_of looking.start else middle_of looking.end

abbrev pub next_page : ClimbingIndex → Search → ℕ
next_page index New = page_of (run_of index.header) 0
next_page index (Among looking) = entry_page index.directory (next_entry looking)

-- a search is one of an index: its spans are places of entries, and more than one place is left only where there is a bound
pub record IsSpan (most : ℕ) (bound : Option Bound) (span : Span) : Type 0 where
  pub order : span.low ≤ span.high
  pub within : span.high ≤ most
  pub some : span.low < span.high → is_some bound ≡ true

pub record IsLooking (rows : ℕ) (low high : Option Bound) (looking : Looking) : Type 0 where
  pub few : looking.count ≤ rows
  pub start : IsSpan looking.count low looking.start
  pub end : IsSpan looking.count high looking.end

abbrev pub IsSearch : (rows : ℕ) → (low high : Option Bound) → Search → Type 0
IsSearch rows low high New = ⊤
IsSearch rows low high (Among looking) = IsLooking rows low high looking

-- what it looks for among these cells lies within its spans
pub record IsSoughtAmong (kind : Option Kind) (low high : Option Bound) (cells : List (List ℕ)) (looking : Looking) : Type 0 where
  pub count_is : looking.count ≡ length cells
  pub start : IsNarrowed (before false kind low) cells looking.start
  pub end : IsNarrowed (before true kind high) cells looking.end

abbrev pub IsSought : Option Kind → (low high : Option Bound) → (cells : List (List ℕ)) → Search → Type 0
IsSought kind low high cells New = ⊤
IsSought kind low high cells (Among looking) = IsSoughtAmong kind low high cells looking

-- the number of entries is that of the header
abbrev pub IsCounted : (ℕ → List ℕ) → ClimbingIndex → Search → Type 0
IsCounted page index New = ⊤
IsCounted page index (Among looking) = looking.count ≡ header_count page index

-- how many places are left
abbrev pub width_left : Looking → ℕ
width_left looking = (looking.start.high - looking.start.low) + (looking.end.high - looking.end.low)

abbrev pub left_in : (rows : ℕ) → Search → ℕ
left_in rows New = 2 * rows + 1
left_in rows (Among looking) = width_left looking

-- The number of entries: as many as the header tells, none where what it has is out of range. Where pages are not told
-- there may be one for each row.
abbrev pub entries_told : (ℕ → List ℕ) → ClimbingIndex → ℕ
entries_told page index = if header_stands (rows_of index) (header_bytes page index) then header_count page index else 0

abbrev pub most_entries : (told : Bool) → (ℕ → List ℕ) → ClimbingIndex → ℕ
most_entries told page index = if told then entries_told page index else rows_of index

-- Calls. The number of entries is below 2^k; a search then makes at most so many calls more.

pub record SpansLeft (looking : Looking) (left : ℕ) : Type 0 where
  pub i : ℕ
  pub j : ℕ
  pub start : looking.start.high - looking.start.low < 2 ^ i
  pub end : looking.end.high - looking.end.low < 2 ^ j
  pub enough : i + j ≤ left

abbrev pub CallsLeft : (k : ℕ) → Search → (left : ℕ) → Type 0
CallsLeft k New left = 2 * k + 1 ≤ left
CallsLeft k (Among looking) left = SpansLeft looking left

-- one call fewer is left
pub record IsFewerAmong (looking : Looking) (left : ℕ) : Type 0 where
  pub rest : ℕ
  pub spans_left : SpansLeft looking rest
  pub less : rest + 1 ≤ left

pub record IsFewer (k : ℕ) (search : Search) (left : ℕ) : Type 0 where
  pub rest : ℕ
  pub calls_left : CallsLeft k search rest
  pub less : rest + 1 ≤ left

-- no more calls are left
pub record HasRest (k : ℕ) (search : Search) (left : ℕ) : Type 0 where
  pub rest : ℕ
  pub calls_left : CallsLeft k search rest
  pub within : rest ≤ left

-- Pages in the buffer. A page of an index is that of the header or one with room for an entry.
abbrev pub IsIndexPage : ClimbingIndex → (number : ℕ) → Type 0
IsIndexPage index number = IsPageOf (run_of index.header) number ⊎ IsPageOf (run_of index.directory.run) number

-- a buffer has a page of an index
pub record HoldsPageOf (index : ClimbingIndex) (held : Option ℕ) : Type 0 where
  pub number : ℕ
  pub holds : held ≡ Some number
  pub of_index : IsIndexPage index number

-- a search that has begun left a page of the index there
abbrev pub HasLeftPage : ClimbingIndex → Search → (held : Option ℕ) → Type 0
HasLeftPage index New held = ⊤
HasLeftPage index (Among looking) held = HoldsPageOf index held

-- another page than it had, one of the index
pub record HasOtherPage (index : ClimbingIndex) (before now : Option ℕ) : Type 0 where
  pub number : ℕ
  pub holds : now ≡ Some number
  pub other : is_apart before number ≡ true
  pub of_index : IsIndexPage index number

-- the page that it had, which is one of the index where the search had begun with one
pub record HasSamePage (index : ClimbingIndex) (search : Search) (before now : Option ℕ) : Type 0 where
  pub same : now ≡ before
  pub of_index : HasLeftPage index search before → HoldsPageOf index now

-- the page that a fault leaves there: that of the slot that is blamed
abbrev pub page_blamed : PageFault → Option ℕ
page_blamed Flash = None
page_blamed (Damaged number slot found) = Some number

-- what a step of a search leaves there
abbrev pub LeavesPage : ClimbingIndex → Search → (before now : Option ℕ) → Step → Type 0
LeavesPage index search before now More = HasOtherPage index before now
LeavesPage index search before now (Found group) = HasSamePage index search before now

abbrev pub StepLeaves : ClimbingIndex → Search → (before now : Option ℕ) → Result Step PageFault → Type 0
StepLeaves index search before now (Ok step) = LeavesPage index search before now step
StepLeaves index search before now (Err fault) = now ≡ page_blamed fault

-- and a whole search
abbrev pub FindLeaves : ClimbingIndex → (now : Option ℕ) → Result Group PageFault → Type 0
FindLeaves index now (Ok group) = HoldsPageOf index now
FindLeaves index now (Err fault) = now ≡ page_blamed fault

-- how many calls a read makes
abbrev pub calls_if : (reads : Bool) → ℕ
calls_if reads = if reads then 1 else 0

-- Whether a step read a page: where it goes on it did, where it has found it did not. Where it blames a slot, it did unless
-- the slot's page stood in the buffer.
abbrev pub was_read_for : Pool → (lease : ℕ) → PageFault → Bool
was_read_for pool lease Flash = true
was_read_for pool lease (Damaged number slot found) = must_read pool lease number

abbrev pub step_reads : Pool → (lease : ℕ) → Result Step PageFault → Bool
step_reads pool lease (Ok step) = is_more step
step_reads pool lease (Err fault) = was_read_for pool lease fault

-- what a slot is blamed for
pub record HasBadEntry (page : ℕ → List ℕ) (index : ClimbingIndex) (number slot found : ℕ) : Type 0 where
  pub place : ℕ
  pub within : place < header_count page index
  pub room : place < rows_of index
  pub damage : HasDamage page (run_of index.directory.run) (entry_stands index.directory) place number slot found

abbrev pub FailsIn : (ℕ → List ℕ) → ClimbingIndex → PageFault → Type 0
FailsIn page index Flash = ⊤
FailsIn page index (Damaged number slot found) =
    HasDamage page (run_of index.header) (header_stands (rows_of index)) 0 number slot found ⊎ HasBadEntry page index number slot found

pub record BlamesEntry (since : ℕ) (device : Device) (index : ClimbingIndex) (number slot found : ℕ) : Type 0 where
  pub place : ℕ
  pub within : place < rows_of index
  pub blames : BlamesSlot since device (run_of index.directory.run) (entry_stands index.directory) place number slot found

abbrev pub BlamesIn : (since : ℕ) → Device → ClimbingIndex → PageFault → Type 0
BlamesIn since device index Flash = ⊤
BlamesIn since device index (Damaged number slot found) =
    BlamesSlot since device (run_of index.header) (header_stands (rows_of index)) 0 number slot found ⊎ BlamesEntry since device index number slot found

-- the number of entries, as the header's bytes tell it
pub record CountIs (page : ℕ → List ℕ) (index : ClimbingIndex) (count : ℕ) : Type 0 where
  pub is : count ≡ header_count page index
  pub stands : header_stands (rows_of index) (header_bytes page index) ≡ true

-- what a step finds
abbrev pub Finds : Option Kind → (low high : Option Bound) → (cells : List (List ℕ)) → Step → Type 0
Finds kind low high cells More = ⊤
Finds kind low high cells (Found group) = IsBetween kind low high cells group

abbrev pub FindsWithin : (rows : ℕ) → Step → Type 0
FindsWithin rows More = ⊤
FindsWithin rows (Found group) = group.first + group.count ≤ rows

-- What a step gives, by the bytes of the pages: the search stays one of the header's number of entries that looks for the
-- bounds, what it finds are the entries between them, and what it blames is damaged.
pub record GivesStep (page : ℕ → List ℕ) (index : ClimbingIndex) (low high : Option Bound) (before now : Search) (result : Result Step PageFault) : Type 0 where
  pub counted : IsCounted page index before → IsCounted page index now
  pub sought :
      (cells : List (List ℕ)) → HasIndex page index cells → AllAscend cells → IsSought index.directory.kind low high cells before
      → IsSought index.directory.kind low high cells now
  pub found :
      (cells : List (List ℕ)) → HasIndex page index cells → AllAscend cells → IsSought index.directory.kind low high cells before
      → IfOk result (Finds index.directory.kind low high cells)
  pub among : IsCounted page index before → IfOk result (FindsWithin (header_count page index))
  pub damage : IsCounted page index before → IfErr result (FailsIn page index)

-- Whatever the pages have: the search stays one of the index and is shorter where it goes on, its group lies among the rows, and
-- so many calls are left. How many calls the step makes, and the page that it leaves in the buffer.
pub record KeepsSearch (told : Bool) (before now : Device) (pool later : Pool) (lease : ℕ) (index : ClimbingIndex) (low high : Option Bound) (old new : Search) (result : Result Step PageFault) : Type 0 where
  pub search : IsSearch (rows_of index) low high new
  pub within : IfOk result (FindsWithin (rows_of index))
  pub shorter : IfOk result (λ step. is_more step ≡ true → left_in (rows_of index) new < left_in (rows_of index) old)
  pub fewer :
      (k left : ℕ) → most_entries told before.page index < 2 ^ k → CallsLeft k old left
      → IfOk result (λ step. is_more step ≡ true → IsFewer k new left)
  pub some : (k left : ℕ) → most_entries told before.page index < 2 ^ k → CallsLeft k old left → IfErr result (λ fault. 1 ≤ left)
  pub calls : now.calls ≡ next_if (step_reads pool lease result) before.calls
  pub holds : StepLeaves index old (page_at pool lease) (page_at later lease) result
  pub readable : IsReadable now index

-- what a whole search gives
pub record GivesGroup (page : ℕ → List ℕ) (index : ClimbingIndex) (low high : Option Bound) (result : Result Group PageFault) : Type 0 where
  pub found :
      (cells : List (List ℕ)) → HasIndex page index cells → AllAscend cells
      → IfOk result (IsBetween index.directory.kind low high cells)
  pub among : IfOk result (λ group. group.first + group.count ≤ header_count page index)
  pub damage : IfErr result (FailsIn page index)

-- and whatever the pages have
pub record GivesAmongRows (device : Device) (held : Option ℕ) (index : ClimbingIndex) (result : Result Group PageFault) : Type 0 where
  pub within : IfOk result (λ group. group.first + group.count ≤ rows_of index)
  pub holds : FindLeaves index held result
  pub readable : IsReadable device index
