-- Lists that are merged group by group: where what is written lies, which leases are held, and what stands so far.
use Rattle.std.specs.Prelude.{◌≡◌, ℕ, ◌+◌, ◌-◌, ◌*◌, ◌/◌, ◌<◌, ◌≤◌, ◌⊎◌, ◌↔◌, ◌++◌, Bool, true, ⊤, List, [], ◌∷◌, length, map, get_or, Result, Ok, Err}
use Rattle.std.specs.List.{concat}
use Rattle.ghost_model.specs.forms.Runs as runs
use Rattle.ghost_base.specs.declared.runs.ListRef.{ListRef}
use Rattle.ghost_base.specs.Runs.{run_of}
use Rattle.edge_traits.specs.Devices.{Device, SamePage}
use Rattle.page_pool.specs.Pools.{Pool, AreOut, KeepsOthers, others_out}
use Rattle.flash_pages.specs.declared.fault.PageFault.{PageFault}
use Rattle.flash_pages.specs.Writing.{IsEntered}
use Rattle.flash_pages.specs.Writers.{HasPut, next_page}
use Rattle.flash_pages.specs.declared.cursor.RunCursor.{RunCursor}
use Rattle.id_merge.specs.Merges.{Remains, at_hand}
use Rattle.id_merge.specs.declared.cursor.Cursor.{Cursor}
use Rattle.id_merge.specs.declared.cursor.Cursor.TheVariants.{List as OfList}
use Rattle.id_merge.specs.declared.merge.Merge.{Merge}
use Rattle.spill_pass.specs.declared.groups.Groups.{Groups}
use Rattle.spill_pass.specs.declared.groups.GroupTurn.{GroupTurn}
use Rattle.spill_pass.specs.declared.groups.GroupTurn.TheVariants.{Went, Listed}
use Rattle.spill_pass.specs.declared.groups.PlacedLists.{PlacedLists}
use Rattle.spill_pass.specs.Lists.{InList, IsReadable, ListOutside, ids_in_page}
use Rattle.spill_pass.specs.Merging.{IsArea, IsMerging, Gathers, AreAscending, IsOneOf, AllOutside, leases_held, area_pages, area_end, left_of, calls_left}

-- the leases of the places' writer, of the lists' writer and of the lists at hand
abbrev pub groups_held : Groups → List ℕ
groups_held groups = groups.places.lease ∷ leases_held groups.into

-- how many lists the group at hand has
abbrev pub lists_at_hand : Groups → ℕ
lists_at_hand groups = length groups.into.merge.cursors.items

-- how many identifiers are written, or at hand
abbrev pub ids_at_hand : Groups → ℕ
ids_at_hand groups = groups.into.writer.filler.count + at_hand groups.into.merge

-- the page after the area of the places
abbrev pub places_end : Groups → ℕ
places_end groups = groups.places.filler.first + area_pages groups.size

-- how many calls of the flash may be made until the lists taken so far stand with their places: one a page that is read, and
-- two a page that is written
abbrev pub calls_to_come : Pool → Groups → ℕ
calls_to_come pool groups = calls_left pool groups.into + 2 * (runs.pages_of groups.size 4 - groups.places.filler.pages)

-- an empty group, and nothing written
pub record IsBegun (lists_page places_page most lists_most lists_held places_held : ℕ) (groups : Groups) : Type 0 where
  pub lists : groups.into.writer.filler.first ≡ lists_page
  pub places : groups.places.filler.first ≡ places_page
  pub rows : groups.into.rows ≡ most
  pub size : groups.size ≡ lists_most
  pub lists_lease : groups.into.writer.lease ≡ lists_held
  pub places_lease : groups.places.lease ≡ places_held
  pub none : groups.into.merge.cursors.items ≡ []
  pub union : groups.into.merge.unions.items ≡ 0 ∷ []
  pub none_found : groups.into.merge.last ≡ 0
  pub written : groups.into.writer.filler.count ≡ 0
  pub placed : groups.places.filler.count ≡ 0

-- two areas share no page
abbrev pub AreApart : (first end other other_end : ℕ) → Type 0
AreApart first end other other_end = (end ≤ other) ⊎ (other_end ≤ first)

-- groups may be begun: with two leases, in two areas that share no page
pub record CanBegin (device : Device) (pool : Pool) (lists places rows size lists_lease places_lease : ℕ) : Type 0 where
  pub leases : AreOut pool (places_lease ∷ lists_lease ∷ [])
  pub lists_area : IsArea device lists rows
  pub places_area : IsArea device places size
  pub apart : AreApart lists (lists + area_pages rows) places (places + area_pages size)

-- a step may be made: there is room for all identifiers at hand, and for the places of as many lists as the size says
pub record IsGrouping (told : Bool) (device : Device) (pool : Pool) (groups : Groups) : Type 0 where
  pub merging : IsMerging told device pool groups.into
  pub union : groups.into.merge.unions.items ≡ length groups.into.merge.cursors.items ∷ []
  pub room : ids_at_hand groups ≤ groups.into.rows
  pub begun : groups.begun ≤ groups.into.writer.filler.count
  pub leases : AreOut pool (groups_held groups)
  pub area : IsArea device groups.places.filler.first groups.size
  pub apart : AreApart groups.into.writer.filler.first (area_end groups.into) groups.places.filler.first (places_end groups)
  pub outside : AllOutside groups.places.filler.first (places_end groups) groups.into.merge.cursors.items
  pub width : groups.places.filler.width ≡ 8
  pub erase : groups.places.filler.erase ≡ true
  pub placed : 2 * groups.places.filler.count ≤ groups.size + 1
  pub entered : IsEntered device (next_page groups.places.filler) true

-- a list may be taken: the device has it, outside of both areas, there is room for its identifiers, and none was found yet
pub record CanTake (device : Device) (list : ListRef) (groups : Groups) : Type 0 where
  pub readable : IsReadable device list
  pub from_lists : ListOutside groups.into.writer.filler.first (area_end groups.into) list
  pub from_places : ListOutside groups.places.filler.first (places_end groups) list
  pub room : ids_at_hand groups + list.count ≤ groups.into.rows
  pub none_found : groups.into.merge.last ≡ 0

-- of two areas only pages changed
pub record ChangesAreas (first end other other_end : ℕ) (before now : Device) : Type 0 where
  pub name : now.name ≡ before.name
  pub page_count : now.page_count ≡ before.page_count
  pub stays :
      (page : ℕ) → (page < first) ⊎ (end ≤ page) → (page < other) ⊎ (other_end ≤ page) → SamePage before now page
  pub devices : now.others ≡ before.others
  pub never_falls : before.calls ≤ now.calls
  pub gave : (at page : ℕ) (bytes : List ℕ) → before.gave at page bytes ≡ true → now.gave at page bytes ≡ true

-- what is done whatever the answer: of the pages only those of the two areas changed, of the buffers only those of the leases
-- held and of those leased since. Those that are held now are out
pub record GoesOn (before now : Device) (pool later : Pool) (old new : Groups) : Type 0 where
  pub changes : ChangesAreas old.into.writer.filler.first (area_end old.into) old.places.filler.first (places_end old) before now
  pub beside : others_out later (groups_held new) ≡ others_out pool (groups_held old)
  pub others : KeepsOthers (others_out pool (groups_held old)) pool later
  pub still : AreOut later (groups_held new)
  pub lists_first : new.into.writer.filler.first ≡ old.into.writer.filler.first
  pub places_first : new.places.filler.first ≡ old.places.filler.first
  pub rows : new.into.rows ≡ old.into.rows
  pub size : new.size ≡ old.size

-- the cursors have one more at their end, over the list for the rows
pub record HasListMore (list : ListRef) (rows : ℕ) (old new : List Cursor) : Type 0 where
  pub run : RunCursor
  pub is : new ≡ old ++ OfList run ∷ []
  pub list_is : run.list ≡ list
  pub rows_are : run.rows ≡ rows

-- the group has the list more
pub record TookMore (told : Bool) (device : Device) (pool later : Pool) (list : ListRef) (old new : Groups) : Type 0 where
  pub grouping : IsGrouping told device later new
  pub goes : GoesOn device device pool later old new
  pub lists : lists_at_hand new ≡ lists_at_hand old + 1
  pub ids : ids_at_hand new ≡ ids_at_hand old + list.count
  pub left : left_of later new.into ≤ left_of pool old.into + list.count + list.count / ids_in_page list.run + 2
  pub calls : calls_to_come later new ≤ calls_to_come pool old + list.count / ids_in_page list.run + 2
  pub placed : new.places.filler.count ≡ old.places.filler.count
  pub none_found : new.into.merge.last ≡ 0
  pub cursors : HasListMore list old.into.rows old.into.merge.cursors.items new.into.merge.cursors.items
  pub outside : (low high : ℕ) → ListOutside low high list → AllOutside low high old.into.merge.cursors.items → AllOutside low high new.into.merge.cursors.items

-- the merge of the group at hand went on
pub record WentOn (told : Bool) (now : Device) (pool later : Pool) (old new : Groups) : Type 0 where
  pub grouping : IsGrouping told now later new
  pub lists : lists_at_hand new ≡ lists_at_hand old
  pub ids : ids_at_hand new ≤ ids_at_hand old
  pub fewer : left_of later new.into < left_of pool old.into
  pub placed : new.places.filler.count ≡ old.places.filler.count

-- the list of the group stands, and the group is empty
pub record ListStands (told : Bool) (now : Device) (pool later : Pool) (old new : Groups) : Type 0 where
  pub grouping : IsGrouping told now later new
  pub lists : lists_at_hand new ≡ 0
  pub ids : ids_at_hand new ≤ ids_at_hand old
  pub fewer : left_of later new.into ≤ left_of pool old.into
  pub placed : new.places.filler.count ≡ old.places.filler.count + 1
  pub none_found : new.into.merge.last ≡ 0

abbrev pub TurnTells : (told : Bool) (now : Device) (pool later : Pool) (old new : Groups) → GroupTurn → Type 0
TurnTells told now pool later old new Went = WentOn told now pool later old new
TurnTells told now pool later old new Listed = ListStands told now pool later old new

-- identifiers that ascend, from 1 to the rows
pub record IsRowList (rows : ℕ) (ids : List ℕ) : Type 0 where
  pub ascending : AreAscending ids
  pub above : (i : ℕ) → i < length ids → 0 < get_or ids i 0
  pub within : (i : ℕ) → i < length ids → get_or ids i 0 ≤ rows

abbrev pub AreRowLists : (rows : ℕ) → List (List ℕ) → Type 0
AreRowLists rows lists = (i : ℕ) → i < length lists → IsRowList rows (get_or lists i [])

-- the places of lists that lie one behind another, the first of them with that number of a record
abbrev pub places_of : (from : ℕ) → List (List ℕ) → List (List ℕ)
places_of from [] = []
places_of from (ids ∷ lists) = (runs.number_cell from ++ runs.number_cell (length ids)) ∷ places_of (from + length ids) lists

-- where pages are told: the lists of the groups so far are written, with their places, and the group at hand, as a merge that
-- began by right pages, is gathered behind them
pub record IsGrouped (told : Bool) (right : ℕ → List ℕ) (merge : Merge) (lists : List (List ℕ)) (page : ℕ → List ℕ) (pool : Pool) (groups : Groups) : Type 0 where
  pub gathers : Gathers told right merge (concat lists) page pool groups.into
  pub places : HasPut told page pool groups.places (places_of 0 lists)
  pub begun : groups.begun ≡ length (concat lists)
  pub ordered : AreRowLists groups.into.rows lists

-- nothing is left of the group at hand
pub record HasGrouped (told : Bool) (right : ℕ → List ℕ) (merge : Merge) (lists : List (List ℕ)) (page : ℕ → List ℕ) (pool : Pool) (groups : Groups) : Type 0 where
  pub grouped : IsGrouped told right merge lists page pool groups
  pub none : (id : ℕ) → Remains right groups.into.merge id → ⊥

-- after a list was taken the group's merge begins anew: what remained remains, and the list's identifiers beside it
pub record TakesList (told : Bool) (right : ℕ → List ℕ) (merge : Merge) (lists : List (List ℕ)) (page : ℕ → List ℕ) (pool : Pool) (list : ListRef) (old new : Groups) : Type 0 where
  pub grouped : IsGrouped told right new.into.merge lists page pool new
  pub more : (id : ℕ) → Remains right new.into.merge id ↔ (Remains right merge id ⊎ InList right list id)

-- the list of the group has exactly what its merge had to give
pub record ListsGroup (told : Bool) (right : ℕ → List ℕ) (merge : Merge) (lists : List (List ℕ)) (page : ℕ → List ℕ) (pool : Pool) (groups : Groups) : Type 0 where
  pub ids : List ℕ
  pub all : (id : ℕ) → IsOneOf ids id ↔ Remains right merge id
  pub grouped : IsGrouped told right groups.into.merge (lists ++ ids ∷ []) page pool groups
  pub empty : (id : ℕ) → Remains right groups.into.merge id → ⊥

abbrev pub TurnGives : (told : Bool) (right : ℕ → List ℕ) → Merge → (lists : List (List ℕ)) (page : ℕ → List ℕ) → Pool → Groups → Result GroupTurn PageFault → Type 0
TurnGives told right merge lists page pool groups (Ok Went) = IsGrouped told right merge lists page pool groups
TurnGives told right merge lists page pool groups (Ok Listed) = ListsGroup told right merge lists page pool groups
TurnGives told right merge lists page pool groups (Err fault) = ⊤

-- the pages have these lists, one behind another in a run, and their places
pub record StoresLists (page : ℕ → List ℕ) (lists : List (List ℕ)) (placed : PlacedLists) : Type 0 where
  pub ids : runs.Stores page (run_of placed.lists) (map runs.number_cell (concat lists))
  pub places : runs.Stores page (run_of placed.places) (places_of 0 lists)

-- the runs of what was written, each from the beginning of its area on
pub record AreRunsOf (groups : Groups) (placed : PlacedLists) : Type 0 where
  pub lists_first : placed.lists.first ≡ groups.into.writer.filler.first
  pub lists_width : placed.lists.width ≡ 4
  pub lists_count : placed.lists.count ≡ groups.into.writer.filler.count
  pub places_first : placed.places.first ≡ groups.places.filler.first
  pub places_width : placed.places.width ≡ 8
  pub places_count : placed.places.count ≡ groups.places.filler.count
