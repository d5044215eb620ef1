-- Passes one after another until one list stands: the areas that they write into, and what they leave.
use Rattle.std.specs.Prelude.{◌≡◌, ◌≢◌, ℕ, ◌+◌, ◌*◌, ◌^◌, ◌<◌, ◌≤◌, ◌⊎◌, Bool, true, false, if◌then◌else◌, nat_eq, List, [], ◌∷◌, length, Option, Some, None, IsSomeAnd}
use Rattle.ghost_model.specs.core.Causes.{Rose}
use Rattle.ghost_base.specs.declared.runs.Run.{Run}
use Rattle.ghost_base.specs.declared.runs.ListRef.{ListRef}
use Rattle.edge_traits.specs.Devices.{Device, SamePage}
use Rattle.page_pool.specs.Pools.{Pool, AreOut, KeepsOthers, others_out, free_count, page_at}
use Rattle.spill_pass.specs.declared.groups.Groups.{Groups}
use Rattle.spill_pass.specs.declared.groups.PlacedLists.{PlacedLists}
use Rattle.spill_pass.specs.declared.reduce.Areas.{Areas}
use Rattle.spill_pass.specs.Grouping.{AreApart, lists_at_hand}
use Rattle.spill_pass.specs.Merging.{IsArea, AllOutside, area_pages}
use Rattle.spill_pass.specs.Calls.{ids_in_pass, pass_calls, pass_calls_left}
use Rattle.spill_pass.specs.Passing.{IsPassing, MadeFew, pass_held, pass_left}
use Rattle.spill_pass.specs.Sources.{Source, UsesOutside}

-- the first page of an area for lists, and of one for places
abbrev pub IsForLists : Areas → (first : ℕ) → Type 0
IsForLists areas first = (first ≡ areas.to) ⊎ ((first ≡ areas.lists) ⊎ (first ≡ areas.other_lists))

abbrev pub IsForPlaces : Areas → (first : ℕ) → Type 0
IsForPlaces areas first = (first ≡ areas.places) ⊎ (first ≡ areas.other_places)

-- the device has the areas, for so many identifiers and for the places of so many lists, and two areas share no page, but the
-- one list may stand in an area for lists
pub record HasAreas (device : Device) (areas : Areas) (rows size : ℕ) : Type 0 where
  pub lists : (first : ℕ) → IsForLists areas first → IsArea device first rows
  pub places : (first : ℕ) → IsForPlaces areas first → IsArea device first size
  pub lists_apart :
      (first other : ℕ) → IsForLists areas first → IsForLists areas other → first ≢ other
      → AreApart first (first + area_pages rows) other (other + area_pages rows)
  pub places_apart :
      (first other : ℕ) → IsForPlaces areas first → IsForPlaces areas other → first ≢ other
      → AreApart first (first + area_pages size) other (other + area_pages size)
  pub apart :
      (first other : ℕ) → IsForLists areas first → IsForPlaces areas other
      → AreApart first (first + area_pages rows) other (other + area_pages size)
  pub two_lists : areas.lists ≢ areas.other_lists
  pub two_places : areas.places ≢ areas.other_places

-- a page of none of the areas
pub record IsOutside (areas : Areas) (rows size page : ℕ) : Type 0 where
  pub lists : (first : ℕ) → IsForLists areas first → (page < first) ⊎ (first + area_pages rows ≤ page)
  pub places : (first : ℕ) → IsForPlaces areas first → (page < first) ⊎ (first + area_pages size ≤ page)

-- a step may be made
pub record IsReducing (told : Bool) (device : Device) (pool : Pool) (source : Source) (areas : Areas) (groups : Groups) (fan : ℕ) (merging : Bool) : Type 0 where
  pub passing : IsPassing told device pool source groups fan merging
  pub areas_are : HasAreas device areas groups.into.rows groups.size
  pub few : groups.into.rows < 2 ^ 32
  pub for_lists : IsForLists areas groups.into.writer.filler.first
  pub for_places : IsForPlaces areas groups.places.filler.first

-- the source, the lists at hand and all areas lie outside of an area of others
pub record ReduceOutside (low high : ℕ) (given : Source) (areas : Areas) (groups : Groups) : Type 0 where
  pub source : UsesOutside low high given
  pub lists : AllOutside low high groups.into.merge.cursors.items
  pub areas_lists : (first : ℕ) → IsForLists areas first → AreApart first (first + area_pages groups.into.rows) low high
  pub areas_places : (first : ℕ) → IsForPlaces areas first → AreApart first (first + area_pages groups.size) low high

-- what is done whatever the answer: of the pages only those of the areas changed, of the buffers only those of the leases held
-- and of those leased since. Those that are held now are out
pub record ReduceGoes (areas : Areas) (before now : Device) (pool later : Pool) (source rest : Source) (old new : Groups) : Type 0 where
  pub name : now.name ≡ before.name
  pub page_count : now.page_count ≡ before.page_count
  pub stays : (page : ℕ) → IsOutside areas old.into.rows old.size page → SamePage before now page
  pub devices : now.others ≡ before.others
  pub never_falls : before.calls ≤ now.calls
  pub gave : (at page : ℕ) (bytes : List ℕ) → before.gave at page bytes ≡ true → now.gave at page bytes ≡ true
  pub beside : others_out later (pass_held rest new) ≡ others_out pool (pass_held source old)
  pub others : KeepsOthers (others_out pool (pass_held source old)) pool later
  pub still : AreOut later (pass_held rest new)
  pub outside : (low high : ℕ) → ReduceOutside low high source areas old → ReduceOutside low high rest areas new
  pub rows : new.into.rows ≡ old.into.rows
  pub size : new.size ≤ old.size

-- how many passes there are at most: half as many lists come from each, rounded up, and one more may bring the one list where
-- it is to stand
abbrev pub passes_left : Areas → Groups → ℕ
passes_left areas groups = 2 * groups.size + (if nat_eq groups.into.writer.filler.first areas.to then 0 else 1)

-- how much is to do in a pass of so many lists at most
abbrev pub pass_most : Groups → ℕ
pass_most groups = 6 * groups.size + 2 * groups.into.rows + 2

abbrev pub reduce_left : Pool → Source → Areas → Groups → (merging : Bool) → ℕ
reduce_left pool source areas groups merging = passes_left areas groups * pass_most groups + pass_left pool source groups merging

-- the one list stands in its area
pub record IsOneList (areas : Areas) (rows : ℕ) (run : Run) : Type 0 where
  pub first : run.first ≡ areas.to
  pub width : run.width ≡ 4
  pub count : run.count ≤ rows

-- another pass is to be made: the lists are more than one, or stand elsewhere, and are written into another area
pub record IsNextPass (areas : Areas) (placed : PlacedLists) (first : ℕ) : Type 0 where
  pub for_lists : IsForLists areas first
  pub another : first ≢ placed.lists.first
  pub many : (2 ≤ placed.places.count) ⊎ ((placed.lists.first ≢ areas.to) × (first ≡ areas.to))

-- the next pass is begun
pub record PassedOn (told : Bool) (now : Device) (later : Pool) (rest : Source) (areas : Areas) (old new : Groups) (fan first : ℕ) (placed : PlacedLists) : Type 0 where
  pub reducing : IsReducing told now later rest areas new fan false
  pub left : pass_left later rest new false ≤ 6 * placed.places.count + 2 * old.into.rows + 1
  pub ids : ids_in_pass rest new ≤ placed.lists.count
  pub outside :
      (low high : ℕ) → ((first : ℕ) → IsForLists areas first → AreApart first (first + area_pages old.into.rows) low high)
      → ((first : ℕ) → IsForPlaces areas first → AreApart first (first + area_pages old.size) low high) → UsesOutside low high rest
  pub calls : pass_calls_left later rest new ≤ pass_calls new.size (ids_in_pass rest new)
  pub rows : new.into.rows ≡ old.into.rows
  pub size : new.size ≡ placed.places.count
  pub area : new.into.writer.filler.first ≡ first

-- there is more to do, after at least one call
pub record ReduceWent (told : Bool) (before now : Device) (pool later : Pool) (source rest : Source) (areas : Areas) (old new : Groups) (fan : ℕ) (was merging : Bool) : Type 0 where
  pub reducing : IsReducing told now later rest areas new fan merging
  pub called : Rose before.calls now.calls
  pub fewer : reduce_left later rest areas new merging < reduce_left pool source areas old was

-- one lease was given back for another, whose buffer holds no page
pub record Renews (pool later : Pool) (old new : ℕ) (leases : List ℕ) : Type 0 where
  pub still : AreOut later (new ∷ leases)
  pub beside : others_out later (new ∷ leases) ≡ others_out pool (old ∷ leases)
  pub others : KeepsOthers (others_out pool (old ∷ leases)) pool later

-- what is left of a pass that ended
pub record CanPassOn (device : Device) (pool : Pool) (source : Source) (areas : Areas) (groups : Groups) (placed : PlacedLists) (fan : ℕ) : Type 0 where
  pub empty : lists_at_hand groups ≡ 0
  pub few : groups.into.rows < 2 ^ 32
  pub buffers : fan + 3 ≤ free_count pool + length (pass_held source groups)
  pub areas_are : HasAreas device areas groups.into.rows groups.size
  pub for_lists : IsForLists areas placed.lists.first
  pub for_places : IsForPlaces areas placed.places.first
  pub lists_width : placed.lists.width ≡ 4
  pub places_width : placed.places.width ≡ 8
  pub half : 2 * placed.places.count ≤ groups.size + 1
  pub ids : placed.lists.count ≤ groups.into.rows
  pub fan_most : fan ≤ 96
  pub fan_least : 2 ≤ fan

-- the leases after a pass was begun: its buffers hold no page that the lists lie in
pub record PassesOver (pool later : Pool) (source rest : Source) (old new : Groups) : Type 0 where
  pub still : AreOut later (pass_held rest new)
  pub beside : others_out later (pass_held rest new) ≡ others_out pool (pass_held source old)
  pub others : KeepsOthers (others_out pool (pass_held source old)) pool later
  pub none : new.into.merge.cursors.items ≡ []
  pub no_page : page_at later rest.lease ≡ None
  pub rows : new.into.rows ≡ old.into.rows

-- another pass was begun
pub record PassesTo (told : Bool) (now : Device) (later : Pool) (rest : Source) (areas : Areas) (old new : Groups) (placed : PlacedLists) (fan : ℕ) : Type 0 where
  pub first : ℕ
  pub next : IsNextPass areas placed first
  pub passed : PassedOn told now later rest areas old new fan first placed

-- what a turn leaves where there is more to do, after so many calls
pub record ReduceTurned (told : Bool) (before now : Device) (pool later : Pool) (source rest : Source) (areas : Areas) (old new : Groups) (fan : ℕ) (was merging : Bool) (calls : ℕ) : Type 0 where
  pub made : MadeFew calls before now
  pub reducing : IsReducing told now later rest areas new fan merging
  pub fewer : reduce_left later rest areas new merging < reduce_left pool source areas old was

abbrev pub RunStands : Areas → (rows : ℕ) → Option Run → Type 0
RunStands areas rows run = IsSomeAnd run (IsOneList areas rows)

abbrev pub ReduceTells : (told : Bool) (before now : Device) (pool later : Pool) (source rest : Source) (areas : Areas) (old new : Groups) (fan : ℕ) (was merging : Bool) (run : Option Run) → Option ℕ → Type 0
ReduceTells told before now pool later source rest areas old new fan was merging run (Some calls) =
    ReduceTurned told before now pool later source rest areas old new fan was merging calls
ReduceTells told before now pool later source rest areas old new fan was merging run None = RunStands areas old.into.rows run

-- it may be begun: with three leases and as many buffers as there is room for, over lists that lie outside of the areas and have no
-- more identifiers than there are rows
pub record CanReduce (device : Device) (pool : Pool) (source : Source) (areas : Areas) (rows room lists_lease places_lease : ℕ) : Type 0 where
  pub leases : AreOut pool (source.lease ∷ places_lease ∷ lists_lease ∷ [])
  pub buffers : room ≤ free_count pool + 3
  pub areas_are : HasAreas device areas rows source.lists_left
  pub few : rows < 2 ^ 32
  pub lists_outside : (first : ℕ) → IsForLists areas first → UsesOutside first (first + area_pages rows) source
  pub places_outside : (first : ℕ) → IsForPlaces areas first → UsesOutside first (first + area_pages source.lists_left) source
  pub ids : source.ids_left ≤ rows

-- a run as a list
abbrev pub whole_list : Run → ListRef
whole_list run = record { run = run; first = 0; count = run.count }
