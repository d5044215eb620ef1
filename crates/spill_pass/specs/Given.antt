-- What is merged was read since then, and of which runs a slot may be blamed. Where pages are told, what is written is in order,
-- whatever the lists that are merged have.
use Rattle.std.specs.Prelude.{◌≡◌, ℕ, ◌+◌, ◌*◌, ◌<◌, ◌≤◌, ◌++◌, Bool, true, false, ⊤, List, [], length, map, get_or, Option, None, Some, Result, Ok, Err}
use Rattle.std.specs.List.{concat}
use Rattle.ghost_model.specs.forms.Runs as runs
use Rattle.ghost_base.specs.declared.runs.Run.{Run}
use Rattle.ghost_base.specs.Runs.{run_of}
use Rattle.edge_traits.specs.Devices.{Device}
use Rattle.page_pool.specs.Pools.{Pool}
use Rattle.flash_pages.specs.declared.fault.PageFault.{PageFault}
use Rattle.flash_pages.specs.Writers.{HasPut}
use Rattle.id_merge.specs.Since.{FaultIsBlamed, Since, MayBlame}
use Rattle.id_merge.specs.Cursors.{AllGiven}
use Rattle.spill_pass.specs.declared.groups.Groups.{Groups}
use Rattle.spill_pass.specs.declared.groups.PlacedLists.{PlacedLists}
use Rattle.spill_pass.specs.declared.merging.MergeInto.{MergeInto}
use Rattle.spill_pass.specs.declared.passes.Pass.{Pass}
use Rattle.spill_pass.specs.declared.passes.PassTurn.{PassTurn}
use Rattle.spill_pass.specs.declared.passes.PassTurn.TheVariants.{Went, Placed}
use Rattle.spill_pass.specs.declared.reduce.Areas.{Areas}
use Rattle.spill_pass.specs.declared.reduce.Reduce.{Reduce}
use Rattle.spill_pass.specs.Grouping.{AreRowLists, IsRowList, StoresLists, places_of}
use Rattle.spill_pass.specs.Known.{KnowsList}
use Rattle.spill_pass.specs.Listings.{given_in}
use Rattle.spill_pass.specs.Merging.{AreAscending}
use Rattle.spill_pass.specs.Reducing.{IsForLists, IsForPlaces, whole_list}

-- where pages are not told, a slot of each run of so many identifiers may be blamed that begins with the page
abbrev pub AreaMay : (since : Since) (first rows : ℕ) → Type 0
AreaMay since first rows = since.told ≡ false → (count : ℕ) → count ≤ rows → since.may (record { first = first; count = count; width = 4 }) ≡ true

-- where pages are not told, a slot of each run of places that begins with the page may be blamed: as many as half of so many lists take
abbrev pub PlacesMay : (since : Since) (first size : ℕ) → Type 0
PlacesMay since first size =
    since.told ≡ false → (count : ℕ) → 2 * count ≤ size + 1 → since.may (record { first = first; count = count; width = 8 }) ≡ true

-- any run of lists or of places that a pass writes into the areas may be blamed
pub record AreasMay (since : Since) (areas : Areas) (rows size : ℕ) : Type 0 where
  pub lists : (first : ℕ) → IsForLists areas first → AreaMay since first rows
  pub places : (first : ℕ) → IsForPlaces areas first → PlacesMay since first size

-- whatever the lists have: what was put ascends, above 0 and up to what the merge gave last, behind what was written earlier
pub record Puts (told : Bool) (earlier : List ℕ) (page : ℕ → List ℕ) (pool : Pool) (into : MergeInto) : Type 0 where
  pub ids : List ℕ
  pub put : HasPut told page pool into.writer (map runs.number_cell (earlier ++ ids))
  pub ascending : AreAscending ids
  pub above : (i : ℕ) → i < length ids → 0 < get_or ids i 0
  pub below : (i : ℕ) → i < length ids → get_or ids i 0 ≤ into.merge.last

-- the run has identifiers that ascend, from 1 to the rows
pub record HasRowList (page : ℕ → List ℕ) (rows : ℕ) (run : Run) : Type 0 where
  pub ids : List ℕ
  pub stores : runs.Stores page (run_of run) (map runs.number_cell ids)
  pub ordered : IsRowList rows ids

abbrev pub PutsList : (told : Bool) (page : ℕ → List ℕ) → Pool → (rows : ℕ) → MergeInto → Result (Option Run) PageFault → Type 0
PutsList told page pool rows into (Ok None) = Puts told [] page pool into
PutsList told page pool rows into (Ok (Some run)) = HasRowList page rows run
PutsList told page pool rows into (Err fault) = ⊤

-- a merge that is written: its lists were given, and what is written is in order, or a slot of it may be blamed
pub record MergeGiven (since : Since) (device : Device) (pool : Pool) (into : MergeInto) : Type 0 where
  pub lists : AllGiven since device pool into.merge.cursors.items
  pub area : AreaMay since into.writer.filler.first into.rows
  pub puts : since.told ≡ true → Puts true [] device.page pool into

abbrev pub MergeKnown : (since : Since) → Device → Pool → (rows : ℕ) → MergeInto → Result (Option Run) PageFault → Type 0
MergeKnown since device pool rows into (Ok None) = MergeGiven since device pool into
MergeKnown since device pool rows into (Ok (Some run)) = KnowsList since device.page rows (whole_list run)
MergeKnown since device pool rows into (Err fault) = ⊤

-- lists that ascend are written with their places, and the group at hand behind them
pub record PutsLists (told : Bool) (page : ℕ → List ℕ) (pool : Pool) (groups : Groups) : Type 0 where
  pub lists : List (List ℕ)
  pub puts : Puts told (concat lists) page pool groups.into
  pub places : HasPut told page pool groups.places (places_of 0 lists)
  pub begun : groups.begun ≡ length (concat lists)
  pub ordered : AreRowLists groups.into.rows lists

pub record GroupsGiven (since : Since) (device : Device) (pool : Pool) (groups : Groups) : Type 0 where
  pub lists : AllGiven since device pool groups.into.merge.cursors.items
  pub puts : since.told ≡ true → PutsLists true device.page pool groups

-- the pages have lists that ascend, with their places
pub record StandsInOrder (page : ℕ → List ℕ) (rows : ℕ) (placed : PlacedLists) : Type 0 where
  pub lists : List (List ℕ)
  pub stores : StoresLists page lists placed
  pub ordered : AreRowLists rows lists

-- a pass: the source and the lists at hand were given
pub record PassGiven {S : Type 0} (given : Since → Device → Pool → ℕ → S → Type 0) (since : Since) (device : Device) (pool : Pool) (pass : Pass S) : Type 0 where
  pub source : given since device pool pass.groups.into.rows pass.lists
  pub groups : GroupsGiven since device pool pass.groups

abbrev pub PassKnown : {S : Type 0} (given : Since → Device → Pool → ℕ → S → Type 0) (since : Since) → Device → Pool → (rows : ℕ) → Pass S → Result PassTurn PageFault → Type 0
PassKnown given since device pool rows pass (Ok (Went calls)) = PassGiven given since device pool pass
PassKnown given since device pool rows pass (Ok (Placed placed calls)) = since.told ≡ true → StandsInOrder device.page rows placed
PassKnown given since device pool rows pass (Err fault) = ⊤

-- the lists of a pass, and their places: a slot of them may be blamed, or they are in order
pub record PlacedGiven (since : Since) (page : ℕ → List ℕ) (rows : ℕ) (placed : PlacedLists) : Type 0 where
  pub lists : MayBlame since (run_of placed.lists) (StandsInOrder page rows placed)
  pub places : MayBlame since (run_of placed.places) (StandsInOrder page rows placed)

-- passes: the pass at hand was given, and a slot of what is written in the areas is in order, or may be blamed
pub record ReduceGiven {S : Type 0} (given : Since → Device → Pool → ℕ → S → Type 0) (since : Since) (device : Device) (pool : Pool) (reduce : Reduce S) : Type 0 where
  pub pass : PassGiven (given_in given) since device pool reduce.pass
  pub areas : AreasMay since reduce.areas reduce.pass.groups.into.rows reduce.pass.groups.size

-- the one list is in order, or a slot of it may be blamed
abbrev pub KnowsRun : (since : Since) (page : ℕ → List ℕ) (rows : ℕ) → Option Run → Type 0
KnowsRun since page rows None = ⊤
KnowsRun since page rows (Some run) = KnowsList since page rows (whole_list run)

abbrev pub TurnKnown : {S : Type 0} (given : Since → Device → Pool → ℕ → S → Type 0) (since : Since) → Device → Pool → (rows : ℕ) → Reduce S → Result (Option ℕ) PageFault → Type 0
TurnKnown given since device pool rows reduce (Ok (Some calls)) = ReduceGiven given since device pool reduce
TurnKnown given since device pool rows reduce (Ok None) = KnowsRun since device.page rows reduce.run
TurnKnown given since device pool rows reduce (Err fault) = ⊤

-- what is known after a step: of the one list, of the passes where there is more to do, and what is blamed
abbrev pub StepKnown : {S : Type 0} (given : Since → Device → Pool → ℕ → S → Type 0) (since : Since) → Device → Pool → (rows : ℕ) → Reduce S → Result Bool PageFault → Type 0
StepKnown given since device pool rows reduce (Ok true) = KnowsRun since device.page rows reduce.run
StepKnown given since device pool rows reduce (Ok false) = ReduceGiven given since device pool reduce
StepKnown given since device pool rows reduce (Err fault) = FaultIsBlamed since device fault
