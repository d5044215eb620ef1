-- What passes have was read since then, and what they write is in order, or a slot of it may be blamed.
use Rattle.std.proofs.Common.{◌≡◌, ℕ, ◌+◌, ◌*◌, ◌≤◌, Bool, true, List, sym, subst, arith}
use Rattle.std.specs.Prelude.{Option, Some, None, Ok}
use Rattle.ghost_base.specs.declared.runs.Run.{Run}
use Rattle.edge_traits.specs.Devices.{Device}
use Rattle.page_pool.specs.Pools.{Pool}
use Rattle.id_merge.specs.Since.{Since}
use Rattle.id_merge.specs.Spared.{Spares}
use Rattle.id_merge.proofs.Sparing.{cursors_stay_given}
use Rattle.spill_pass.specs.declared.groups.Groups.{Groups}
use Rattle.spill_pass.specs.declared.groups.PlacedLists.{PlacedLists}
use Rattle.spill_pass.specs.declared.passes.Pass.{Pass}
use Rattle.spill_pass.specs.declared.passes.PassTurn.{PassTurn}
use Rattle.spill_pass.specs.declared.passes.PassTurn.TheVariants.{Went, Placed}
use Rattle.spill_pass.specs.declared.reduce.Areas.{Areas}
use Rattle.spill_pass.specs.declared.reduce.Reduce.{Reduce}
use Rattle.spill_pass.specs.Given.{AreaMay, AreasMay, GroupsGiven, KnowsRun, PassGiven, PassKnown, PlacedGiven, ReduceGiven, StandsInOrder, TurnKnown}
use Rattle.spill_pass.specs.Grouping.{places_end}
use Rattle.spill_pass.specs.Passing.{PassEnds, pass_held}
use Rattle.spill_pass.specs.Reducing.{IsForLists, IsForPlaces, IsReducing, ReduceOutside}
use Rattle.spill_pass.specs.Sources.{Source}
use Rattle.spill_pass.proofs.PutLists.{known_places, known_run, lists_stay}
use Rattle.spill_pass.proofs.SparedMerging.{area_spared, merging_spares, spares_rest}
use Rattle.spill_pass.proofs.SparedReducing.{group_outside}

-- the areas for as many rows, and for as many lists or fewer
pub areas_fewer :
    {rows rows' size size' : ℕ} (since : Since) (areas : Areas) → rows' ≡ rows → size' ≤ size → AreasMay since areas rows size → AreasMay since areas rows' size'
areas_fewer {rows = rows} {size = size} {size' = size'} since areas same few was =
    let P : ℕ → Type 0 = λ n. (first : ℕ) → IsForLists areas first → AreaMay since first n in
    record {
      lists = subst P (sym same) was.lists;
      places = λ first is untold count less. was.places first is untold count (omega (arith, less, few));
    }

pub areas_begun :
    {rows size : ℕ} (since : Since) (areas : Areas) (groups : Groups) → groups.into.rows ≡ rows → groups.size ≡ size → AreasMay since areas rows size
    → AreasMay since areas groups.into.rows groups.size
areas_begun since areas groups rows_are size_is was = areas_fewer since areas rows_are (omega (arith, size_is)) was

pub areas_same :
    (since : Since) (areas : Areas) (old new : Groups) → new.into.rows ≡ old.into.rows → new.size ≡ old.size → AreasMay since areas old.into.rows old.size
    → AreasMay since areas new.into.rows new.size
areas_same since areas old new rows_are size_is was = areas_fewer since areas rows_are (omega (arith, size_is)) was

pub areas_passed :
    (since : Since) (areas : Areas) (old new : Groups) (placed : PlacedLists) → new.into.rows ≡ old.into.rows → new.size ≡ placed.places.count
    → 2 * placed.places.count ≤ old.size + 1 → AreasMay since areas old.into.rows old.size → AreasMay since areas new.into.rows new.size
areas_passed since areas old new placed rows_are size_is half was = areas_fewer since areas rows_are (omega (arith, size_is, half)) was

-- what a turn of the pass came to
pub went_known :
    {S : Type 0} (given : Since → Device → Pool → ℕ → S → Type 0) (since : Since) (device : Device) (pool : Pool) (rows : ℕ) (pass : Pass S) {turn : PassTurn} {calls : ℕ}
    → turn ≡ Went calls → PassKnown given since device pool rows pass (Ok turn) → PassGiven given since device pool pass
went_known given since device pool rows pass is known = let P : PassTurn → Type 0 = λ t. PassKnown given since device pool rows pass (Ok t) in subst P is known

pub placed_order :
    {S : Type 0} (given : Since → Device → Pool → ℕ → S → Type 0) (since : Since) (device : Device) (pool : Pool) (rows : ℕ) (pass : Pass S) {turn : PassTurn} {placed : PlacedLists} {calls : ℕ}
    → turn ≡ Placed placed calls → PassKnown given since device pool rows pass (Ok turn) → since.told ≡ true → StandsInOrder device.page rows placed
placed_order given since device pool rows pass is known = let P : PassTurn → Type 0 = λ t. PassKnown given since device pool rows pass (Ok t) in subst P is known

-- the lists that a pass left
pub placed_given :
    {before now : Device} {calls : ℕ} (since : Since) (page : ℕ → List ℕ) (areas : Areas) (old new : Groups) (placed : PlacedLists) → PassEnds before now old new placed calls
    → IsForLists areas old.into.writer.filler.first → IsForPlaces areas old.places.filler.first → AreasMay since areas old.into.rows old.size
    → (since.told ≡ true → StandsInOrder page old.into.rows placed) → PlacedGiven since page old.into.rows placed
placed_given since page areas old new placed ends for_lists for_places may order = record {
  lists =
      known_run since old.into.writer.filler.first old.into.rows placed.lists (may.lists old.into.writer.filler.first for_lists) ends.runs.lists_first
      ends.runs.lists_width ends.ids order;
  places =
      known_places since old.places.filler.first old.size placed.places (may.places old.places.filler.first for_places) ends.runs.places_first
      ends.runs.places_width ends.half order;
}

pub placed_rows :
    {rows rows' : ℕ} (since : Since) (page : ℕ → List ℕ) → rows ≡ rows' → (placed : PlacedLists) → PlacedGiven since page rows placed → PlacedGiven since page rows' placed
placed_rows since page same placed given = let P : ℕ → Type 0 = λ n. PlacedGiven since page n placed in subst P same given

pub run_rows : {rows rows' : ℕ} (since : Since) (page : ℕ → List ℕ) → rows ≡ rows' → (run : Option Run) → KnowsRun since page rows run → KnowsRun since page rows' run
run_rows since page same run knows = let P : ℕ → Type 0 = λ n. KnowsRun since page n run in subst P same knows

-- what a turn of the passes came to
pub turned_known :
    {S : Type 0} (given : Since → Device → Pool → ℕ → S → Type 0) (since : Since) (device : Device) (pool : Pool) (rows : ℕ) (reduce : Reduce S) {answer : Option ℕ} {calls : ℕ}
    → answer ≡ Some calls → TurnKnown given since device pool rows reduce (Ok answer) → ReduceGiven given since device pool reduce
turned_known given since device pool rows reduce is known = let P : Option ℕ → Type 0 = λ a. TurnKnown given since device pool rows reduce (Ok a) in subst P is known

pub ended_known :
    {S : Type 0} (given : Since → Device → Pool → ℕ → S → Type 0) (since : Since) (device : Device) (pool : Pool) (rows : ℕ) (reduce : Reduce S) {answer : Option ℕ}
    → answer ≡ None → TurnKnown given since device pool rows reduce (Ok answer) → KnowsRun since device.page rows reduce.run
ended_known given since device pool rows reduce is known = let P : Option ℕ → Type 0 = λ a. TurnKnown given since device pool rows reduce (Ok a) in subst P is known

-- the lists at hand and those that are written stay where others write other pages and use other buffers
pub groups_spared :
    {low high : ℕ} {told : Bool} {before now : Device} {pool later : Pool} (since : Since) (source : Source) (areas : Areas) (groups : Groups) (fan : ℕ) (merging : Bool)
    → Spares low high before now pool later (pass_held source groups) → ReduceOutside low high source areas groups
    → IsReducing told before pool source areas groups fan merging → GroupsGiven since before pool groups → GroupsGiven since now later groups
groups_spared {low = low} {high = high} {told = told} {before = before} {now = now} {pool = pool} {later = later} since source areas groups fan merging spares outside is was =
    let of_groups = spares_rest spares in
    let of_lists = spares_rest of_groups in
    let grouping = is.passing.grouping in
    let first = groups.places.filler.first in
    record {
      lists = cursors_stay_given low high told since before now pool later groups.into.merge.cursors.items (spares_rest of_lists) outside.lists
          grouping.merging.can.step.cursors was.lists;
      puts = λ tells.
          lists_stay told before now pool later groups (merging_spares groups.into of_lists (group_outside outside is))
          (area_spared first (places_end groups) spares.changes (outside.areas_places first is.for_places)) (of_groups.buffers 0 (omega arith)) grouping
          (was.puts tells);
    }
