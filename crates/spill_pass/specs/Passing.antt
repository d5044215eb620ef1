-- A pass over lists: what it has taken and what is still to come, which leases are held, and what it leaves.
use Rattle.std.specs.Prelude.{◌≡◌, ℕ, ◌+◌, ◌*◌, ◌<◌, ◌≤◌, ◌⊎◌, Bool, true, false, if◌then◌else◌, List, [], ◌∷◌, length, Option, Some, None}
use Rattle.ghost_model.specs.core.Causes.{Rose}
use Rattle.edge_traits.specs.Devices.{Device}
use Rattle.page_pool.specs.Pools.{Pool, AreOut, KeepsOthers, others_out, free_count}
use Rattle.ghost_base.specs.declared.runs.ListRef.{ListRef}
use Rattle.spill_pass.specs.declared.groups.Groups.{Groups}
use Rattle.spill_pass.specs.declared.groups.PlacedLists.{PlacedLists}
use Rattle.spill_pass.specs.declared.passes.Pass.{Pass}
use Rattle.spill_pass.specs.declared.passes.PassTurn.{PassTurn}
use Rattle.spill_pass.specs.declared.passes.PassTurn.TheVariants.{Went, Placed}
use Rattle.spill_pass.specs.Grouping.{CanBegin, IsGrouping, ChangesAreas, AreRunsOf, groups_held, lists_at_hand, ids_at_hand, places_end}
use Rattle.spill_pass.specs.Merging.{AllOver, MadeAtMost, area_end, area_pages, left_of}
use Rattle.spill_pass.specs.Sources.{Source, UsesOutside}

-- the lease of the source, and those of the groups
abbrev pub pass_held : Source → Groups → List ℕ
pass_held source groups = source.lease ∷ groups_held groups

-- from lists in groups of two at least, but for the last one, come half as many lists, rounded up
abbrev pub ArePairs : Source → Groups → Type 0
ArePairs source groups =
    (2 * groups.places.filler.count + lists_at_hand groups + source.lists_left ≤ groups.size)
    ⊎ ((2 * groups.places.filler.count ≤ groups.size + 1) × ((lists_at_hand groups ≡ 0) × (source.lists_left ≡ 0)))

-- each list of the group at hand is one that the source may give, or gave
abbrev pub AreOfSource : (may : ListRef → Type 0) → Groups → Type 0
AreOfSource may groups = AllOver may groups.into.rows groups.into.merge.cursors.items

-- the group at hand is complete: it has two lists at least, or is the last one
abbrev pub IsComplete : Source → Groups → Type 0
IsComplete source groups = (2 ≤ lists_at_hand groups) ⊎ ((lists_at_hand groups ≡ 1) × (source.lists_left ≡ 0))

-- a turn may be made
pub record IsPassing (told : Bool) (device : Device) (pool : Pool) (source : Source) (groups : Groups) (fan : ℕ) (merging : Bool) : Type 0 where
  pub grouping : IsGrouping told device pool groups
  pub leases : AreOut pool (pass_held source groups)
  pub buffers : fan + 3 ≤ free_count pool + length (pass_held source groups)
  pub lists_outside : UsesOutside groups.into.writer.filler.first (area_end groups.into) source
  pub places_outside : UsesOutside groups.places.filler.first (places_end groups) source
  pub room : ids_at_hand groups + source.ids_left ≤ groups.into.rows
  pub few : lists_at_hand groups ≤ fan
  pub fan_most : fan ≤ 96
  pub fan_least : 2 ≤ fan
  pub begins : merging ≡ false → groups.into.merge.last ≡ 0
  pub complete : merging ≡ true → IsComplete source groups
  pub pairs : ArePairs source groups

-- the next list may be taken into the group at hand
pub record CanTakeNext {S : Type 0} (source : S → Source) (ready : Bool → Device → Pool → S → Type 0) (told : Bool) (device : Device) (pool : Pool) (pass : Pass S) : Type 0 where
  pub lists_ready : ready told device pool pass.lists
  pub passing : IsPassing told device pool (source pass.lists) pass.groups pass.fan pass.merging
  pub taking : pass.merging ≡ false
  pub more : lists_at_hand pass.groups < pass.fan

-- what is done whatever the answer: of the pages only those of the two areas changed, of the buffers only those of the leases
-- held and of those leased since. Those that are held now are out
pub record PassGoes (before now : Device) (pool later : Pool) (source rest : Source) (old new : Groups) : Type 0 where
  pub changes : ChangesAreas old.into.writer.filler.first (area_end old.into) old.places.filler.first (places_end old) before now
  pub beside : others_out later (pass_held rest new) ≡ others_out pool (pass_held source old)
  pub others : KeepsOthers (others_out pool (pass_held source old)) pool later
  pub still : AreOut later (pass_held rest new)
  pub lease : rest.lease ≡ source.lease
  pub uses : (page : ℕ) → rest.uses page ≡ true → source.uses page ≡ true
  pub run : rest.run ≡ source.run
  pub lists_first : new.into.writer.filler.first ≡ old.into.writer.filler.first
  pub places_first : new.places.filler.first ≡ old.places.filler.first
  pub rows : new.into.rows ≡ old.into.rows
  pub size : new.size ≡ old.size

-- how much is to do
abbrev pub pass_left : Pool → Source → Groups → (merging : Bool) → ℕ
pass_left pool source groups merging =
    6 * source.lists_left + 2 * source.ids_left + 2 * lists_at_hand groups + left_of pool groups.into + (if merging then 0 else 1)

-- so many calls were made at most: at least one unless there are none, and never more than four
pub record MadeFew (calls : ℕ) (before now : Device) : Type 0 where
  pub few : calls ≤ 4
  pub at_most : MadeAtMost calls before now
  pub called : 0 < calls → Rose before.calls now.calls

-- the group at hand has a list more, or no list is left
abbrev pub TakeTells : (told : Bool) (before now : Device) (pool later : Pool) (source rest : Source) (old new : Groups) (fan : ℕ) → Option ℕ → Type 0
TakeTells told before now pool later source rest old new fan (Some calls) =
    MadeFew calls before now × (IsPassing told now later rest new fan false × (pass_left later rest new false < pass_left pool source old false))
TakeTells told before now pool later source rest old new fan None =
    MadeFew 0 before now
    × (IsPassing told now later rest new fan false × ((rest.lists_left ≡ 0) × ((new ≡ old) × (pass_left later rest new false ≤ pass_left pool source old false))))

-- there is more to do, and less than before
pub record PassWent (told : Bool) (before now : Device) (pool later : Pool) (source rest : Source) (old new : Groups) (fan : ℕ) (was merging : Bool) (calls : ℕ) : Type 0 where
  pub made : MadeFew calls before now
  pub passing : IsPassing told now later rest new fan merging
  pub fewer : pass_left later rest new merging < pass_left pool source old was

-- all lists stand: half as many as there were, rounded up, or fewer
pub record PassEnds (before now : Device) (old new : Groups) (placed : PlacedLists) (calls : ℕ) : Type 0 where
  pub made : MadeFew calls before now
  pub runs : AreRunsOf old placed
  pub half : 2 * placed.places.count ≤ old.size + 1
  pub ids : placed.lists.count ≤ old.into.rows
  pub empty : lists_at_hand new ≡ 0

abbrev pub PassTells : (told : Bool) (before now : Device) (pool later : Pool) (source rest : Source) (old new : Groups) (fan : ℕ) (was merging : Bool) → PassTurn → Type 0
PassTells told before now pool later source rest old new fan was merging (Went calls) = PassWent told before now pool later source rest old new fan was merging calls
PassTells told before now pool later source rest old new fan was merging (Placed placed calls) = PassEnds before now old new placed calls

-- a pass may be begun: with three leases, over lists that lie outside of its areas and have no more identifiers than there are rows
pub record CanPass (device : Device) (pool : Pool) (source : Source) (to places rows fan lists_lease places_lease : ℕ) : Type 0 where
  pub groups : CanBegin device pool to places rows source.lists_left lists_lease places_lease
  pub leases : AreOut pool (source.lease ∷ places_lease ∷ lists_lease ∷ [])
  pub buffers : fan ≤ free_count pool
  pub lists_outside : UsesOutside to (to + area_pages rows) source
  pub places_outside : UsesOutside places (places + area_pages source.lists_left) source
  pub ids : source.ids_left ≤ rows
