-- What a turn of passes reads, leaves, counts and comes to, and what it leaves where a pass is over.
use Rattle.std.specs.Prelude.{◌≡◌, ℕ, ◌^◌, ◌<◌, ◌≤◌, Bool, true, false, List, Option, Some, Result, IfOk, IfSome}
use Rattle.ghost_base.specs.declared.runs.ListRef.{ListRef}
use Rattle.edge_traits.specs.Devices.{Device}
use Rattle.page_pool.specs.Pools.{Pool}
use Rattle.flash_pages.specs.declared.fault.PageFault.{PageFault}
use Rattle.id_merge.specs.Since.{Since, IsSince, Blames}
use Rattle.spill_pass.specs.declared.groups.PlacedLists.{PlacedLists}
use Rattle.spill_pass.specs.declared.reduce.Reduce.{Reduce}
use Rattle.spill_pass.specs.Calls.{CallsLeft, TurnSpends}
use Rattle.spill_pass.specs.Given.{AreasMay, KnowsRun, PlacedGiven, ReduceGiven, TurnKnown}
use Rattle.spill_pass.specs.Grouping.{lists_at_hand}
use Rattle.spill_pass.specs.ListCalls.{BeginsPass, ReduceCounts, TurnCounts}
use Rattle.spill_pass.specs.Listings.{damaged_in, has_in, may_in, ready_in, source_in}
use Rattle.spill_pass.specs.Merging.{MadeAtMost}
use Rattle.spill_pass.specs.PassContents.{StandsAll}
use Rattle.spill_pass.specs.Passing.{AreOfSource}
use Rattle.spill_pass.specs.ReduceContents.{ReduceHas, TurnHas}
use Rattle.spill_pass.specs.Reducing.{CanPassOn, IsNextPass, PassedOn, PassesOver, ReduceGoes, ReduceTells}
use Rattle.spill_pass.specs.Sources.{BlamesSource, Source}
use Rattle.spill_pass.specs.Stepping.{Stepped}

-- the next pass is begun over the lists that the last one left, into the area with that first page
pub record PassesOn {S : Type 0} (source_of : S → Source) (can_read : Bool → Device → Pool → S → Type 0) (lists_of : (ℕ → List ℕ) → (ℕ → List ℕ) → ℕ → S → List (List ℕ) → Type 0) (given_of : Since → Device → Pool → ℕ → S → Type 0) (damaged_of : (ℕ → List ℕ) → ℕ → S → ℕ → ℕ → ℕ → Type 0) (pool later : Pool) (old new : Reduce S) (placed : PlacedLists) (first : ℕ) : Type 0 where
  pub over : lists_at_hand old.pass.groups ≡ 0 → PassesOver pool later (source_in source_of old.pass.lists) (source_in source_of new.pass.lists) old.pass.groups new.pass.groups
  pub passed :
      (told : Bool) → (device : Device) → CanPassOn device pool (source_in source_of old.pass.lists) old.areas old.pass.groups placed old.pass.fan
      → IsNextPass old.areas placed first → PassedOn told device later (source_in source_of new.pass.lists) old.areas old.pass.groups new.pass.groups old.pass.fan first placed
  pub has :
      (told : Bool) → (device : Device) → (lists : List (List ℕ)) → CanPassOn device pool (source_in source_of old.pass.lists) old.areas old.pass.groups placed old.pass.fan
      → StandsAll device.page old.pass.groups.into.rows lists placed → ReduceHas (λ right. has_in lists_of device.page right old.pass.groups.into.rows new.pass.lists) told device.page later new.pass.groups lists
  pub begins :
      (told : Bool) → (device : Device) → (lists : List (List ℕ)) → CanPassOn device pool (source_in source_of old.pass.lists) old.areas old.pass.groups placed old.pass.fan
      → StandsAll device.page old.pass.groups.into.rows lists placed
      → BeginsPass (λ right. has_in lists_of device.page right old.pass.groups.into.rows new.pass.lists) told device.page later (source_in source_of new.pass.lists) new.pass.groups lists
  pub ready : (told : Bool) → (device : Device) → CanPassOn device pool (source_in source_of old.pass.lists) old.areas old.pass.groups placed old.pass.fan → ready_in can_read told device later new.pass.lists
  pub given :
      (since : Since) → (device : Device) → CanPassOn device pool (source_in source_of old.pass.lists) old.areas old.pass.groups placed old.pass.fan
      → PlacedGiven since device.page old.pass.groups.into.rows placed → AreasMay since old.areas old.pass.groups.into.rows old.pass.groups.size → ReduceGiven given_of since device later new
  pub areas : new.areas ≡ old.areas
  pub fan : new.pass.fan ≡ old.pass.fan
  pub taking : new.pass.merging ≡ false
  pub less :
      (page : ℕ → List ℕ) → (rows : ℕ) → (number slot found : ℕ) → damaged_in damaged_of page rows new.pass.lists number slot found
      → damaged_in damaged_of page rows old.pass.lists number slot found
  pub run : new.run ≡ old.run

-- another pass was begun, since the lists are more than one or stand elsewhere
pub record BeginsNext {S : Type 0} (source_of : S → Source) (can_read : Bool → Device → Pool → S → Type 0) (lists_of : (ℕ → List ℕ) → (ℕ → List ℕ) → ℕ → S → List (List ℕ) → Type 0) (given_of : Since → Device → Pool → ℕ → S → Type 0) (damaged_of : (ℕ → List ℕ) → ℕ → S → ℕ → ℕ → ℕ → Type 0) (pool later : Pool) (old new : Reduce S) (placed : PlacedLists) : Type 0 where
  pub first : ℕ
  pub next : IsNextPass old.areas placed first
  pub passes : PassesOn source_of can_read lists_of given_of damaged_of pool later old new placed first

-- the one list stands where it is to stand, and nothing else changed
pub record OneListStands {S : Type 0} (pool later : Pool) (old new : Reduce S) (placed : PlacedLists) : Type 0 where
  pub run : new.run ≡ Some placed.lists
  pub first : placed.lists.first ≡ old.areas.to
  pub few : placed.places.count ≤ 1
  pub pass : new.pass ≡ old.pass
  pub pool_is : later ≡ pool
  pub areas : new.areas ≡ old.areas
  pub known :
      (since : Since) → (device : Device) → old.pass.groups.into.rows < 2 ^ 32 → placed.lists.width ≡ 4
      → PlacedGiven since device.page old.pass.groups.into.rows placed → KnowsRun since device.page old.pass.groups.into.rows new.run

-- what a turn does, whatever its result: it makes four calls at most, and a slot that is blamed is a damaged one of the source's, and
-- may be blamed or was read since. No more is damaged than before, and the lists at hand are still of the source
pub record ReduceDoes {S : Type 0} (source_of : S → Source) (lists_of : (ℕ → List ℕ) → (ℕ → List ℕ) → ℕ → S → List (List ℕ) → Type 0) (may_of : (ℕ → List ℕ) → S → ListRef → Type 0) (given_of : Since → Device → Pool → ℕ → S → Type 0) (damaged_of : (ℕ → List ℕ) → ℕ → S → ℕ → ℕ → ℕ → Type 0) (told : Bool) (before now : Device) (paid total : ℕ) (pool later : Pool) (old new : Reduce S) (result : Result (Option ℕ) PageFault) : Type 0 where
  pub blames : (since : Since) → IsSince told before since → ReduceGiven given_of since before pool old → Blames since now result
  pub sound :
      told ≡ true → (lists : List (List ℕ)) → ReduceHas (λ right. has_in lists_of before.page right old.pass.groups.into.rows old.pass.lists) told before.page pool old.pass.groups lists
      → AreOfSource (may_in may_of before.page old.pass.lists) old.pass.groups
      → BlamesSource (damaged_in damaged_of now.page old.pass.groups.into.rows old.pass.lists) result
  pub of_source :
      told ≡ true → AreOfSource (may_in may_of before.page old.pass.lists) old.pass.groups
      → AreOfSource (may_in may_of now.page new.pass.lists) new.pass.groups
  pub less :
      (page : ℕ → List ℕ) → (rows : ℕ) → (number slot found : ℕ) → damaged_in damaged_of page rows new.pass.lists number slot found
      → damaged_in damaged_of page rows old.pass.lists number slot found
  pub stepped : Stepped 4 before now paid total result
  pub at_most : MadeAtMost 4 before now
  pub goes : ReduceGoes old.areas before now pool later (source_in source_of old.pass.lists) (source_in source_of new.pass.lists) old.pass.groups new.pass.groups
  pub areas : new.areas ≡ old.areas
  pub fan : new.pass.fan ≡ old.pass.fan

-- there is more to do, or the one list stands
pub record ReduceTurns {S : Type 0} (source_of : S → Source) (can_read : Bool → Device → Pool → S → Type 0) (lists_of : (ℕ → List ℕ) → (ℕ → List ℕ) → ℕ → S → List (List ℕ) → Type 0) (given_of : Since → Device → Pool → ℕ → S → Type 0) (told : Bool) (before now : Device) (paid total : ℕ) (pool later : Pool) (old new : Reduce S) (result : Result (Option ℕ) PageFault) : Type 0 where
  pub known : (since : Since) → IsSince told before since → ReduceGiven given_of since before pool old → TurnKnown given_of since now later old.pass.groups.into.rows new result
  pub spent :
      (left : ℕ) → CallsLeft pool (source_in source_of old.pass.lists) old.areas old.pass.groups left
      → TurnSpends paid total later (source_in source_of new.pass.lists) old.areas new.pass.groups left result
  pub counts :
      told ≡ true → (lists : List (List ℕ)) → (left : ℕ) → ReduceCounts (λ right. has_in lists_of before.page right old.pass.groups.into.rows old.pass.lists) told before.page pool (source_in source_of old.pass.lists) old.areas old.pass.groups lists left
      → TurnCounts (λ right. has_in lists_of now.page right old.pass.groups.into.rows new.pass.lists) told now.page paid total later (source_in source_of new.pass.lists) old.areas new.pass.groups lists left result
  pub has :
      told ≡ true → (lists : List (List ℕ)) → ReduceHas (λ right. has_in lists_of before.page right old.pass.groups.into.rows old.pass.lists) told before.page pool old.pass.groups lists
      → TurnHas (λ right. has_in lists_of now.page right old.pass.groups.into.rows new.pass.lists) told now.page later new.pass.groups lists new.run result
  pub tells :
      IfOk result (ReduceTells told before now pool later (source_in source_of old.pass.lists) (source_in source_of new.pass.lists) old.areas old.pass.groups new.pass.groups old.pass.fan old.pass.merging new.pass.merging new.run)
  pub ready : IfOk result (λ calls. IfSome calls (λ _. ready_in can_read told now later new.pass.lists))
