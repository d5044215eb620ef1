-- What a call on a pass reads, leaves, counts and comes to.
use Rattle.std.specs.Prelude.{◌≡◌, ℕ, Bool, true, false, List, Option, Result, IfNone, IfOk, OnOk}
use Rattle.ghost_base.specs.declared.runs.ListRef.{ListRef}
use Rattle.edge_traits.specs.Devices.{Device}
use Rattle.page_pool.specs.Pools.{Pool}
use Rattle.flash_pages.specs.declared.fault.PageFault.{PageFault}
use Rattle.flash_pages.specs.Faults.{BlamesNoSlot}
use Rattle.id_merge.specs.Since.{Since, IsSince, Blames}
use Rattle.spill_pass.specs.declared.passes.Pass.{Pass}
use Rattle.spill_pass.specs.declared.passes.PassTurn.{PassTurn}
use Rattle.spill_pass.specs.Calls.{PassSpent, PassSpends}
use Rattle.spill_pass.specs.Given.{PassGiven, PassKnown}
use Rattle.spill_pass.specs.ListCalls.{EndsPass, HasSpent, PassSpendsIds, ids_of}
use Rattle.spill_pass.specs.Merging.{AllOutside, MadeAtMost}
use Rattle.spill_pass.specs.PassContents.{HasAll, HasDone, MergedHas, PassHas, TookHas}
use Rattle.spill_pass.specs.Passing.{AreOfSource, PassGoes, PassTells, PassWent, TakeTells}
use Rattle.spill_pass.specs.Sources.{BlamesSource, Source, UsesOutside}
use Rattle.spill_pass.specs.Stepping.{Stepped}

-- what every call does, whatever its result: it makes so many calls of the flash at most, and a slot that is blamed is a damaged one of
-- the source's, and may be blamed or was read since. No more is damaged than before, and the lists at hand are still of the source
pub record PassDoes {S T : Type 0} (source_of : S → Source) (can_read : Bool → Device → Pool → S → Type 0) (lists_of : (ℕ → List ℕ) → (ℕ → List ℕ) → ℕ → S → List (List ℕ) → Type 0) (may_of : (ℕ → List ℕ) → S → ListRef → Type 0) (given_of : Since → Device → Pool → ℕ → S → Type 0) (damaged_of : (ℕ → List ℕ) → ℕ → S → ℕ → ℕ → ℕ → Type 0) (told : Bool) (before now : Device) (paid total : ℕ) (pool later : Pool) (old new : Pass S) (most : ℕ) (result : Result T PageFault) : Type 0 where
  pub blames : (since : Since) → IsSince told before since → PassGiven given_of since before pool old → Blames since now result
  pub sound :
      told ≡ true → (right : ℕ → List ℕ) → (lists : List (List ℕ))
      → HasAll (lists_of before.page right old.groups.into.rows old.lists) told right before.page pool old.groups lists
      → AreOfSource (may_of before.page old.lists) old.groups → BlamesSource (damaged_of now.page old.groups.into.rows old.lists) result
  pub of_source : told ≡ true → AreOfSource (may_of before.page old.lists) old.groups → AreOfSource (may_of now.page new.lists) new.groups
  pub less : (page : ℕ → List ℕ) → (rows : ℕ) → (number slot found : ℕ) → damaged_of page rows new.lists number slot found → damaged_of page rows old.lists number slot found
  pub stepped : Stepped most before now paid total result
  pub at_most : MadeAtMost most before now
  pub goes : PassGoes before now pool later (source_of old.lists) (source_of new.lists) old.groups new.groups
  pub outside :
      (low high : ℕ) → UsesOutside low high (source_of old.lists) → AllOutside low high old.groups.into.merge.cursors.items
      → AllOutside low high new.groups.into.merge.cursors.items
  pub fan : new.fan ≡ old.fan
  pub ready : OnOk result (can_read told now later new.lists)

-- a turn: the pass goes on, or its lists stand
pub record PassTurns {S : Type 0} (source_of : S → Source) (lists_of : (ℕ → List ℕ) → (ℕ → List ℕ) → ℕ → S → List (List ℕ) → Type 0) (given_of : Since → Device → Pool → ℕ → S → Type 0) (told : Bool) (before now : Device) (paid total : ℕ) (pool later : Pool) (old new : Pass S) (was : Bool) (result : Result PassTurn PageFault) : Type 0 where
  pub has :
      told ≡ true → (right : ℕ → List ℕ) → (lists : List (List ℕ))
      → HasAll (lists_of before.page right old.groups.into.rows old.lists) told right before.page pool old.groups lists
      → PassHas (lists_of now.page right old.groups.into.rows new.lists) told right now.page later new.groups old.groups.into.rows lists result
  pub known : (since : Since) → IsSince told before since → PassGiven given_of since before pool old → PassKnown given_of since now later old.groups.into.rows new result
  pub spent : IfOk result (PassSpends paid total pool later (source_of old.lists) (source_of new.lists) old.groups new.groups)
  pub counts :
      told ≡ true → (right : ℕ → List ℕ) → (lists : List (List ℕ))
      → (h : HasAll (lists_of before.page right old.groups.into.rows old.lists) told right before.page pool old.groups lists)
      → IfOk result (PassSpendsIds (lists_of now.page right old.groups.into.rows new.lists) told right now.page paid total pool later (source_of old.lists) (source_of new.lists) old.groups new.groups lists (ids_of h.left))
  pub tells : IfOk result (PassTells told before now pool later (source_of old.lists) (source_of new.lists) old.groups new.groups old.fan was new.merging)

-- the next list is taken into the group at hand, or none is left and no call was made
pub record PassTakes {S : Type 0} (source_of : S → Source) (lists_of : (ℕ → List ℕ) → (ℕ → List ℕ) → ℕ → S → List (List ℕ) → Type 0) (given_of : Since → Device → Pool → ℕ → S → Type 0) (told : Bool) (before now : Device) (paid total : ℕ) (pool later : Pool) (old new : Pass S) (result : Result (Option ℕ) PageFault) : Type 0 where
  pub has :
      told ≡ true → (right : ℕ → List ℕ) → (lists : List (List ℕ))
      → HasAll (lists_of before.page right old.groups.into.rows old.lists) told right before.page pool old.groups lists
      → TookHas (lists_of now.page right old.groups.into.rows new.lists) told right now.page later new.groups lists result
  pub given : (since : Since) → IsSince told before since → PassGiven given_of since before pool old → OnOk result (PassGiven given_of since now later new)
  pub none : IfOk result (λ calls. IfNone calls (total ≡ paid))
  pub spent : OnOk result (PassSpent paid total pool later (source_of old.lists) (source_of new.lists) old.groups new.groups)
  pub counts :
      told ≡ true → (right : ℕ → List ℕ) → (lists : List (List ℕ))
      → (h : HasAll (lists_of before.page right old.groups.into.rows old.lists) told right before.page pool old.groups lists)
      → OnOk result (HasSpent (lists_of now.page right old.groups.into.rows new.lists) told right now.page paid total pool later (source_of old.lists) (source_of new.lists) old.groups new.groups lists (ids_of h.left))
  pub taking : new.merging ≡ false
  pub tells : IfOk result (TakeTells told before now pool later (source_of old.lists) (source_of new.lists) old.groups new.groups old.fan)

-- the merge of the group at hand goes on
pub record PassMerges {S : Type 0} (source_of : S → Source) (lists_of : (ℕ → List ℕ) → (ℕ → List ℕ) → ℕ → S → List (List ℕ) → Type 0) (given_of : Since → Device → Pool → ℕ → S → Type 0) (told : Bool) (before now : Device) (paid total : ℕ) (pool later : Pool) (old new : Pass S) (result : Result ℕ PageFault) : Type 0 where
  pub has :
      told ≡ true → (right : ℕ → List ℕ) → (lists : List (List ℕ))
      → HasAll (lists_of before.page right old.groups.into.rows old.lists) told right before.page pool old.groups lists
      → MergedHas (lists_of now.page right old.groups.into.rows new.lists) told right now.page later new.groups lists result
  pub given : (since : Since) → IsSince told before since → PassGiven given_of since before pool old → OnOk result (PassGiven given_of since now later new)
  pub spent : OnOk result (PassSpent paid total pool later (source_of old.lists) (source_of new.lists) old.groups new.groups)
  pub counts :
      told ≡ true → (right : ℕ → List ℕ) → (lists : List (List ℕ))
      → (h : HasAll (lists_of before.page right old.groups.into.rows old.lists) told right before.page pool old.groups lists)
      → OnOk result (HasSpent (lists_of now.page right old.groups.into.rows new.lists) told right now.page paid total pool later (source_of old.lists) (source_of new.lists) old.groups new.groups lists (ids_of h.left))
  pub lists_are : new.lists ≡ old.lists
  pub tells : IfOk result (PassWent told before now pool later (source_of old.lists) (source_of new.lists) old.groups new.groups old.fan true new.merging)

-- the last pages are written, and all lists stand
pub record PassFinishes {S : Type 0} (source_of : S → Source) (lists_of : (ℕ → List ℕ) → (ℕ → List ℕ) → ℕ → S → List (List ℕ) → Type 0) (given_of : Since → Device → Pool → ℕ → S → Type 0) (told : Bool) (before now : Device) (paid total : ℕ) (pool later : Pool) (old new : Pass S) (result : Result PassTurn PageFault) : Type 0 where
  pub has :
      told ≡ true → (right : ℕ → List ℕ) → (lists : List (List ℕ)) → HasDone told right before.page pool old.groups lists
      → PassHas (lists_of now.page right old.groups.into.rows new.lists) told right now.page later new.groups old.groups.into.rows lists result
  pub known : (since : Since) → IsSince told before since → PassGiven given_of since before pool old → PassKnown given_of since now later old.groups.into.rows new result
  pub no_slot : BlamesNoSlot result
  pub spent : IfOk result (PassSpends paid total pool later (source_of old.lists) (source_of new.lists) old.groups new.groups)
  pub ends : IfOk result (EndsPass old.groups)
  pub lists_are : new.lists ≡ old.lists
  pub tells : IfOk result (PassTells told before now pool later (source_of old.lists) (source_of new.lists) old.groups new.groups old.fan false new.merging)
