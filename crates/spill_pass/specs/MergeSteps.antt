-- What a step of a merge reads, leaves, counts and comes to, where it is written as a list.
use Rattle.std.specs.Prelude.{◌≡◌, ℕ, ◌+◌, ◌-◌, ◌<◌, ◌≤◌, ◌++◌, Bool, true, List, [], ◌∷◌, map, Option, Result, IfOk, IfNone, IfSome, OnErr, OnOk}
use Rattle.ghost_model.specs.core.Causes.{Rose}
use Rattle.ghost_model.specs.forms.Runs.{number_cell}
use Rattle.ghost_base.specs.declared.runs.Run.{Run}
use Rattle.edge_traits.specs.Devices.{Counts, Device}
use Rattle.page_pool.specs.Pools.{Pool}
use Rattle.flash_pages.specs.declared.fault.PageFault.{PageFault}
use Rattle.flash_pages.specs.Faults.{BlamesNoSlot}
use Rattle.flash_pages.specs.Writers.{HasPut}
use Rattle.id_merge.specs.declared.cursor.Cursor.{Cursor}
use Rattle.id_merge.specs.declared.merge.Merge.{Merge}
use Rattle.id_merge.specs.declared.merge.Step.{Step}
use Rattle.id_merge.specs.Since.{Since, IsSince, Blames}
use Rattle.id_merge.specs.Cursors.{AreRight, AllGiven, BlamesLists, BlamesOutOfRows}
use Rattle.id_merge.specs.Merges.{unread}
use Rattle.spill_pass.specs.declared.merging.MergeInto.{MergeInto}
use Rattle.spill_pass.specs.Causes.{QuietAtDamage}
use Rattle.spill_pass.specs.Given.{MergeGiven, MergeKnown, Puts, PutsList}
use Rattle.spill_pass.specs.Merging.{AdvanceGives, AdvanceTells, Gathers, GivesList, Goes, HasRoom, IsMerging, IsPlaced, KeepsIds, MadeAtMost, Spends, SpendsByPages, TurnTells, WentByPages, calls_left, left_of, step_calls}
use Rattle.spill_pass.specs.Stepping.{Stepped}

-- a slot that is blamed is one of the lists that are merged: it may be blamed, or was read since, and where pages are told it has no
-- identifier of the rows
pub record ReadsLists {T : Type 0} (told : Bool) (before now : Device) (pool : Pool) (old new : List Cursor) (result : Result T PageFault) : Type 0 where
  pub sound : told ≡ true → (right : ℕ → List ℕ) → AreRight before.page right old → BlamesOutOfRows now.page new result
  pub blames : (since : Since) → IsSince told before since → AllGiven since before pool old → Blames since now result
  pub slot : (since : Since) → IsSince told before since → AllGiven since before pool old → BlamesLists since now new result

-- a step of a merge makes one call of the flash at most, and what it made is counted
pub record CountsStep (before now : Device) (paid total : ℕ) (result : Result Step PageFault) : Type 0 where
  pub at_most : now.calls ≤ before.calls + 1
  pub deep_reads : now.deep_reads ≤ before.deep_reads + 1
  pub counted : Counts (total - paid) before.calls now.calls
  pub few_reads : now.deep_reads ≤ before.deep_reads + (total - paid)
  pub added : total ≡ paid + step_calls result
  pub rises : paid ≤ total
  pub most : total ≤ paid + 1

-- one identifier more is put, in two calls at most
pub record PutsOne {T : Type 0} (told : Bool) (before now : Device) (paid total : ℕ) (pool later : Pool) (old new : MergeInto) (id : ℕ) (result : Result T PageFault) : Type 0 where
  pub count : OnOk result (new.writer.filler.count ≡ old.writer.filler.count + 1)
  pub put :
      OnOk result ((ids : List ℕ) → HasPut told before.page pool old.writer (map number_cell ids) → HasPut told now.page later new.writer (map number_cell (ids ++ id ∷ [])))
  pub ids : told ≡ true → KeepsIds before.page now.page old.merge.cursors.items
  pub merge : new.merge ≡ old.merge
  pub unread_is : unread later new.merge ≡ unread pool old.merge
  pub no_slot : BlamesNoSlot result
  pub stepped : Stepped 2 before now paid total result
  pub at_most : MadeAtMost (total - paid) before now
  pub spent : OnOk result (total + calls_left later new ≤ paid + calls_left pool old)
  pub by_pages : OnOk result (WentByPages paid total pool later old new)
  pub most : total ≤ paid + calls_left pool old
  pub goes : Goes told before now pool later old new
  pub ready : OnOk result (IsMerging told now later new)

-- what a turn of a merge does: it makes two calls at most, and the lists stay as right as they were, whatever the answer. A fault may
-- cost one call more than were left, and without one there is still room
pub record MergeDoes {T : Type 0} (told : Bool) (before now : Device) (paid total : ℕ) (pool later : Pool) (old new : MergeInto) (result : Result T PageFault) : Type 0 where
  pub right : told ≡ true → (pages : ℕ → List ℕ) → AreRight before.page pages old.merge.cursors.items → AreRight now.page pages new.merge.cursors.items
  pub stepped : Stepped 2 before now paid total result
  pub at_most : MadeAtMost (total - paid) before now
  pub goes : Goes told before now pool later old new
  pub spent : OnErr result (total ≤ paid + calls_left pool old + 1)
  pub room : OnOk result (HasRoom new)

-- a step of the merge was taken, and what it found was put, or nothing is left. Where a slot is blamed no call was made
pub record MergeAdvances (told : Bool) (before now : Device) (paid total : ℕ) (pool later : Pool) (old new : MergeInto) (result : Result Bool PageFault) : Type 0 where
  pub gives :
      told ≡ true → (right : ℕ → List ℕ) → (merge : Merge) → (earlier : List ℕ) → Gathers told right merge earlier before.page pool old
      → AdvanceGives told right merge earlier now.page later new result
  pub puts : told ≡ true → (earlier : List ℕ) → Puts told earlier before.page pool old → OnOk result (Puts told earlier now.page later new)
  pub quiet : QuietAtDamage before.calls now.calls result
  pub tells : IfOk result (AdvanceTells told before now paid total pool later old new)

-- a step of the merge was taken, and what it found was put, or the list stands
pub record MergeTurns (told : Bool) (before now : Device) (paid total : ℕ) (pool later : Pool) (old new : MergeInto) (result : Result (Option Run) PageFault) : Type 0 where
  pub gives :
      told ≡ true → (right : ℕ → List ℕ) → (merge : Merge) → Gathers told right merge [] before.page pool old
      → GivesList told right merge now.page later new result
  pub puts : told ≡ true → Puts told [] before.page pool old → PutsList told now.page later old.rows new result
  pub tells : IfOk result (TurnTells told now paid total pool later old new)

-- there is more to do, after at least one call and with less left, or the list stands
pub record MergeSteps (told : Bool) (before now : Device) (paid total : ℕ) (pool later : Pool) (old new : MergeInto) (result : Result (Option Run) PageFault) : Type 0 where
  pub gives :
      told ≡ true → (right : ℕ → List ℕ) → (merge : Merge) → Gathers told right merge [] before.page pool old
      → GivesList told right merge now.page later new result
  pub known : (since : Since) → IsSince told before since → MergeGiven since before pool old → MergeKnown since now later old.rows new result
  pub spent : Spends paid total pool later old new result
  pub by_pages : SpendsByPages paid total pool later old new result
  pub called : IfOk result (λ list. IfNone list (Rose before.calls now.calls))
  pub placed : IfOk result (λ list. IfSome list (IsPlaced old))
  pub fewer : IfOk result (λ list. IfNone list (left_of later new < left_of pool old))
  pub ready : IfOk result (λ list. IfNone list (IsMerging told now later new))
  pub room : IfOk result (λ list. IfNone list (HasRoom new))
