-- What a step of a group of lists reads, leaves, counts and comes to.
use Rattle.std.specs.Prelude.{◌≡◌, ◌||◌, ℕ, ◌+◌, ◌-◌, ◌≤◌, Bool, true, false, List, Result, IfOk, OnOk}
use Rattle.ghost_model.specs.core.Causes.{Rose}
use Rattle.edge_traits.specs.Devices.{Device}
use Rattle.page_pool.specs.Pools.{Pool}
use Rattle.flash_pages.specs.declared.fault.PageFault.{PageFault}
use Rattle.flash_pages.specs.Faults.{BlamesNoSlot}
use Rattle.flash_pages.specs.Writers.{waits, finish_calls}
use Rattle.id_merge.specs.declared.merge.Merge.{Merge}
use Rattle.id_merge.specs.Since.{Since, IsSince}
use Rattle.spill_pass.specs.declared.groups.Groups.{Groups}
use Rattle.spill_pass.specs.declared.groups.GroupTurn.{GroupTurn}
use Rattle.spill_pass.specs.declared.groups.PlacedLists.{PlacedLists}
use Rattle.spill_pass.specs.Causes.{QuietAtDamage}
use Rattle.spill_pass.specs.Given.{GroupsGiven, StandsInOrder}
use Rattle.spill_pass.specs.Grouping.{AreRunsOf, GoesOn, HasGrouped, IsGrouped, ListStands, ListsGroup, StoresLists, TurnGives, TurnTells, calls_to_come, lists_at_hand}
use Rattle.spill_pass.specs.Merging.{AllOutside, MadeAtMost, NoOthers}
use Rattle.spill_pass.specs.Stepping.{Stepped}

-- what a step does, whatever its result: it makes two calls at most, and reads no other list than before
pub record GroupDoes {T : Type 0} (told : Bool) (before now : Device) (paid total : ℕ) (pool later : Pool) (old new : Groups) (result : Result T PageFault) : Type 0 where
  pub given :
      (since : Since) → IsSince told before since → GroupsGiven since before pool old → OnOk result (GroupsGiven since now later new)
  pub lists : NoOthers old.into.merge.cursors.items new.into.merge.cursors.items
  pub outside : (low high : ℕ) → AllOutside low high old.into.merge.cursors.items → AllOutside low high new.into.merge.cursors.items
  pub stepped : Stepped 2 before now paid total result
  pub at_most : MadeAtMost (total - paid) before now
  pub spent : OnOk result (total + calls_to_come later new ≤ paid + calls_to_come pool old)
  pub goes : GoesOn before now pool later old new

-- the merge of the group went on, or its list stands. Where a slot is blamed no call was made
pub record GroupTurns (told : Bool) (before now : Device) (pool later : Pool) (old new : Groups) (result : Result GroupTurn PageFault) : Type 0 where
  pub gives :
      told ≡ true → (right : ℕ → List ℕ) → (merge : Merge) → (lists : List (List ℕ)) → IsGrouped told right merge lists before.page pool old
      → TurnGives told right merge lists now.page later new result
  pub quiet : QuietAtDamage before.calls now.calls result
  pub tells : IfOk result (TurnTells told now pool later old new)

-- the list of the group stands, and the group is empty
pub record GroupCloses {T : Type 0} (told : Bool) (before now : Device) (pool later : Pool) (old new : Groups) (result : Result T PageFault) : Type 0 where
  pub closes :
      told ≡ true → (right : ℕ → List ℕ) → (merge : Merge) → (lists : List (List ℕ)) → HasGrouped told right merge lists before.page pool old
      → OnOk result (ListsGroup told right merge lists now.page later new)
  pub no_slot : BlamesNoSlot result
  pub tells : OnOk result (ListStands told now pool later old new)

-- the last pages of the lists and of their places are written, in four calls at most: none where none waits, and else at least one
pub record GroupsFinish (told : Bool) (before now : Device) (paid total : ℕ) (pool later : Pool) (old new : Groups) (result : Result PlacedLists PageFault) : Type 0 where
  pub stores :
      IfOk result
      (λ placed. told ≡ true → (right : ℕ → List ℕ) → (merge : Merge) → (lists : List (List ℕ)) → IsGrouped told right merge lists before.page pool old
      → StoresLists now.page lists placed)
  pub in_order :
      (since : Since) → IsSince told before since → GroupsGiven since before pool old
      → IfOk result (λ placed. since.told ≡ true → StandsInOrder now.page old.into.rows placed)
  pub runs : IfOk result (AreRunsOf old)
  pub empty : lists_at_hand new ≡ 0
  pub stepped : Stepped 4 before now paid total result
  pub most : total ≤ paid + finish_calls old.into.writer.filler + finish_calls old.places.filler
  pub all : OnOk result (total ≡ paid + finish_calls old.into.writer.filler + finish_calls old.places.filler)
  pub none : (waits old.into.writer.filler || waits old.places.filler) ≡ false → MadeAtMost 0 before now
  pub called : (waits old.into.writer.filler || waits old.places.filler) ≡ true → OnOk result (Rose before.calls now.calls)
  pub no_slot : BlamesNoSlot result
  pub at_most : MadeAtMost 4 before now
  pub goes : GoesOn before now pool later old new
