-- What the lists of a pass have together: those that are written, the group at hand, and those still to come.
use Rattle.std.specs.Prelude.{◌≡◌, ℕ, ◌<◌, ◌⊎◌, ◌↔◌, Bool, ⊤, List, [], length, get_or, Option, Some, None, Result, Ok, Err}
use Rattle.page_pool.specs.Pools.{Pool}
use Rattle.flash_pages.specs.declared.fault.PageFault.{PageFault}
use Rattle.id_merge.specs.declared.merge.Merge.{Merge}
use Rattle.id_merge.specs.Merges.{Remains}
use Rattle.spill_pass.specs.declared.groups.Groups.{Groups}
use Rattle.spill_pass.specs.declared.groups.PlacedLists.{PlacedLists}
use Rattle.spill_pass.specs.declared.passes.PassTurn.{PassTurn}
use Rattle.spill_pass.specs.declared.passes.PassTurn.TheVariants.{Went, Placed}
use Rattle.spill_pass.specs.Grouping.{AreRowLists, IsGrouped, StoresLists, lists_at_hand}
use Rattle.spill_pass.specs.Merging.{IsOneOf}

-- one of the lists has the identifier
pub record InLists (lists : List (List ℕ)) (id : ℕ) : Type 0 where
  pub at : ℕ
  pub within : at < length lists
  pub is : IsOneOf (get_or lists at []) id

-- where pages are told: the lists that are written, what the group at hand has still to give, and the lists still to come have
-- together what all lists have
pub record HasAll (has : List (List ℕ) → Type 0) (told : Bool) (right page : ℕ → List ℕ) (pool : Pool) (groups : Groups) (lists : List (List ℕ)) : Type 0 where
  pub merge : Merge
  pub done : List (List ℕ)
  pub left : List (List ℕ)
  pub has_left : has left
  pub grouped : IsGrouped told right merge done page pool groups
  pub empty : lists_at_hand groups ≡ 0 → (id : ℕ) → Remains right merge id → ⊥
  pub all : (id : ℕ) → InLists lists id ↔ (InLists done id ⊎ (Remains right merge id ⊎ InLists left id))

-- where pages are told and no list is still to come: what was written and what is at hand have together what all lists have
pub record HasDone (told : Bool) (right page : ℕ → List ℕ) (pool : Pool) (groups : Groups) (lists : List (List ℕ)) : Type 0 where
  pub merge : Merge
  pub done : List (List ℕ)
  pub grouped : IsGrouped told right merge done page pool groups
  pub empty : lists_at_hand groups ≡ 0 → (id : ℕ) → Remains right merge id → ⊥
  pub all : (id : ℕ) → InLists lists id ↔ (InLists done id ⊎ Remains right merge id)

-- the lists of all groups are written, and have together what all lists have
pub record StandsAll (page : ℕ → List ℕ) (rows : ℕ) (lists : List (List ℕ)) (placed : PlacedLists) : Type 0 where
  pub done : List (List ℕ)
  pub stores : StoresLists page done placed
  pub ordered : AreRowLists rows done
  pub all : (id : ℕ) → InLists lists id ↔ InLists done id

abbrev pub TookHas : (has : List (List ℕ) → Type 0) (told : Bool) (right page : ℕ → List ℕ) → Pool → Groups → (lists : List (List ℕ)) → Result (Option ℕ) PageFault → Type 0
TookHas has told right page pool groups lists (Ok (Some calls)) = HasAll has told right page pool groups lists
TookHas has told right page pool groups lists (Ok None) = HasAll has told right page pool groups lists × HasDone told right page pool groups lists
TookHas has told right page pool groups lists (Err fault) = ⊤

abbrev pub MergedHas : (has : List (List ℕ) → Type 0) (told : Bool) (right page : ℕ → List ℕ) → Pool → Groups → (lists : List (List ℕ)) → Result ℕ PageFault → Type 0
MergedHas has told right page pool groups lists (Ok calls) = HasAll has told right page pool groups lists
MergedHas has told right page pool groups lists (Err fault) = ⊤

abbrev pub PassHas : (has : List (List ℕ) → Type 0) (told : Bool) (right page : ℕ → List ℕ) → Pool → Groups → (rows : ℕ) (lists : List (List ℕ)) → Result PassTurn PageFault → Type 0
PassHas has told right page pool groups rows lists (Ok (Went calls)) = HasAll has told right page pool groups lists
PassHas has told right page pool groups rows lists (Ok (Placed placed calls)) = StandsAll page rows lists placed
PassHas has told right page pool groups rows lists (Err fault) = ⊤
