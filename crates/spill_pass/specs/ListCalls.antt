-- How many calls of the flash the passes make at most by the identifiers that their lists have themselves, where pages are told.
use Rattle.std.specs.Prelude.{◌≡◌, ℕ, ◌+◌, ◌*◌, ◌/◌, ◌^◌, ◌≤◌, ◌⊎◌, Bool, true, false, List, length, Option, Some, None, Result, Ok, Err}
use Rattle.std.specs.List.{concat}
use Rattle.page_pool.specs.Pools.{Pool}
use Rattle.flash_pages.specs.declared.fault.PageFault.{PageFault}
use Rattle.spill_pass.specs.declared.groups.Groups.{Groups}
use Rattle.spill_pass.specs.declared.passes.PassTurn.{PassTurn}
use Rattle.spill_pass.specs.declared.passes.PassTurn.TheVariants.{Went, Placed}
use Rattle.spill_pass.specs.declared.reduce.Areas.{Areas}
use Rattle.spill_pass.specs.Calls.{group_calls_left, pass_calls}
use Rattle.spill_pass.specs.Grouping.{ids_at_hand}
use Rattle.spill_pass.specs.PassContents.{HasAll}
use Rattle.spill_pass.specs.ReduceContents.{ReduceHas}
use Rattle.spill_pass.specs.Sources.{Source}

-- how many identifiers lists have
abbrev pub ids_of : List (List ℕ) → ℕ
ids_of lists = length (concat lists)

-- what a pass may still call, where so many lists are still to come, of so many identifiers: as what it may call by its source
abbrev pub calls_over : Pool → (lists ids : ℕ) → Groups → ℕ
calls_over pool lists ids groups = 5 * lists + ids / 512 + group_calls_left pool (ids_at_hand groups + ids) groups + 4

-- all lists have together what they had. What was called is taken off what is left, and no identifier came to the pass
pub record HasSpent (has : List (List ℕ) → Type 0) (told : Bool) (right page : ℕ → List ℕ) (before now : ℕ) (pool later : Pool) (source rest : Source) (old new : Groups) (lists : List (List ℕ)) (ids : ℕ) : Type 0 where
  pub all : HasAll has told right page later new lists
  pub fewer : ids_at_hand new + ids_of all.left ≤ ids_at_hand old + ids
  pub calls : now + calls_over later rest.lists_left (ids_of all.left) new ≤ before + calls_over pool source.lists_left ids old

-- where the lists of all groups stand they have no more identifiers than all lists have
abbrev pub PassSpendsIds : (has : List (List ℕ) → Type 0) (told : Bool) (right page : ℕ → List ℕ) (before now : ℕ) (pool later : Pool) (source rest : Source) (old new : Groups) (lists : List (List ℕ)) (ids : ℕ) → PassTurn → Type 0
PassSpendsIds has told right page before now pool later source rest old new lists ids (Went calls) = HasSpent has told right page before now pool later source rest old new lists ids
PassSpendsIds has told right page before now pool later source rest old new lists ids (Placed placed calls) = placed.lists.count ≤ ids_at_hand old + ids

-- what is still to come has no more identifiers than so many
pub record HasFew (has : List (List ℕ) → Type 0) (told : Bool) (right page : ℕ → List ℕ) (pool : Pool) (groups : Groups) (lists : List (List ℕ)) (ids : ℕ) : Type 0 where
  pub all : HasAll has told right page pool groups lists
  pub few : ids_of all.left ≤ ids

-- the last pages of a pass are written: its lists stand
abbrev pub EndsPass : Groups → PassTurn → Type 0
EndsPass old (Went calls) = ⊥
EndsPass old (Placed placed calls) = placed.lists.count ≤ ids_at_hand old

-- the next pass has what all lists have, and no more identifiers than its source says
pub record BeginsPass (has : (ℕ → List ℕ) → List (List ℕ) → Type 0) (told : Bool) (page : ℕ → List ℕ) (pool : Pool) (rest : Source) (groups : Groups) (lists : List (List ℕ)) : Type 0 where
  pub has_all : ReduceHas has told page pool groups lists
  pub few : ids_of has_all.holds.left ≤ rest.ids_left

-- all passes make no more calls than are left, by the identifiers that the lists of the one at hand have themselves
pub record ReduceCounts (has : (ℕ → List ℕ) → List (List ℕ) → Type 0) (told : Bool) (page : ℕ → List ℕ) (pool : Pool) (source : Source) (areas : Areas) (groups : Groups) (lists : List (List ℕ)) (left : ℕ) : Type 0 where
  pub has_all : ReduceHas has told page pool groups lists
  pub passes : ℕ
  pub halved : groups.size ≤ 2 ^ passes
  pub elsewhere : (groups.into.writer.filler.first ≡ areas.to) ⊎ (1 ≤ passes)
  pub enough :
      calls_over pool source.lists_left (ids_of has_all.holds.left) groups
      + passes * pass_calls groups.size (ids_at_hand groups + ids_of has_all.holds.left) ≤ left

-- what was called is taken off what is left
pub record FewerCounts (has : (ℕ → List ℕ) → List (List ℕ) → Type 0) (told : Bool) (page : ℕ → List ℕ) (before now : ℕ) (later : Pool) (rest : Source) (areas : Areas) (new : Groups) (lists : List (List ℕ)) (left : ℕ) : Type 0 where
  pub still : ℕ
  pub counts : ReduceCounts has told page later rest areas new lists still
  pub spent : now + still ≤ before + left

abbrev pub TurnCounts : (has : (ℕ → List ℕ) → List (List ℕ) → Type 0) (told : Bool) (page : ℕ → List ℕ) (before now : ℕ) (later : Pool) (rest : Source) (areas : Areas) (new : Groups) (lists : List (List ℕ)) (left : ℕ) → Result (Option ℕ) PageFault → Type 0
TurnCounts has told page before now later rest areas new lists left (Ok (Some calls)) = FewerCounts has told page before now later rest areas new lists left
TurnCounts has told page before now later rest areas new lists left (Ok None) = now ≤ before + left
TurnCounts has told page before now later rest areas new lists left (Err fault) = now ≤ before + left

abbrev pub StepCounts : (has : (ℕ → List ℕ) → List (List ℕ) → Type 0) (told : Bool) (page : ℕ → List ℕ) (before now : ℕ) (later : Pool) (rest : Source) (areas : Areas) (new : Groups) (lists : List (List ℕ)) (left : ℕ) → Result Bool PageFault → Type 0
StepCounts has told page before now later rest areas new lists left (Ok true) = now ≤ before + left
StepCounts has told page before now later rest areas new lists left (Ok false) = FewerCounts has told page before now later rest areas new lists left
StepCounts has told page before now later rest areas new lists left (Err fault) = now ≤ before + left
