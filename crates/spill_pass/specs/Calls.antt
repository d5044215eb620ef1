-- How many calls of the flash the passes make at most, those of their source among them.
use Rattle.std.specs.Prelude.{◌≡◌, ℕ, ◌+◌, ◌-◌, ◌*◌, ◌/◌, ◌^◌, ◌≤◌, ◌⊎◌, Bool, true, false, Option, Some, None, Result, Ok, Err}
use Rattle.page_pool.specs.Pools.{Pool}
use Rattle.flash_pages.specs.declared.fault.PageFault.{PageFault}
use Rattle.id_merge.specs.Merges.{unread}
use Rattle.spill_pass.specs.declared.groups.Groups.{Groups}
use Rattle.spill_pass.specs.declared.passes.PassTurn.{PassTurn}
use Rattle.spill_pass.specs.declared.passes.PassTurn.TheVariants.{Went, Placed}
use Rattle.spill_pass.specs.declared.reduce.Areas.{Areas}
use Rattle.spill_pass.specs.Grouping.{ids_at_hand}
use Rattle.spill_pass.specs.Sources.{Source}

-- a pass over so many lists, of so many identifiers in all: three calls for 512 identifiers, as many as fill a page (one reads it, two
-- write it), eight a list, and eight more
abbrev pub pass_calls : (lists ids : ℕ) → ℕ
pass_calls lists ids = 8 * lists + 3 * (ids / 512) + 8

-- how many identifiers a pass has written, has at hand, or has still to take
abbrev pub ids_in_pass : Source → Groups → ℕ
ids_in_pass source groups = ids_at_hand groups + source.ids_left

-- what the groups may still call, over so many identifiers: one call a page that is read, and two a page that is written
abbrev pub group_calls_left : Pool → (ids : ℕ) → Groups → ℕ
group_calls_left pool ids groups =
    unread pool groups.into.merge + 2 * (ids / 512 - groups.into.writer.filler.pages) + 2 * ((groups.size + 1) / 512 - groups.places.filler.pages)

-- what a pass may still call: three calls a list that the source gives, one a page of the list, and four for the last pages that
-- are written or for a call that fails
abbrev pub pass_calls_left : Pool → Source → Groups → ℕ
pass_calls_left pool source groups =
    5 * source.lists_left + source.ids_left / 512 + group_calls_left pool (ids_in_pass source groups) groups + 4

-- what was called is taken off what is left, and no identifier came to the pass
pub record PassSpent (before now : ℕ) (pool later : Pool) (source rest : Source) (old new : Groups) : Type 0 where
  pub ids : ids_in_pass rest new ≤ ids_in_pass source old
  pub calls : now + pass_calls_left later rest new ≤ before + pass_calls_left pool source old

abbrev pub PassSpends : (before now : ℕ) (pool later : Pool) (source rest : Source) (old new : Groups) → PassTurn → Type 0
PassSpends before now pool later source rest old new (Went calls) = PassSpent before now pool later source rest old new
PassSpends before now pool later source rest old new (Placed placed calls) = now ≤ before + pass_calls_left pool source old

-- all passes make no more calls than are left: after the one at hand there are so many at most, since half as many lists come from
-- each, rounded up, and one more may bring the one list where it is to stand
pub record CallsLeft (pool : Pool) (source : Source) (areas : Areas) (groups : Groups) (left : ℕ) : Type 0 where
  pub passes : ℕ
  pub halved : groups.size ≤ 2 ^ passes
  pub elsewhere : (groups.into.writer.filler.first ≡ areas.to) ⊎ (1 ≤ passes)
  pub enough : pass_calls_left pool source groups + passes * pass_calls groups.size (ids_in_pass source groups) ≤ left

-- what was called is taken off what is left
pub record FewerCalls (before now : ℕ) (later : Pool) (rest : Source) (areas : Areas) (new : Groups) (left : ℕ) : Type 0 where
  pub still : ℕ
  pub calls_left : CallsLeft later rest areas new still
  pub spent : now + still ≤ before + left

abbrev pub TurnSpends : (before now : ℕ) (later : Pool) (rest : Source) (areas : Areas) (new : Groups) (left : ℕ) → Result (Option ℕ) PageFault → Type 0
TurnSpends before now later rest areas new left (Ok (Some calls)) = FewerCalls before now later rest areas new left
TurnSpends before now later rest areas new left (Ok None) = now ≤ before + left
TurnSpends before now later rest areas new left (Err fault) = now ≤ before + left

abbrev pub StepSpends : (before now : ℕ) (later : Pool) (rest : Source) (areas : Areas) (new : Groups) (left : ℕ) → Result Bool PageFault → Type 0
StepSpends before now later rest areas new left (Ok true) = now ≤ before + left
StepSpends before now later rest areas new left (Ok false) = FewerCalls before now later rest areas new left
StepSpends before now later rest areas new left (Err fault) = now ≤ before + left
