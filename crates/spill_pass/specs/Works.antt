-- What works in steps: what it is to come to, which pages and buffers a step leaves as they were, and what a step takes off the calls
-- that may still be made.
use Rattle.std.specs.Prelude.{◌≡◌, ℕ, ◌+◌, ◌≤◌, Bool, true, false, List, Result, Ok, Err}
use Rattle.edge_traits.specs.Devices.{Device, SamePage}
use Rattle.page_pool.specs.Pools.{Pool, AreOut, KeepsOthers, others_out}
use Rattle.flash_pages.specs.declared.fault.PageFault.{PageFault}
use Rattle.id_merge.specs.declared.merge.Merge.{Merge}

-- what a work is to come to: what a merge gives by right pages, among the identifiers of lists; what is written lies from a page on
pub record Goal : Type 0 where
  pub first : ℕ → List ℕ
  pub low : ℕ
  pub merge : Merge
  pub lists : List (List ℕ)

-- the pages that a work never writes are as they were, of the buffers only those of its leases changed, old and new, and the new ones
-- are out
pub record WorkGoes (unwritten : (page : ℕ) → Type 0) (before now : Device) (pool later : Pool) (old new : List ℕ) : Type 0 where
  pub name : now.name ≡ before.name
  pub page_count : now.page_count ≡ before.page_count
  pub stays : (page : ℕ) → unwritten page → SamePage before now page
  pub devices : now.others ≡ before.others
  pub never_falls : before.calls ≤ now.calls
  pub gave : (at page : ℕ) (bytes : List ℕ) → before.gave at page bytes ≡ true → now.gave at page bytes ≡ true
  pub beside : others_out later new ≡ others_out pool old
  pub others : KeepsOthers (others_out pool old) pool later
  pub still : AreOut later new

-- all lies outside of the same regions as before, and no page more is written
pub record LiesWithin (old_outside new_outside : (low high : ℕ) → Type 0) (old_unwritten new_unwritten : (page : ℕ) → Type 0) : Type 0 where
  pub outside : (low high : ℕ) → old_outside low high → new_outside low high
  pub unwritten : (page : ℕ) → old_unwritten page → new_unwritten page

-- what was called is taken off what may be called
pub record StillCosts (costs : (left : ℕ) → Type 0) (before now left : ℕ) : Type 0 where
  pub still : ℕ
  pub costs_still : costs still
  pub spent : now + still ≤ before + left

abbrev pub Spends : (costs : (left : ℕ) → Type 0) → (before now left : ℕ) → Result Bool PageFault → Type 0
Spends costs before now left (Ok true) = now ≤ before + left
Spends costs before now left (Ok false) = StillCosts costs before now left
Spends costs before now left (Err fault) = now ≤ before + left
