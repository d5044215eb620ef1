-- The areas that a group's candidates are gathered in, while those before stand as a list in the area for groups.
use Rattle.std.specs.Prelude.{◌≡◌, ◌≢◌, ℕ, ◌+◌, ◌⊎◌}
use Rattle.edge_traits.specs.Devices.{Device}
use Rattle.spill_pass.specs.Grouping.{AreApart}
use Rattle.spill_pass.specs.Merging.{IsArea, area_pages}
use Rattle.candidate_lists.specs.declared.scratch.Scratch.{Scratch}
use Rattle.candidate_lists.specs.Outside.{ScratchOutside}
use Rattle.candidate_lists.specs.Scratch.{HasScratch, IsSameOrTurned, grouped}

-- the device has the area for groups, which shares no page with those that are written, and has room for so many identifiers
pub record HasGroup (device : Device) (scratch : Scratch) (rows size : ℕ) : Type 0 where
  pub written : HasScratch device scratch rows size
  pub group : IsArea device scratch.group rows
  pub outside : ScratchOutside scratch.group (scratch.group + area_pages rows) scratch rows size
  pub another : scratch.group ≢ scratch.lists

-- so it is for the group's candidates: what is the area for groups then, in which the candidates before stand, shares no page with those that
-- are written
abbrev pub HasGrouped : Type 0
HasGrouped = (device : Device) (scratch : Scratch) (rows size : ℕ) → HasGroup device scratch rows size → HasGroup device (grouped scratch) rows size

-- and where candidates were written
abbrev pub HasGroupTurned : Type 0
HasGroupTurned =
    (device : Device) (old new : Scratch) (rows size : ℕ) → IsSameOrTurned old new → HasGroup device old rows size
    → HasGroup device new rows size

-- they lie outside of a region that the areas before and that for groups lie outside of
abbrev pub GroupedIsOutside : Type 0
GroupedIsOutside =
    (low high : ℕ) (scratch : Scratch) (rows size : ℕ) → ScratchOutside low high scratch rows size
    → AreApart scratch.group (scratch.group + area_pages rows) low high → ScratchOutside low high (grouped scratch) rows size

-- the areas are the same, but that those for groups and for lists, the second, may have been exchanged
abbrev pub IsSameBehindGroup : (old new : Scratch) → Type 0
IsSameBehindGroup old new = (new ≡ old) ⊎ (new ≡ record old { other_lists = old.group; group = old.other_lists })

-- so they are given back, once the group's candidates were written: the list of the group is in the area for groups
pub record IsGivenBack (old new : Scratch) : Type 0 where
  pub same : IsSameBehindGroup old (grouped new)
  pub list : (grouped new).group ≡ new.candidates

abbrev pub GivesBack : Type 0
GivesBack = (old new : Scratch) → IsSameOrTurned (grouped old) new → IsGivenBack old new
