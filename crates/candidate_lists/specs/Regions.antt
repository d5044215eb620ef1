-- A region of pages that stays as it was, since all that is written lies outside of it.
use Rattle.std.specs.Prelude.{ℕ, ◌+◌, ◌≤◌, Bool, List}
use Rattle.edge_traits.specs.Devices.{Device, KeepsPages}
use Rattle.page_pool.specs.Pools.{Pool}
use Rattle.spill_pass.specs.declared.groups.Groups.{Groups}
use Rattle.spill_pass.specs.declared.merging.MergeInto.{MergeInto}
use Rattle.spill_pass.specs.declared.reduce.Areas.{Areas}
use Rattle.spill_pass.specs.Grouping.{AreApart}
use Rattle.spill_pass.specs.Merging.{Goes, area_end, area_pages}
use Rattle.spill_pass.specs.Reducing.{IsOutside}
use Rattle.spill_pass.specs.Sources.{Source}
use Rattle.spill_pass.specs.Works.{WorkGoes}
use Rattle.candidate_lists.specs.declared.candidates.Candidates.{Candidates}
use Rattle.candidate_lists.specs.declared.closing.Closed.{Closed}
use Rattle.candidate_lists.specs.Joins.{IsJoining}
use Rattle.candidate_lists.specs.Opens.{OpeningGoes}
use Rattle.candidate_lists.specs.Outside.{KeepsRegion, ScratchOutside}
use Rattle.candidate_lists.specs.Reduces.{IsBeside}
use Rattle.candidate_lists.specs.Spared.{KeepsClosed}

-- it does where nothing is written, and over all of several steps
abbrev pub RegionIsKept : Type 0
RegionIsKept = (low high : ℕ) (before now : Device) → KeepsPages before now → KeepsRegion low high before now

abbrev pub RegionStaysKept : Type 0
RegionStaysKept =
    (low high : ℕ) (before between now : Device) → KeepsRegion low high before between → KeepsRegion low high between now
    → KeepsRegion low high before now

-- where candidates are written into an area outside of it
abbrev pub WritingKeeps : Type 0
WritingKeeps =
    (low high : ℕ) (told : Bool) (before now : Device) (pool later : Pool) (old new : MergeInto) → Goes told before now pool later old new
    → AreApart old.writer.filler.first (area_end old) low high → KeepsRegion low high before now

-- where lists are opened
abbrev pub OpeningKeeps : Type 0
OpeningKeeps =
    (low high : ℕ) (before now : Device) (pool later : Pool) (source rest : Source) (old new : Candidates)
    → OpeningGoes before now pool later source rest old new → KeepsRegion low high before now

-- where lists are merged beside candidates, and the areas lie outside of it
abbrev pub BesideKeeps : Type 0
BesideKeeps =
    (low high : ℕ) (before now : Device) (pool later : Pool) (held holds : List ℕ) (closed : Closed) (areas : Areas) (old : Groups) (rows size : ℕ)
    → IsBeside before closed areas old → WorkGoes (IsOutside areas old.into.rows old.size) before now pool later held holds → closed.rows ≤ rows
    → old.size ≤ size → ScratchOutside low high closed.scratch rows size → KeepsRegion low high before now

abbrev pub JoiningKeeps : Type 0
JoiningKeeps =
    (low high : ℕ) (before now : Device) (pool later : Pool) (held holds : List ℕ) (candidates : Candidates) (areas : Areas) (old : Groups)
    (rows size : ℕ)
    → IsJoining before candidates areas old → WorkGoes (IsOutside areas old.into.rows old.size) before now pool later held holds
    → candidates.rows ≤ rows → old.size ≤ size → ScratchOutside low high candidates.scratch rows size → KeepsRegion low high before now

-- candidates that stand as a list in it stay
abbrev pub RegionKeepsClosed : Type 0
RegionKeepsClosed =
    (low high : ℕ) (before now : Device) (closed : Closed) → low ≤ closed.run.first → closed.run.first + area_pages closed.rows ≤ high
    → KeepsRegion low high before now → KeepsClosed before now closed
