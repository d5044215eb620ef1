-- What a merge that is written, a source and passes keep where others write an area of their own and use other buffers, and how much
-- is left of them at most.
use Rattle.std.specs.Prelude.{◌≡◌, ℕ, ◌+◌, ◌^◌, ◌<◌, ◌≤◌, Bool, List, ◌∷◌, length}
use Rattle.edge_traits.specs.Devices.{Device}
use Rattle.page_pool.specs.Pools.{Pool, IsOut}
use Rattle.id_merge.specs.declared.merge.Merge.{Merge}
use Rattle.id_merge.specs.Since.{Since}
use Rattle.id_merge.specs.Spared.{AllOutside, Spares}
use Rattle.spill_pass.specs.declared.groups.Groups.{Groups}
use Rattle.spill_pass.specs.declared.merging.MergeInto.{MergeInto}
use Rattle.spill_pass.specs.declared.reduce.Areas.{Areas}
use Rattle.spill_pass.specs.Given.{MergeGiven}
use Rattle.spill_pass.specs.Grouping.{AreApart}
use Rattle.spill_pass.specs.Merging.{IsMerging, Gathers, Goes, area_end, calls_left, leases_held, left_of}
use Rattle.spill_pass.specs.Passing.{pass_held}
use Rattle.spill_pass.specs.Reducing.{IsReducing, ReduceOutside, reduce_left}
use Rattle.spill_pass.specs.Sources.{Source, SparesSource, UsesOutside}

-- the lists that are merged and the area that is written lie outside of an area of others
pub record MergingOutside (low high : ℕ) (into : MergeInto) : Type 0 where
  pub lists : AllOutside low high into.merge.cursors.items
  pub area : AreApart into.writer.filler.first (area_end into) low high

-- a step may still be made
abbrev pub MergingStays : Type 0
MergingStays =
    (low high : ℕ) (told : Bool) (before now : Device) (pool later : Pool) (into : MergeInto)
    → Spares low high before now pool later (leases_held into) → MergingOutside low high into → IsMerging told before pool into
    → IsMerging told now later into

-- the list has what it had
abbrev pub GathersStays : Type 0
GathersStays =
    (low high : ℕ) (told : Bool) (right : ℕ → List ℕ) (merge : Merge) (earlier : List ℕ) (before now : Device) (pool later : Pool) (into : MergeInto)
    → Spares low high before now pool later (leases_held into) → MergingOutside low high into → IsMerging told before pool into
    → Gathers told right merge earlier before.page pool into → Gathers told right merge earlier now.page later into

-- what is merged was read since as before, and what is written is in order
abbrev pub MergingStaysGiven : Type 0
MergingStaysGiven =
    (low high : ℕ) (told : Bool) (since : Since) (before now : Device) (pool later : Pool) (into : MergeInto)
    → Spares low high before now pool later (leases_held into) → MergingOutside low high into → IsMerging told before pool into
    → MergeGiven since before pool into → MergeGiven since now later into

-- as much is to do
abbrev pub MergingLeftStays : Type 0
MergingLeftStays =
    (low high : ℕ) (before now : Device) (pool later : Pool) (into : MergeInto) → Spares low high before now pool later (leases_held into)
    → left_of later into ≡ left_of pool into

abbrev pub MergingCallsStay : Type 0
MergingCallsStay =
    (low high : ℕ) (before now : Device) (pool later : Pool) (into : MergeInto) → Spares low high before now pool later (leases_held into)
    → calls_left later into ≡ calls_left pool into

-- after a step all lies where it lay
abbrev pub MergingStaysOutside : Type 0
MergingStaysOutside =
    (low high : ℕ) (told : Bool) (before now : Device) (pool later : Pool) (old new : MergeInto) → Goes told before now pool later old new
    → MergingOutside low high old → MergingOutside low high new

-- what is to do is bounded by the pages that a device may have
abbrev pub MergingIsSmall : Type 0
MergingIsSmall =
    (told : Bool) (device : Device) (pool : Pool) (into : MergeInto) → into.rows < 2 ^ 32 → length into.merge.cursors.items ≤ 96
    → IsMerging told device pool into → left_of pool into + 1 ≤ 2 ^ 48

-- the pages and the buffer of a source are as they were
abbrev pub SourceIsSpared : Type 0
SourceIsSpared =
    (low high : ℕ) (before now : Device) (pool later : Pool) (source : Source) (leases : List ℕ)
    → Spares low high before now pool later (source.lease ∷ leases) → UsesOutside low high source → IsOut pool source.lease
    → SparesSource before now pool later source

-- a step of the passes may still be made
abbrev pub ReducingStays : Type 0
ReducingStays =
    (low high : ℕ) (told : Bool) (before now : Device) (pool later : Pool) (source : Source) (areas : Areas) (groups : Groups) (fan : ℕ) (merging : Bool)
    → Spares low high before now pool later (pass_held source groups) → ReduceOutside low high source areas groups
    → IsReducing told before pool source areas groups fan merging → IsReducing told now later source areas groups fan merging

-- as much is to do in them
abbrev pub ReduceLeftStays : Type 0
ReduceLeftStays =
    (low high : ℕ) (before now : Device) (pool later : Pool) (source : Source) (areas : Areas) (groups : Groups) (merging : Bool)
    → Spares low high before now pool later (pass_held source groups)
    → reduce_left later source areas groups merging ≡ reduce_left pool source areas groups merging

-- what is to do is bounded where there are few rows and lists
abbrev pub ReducingIsSmall : Type 0
ReducingIsSmall =
    (told : Bool) (device : Device) (pool : Pool) (source : Source) (areas : Areas) (groups : Groups) (fan : ℕ) (merging : Bool)
    → groups.into.rows ≤ 1000000 → groups.size ≤ 1000000 → IsReducing told device pool source areas groups fan merging
    → reduce_left pool source areas groups merging ≤ 2 ^ 46
