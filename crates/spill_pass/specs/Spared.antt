-- What a merge that is written keeps where others use other pages and buffers.
use Rattle.std.specs.Prelude.{◌≡◌, ℕ, ◌<◌, ◌≤◌, Bool, ⊤, List}
use Rattle.ghost_model.specs.forms.Runs as runs
use Rattle.ghost_base.specs.Runs.{run_of}
use Rattle.edge_traits.specs.Devices.{Device, SamePage}
use Rattle.page_pool.specs.Pools.{Pool}
use Rattle.page_pool.specs.Laws.{KeepsOut, SameBuffer}
use Rattle.id_merge.specs.declared.cursor.Cursor.{Cursor}
use Rattle.id_merge.specs.declared.cursor.Cursor.TheVariants.{List as OfList, Range}
use Rattle.id_merge.specs.declared.merge.Merge.{Merge}
use Rattle.id_merge.specs.Cursors.{cursor_at}
use Rattle.spill_pass.specs.declared.merging.MergeInto.{MergeInto}
use Rattle.spill_pass.specs.Merging.{IsMerging, Gathers, area_end}

-- the pages of a list's run have the same bytes
abbrev pub KeepsRun : (before now : Device) → Cursor → Type 0
KeepsRun before now (OfList run) =
    (i : ℕ) → i < run.list.run.count → now.page (runs.page_of (run_of run.list.run) i) ≡ before.page (runs.page_of (run_of run.list.run) i)
KeepsRun before now (Range low high) = ⊤

-- a list's buffer is as it was
abbrev pub KeepsBuffer : (pool later : Pool) → Cursor → Type 0
KeepsBuffer pool later (OfList run) = SameBuffer pool later run.lease
KeepsBuffer pool later (Range low high) = ⊤

-- the pages and buffers that it uses are as they were
pub record Spares (before now : Device) (pool later : Pool) (into : MergeInto) : Type 0 where
  pub page_count : now.page_count ≡ before.page_count
  pub lists : (i : ℕ) → KeepsRun before now (cursor_at into.merge.cursors.items i)
  pub area : (page : ℕ) → into.writer.filler.first ≤ page → page < area_end into → SamePage before now page
  pub out : KeepsOut pool later
  pub writer : SameBuffer pool later into.writer.lease
  pub buffers : (i : ℕ) → KeepsBuffer pool later (cursor_at into.merge.cursors.items i)

abbrev pub StaysMerging : Type 0
StaysMerging =
    (told : Bool) (before now : Device) (pool later : Pool) (into : MergeInto) → Spares before now pool later into
    → IsMerging told before pool into → IsMerging told now later into

abbrev pub StillGathers : Type 0
StillGathers =
    (told : Bool) (right : ℕ → List ℕ) (merge : Merge) (earlier : List ℕ) (before now : Device) (pool later : Pool) (into : MergeInto)
    → Spares before now pool later into → IsMerging told before pool into
    → Gathers told right merge earlier before.page pool into → Gathers told right merge earlier now.page later into
