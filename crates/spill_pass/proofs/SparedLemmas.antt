-- What a merge that is written keeps where the pages and buffers that it uses stay as they were.
use Rattle.std.proofs.Common.{◌≡◌, ◌∙◌, ℕ, ◌+◌, ◌*◌, ◌%◌, ◌≤◌, Bool, arith}
use Rattle.ghost_base.specs.Runs.{run_of}
use Rattle.edge_traits.specs.Devices.{Device}
use Rattle.page_pool.specs.Pools.{Pool}
use Rattle.page_pool.specs.Laws.{KeepsOut}
use Rattle.page_pool.proofs.Leases.{out_kept, outs_kept}
use Rattle.flash_pages.specs.Writing.{block_end}
use Rattle.flash_pages.proofs.ListFrames.{listed_kept}
use Rattle.flash_pages.proofs.LeaseFrames.{ready_kept, put_kept}
use Rattle.id_merge.specs.declared.cursor.Cursor.{Cursor}
use Rattle.id_merge.specs.declared.cursor.Cursor.TheVariants.{List as OfList, Range}
use Rattle.id_merge.specs.Cursors.{cursor_at, leases_of, CursorReady}
use Rattle.spill_pass.specs.Merging.{SameIds, area_pages, leases_held}
use Rattle.spill_pass.specs.Spared.{KeepsRun, KeepsBuffer, StaysMerging, StillGathers}
use Rattle.spill_pass.proofs.Writing.{pages_below}
use Rattle.spill_pass.proofs.Gathered.{right_still}

ready_spared :
    (told : Bool) (before now : Device) {pool later : Pool} (cursor : Cursor) → now.page_count ≡ before.page_count
    → KeepsRun before now cursor → KeepsOut pool later → KeepsBuffer pool later cursor → CursorReady told before pool cursor
    → CursorReady told now later cursor
ready_spared told before now (OfList run) count pages out same ready = ready_kept count (λ is_told. pages) (out_kept out ready.buffer.out) same ready
ready_spared told before now (Range low high) count pages out same ready = tt

ids_spared :
    (told : Bool) (before now : Device) (pool : Pool) (cursor : Cursor) → KeepsRun before now cursor → CursorReady told before pool cursor
    → SameIds before.page now.page cursor
ids_spared told before now pool (OfList run) pages ready = λ i within.
    listed_kept before.page now.page (run_of run.list.run) run.list.first i (omega (arith, ready.list, within)) pages
ids_spared told before now pool (Range low high) pages ready = tt

-- the page that is written next, and what is left of its block, lie in the area
pub next_within :
    (first pages held count rows : ℕ) → first % 64 ≡ 0 → pages * 512 + held ≡ count → count ≤ rows
    → (first + pages ≤ first + area_pages rows) × (block_end (first + pages) ≤ first + area_pages rows)
next_within first pages held count rows block whole few = (omega arith, omega arith)

pub stays_merging : StaysMerging
stays_merging told before now pool later into spares is =
    let cursors = into.merge.cursors.items in
    let ends = next_within into.writer.filler.first into.writer.filler.pages into.writer.filler.held into.writer.filler.count into.rows
    is.can.area.block (pages_below is) is.count in
    record {
      can = record {
        step = record {
          some = is.can.step.some;
          sums = is.can.step.sums;
          cursors = record {
            each = λ i. ready_spared told before now (cursor_at cursors i) spares.page_count (spares.lists i) spares.out (spares.buffers i) (is.can.step.cursors.each i);
            leases = outs_kept (leases_of cursors) spares.out is.can.step.cursors.leases;
          };
        };
        leases = outs_kept (leases_held into) spares.out is.can.leases;
        at_most = is.can.at_most;
        within = is.can.within;
        area = record {
          block = is.can.area.block;
          there = omega (arith, spares.page_count, is.can.area.there);
          small = omega (arith, spares.page_count, is.can.area.small);
        };
        outside = is.can.outside;
      };
      width = is.width;
      erase = is.erase;
      count = is.count;
      entered = λ erase other from to. (spares.area other (omega (arith, from)) (omega (arith, to, ends.1))).blank ∙ is.entered erase other from to;
    }

pub still_gathers : StillGathers
still_gathers told right merge earlier before now pool later into spares is was =
    let cursors = into.merge.cursors.items in
    let ends = next_within into.writer.filler.first into.writer.filler.pages into.writer.filler.held into.writer.filler.count into.rows
    is.can.area.block (pages_below is) is.count in
    record {
      ids = was.ids;
      put = put_kept into.writer (λ is_told number from to. (spares.area number from (omega (arith, to, ends.0))).bytes) spares.writer was.put;
      ascending = was.ascending;
      below = was.below;
      all = was.all;
      lists =
          right_still before.page now.page right cursors
          (λ i. ids_spared told before now pool (cursor_at cursors i) (spares.lists i) (is.can.step.cursors.each i)) was.lists;
    }
