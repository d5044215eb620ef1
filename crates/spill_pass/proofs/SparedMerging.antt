-- What a merge that is written and a source keep where others write an area of their own and use other buffers.
use Rattle.std.proofs.Common.{◌≡◌, ℕ, suc, ◌+◌, ◌*◌, ◌-◌, ◌<◌, ◌≤◌, ◌⊎◌, inl, inr, List, ◌∷◌, ap, sym, refl, subst, arith}
use Rattle.ghost_model.specs.forms.Runs.{pages_of, page_of}
use Rattle.ghost_base.specs.Runs.{run_of}
use Rattle.edge_traits.specs.Devices.{Device, SamePage, ChangesOnly}
use Rattle.page_pool.specs.Pools.{Pool}
use Rattle.page_pool.specs.Laws.{SameBuffer}
use Rattle.page_pool.proofs.Leases.{out_kept}
use Rattle.flash_pages.specs.declared.cursor.RunCursor.{RunCursor}
use Rattle.id_merge.specs.declared.cursor.Cursor.{Cursor}
use Rattle.id_merge.specs.declared.cursor.Cursor.TheVariants.{List as OfList, Range}
use Rattle.id_merge.specs.Cursors.{cursor_at}
use Rattle.id_merge.specs.Merges.{at_hand}
use Rattle.id_merge.specs.Spared.{LiesOutside, Spares}
use Rattle.id_merge.proofs.Sparing.{buffer_spared, cursors_stay_given, page_spared, unread_stays, merge_is_small}
use Rattle.spill_pass.specs.declared.merging.MergeInto.{MergeInto}
use Rattle.spill_pass.specs.Grouping.{AreApart}
use Rattle.spill_pass.specs.Merging.{area_end, area_pages, leases_held}
use Rattle.spill_pass.specs.Spared as uses
use Rattle.spill_pass.specs.Spared.{KeepsRun, KeepsBuffer}
use Rattle.spill_pass.specs.Sparing.{MergingOutside, MergingStays, MergingStaysGiven, GathersStays, MergingLeftStays, MergingCallsStay, MergingStaysOutside, MergingIsSmall, SourceIsSpared}
use Rattle.spill_pass.proofs.PutLists.{puts_stay}
use Rattle.spill_pass.proofs.SparedLemmas.{stays_merging, still_gathers}

-- of fewer leases
pub spares_rest :
    {low high : ℕ} {before now : Device} {pool later : Pool} {lease : ℕ} {leases : List ℕ} → Spares low high before now pool later (lease ∷ leases)
    → Spares low high before now pool later leases
spares_rest spares = record {
  changes = spares.changes;
  out = spares.out;
  buffers = λ i within. spares.buffers (suc i) (omega (arith, within));
}

-- a page of an area that lies outside of what others write is as it was
beside_area : (first end low high page : ℕ) → AreApart first end low high → first ≤ page → page < end → (page < low) ⊎ (high ≤ page)
beside_area first end low high page (inl before) from to = inl (omega (arith, before, to))
beside_area first end low high page (inr behind) from to = inr (omega (arith, behind, from))

pub area_spared :
    {low high : ℕ} {before now : Device} (first end : ℕ) → ChangesOnly low high before now → AreApart first end low high
    → (page : ℕ) → first ≤ page → page < end → SamePage before now page
area_spared {low = low} {high = high} first end changes apart page from to = page_spared page changes (beside_area first end low high page apart from to)

run_spared : {low high : ℕ} {before now : Device} (cursor : Cursor) → ChangesOnly low high before now → LiesOutside low high cursor → KeepsRun before now cursor
run_spared (OfList run) changes outside = λ i within. (page_spared (page_of (run_of run.list.run) i) changes (outside i within)).bytes
run_spared (Range first last) changes outside = tt

keeps_buffer :
    {pool later : Pool} (cursor : Cursor) → ((run : RunCursor) → cursor ≡ OfList run → SameBuffer pool later run.lease) → KeepsBuffer pool later cursor
keeps_buffer (OfList run) same = same run refl
keeps_buffer (Range low high) same = tt

-- the pages and buffers that a merge uses
pub merging_spares :
    {low high : ℕ} {before now : Device} {pool later : Pool} (into : MergeInto) → Spares low high before now pool later (leases_held into)
    → MergingOutside low high into → uses.Spares before now pool later into
merging_spares {before = before} {now = now} into spares outside =
    let cursors = into.merge.cursors.items in
    let rest = spares_rest spares in
    record {
      page_count = spares.changes.page_count;
      lists = λ i. run_spared (cursor_at cursors i) spares.changes (outside.lists i);
      area = area_spared into.writer.filler.first (area_end into) spares.changes outside.area;
      out = spares.out;
      writer = spares.buffers 0 (omega arith);
      buffers = λ i. keeps_buffer (cursor_at cursors i) (λ run is. buffer_spared cursors i run is rest.buffers);
    }

pub merging_stays : MergingStays
merging_stays low high told before now pool later into spares outside is =
    stays_merging told before now pool later into (merging_spares into spares outside) is

pub gathers_stays : GathersStays
gathers_stays low high told right merge earlier before now pool later into spares outside is was =
    still_gathers told right merge earlier before now pool later into (merging_spares into spares outside) is was

pub merging_stays_given : MergingStaysGiven
merging_stays_given low high told since before now pool later into spares outside is was = record {
  lists = cursors_stay_given low high told since before now pool later into.merge.cursors.items (spares_rest spares) outside.lists is.can.step.cursors was.lists;
  area = was.area;
  puts = λ tells. puts_stay told before now pool later into (merging_spares into spares outside) is (was.puts tells);
}

pub merging_left_stays : MergingLeftStays
merging_left_stays low high before now pool later into spares =
    ap (λ n. n + at_hand into.merge) (unread_stays low high before now pool later into.merge.cursors.items (spares_rest spares))

pub merging_calls_stay : MergingCallsStay
merging_calls_stay low high before now pool later into spares =
    ap (λ n. n + 2 * (pages_of into.rows 4 - into.writer.filler.pages))
    (unread_stays low high before now pool later into.merge.cursors.items (spares_rest spares))

pub merging_stays_outside : MergingStaysOutside
merging_stays_outside low high told before now pool later old new goes outside =
    let F : ℕ → Type 0 = λ first. AreApart first (first + area_pages new.rows) low high in
    let R : ℕ → Type 0 = λ rows. AreApart old.writer.filler.first (old.writer.filler.first + area_pages rows) low high in
    record {
      lists = goes.outside low high outside.lists;
      area = subst F (sym goes.first) (subst R (sym goes.rows) outside.area);
    }

pub merging_is_small : MergingIsSmall
merging_is_small told device pool into few length_few is =
    omega (arith, merge_is_small told device pool into.merge into.rows few length_few is.can.step.cursors is.can.at_most)

pub source_is_spared : SourceIsSpared
source_is_spared low high before now pool later source leases spares outside out = record {
  page_count = spares.changes.page_count;
  pages = λ page is. (page_spared page spares.changes (outside page is)).bytes;
  out = out_kept spares.out out;
  buffer = spares.buffers 0 (omega arith);
}
