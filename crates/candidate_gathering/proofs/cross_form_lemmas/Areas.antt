-- Where lists of candidates stand, and that they stay there.
use Rattle.std.proofs.Common.{◌≡◌, ℕ, ◌+◌, ◌≤◌, inl, inr, List, arith}
use Rattle.ghost_model.specs.core.Channel.{Catalog}
use Rattle.ghost_model.specs.forms.Layout.{count_of, largest_count, spool_end}
use Rattle.edge_traits.specs.Devices.{ChangesOnly, Device}
use Rattle.id_merge.specs.declared.merge.Merge.{Merge}
use Rattle.spill_pass.specs.Merging.{area_pages}
use Rattle.candidate_lists.specs.declared.closing.Closed.{Closed}
use Rattle.candidate_lists.specs.Closes.{ListsAll}
use Rattle.candidate_lists.specs.Regions.{RegionKeepsClosed}
use Rattle.candidate_lists.specs.Spared.{ClosedStays, KeepsClosed, ListsStay}
use Rattle.candidate_lists.specs.Staying.{ClosedIsKept}
use Rattle.candidate_gathering.specs.Stages.{KeepsSpare}
use Rattle.candidate_gathering.proofs.FoldingOn.{area_few}
use Rattle.candidate_gathering.proofs.Scratches.{list_from, list_to}
use Rattle.candidate_gathering.proofs.TermSources.{count_is_few}
use Rattle.candidate_gathering.specs.cross_forms.Laws.{StandingListsLieInScratch}
use Rattle.candidate_gathering.specs.cross_forms.Stages.{Stands}

module _ (cat : Catalog) where
  abbrev wide : ℕ
  wide = area_pages (largest_count cat)

  pub pages_few : (table : ℕ) (closed : Closed) → closed.rows ≡ count_of cat table → area_pages closed.rows ≤ wide
  pages_few table closed rows = let most = count_is_few cat table in area_few closed.rows (largest_count cat) (omega (arith, rows, most))

pub stand_in_scratch : StandingListsLieInScratch
stand_in_scratch cat table device closed stand low high beyond = record {
  width = stand.width;
  count = stand.count;
  area =
      elim beyond [
        | inl before_it ↦ inr (let from = list_from cat closed.run.first stand.area in omega (arith, from, before_it))
        | inr behind_it ↦ inl (
            let to = list_to cat closed.run.first stand.area in
            let pages = pages_few cat table closed stand.rows_are in
            omega (arith, to, pages, behind_it))
      ];
}

module _ (cat : Catalog) (table : ℕ) (before now : Device) (closed : Closed) (stand : Stands cat table before closed) where
  pub stands_kept : ClosedStays → KeepsClosed before now closed → Stands cat table now closed
  stands_kept stays kept = record {
    is = stays before now closed kept stand.is;
    rows_are = stand.rows_are;
    width = stand.width;
    count = stand.count;
    area = stand.area;
  }

  pub lists_kept : ListsStay → KeepsClosed before now closed → (first : ℕ → List ℕ) (low : ℕ) (merge : Merge) → ListsAll before.page first low merge closed → ListsAll now.page first low merge closed
  lists_kept stays kept first low merge lists = stays before now first low merge closed kept stand.count lists

  -- where nobody writes the area that they stand in
  pub spared_kept : RegionKeepsClosed → KeepsSpare cat closed.run.first before now → KeepsClosed before now closed
  spared_kept region kept =
      let pages = pages_few cat table closed stand.rows_are in
      region closed.run.first (closed.run.first + area_pages (largest_count cat)) before now closed (omega arith) (omega (arith, pages)) kept

  -- where others write before scratch
  pub others_kept : ClosedIsKept → (low high : ℕ) → high ≤ spool_end cat → ChangesOnly low high before now → KeepsClosed before now closed
  others_kept kept low high before_it changes = kept low high before now closed changes (stand_in_scratch cat table before closed stand low high (inl before_it))
