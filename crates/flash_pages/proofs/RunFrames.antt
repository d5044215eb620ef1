-- What stays of a run where other pages change, a part of a record, and the identifiers of a list one by one.
use Rattle.std.proofs.Common.{◌≡◌, ℕ, zero, suc, ◌+◌, ◌-◌, ◌*◌, ◌/◌, ◌%◌, ◌^◌, ◌<◌, ◌≤◌, ◌∙◌, ap, sym, refl, List, length, take, drop, get_or, arith}
use Rattle.std.specs.Prelude.{Bool}
use Rattle.std.specs.List.{slice_range}
use Rattle.std.proofs.lemmas.List.{drop-take, take-take, drop-drop}
use Rattle.ghost_model.specs.forms.Runs.{Run, HasRecords, Stores, record_at, records_in, page_of, run_pages, run_end, per_page, cell_in, id_at, ids_from}
use Rattle.edge_traits.specs.Devices.{Device, ChangesOnly, IsErased}
use Rattle.flash_pages.specs.Runs.{HasRun}
use Rattle.std.proofs.lemmas.Nat.{le-div, div-add-mod'}
use Rattle.flash_pages.specs.Filling.{CanFill}

-- a record stays where its page stays
pub record_kept :
    (page now : ℕ → List ℕ) (run : Run) (i : ℕ) → now (page_of run i) ≡ page (page_of run i) → record_at now run i ≡ record_at page run i
unfolding record_at
record_kept page now run i same = ap (λ bytes. cell_in bytes run.width (i % (2048 / run.width))) same

pub records_kept :
    {page now : ℕ → List ℕ} {run : Run} {records : List (List ℕ)}
    → ((i : ℕ) → i < run.count → now (page_of run i) ≡ page (page_of run i)) → HasRecords page run records → HasRecords now run records
records_kept {page = page} {now = now} {run = run} same has = record {
  count = has.count;
  each = λ i within. record_kept page now run i (same i within) ∙ has.each i within;
}

-- a run stays where its pages stay
pub stores_kept :
    {page now : ℕ → List ℕ} {run : Run} {records : List (List ℕ)}
    → ((i : ℕ) → i < run.count → now (page_of run i) ≡ page (page_of run i))
    → ((place : ℕ) → place < run_pages run → now (run.first + place) ≡ page (run.first + place))
    → Stores page run records → Stores now run records
stores_kept {run = run} same same_place stores = record {
  has = records_kept same stores.has;
  rest = λ place within.
      ap (λ bytes. drop (records_in run place * run.width) bytes) (same_place place within) ∙ stores.rest place within;
}

-- a run that a device has is one that it has after a change of other pages
pub run_kept : {before now : Device} {run : Run} → now.page_count ≡ before.page_count → HasRun before run → HasRun now run
run_kept same has = record {
  some = has.some;
  fits = has.fits;
  pages = λ i within. omega (arith, same, has.pages i within);
  small = omega (arith, same, has.small);
}

-- a part of a record is a part of the page
pub inner :
    (bytes : List ℕ) (at width i count : ℕ) → i + count ≤ width
    → slice_range bytes (at + i) (at + i + count) ≡ take count (drop i (slice_range bytes at (at + width)))
inner bytes at width i count within =
    let size : at + i + count - (at + i) ≡ count = omega arith in
    let size_all : at + width - at ≡ width = omega arith in
    let more : i + count ≤ width = within in
    ap (λ n. take n (drop (at + i) bytes)) size
    ∙ ap (λ b. take count b) (sym (drop-drop i at bytes))
    ∙ sym (drop-take i count (drop at bytes))
    ∙ ap (λ b. drop i b) (sym (take-take (i + count) width (drop at bytes) more))
    ∙ drop-take i count (take width (drop at bytes))
    ∙ ap (λ n. take count (drop i (take n (drop at bytes)))) (sym size_all)

-- the identifiers from one on, by their numbers
pub ids_from-length : (page : ℕ → List ℕ) (run : Run) (place count : ℕ) → length (ids_from page run place count) ≡ count
unfolding ids_from
ids_from-length page run place zero = refl
ids_from-length page run place (suc count) = omega (arith, ids_from-length page run (place + 1) count)

pub ids_from-get :
    (page : ℕ → List ℕ) (run : Run) (place count i : ℕ) → i < count → get_or (ids_from page run place count) i 0 ≡ id_at page run (place + i)
unfolding ids_from
ids_from-get page run place zero i within = absurd (omega arith)
ids_from-get page run place (suc count) zero within =
    let e : place ≡ place + 0 = omega arith in
    ap (λ n. id_at page run n) e
ids_from-get page run place (suc count) (suc i) within =
    let e : place + 1 + i ≡ place + suc i = omega arith in
    ids_from-get page run (place + 1) count i (omega arith) ∙ ap (λ n. id_at page run n) e

-- a record of a run stands in one of its pages
pub place_in_run :
    (i count n : ℕ) → 0 < n → i < count → i / n < (count + (n - 1)) / n
place_in_run i count n some within =
    omega (arith, le-div (i / n + 1) (count + (n - 1)) n some (omega (arith, div-add-mod' i n)))

-- a run stays where only pages behind it changed, or only pages before it
pub stores_below :
    {before now : Device} {low high : ℕ} {run : Run} {records : List (List ℕ)} → ChangesOnly low high before now
    → 0 < per_page run.width → run_end run ≤ low → Stores before.page run records → Stores now.page run records
stores_below {run = run} changes some behind stores =
    stores_kept
    (λ i within. (changes.below (page_of run i) (omega (arith, place_in_run i run.count (per_page run.width) some within))).bytes)
    (λ place within. (changes.below (run.first + place) (omega arith)).bytes)
    stores

pub stores_above :
    {before now : Device} {low high : ℕ} {run : Run} {records : List (List ℕ)} → ChangesOnly low high before now
    → high ≤ run.first → Stores before.page run records → Stores now.page run records
stores_above {run = run} changes before stores =
    stores_kept
    (λ i within. (changes.above (page_of run i) (omega arith)).bytes)
    (λ place within. (changes.above (run.first + place) (omega arith)).bytes)
    stores

-- blank pages for a run: on a new device, a part of them, and after a change of other pages
pub can_fill_made :
    {told : Bool} {count : ℕ} {device : Device} → IsErased told 0 count device → device.page_count ≡ count → count < 2 ^ 32
    → (first pages : ℕ) → first + pages ≤ count → CanFill device first pages
can_fill_made erased size small first pages within = record {
  there = omega arith;
  blank = λ page from to. erased.blank page (omega arith) (omega arith);
  small = omega arith;
}

pub can_fill_part :
    {device : Device} {first pages : ℕ} → CanFill device first pages → (from more : ℕ) → first ≤ from → from + more ≤ first + pages
    → CanFill device from more
can_fill_part can from more low high = record {
  there = omega (arith, can.there);
  blank = λ page after before. can.blank page (omega arith) (omega arith);
  small = can.small;
}

pub can_fill_kept :
    {before now : Device} {low high first pages : ℕ} → ChangesOnly low high before now → high ≤ first → CanFill before first pages
    → CanFill now first pages
can_fill_kept changes apart can = record {
  there = omega (arith, can.there, changes.page_count);
  blank = λ page after to. (changes.above page (omega arith)).blank ∙ can.blank page after to;
  small = omega (arith, can.small, changes.page_count);
}
