-- What passes keep where others write an area of their own and use other buffers, and how much is left of them at most.
use Rattle.std.proofs.Common.{◌≡◌, ℕ, suc, ◌+◌, ◌-◌, ◌*◌, ◌/◌, ◌^◌, ◌<◌, ◌≤◌, inl, inr, Bool, true, false, List, [], ◌∷◌, length, if◌then◌else◌, nat_eq, mul-le-mul, ap, subst, arith}
use Rattle.std.specs.List.{concat}
use Rattle.std.proofs.lemmas.Bool.{cases_lt}
use Rattle.std.proofs.lemmas.List.Sums.{sum_by-cons}
use Rattle.ghost_model.specs.forms.Runs.{page_of, per_page}
use Rattle.ghost_base.specs.Runs.{run_of}
use Rattle.edge_traits.specs.Devices.{Device}
use Rattle.page_pool.specs.Pools.{Pool, free_count}
use Rattle.page_pool.proofs.Leases.{outs_kept}
use Rattle.flash_pages.specs.declared.cursor.RunCursor.{RunCursor}
use Rattle.flash_pages.specs.Cursors.{IsListWidth, Codes, Records, IsReady, page_last, page_next, unread_list, will_read}
use Rattle.flash_pages.proofs.LeaseFrames.{put_kept}
use Rattle.id_merge.specs.declared.cursor.Cursor.{Cursor}
use Rattle.id_merge.specs.declared.cursor.Cursor.TheVariants.{List as OfList, Range}
use Rattle.id_merge.specs.declared.merge.Merge.{Merge}
use Rattle.id_merge.specs.Cursors.{CursorReady, cursor_at, unread_in, unread_of}
use Rattle.id_merge.specs.Spared.{Spares}
use Rattle.id_merge.proofs.Unread.{bit_most, few_codes, records_behind}
use Rattle.spill_pass.specs.declared.groups.Groups.{Groups}
use Rattle.spill_pass.specs.declared.reduce.Areas.{Areas}
use Rattle.spill_pass.specs.Grouping.{IsGrouped, lists_at_hand, places_end}
use Rattle.spill_pass.specs.Passing.{ArePairs, pass_held}
use Rattle.spill_pass.specs.ReduceContents.{ReduceHas}
use Rattle.spill_pass.specs.Reducing.{IsReducing, ReduceOutside, pass_most, passes_left}
use Rattle.spill_pass.specs.Sources.{Source}
use Rattle.spill_pass.specs.Sparing.{MergingOutside, ReducingStays, ReduceLeftStays, ReducingIsSmall}
use Rattle.spill_pass.proofs.Grouping.{place_within, places_below}
use Rattle.spill_pass.proofs.PassFrames.{grouping_spared}
use Rattle.spill_pass.proofs.ReduceTurning.{areas_still}
use Rattle.spill_pass.proofs.SparedMerging.{area_spared, gathers_stays, merging_left_stays, merging_spares, spares_rest}

-- the group at hand and the list that is written lie outside
pub group_outside :
    {low high : ℕ} {told : Bool} {device : Device} {pool : Pool} {source : Source} {areas : Areas} {groups : Groups} {fan : ℕ} {merging : Bool}
    → ReduceOutside low high source areas groups → IsReducing told device pool source areas groups fan merging → MergingOutside low high groups.into
group_outside {groups = groups} outside is = record { lists = outside.lists; area = outside.areas_lists groups.into.writer.filler.first is.for_lists }

pub reducing_stays : ReducingStays
reducing_stays low high told before now pool later source areas groups fan merging spares outside is =
    let of_groups = spares_rest spares in
    let passing = is.passing in
    let free = ap (λ out. free_count (record later { out = out })) spares.out.out in
    record {
      passing = record {
        grouping =
            grouping_spared told before now groups (merging_spares groups.into (spares_rest of_groups) (group_outside outside is))
            (area_spared groups.places.filler.first (places_end groups) spares.changes (outside.areas_places groups.places.filler.first is.for_places))
            passing.grouping;
        leases = outs_kept (pass_held source groups) spares.out passing.leases;
        buffers = omega (arith, passing.buffers, free);
        lists_outside = passing.lists_outside;
        places_outside = passing.places_outside;
        room = passing.room;
        few = passing.few;
        fan_most = passing.fan_most;
        fan_least = passing.fan_least;
        begins = passing.begins;
        complete = passing.complete;
        pairs = passing.pairs;
      };
      areas_are = areas_still spares.changes.page_count is.areas_are;
      few = is.few;
      for_lists = is.for_lists;
      for_places = is.for_places;
    }

pub reduce_left_stays : ReduceLeftStays
reduce_left_stays low high before now pool later source areas groups merging spares =
    ap (λ n. passes_left areas groups * pass_most groups + (6 * source.lists_left + 2 * source.ids_left + 2 * lists_at_hand groups + n + (if merging then 0 else 1)))
    (merging_left_stays low high before now pool later groups.into (spares_rest (spares_rest spares)))

-- what all lists have stays
grouped_stays :
    {low high : ℕ} {told : Bool} {before now : Device} {pool later : Pool} {source : Source} {areas : Areas} {groups : Groups} {fan : ℕ} {merging : Bool}
    (right : ℕ → List ℕ) (merge : Merge) (lists : List (List ℕ))
    → Spares low high before now pool later (pass_held source groups) → ReduceOutside low high source areas groups
    → IsReducing told before pool source areas groups fan merging → IsGrouped told right merge lists before.page pool groups
    → IsGrouped told right merge lists now.page later groups
grouped_stays {low = low} {high = high} {told = told} {before = before} {now = now} {pool = pool} {later = later} {groups = groups} right merge lists spares outside is was =
    let of_groups = spares_rest spares in
    let grouping = is.passing.grouping in
    let places = groups.places.filler in
    let ends = place_within places.first places.pages places.held places.count groups.size grouping.area.block (places_below groups grouping) grouping.placed in
    let same = area_spared places.first (places_end groups) spares.changes (outside.areas_places places.first is.for_places) in
    record {
      gathers = gathers_stays low high told right merge (concat lists) before now pool later groups.into (spares_rest of_groups) (group_outside outside is) grouping.merging was.gathers;
      places = put_kept groups.places (λ is_told number from to. (same number from (omega (arith, to, ends.0))).bytes) (of_groups.buffers 0 (omega arith)) was.places;
      begun = was.begun;
      ordered = was.ordered;
    }

pub reduce_has_stays :
    {low high : ℕ} {told : Bool} {before now : Device} {pool later : Pool} {source : Source} {areas : Areas} {groups : Groups} {fan : ℕ} {merging : Bool}
    {lists : List (List ℕ)} (has still : (ℕ → List ℕ) → List (List ℕ) → Type 0) → ((right : ℕ → List ℕ) (ids : List (List ℕ)) → has right ids → still right ids)
    → Spares low high before now pool later (pass_held source groups) → ReduceOutside low high source areas groups
    → IsReducing told before pool source areas groups fan merging → ReduceHas has told before.page pool groups lists
    → ReduceHas still told now.page later groups lists
reduce_has_stays has still goes spares outside is was =
    let holds = was.holds in
    record {
      right = was.right;
      ids = was.ids;
      holds = record {
        merge = holds.merge;
        done = holds.done;
        left = holds.left;
        has_left = goes was.right holds.left holds.has_left;
        grouped = grouped_stays was.right holds.merge holds.done spares outside is holds.grouped;
        empty = holds.empty;
        all = holds.all;
      };
      all = was.all;
    }

-- no more pages are to be read of a list than there are on a device; of one of codes, no more than three and a bit for each of them
few_pages_by : (told : Bool) (device : Device) (pool : Pool) (run : RunCursor) → IsReady told device pool run → IsListWidth run.list.run.width → unread_list pool run ≤ 2 ^ 34
few_pages_by told device pool run ready (Codes width) =
    elim (cases_lt 0 run.list.count) [
      | inl some ↦
          let last = run.list.first + (run.list.count - 1) in
          let P : ℕ → Type 0 = λ n. run.list.run.first + last / n < device.page_count in
          let there = subst P (ap per_page width) (ready.run.pages last (omega (arith, some, ready.list))) in
          omega (arith, there, ready.run.small, few_codes pool run width)
      | inr none ↦ omega (arith, none, few_codes pool run width)
    ]
few_pages_by told device pool run ready (Records width) =
    elim (cases_lt 0 run.list.count) [
      | inl some ↦
          let there = ready.run.pages (run.list.first + (run.list.count - 1)) (omega (arith, some, ready.list)) in
          omega (arith, there, ready.run.small, records_behind run width, bit_most (will_read pool run))
      | inr none ↦
          let here : run.list.first + (run.list.count - 1) ≡ run.place = omega (arith, none, ready.at, ready.stands.record_is width) in
          let same : page_last run ≡ page_next run = ap (λ place. page_of (run_of run.list.run) place) here in
          omega (arith, same, records_behind run width, bit_most (will_read pool run))
    ]

few_pages : (told : Bool) (device : Device) (pool : Pool) (run : RunCursor) → IsReady told device pool run → unread_list pool run ≤ 2 ^ 34
few_pages told device pool run ready = few_pages_by told device pool run ready ready.width

few_pages_of : (told : Bool) (device : Device) (pool : Pool) (cursor : Cursor) → CursorReady told device pool cursor → unread_of pool cursor ≤ 2 ^ 34
few_pages_of told device pool (OfList run) ready = few_pages told device pool run ready
few_pages_of told device pool (Range low high) ready = omega arith

few_pages_in :
    (told : Bool) (device : Device) (pool : Pool) (cursors : List Cursor) → ((i : ℕ) → CursorReady told device pool (cursor_at cursors i))
    → unread_in pool cursors ≤ length cursors * 2 ^ 34
few_pages_in told device pool [] ready = omega arith
few_pages_in told device pool (cursor ∷ cursors) ready =
    omega (
      arith,
      sum_by-cons (unread_of pool) cursor cursors,
      few_pages_of told device pool cursor (ready 0),
      few_pages_in told device pool cursors (λ i. ready (suc i)),
    )

bit_least : (b : Bool) → (if b then 0 else 1) ≤ 1
bit_least true = omega arith
bit_least false = omega arith

lists_few : (source : Source) (groups : Groups) → ArePairs source groups → source.lists_left ≤ groups.size
lists_few source groups (inl few) = omega (arith, few)
lists_few source groups (inr (half, (none, end))) = omega (arith, end)

pub reducing_is_small : ReducingIsSmall
reducing_is_small told device pool source areas groups fan merging few_rows few_lists is =
    let passing = is.passing in
    let passes : passes_left areas groups ≤ 2000001 = omega (arith, few_lists, bit_least (nat_eq groups.into.writer.filler.first areas.to)) in
    let most : pass_most groups ≤ 8000002 = omega (arith, few_lists, few_rows) in
    let all : passes_left areas groups * pass_most groups ≤ 2000001 * 8000002 = mul-le-mul passes most in
    omega (
      arith,
      all,
      few_rows,
      few_lists,
      lists_few source groups passing.pairs,
      passing.room,
      passing.few,
      passing.fan_most,
      bit_least merging,
      few_pages_in told device pool groups.into.merge.cursors.items passing.grouping.merging.can.step.cursors.each,
    )
