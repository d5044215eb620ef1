-- What stays of a filling and of a sifting where others write elsewhere.
use Rattle.std.proofs.Common.{◌≡◌, ◌∙◌, ℕ, suc, ◌+◌, ◌-◌, ◌/◌, ◌%◌, ◌^◌, ◌<◌, ◌≤◌, inl, inr, Bool, true, List, [], ◌∷◌, ◌++◌, length, get_or, eq-eqb, refl, ap, sym, subst, arith}
use Rattle.std.specs.Prelude.{Option, Some, None, IfSome}
use Rattle.std.proofs.lemmas.Bool.{or_left, or_right}
use Rattle.std.proofs.lemmas.Nat.{mod_below}
use Rattle.std.proofs.lemmas.List.{get_or_append_left, get_or_default, length-append}
use Rattle.ghost_model.specs.forms.Gaps.{listed}
use Rattle.ghost_model.specs.forms.Runs.{page_of, pages_of, per_page}
use Rattle.ghost_base.specs.declared.runs.Run.{Run}
use Rattle.ghost_base.specs.Runs.{run_of}
use Rattle.edge_traits.specs.Devices.{Device, ChangesOnly}
use Rattle.page_pool.specs.Pools.{Pool, page_at}
use Rattle.page_pool.specs.Laws.{SameBuffer}
use Rattle.page_pool.proofs.Leases.{out_kept, outs_kept}
use Rattle.flash_pages.specs.declared.cursor.RunCursor.{RunCursor}
use Rattle.flash_pages.specs.Cursors.{IsPageOf, id_in}
use Rattle.flash_pages.proofs.LeaseFrames.{put_kept, some_then, can_read_kept, given_kept, ids_kept, ready_kept}
use Rattle.flash_pages.proofs.ListFrames.{listed_from-get, listed_from-length, listed_kept}
use Rattle.flash_pages.proofs.RunFrames.{record_kept, run_kept, stores_kept}
use Rattle.bloom_post.specs.Places.{size_of, spread}
use Rattle.bloom_post.specs.Filters.{is_set}
use Rattle.bloom_post.specs.Laws.{FiltersStay}
use Rattle.bloom_post.proofs.LeasedBits.{bit_of_member}
use Rattle.id_merge.specs.Cursors.{ListAscends}
use Rattle.id_merge.specs.declared.merge.Merge.{Merge}
use Rattle.id_merge.specs.Since.{Since}
use Rattle.id_merge.proofs.SinceLaws.{may_then}
use Rattle.id_merge.specs.Spared.{CursorsStayGiven, CursorsStayRight, Spares}
use Rattle.spill_pass.specs.Grouping.{AreApart}
use Rattle.spill_pass.specs.Merging.{IsPlaced, area_end, area_pages, leases_held}
use Rattle.spill_pass.proofs.SparedLemmas.{next_within}
use Rattle.spill_pass.proofs.SparedMerging.{area_spared}
use Rattle.spill_pass.proofs.Writing.{pages_below}
use Rattle.spill_pass.specs.Sparing.{MergingIsSmall, MergingLeftStays, MergingStays}
use Rattle.candidate_lists.specs.Closes.{closing_left}
use Rattle.candidate_filter.specs.declared.sifting.Sifting.{Sifting}
use Rattle.candidate_filter.specs.Fills.{filling_leases, ids_in}
use Rattle.subtree_keys.specs.Tables.{row_spelled, slot_row}
use Rattle.candidate_filter.specs.Sifts.{IsSifted, IsUnderWay, SiftsSoFar, SiftingHasBy, Tests, HasKeys, IsSiftingBy, may_have, passes_row, sift_leases}
use Rattle.candidate_filter.specs.Outside.{SiftingOutside}
use Rattle.candidate_filter.specs.Laws.{RepliedRowsPass, ListedRowsPass, LedCandidatesPass, FillingStays, FillingStaysGiven, FillsStay, SiftingStays, SiftingStaysGiven, SiftingHasStays, SiftingLeftStays, SiftingKeeps, SiftingIsSmall}
use Rattle.candidate_lists.proofs.Giving.{knows_stays}
use Rattle.candidate_filter.specs.Given.{SiftedGiven}
use Rattle.candidate_filter.proofs.SiftLemmas.{all_three, beside_page, may_stays}

pub rows_pass : RepliedRowsPass
rows_pass pool filter ids row some stands has =
    let size = size_of (length filter) in
    let positive : 0 < size = omega (arith, some) in
    let first = row % size in
    let second = spread 2654435761 row % size in
    let third = spread 2246822519 row % size in
    all_three (is_set pool filter) (λ bit. true) first second third
    (bit_of_member pool filter ids row first stands has (mod_below row size positive) (or_left _ _ (eq-eqb first first refl)))
    (bit_of_member pool filter ids row second stands has (mod_below (spread 2654435761 row) size positive) (or_right _ _ (or_left _ _ (eq-eqb second second refl))))
    (bit_of_member pool filter ids row third stands has (mod_below (spread 2246822519 row) size positive) (or_right _ _ (or_right _ _ (or_left _ _ (eq-eqb third third refl)))))

-- one that stands for a list's identifiers has each of them
pub listed_pass : ListedRowsPass
listed_pass page pool filter list row some stands has =
    let ids = ids_in page list in
    let plain : 0 + has.at ≡ has.at = omega arith in
    let within : has.at < length ids = omega (arith, has.within, listed_from-length page (run_of list.run) list.first 0 list.count) in
    rows_pass pool filter ids row some stands (
      has.at,
      within,
      get_or_default ids has.at row 0 within
          ∙ listed_from-get page (run_of list.run) list.first 0 list.count has.at has.within
          ∙ ap (λ n. listed page (run_of list.run) list.first n) plain
          ∙ sym has.is,
    )

led_by :
    (pool : Pool) (place : ℕ) (filter : List ℕ) (slot : Option (List ℕ)) → ((rows : List ℕ) → slot ≡ Some rows → may_have pool filter (get_or rows place 0) ≡ true)
    → passes_row pool place filter slot ≡ true
led_by pool place filter None all = refl
led_by pool place filter (Some rows) all = all rows refl

pub led_pass : LedCandidatesPass
led_pass page pool keys place filter id all = led_by pool place filter (slot_row page keys id) all

-- the identifiers to come of a list whose pages stay
id_kept :
    (page now : ℕ → List ℕ) (cursor : RunCursor) (i : ℕ) → cursor.list.first + i < cursor.list.run.count
    → ((place : ℕ) → place < cursor.list.run.count → now (page_of (run_of cursor.list.run) place) ≡ page (page_of (run_of cursor.list.run) place))
    → id_in now cursor i ≡ id_in page cursor i
id_kept page now cursor i within same =
    listed_kept page now (run_of cursor.list.run) cursor.list.first i within same

ascends_kept :
    (page now : ℕ → List ℕ) (cursor : RunCursor) → cursor.list.first + cursor.list.count ≤ cursor.list.run.count
    → ((place : ℕ) → place < cursor.list.run.count → now (page_of (run_of cursor.list.run) place) ≡ page (page_of (run_of cursor.list.run) place))
    → ListAscends page cursor → ListAscends now cursor
ascends_kept page now cursor inside same was =
    let kept = λ (i : ℕ) (below : i < cursor.list.count). id_kept page now cursor i (omega arith) same in
    record {
      above = λ i from below. omega (arith, kept i below, was.above i from below);
      order = λ i j from less below. omega (arith, kept i (omega arith), kept j below, was.order i j from less below);
      within = λ i from below. omega (arith, kept i below, was.within i from below);
    }

pub filling_stays : FillingStays
filling_stays low high told before now pool later filling spares outside is = record {
  ready =
      ready_kept spares.changes.page_count
      (λ is_told i within. beside_page (page_of (run_of filling.cursor.list.run) i) spares.changes (outside i within))
      (out_kept spares.out is.ready.buffer.out) (spares.buffers 0 (omega arith)) is.ready;
  leases = outs_kept (filling_leases filling) spares.out is.leases;
  some = is.some;
}

pub filling_given : FillingStaysGiven
filling_given low high told since before now pool later filling spares outside is given = record {
  read = given_kept since.calls before now spares.changes.gave (spares.buffers 0 (omega arith)) given.read;
  may =
      may_then
      (λ tells was.
      ascends_kept before.page now.page filling.cursor is.ready.list
      (λ i within. beside_page (page_of (run_of filling.cursor.list.run) i) spares.changes (outside i within)) was)
      given.may;
}

pub fills_stay : FiltersStay → FillsStay
fills_stay stay low high told before now pool later filling ids spares outside is was = record {
  taken = was.taken;
  stands = stay pool later filling.filter was.taken (λ i within. (spares.buffers (suc i) (omega (arith, within))).bytes) was.stands;
  are =
      ap (λ (xs : List ℕ). was.taken ++ xs)
      (ids_kept before.page now.page filling.cursor is.ready.list
      (λ i within. beside_page (page_of (run_of filling.cursor.list.run) i) spares.changes (outside i within)))
      ∙ was.are;
  ascends =
      ascends_kept before.page now.page filling.cursor is.ready.list
      (λ i within. beside_page (page_of (run_of filling.cursor.list.run) i) spares.changes (outside i within)) was.ascends;
}

-- the leases of the first holder, and those of the second
spares_first :
    {low high : ℕ} {before now : Device} {pool later : Pool} (leases rest : List ℕ) → Spares low high before now pool later (leases ++ rest)
    → Spares low high before now pool later leases
spares_first {pool = pool} {later = later} leases rest spares = record {
  changes = spares.changes;
  out = spares.out;
  buffers = λ i within.
      let P : ℕ → Type 0 = λ lease. SameBuffer pool later lease in
      subst P (get_or_append_left leases rest 0 i within) (spares.buffers i (omega (arith, within, length-append leases rest)));
}

behind_first : (leases rest : List ℕ) (i : ℕ) → get_or (leases ++ rest) (length leases + i) 0 ≡ get_or rest i 0
behind_first [] rest i = let e : 0 + i ≡ i = omega arith in ap (λ n. get_or rest n 0) e
behind_first (lease ∷ leases) rest i =
    let e : suc (length leases) + i ≡ suc (length leases + i) = omega arith in
    ap (λ n. get_or (lease ∷ (leases ++ rest)) n 0) e ∙ behind_first leases rest i

spares_rest :
    {low high : ℕ} {before now : Device} {pool later : Pool} (leases rest : List ℕ) → Spares low high before now pool later (leases ++ rest)
    → (i : ℕ) → i < length rest → SameBuffer pool later (get_or rest i 0)
spares_rest {pool = pool} {later = later} leases rest spares i within =
    let P : ℕ → Type 0 = λ lease. SameBuffer pool later lease in
    subst P (behind_first leases rest i) (spares.buffers (length leases + i) (omega (arith, within, length-append leases rest)))

pub has_stays :
    {low high : ℕ} {told : Bool} {before now : Device} {pool later : Pool} (s : Sifting) → Spares low high before now pool later (sift_leases s)
    → SiftingOutside low high s → HasKeys told before pool s → HasKeys told now later s
has_stays {told = told} {before = before} {now = now} {pool = pool} {later = later} s spares outside has =
    let same = spares_rest (leases_held s.into) (s.lease ∷ s.filter) spares 0 (omega arith) in
    let S : Option ℕ → Type 0 = λ held. IfSome held (IsPageOf (run_of s.keys.run)) in
    record {
      leases = outs_kept (sift_leases s) spares.out has.leases;
      readable = record { has = run_kept spares.changes.page_count has.readable.has; wide = has.readable.wide; few = has.readable.few };
      rows = has.rows;
      place = has.place;
      outside = has.outside;
      read =
          can_read_kept (out_kept spares.out has.read.out) same
          (some_then {P = IsPageOf (run_of s.keys.run)} {Q = λ number. told ≡ true → now.page number ≡ before.page number}
          (page_at pool s.lease)
          (λ number of_run. λ is_told.
          ap (λ n. now.page n) of_run.is ∙ beside_page (page_of (run_of s.keys.run) of_run.place) spares.changes (outside.keys of_run.place of_run.within)
          ∙ ap (λ n. before.page n) (sym of_run.is)) has.page)
          has.read;
      some = has.some;
      page = subst S (sym same.filled) has.page;
      since = has.since;
      early = omega (arith, has.early, spares.changes.never_falls);
      given = given_kept has.since before now spares.changes.gave same has.given;
    }

sifting_by :
    {low high : ℕ} (told : Bool) {before now : Device} {pool later : Pool} (s : Sifting) (run : Option Run) → MergingStays
    → Spares low high before now pool later (sift_leases s) → SiftingOutside low high s → IsSiftingBy told before pool s run
    → IsSiftingBy told now later s run
sifting_by {low = low} {high = high} told {before = before} {now = now} {pool = pool} {later = later} s None stays spares outside is = record {
  can = record {
    merging = stays low high told before now pool later s.into (spares_first (leases_held s.into) (s.lease ∷ s.filter) spares) outside.merging is.can.merging;
    has = has_stays s spares outside is.can.has;
  };
  room = is.room;
}
sifting_by told s (Some run) stays spares outside is = record { placed = is.placed; leases = outs_kept (sift_leases s) spares.out is.leases }

pub sifting_stays : MergingStays → SiftingStays
sifting_stays stays low high told before now pool later s spares outside is = sifting_by told s s.run stays spares outside is

sifted_given_by :
    (low high : ℕ) (told : Bool) (since : Since) (before now : Device) (pool later : Pool) (s : Sifting) (run : Option Run) → CursorsStayGiven
    → Spares low high before now pool later (sift_leases s) → SiftingOutside low high s → IsSiftingBy told before pool s run
    → SiftedGiven since before pool s run → SiftedGiven since now later s run
sifted_given_by low high told since before now pool later s None stays spares outside is was =
    let into = s.into in
    let held = spares_first (leases_held into) (s.lease ∷ s.filter) spares in
    let merging = is.can.merging in
    let ends = next_within into.writer.filler.first into.writer.filler.pages into.writer.filler.held into.writer.filler.count into.rows
    merging.can.area.block (pages_below merging) merging.count in
    record {
      buffers = record {
        lists =
            stays low high told since before now pool later into.merge.cursors.items
            (record { changes = held.changes; out = held.out; buffers = λ i within. held.buffers (suc i) (omega (arith, within)) })
            outside.merging.lists merging.can.step.cursors was.buffers.lists;
        record_of =
            given_kept since.calls before now spares.changes.gave (spares_rest (leases_held into) (s.lease ∷ s.filter) spares 0 (omega arith))
            was.buffers.record_of;
      };
      area = was.area;
      puts = λ tells.
          let puts = was.puts tells in
          record {
            ids = puts.ids;
            put =
                put_kept into.writer
                (λ is_told number from to. (area_spared into.writer.filler.first (area_end into) spares.changes outside.merging.area number from (omega (arith, to, ends.0))).bytes)
                (held.buffers 0 (omega arith)) puts.put;
            ascending = puts.ascending;
            above = puts.above;
            below = puts.below;
          };
    }
sifted_given_by low high told since before now pool later s (Some run) stays spares outside is was =
    knows_stays before.page now.page s.into.rows run is.placed.width is.placed.count
    (λ number from to.
    (area_spared s.into.writer.filler.first (area_end s.into) spares.changes outside.merging.area number (omega (arith, from, is.placed.first))
    (omega (arith, to, is.placed.first))).bytes)
    was

pub sifting_given : CursorsStayGiven → SiftingStaysGiven
sifting_given stays low high told since size before now pool later s spares outside is given = record {
  list = sifted_given_by low high told since before now pool later s s.run stays spares outside is given.list;
  table = given.table;
  areas = given.areas;
}

left_by : (pool later : Pool) (s : Sifting) (run : Option Run) → closing_left later s.into None ≡ closing_left pool s.into None → closing_left later s.into run ≡ closing_left pool s.into run
left_by pool later s None same = same
left_by pool later s (Some run) same = refl

pub left_stays : MergingLeftStays → SiftingLeftStays
left_stays stays low high before now pool later s spares =
    left_by pool later s s.run
    (ap (λ n. n + 1) (stays low high before now pool later s.into (spares_first (leases_held s.into) (s.lease ∷ s.filter) spares)))

small_by :
    (told : Bool) (device : Device) (pool : Pool) (s : Sifting) (run : Option Run) → MergingIsSmall → s.into.rows < 2 ^ 32
    → length s.into.merge.cursors.items ≤ 96 → IsSiftingBy told device pool s run → closing_left pool s.into run ≤ 2 ^ 48
small_by told device pool s None small few cursors is = small told device pool s.into few cursors is.can.merging
small_by told device pool s (Some run) small few cursors is = omega arith

pub sifting_small : MergingIsSmall → SiftingIsSmall
sifting_small small told device pool s few cursors is = small_by told device pool s s.run small few cursors is

-- two areas that share no page, the other way round
apart_turned : {first end other other_end : ℕ} → AreApart first end other other_end → AreApart other other_end first end
apart_turned (inl before) = inr before
apart_turned (inr behind) = inl behind

pub sifting_keeps : SiftingKeeps
sifting_keeps low high told before now pool later old new goes apart = record {
  page_count = goes.changes.page_count;
  pages = λ number from to. area_spared low high goes.changes (apart_turned apart) number from to;
}

-- what the list has so far
tests_spared :
    {low high : ℕ} {told : Bool} {before now : Device} {pool later : Pool} (s : Sifting) (passes : ℕ → Bool) → HasKeys told before pool s
    → Spares low high before now pool later (sift_leases s) → SiftingOutside low high s
    → Tests before.page pool s passes → Tests now.page later s passes
tests_spared {before = before} {now = now} {pool = pool} {later = later} s passes has spares outside was = λ id some within rows is.
    let same = record_kept before.page now.page (run_of s.keys.run) (id - 1)
    (beside_page (page_of (run_of s.keys.run) (id - 1)) spares.changes (outside.keys (id - 1) (omega (arith, some, within)))) in
    let spelled : slot_row before.page s.keys id ≡ Some rows = ap (λ (bytes : List ℕ). row_spelled s.keys.rows.items bytes) (sym same) ∙ is in
    was id some within rows spelled
    ∙ sym (may_stays pool later s.filter (get_or rows s.place 0) has.some
    (λ i low. (spares_rest (leases_held s.into) (s.lease ∷ s.filter) spares (suc i) (omega (arith, low))).bytes))

so_far_stays :
    {low high : ℕ} (told : Bool) {right : ℕ → List ℕ} {first : Merge} {passes : ℕ → Bool} {before now : Device} {pool later : Pool} (s : Sifting)
    → CursorsStayRight → Spares low high before now pool later (sift_leases s) → SiftingOutside low high s → IsUnderWay told before pool s
    → SiftsSoFar told right first passes before.page pool s → SiftsSoFar told right first passes now.page later s
so_far_stays {low = low} {high = high} told {right = right} {passes = passes} {before = before} {now = now} {pool = pool} s stays spares outside is was =
    let into = s.into in
    let merging = is.can.merging in
    let ends = next_within into.writer.filler.first into.writer.filler.pages into.writer.filler.held into.writer.filler.count into.rows
    merging.can.area.block (pages_below merging) merging.count in
    let rest = spares_first (leases_held into) (s.lease ∷ s.filter) spares in
    record {
      sifts = record {
        ids = was.sifts.ids;
        put =
            put_kept into.writer
            (λ is_told number from to. (area_spared into.writer.filler.first (area_end into) spares.changes outside.merging.area number from (omega (arith, to, ends.0))).bytes)
            (rest.buffers 0 (omega arith)) was.sifts.put;
        ascending = was.sifts.ascending;
        below = was.sifts.below;
        all = was.sifts.all;
        lists = stays low high told before now pool right into.merge.cursors.items spares.changes outside.merging.lists merging.can.step.cursors was.sifts.lists;
      };
      tests = tests_spared s passes is.can.has spares outside was.tests;
    }

-- and the list that stands
in_area : (width i count rows : ℕ) → width ≡ 4 → i < count → count ≤ rows → i / per_page width < area_pages rows
in_area width i count rows four within few =
    let P : ℕ → Type 0 = λ w. i / per_page w < area_pages rows in
    let fits : i / 512 < area_pages rows = omega arith in
    subst P (sym four) fits

pages_in_area : (width place count rows : ℕ) → width ≡ 4 → place < pages_of count width → count ≤ rows → place < area_pages rows
pages_in_area width place count rows four within few =
    let P : ℕ → Type 0 = λ w. place < pages_of count w in
    let low : place < (count + 511) / 512 = subst P four within in
    omega (arith, low, few)

sifted_stays :
    {low high : ℕ} {right : ℕ → List ℕ} {first : Merge} {passes : ℕ → Bool} {before now : Device} (s : Sifting) (run : Run)
    → ChangesOnly low high before now → AreApart s.into.writer.filler.first (area_end s.into) low high → IsPlaced s.into run
    → IsSifted right first passes before.page run → IsSifted right first passes now.page run
sifted_stays s run changes apart placed was = record {
  ids = was.ids;
  stores =
      stores_kept
      (λ i within.
      (area_spared s.into.writer.filler.first (area_end s.into) changes apart (page_of (run_of run) i) (omega (arith, placed.first))
      (omega (arith, placed.first, in_area run.width i run.count s.into.rows placed.width within placed.count))).bytes)
      (λ place within.
      (area_spared s.into.writer.filler.first (area_end s.into) changes apart (run.first + place) (omega (arith, placed.first))
      (omega (arith, placed.first, pages_in_area run.width place run.count s.into.rows placed.width within placed.count))).bytes)
      was.stores;
  ascending = was.ascending;
  all = was.all;
}

has_by :
    {low high : ℕ} (told : Bool) (right : ℕ → List ℕ) (first : Merge) (passes : ℕ → Bool) {before now : Device} {pool later : Pool} (s : Sifting)
    (run : Option Run) → CursorsStayRight → Spares low high before now pool later (sift_leases s) → SiftingOutside low high s
    → IsSiftingBy told before pool s run → SiftingHasBy told right first passes before.page pool s run
    → SiftingHasBy told right first passes now.page later s run
has_by told right first passes s None stays spares outside is was = so_far_stays told s stays spares outside is was
has_by told right first passes s (Some run) stays spares outside is was = sifted_stays s run spares.changes outside.merging.area is.placed was

pub sifting_has_stays : CursorsStayRight → SiftingHasStays
sifting_has_stays stays low high told right first passes before now pool later s spares outside is was =
    has_by told right first passes s s.run stays spares outside is was
