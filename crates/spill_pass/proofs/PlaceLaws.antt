-- What a reader of places keeps where the pages and the buffer that it uses stay as they were, and what it gives as a source.
use Rattle.std.proofs.Common.{◌≡◌, ◌∙◌, ℕ, ◌+◌, ◌/◌, ◌<◌, ◌&&◌, ◌||◌, Bool, true, false, List, [], ◌∷◌, length, nat_le, nat_lt, ap, sym, refl, subst, arith}
use Rattle.std.specs.Prelude.{IfSome, Option}
use Rattle.std.proofs.lemmas.Bool.Decides.{nat_tests}
use Rattle.ghost_model.specs.forms.Runs.{page_of, pages_of}
use Rattle.ghost_base.specs.declared.runs.Run.{Run}
use Rattle.ghost_base.specs.declared.runs.ListRef.{ListRef}
use Rattle.ghost_base.specs.Runs.{run_of}
use Rattle.page_pool.specs.Pools.{page_at}
use Rattle.flash_pages.specs.Cursors.{IsPageOf}
use Rattle.flash_pages.proofs.ListFrames.{listed_kept}
use Rattle.flash_pages.proofs.RunFrames.{run_kept, record_kept}
use Rattle.flash_pages.proofs.LeaseFrames.{can_read_kept, some_then}
use Rattle.spill_pass.specs.declared.places.PlaceReader.{PlaceReader}
use Rattle.spill_pass.specs.Lists.{id_of}
use Rattle.spill_pass.specs.Places.{HasPlace, HasPlaces, is_of, source_of}
use Rattle.spill_pass.specs.PlaceLaws.{ReaderStays, ReaderHasStill}

-- the pages of the places and of the lists are used
eighths : (first count i : ℕ) → i < count → (nat_le first (first + i / 256) && nat_lt (first + i / 256) (first + pages_of count 8)) ≡ true
eighths first count i within = grind (arith, nat_tests)

fourths : (first count i : ℕ) → i < count → (nat_le first (first + i / 512) && nat_lt (first + i / 512) (first + pages_of count 4)) ≡ true
fourths first count i within = grind (arith, nat_tests)

pub of_places : (run : Run) (i : ℕ) → run.width ≡ 8 → i < run.count → is_of run 8 (page_of (run_of run) i) ≡ true
of_places run i width within =
    let P : ℕ → Type 0 = λ w. is_of run 8 (run.first + i / (2048 / w)) ≡ true in
    subst P (sym width) (eighths run.first run.count i within)

pub of_lists : (run : Run) (i : ℕ) → run.width ≡ 4 → i < run.count → is_of run 4 (page_of (run_of run) i) ≡ true
of_lists run i width within =
    let P : ℕ → Type 0 = λ w. is_of run 4 (run.first + i / (2048 / w)) ≡ true in
    subst P (sym width) (fourths run.first run.count i within)

either : (a b : Bool) → a ≡ true → (a || b) ≡ true
either a b is = ap (λ x. x || b) is

other : (a b : Bool) → b ≡ true → (a || b) ≡ true
other true b is = refl
other false b is = is

pub places_used : (lists : PlaceReader) (i : ℕ) → lists.places.width ≡ 8 → i < lists.places.count → (source_of lists).uses (page_of (run_of lists.places) i) ≡ true
places_used lists i width within = either (is_of lists.places 8 (page_of (run_of lists.places) i)) (is_of lists.lists 4 (page_of (run_of lists.places) i)) (of_places lists.places i width within)

pub lists_used : (lists : PlaceReader) (i : ℕ) → lists.lists.width ≡ 4 → i < lists.lists.count → (source_of lists).uses (page_of (run_of lists.lists) i) ≡ true
lists_used lists i width within = other (is_of lists.places 8 (page_of (run_of lists.lists) i)) (is_of lists.lists 4 (page_of (run_of lists.lists) i)) (of_lists lists.lists i width within)

pub reader_stays : ReaderStays
reader_stays told before now pool later lists spares can =
    let places = run_of lists.places in
    record {
      places = record {
        run = run_kept spares.page_count can.places.run;
        width = can.places.width;
        place = can.places.place;
        within = can.places.within;
        buffer =
            can_read_kept spares.out spares.buffer
            (some_then {P = IsPageOf places} {Q = λ number. told ≡ true → now.page number ≡ before.page number} (page_at pool lists.lease)
            (λ number of_run. λ is_told.
            ap (λ n. now.page n) of_run.is
            ∙ spares.pages (page_of places of_run.place) (places_used lists of_run.place can.places.width of_run.within)
            ∙ ap (λ n. before.page n) (sym of_run.is))
            can.holds)
            can.places.buffer;
      };
      lists = run_kept spares.page_count can.lists;
      width = can.width;
      few = can.few;
      holds = let P : Option ℕ → Type 0 = λ value. IfSome value (IsPageOf places) in subst P (sym spares.buffer.filled) can.holds;
    }

-- the lists have the same identifiers on other pages
place_still :
    (page now right : ℕ → List ℕ) (rows : ℕ) (places lists : Run) (at next : ℕ) (first : List ℕ)
    → ((i : ℕ) → i < places.count → now (page_of (run_of places) i) ≡ page (page_of (run_of places) i))
    → ((i : ℕ) → i < lists.count → now (page_of (run_of lists) i) ≡ page (page_of (run_of lists) i))
    → HasPlace page right rows places lists at next first → HasPlace now right rows places lists at next first
place_still page now right rows places lists at next first same_places same_lists has =
    let list : ListRef = record { run = lists; first = next; count = length first } in
    record {
      within = has.within;
      inside = has.inside;
      place = record_kept page now (run_of places) at (same_places at has.within) ∙ has.place;
      ordered = record {
        above = has.ordered.above;
        order = has.ordered.order;
        within = has.ordered.within;
        same = λ i within some few.
            let is : id_of now list i ≡ id_of page list i = listed_kept page now (run_of lists) next i (omega (arith, has.inside, within)) same_lists in
            is ∙ has.ordered.same i within (omega (arith, is, some)) (omega (arith, is, few));
      };
      ids = has.ids;
    }

places_still :
    (page now right : ℕ → List ℕ) (rows : ℕ) (places lists : Run) (at next : ℕ) (ids : List (List ℕ))
    → ((i : ℕ) → i < places.count → now (page_of (run_of places) i) ≡ page (page_of (run_of places) i))
    → ((i : ℕ) → i < lists.count → now (page_of (run_of lists) i) ≡ page (page_of (run_of lists) i))
    → HasPlaces page right rows places lists at next ids → HasPlaces now right rows places lists at next ids
places_still page now right rows places lists at next [] same_places same_lists has = has
places_still page now right rows places lists at next (first ∷ rest) same_places same_lists has = (
  place_still page now right rows places lists at next first same_places same_lists has.0,
  places_still page now right rows places lists (at + 1) (next + length first) rest same_places same_lists has.1,
)

pub reader_has : ReaderHasStill
reader_has page now right rows lists ids same has = record {
  places_width = has.places_width;
  lists_width = has.lists_width;
  has =
      places_still page now right rows lists.places lists.lists lists.at lists.next ids
      (λ i within. same (page_of (run_of lists.places) i) (places_used lists i has.places_width within))
      (λ i within. same (page_of (run_of lists.lists) i) (lists_used lists i has.lists_width within)) has.has;
}
