-- What is at hand of a reader of places was read since then, and its places are in order, or a slot of them may be blamed.
use Rattle.std.proofs.Common.{◌≡◌, ◌∙◌, ℕ, ◌+◌, ◌^◌, ◌<◌, ◌≤◌, Bool, true, List, [], ◌∷◌, length, map, ap, sym, refl, subst, arith}
use Rattle.std.specs.Prelude.{Option, Some, None, Result, Ok, Err, OnErr, IfSome, IfOk, MatchOption}
use Rattle.std.proofs.lemmas.List.{append-nil}
use Rattle.ghost_model.specs.forms.Runs.{Stores, id_at, number_cell, number_in, page_of}
use Rattle.ghost_base.specs.declared.runs.Run.{Run}
use Rattle.ghost_base.specs.declared.runs.ListRef.{ListRef}
use Rattle.ghost_base.specs.Runs.{run_of}
use Rattle.edge_traits.specs.Devices.{Device, GaveSince}
use Rattle.page_pool.specs.Pools.{Pool, bytes_at, page_at}
use Rattle.flash_pages.specs.declared.fault.PageFault.{PageFault}
use Rattle.flash_pages.specs.declared.fault.PageFault.TheVariants.{Flash, Damaged}
use Rattle.flash_pages.specs.Reads.{WasGiven}
use Rattle.flash_pages.proofs.LeaseFrames.{given_kept}
use Rattle.flash_pages.proofs.ListFrames.{listed_by_width, records_by_width, was_listed}
use Rattle.flash_pages.proofs.RunFrames.{record_kept}
use Rattle.id_merge.specs.Since.{Since, IsSince, MayBlame, Blames}
use Rattle.id_merge.proofs.SinceLaws.{may_of, may_then}
use Rattle.spill_pass.specs.declared.groups.PlacedLists.{PlacedLists}
use Rattle.spill_pass.specs.declared.places.PlaceReader.{PlaceReader}
use Rattle.spill_pass.specs.Given.{HasRowList, KnowsRun, PlacedGiven, StandsInOrder}
use Rattle.spill_pass.specs.Grouping.{AreRowLists, StoresLists}
use Rattle.spill_pass.specs.Known.{KnowsAnswer, KnowsNext}
use Rattle.spill_pass.specs.Listings.{PlacedHas, ReaderGiven, ReadsInOrder}
use Rattle.spill_pass.specs.Lists.{IsOrdered, id_of}
use Rattle.spill_pass.specs.Places.{BlamesPlace, GivesPlace, HasPlace, HasPlaces, IsNextList, ReaderHas, SamePlaces, source_of}
use Rattle.spill_pass.specs.Sources.{GivesLists, SparesSource}
use Rattle.spill_pass.proofs.PlaceLaws.{lists_used}
use Rattle.spill_pass.proofs.PlaceGiving.{gives_list, gives_sound}
use Rattle.spill_pass.proofs.PlacedContents.{count_places}
use Rattle.spill_pass.proofs.PlacedSure.{placed_done, placed_gives, placed_still}
use Rattle.spill_pass.proofs.PutLists.{row_list_ordered}
use Rattle.spill_pass.proofs.Reducing.{ReadsPlaced}

-- a place that is blamed
pub place_blamed :
    {told : Bool} {page : ℕ → List ℕ} {before : Device} {pool : Pool} {rows : ℕ} (since : Since) (now : Device) (reader : PlaceReader) (result : Result (Option ListRef) PageFault)
    → since.told ≡ told → reader.lists.count < 2 ^ 32 → before.page ≡ page → ReaderGiven since before pool rows reader
    → (told ≡ true → GivesPlace page reader result) → BlamesPlace since.calls now reader result → Blames since now result
place_blamed since now reader (Ok answer) same small pages given gives blames = tt
place_blamed since now reader (Err Flash) same small pages given gives blames = tt
place_blamed {page = page} {before = before} {rows = rows} since now reader (Err (Damaged number slot found)) same small pages given gives blames =
    let none : since.told ≡ true → ReadsInOrder before.page rows reader → ⊥ =
    λ tells order.
    let P : (ℕ → List ℕ) → Type 0 = λ p. ReaderHas p before.page rows reader order.ids in
    gives_sound page before.page rows reader order.ids (λ number slot found. ⊥) (Err (Damaged number slot found)) (gives (sym same ∙ tells)) small
    (subst P pages order.has.has) in
    record {
      run = run_of reader.places;
      may = may_of none given.places;
      place = reader.at;
      within = blames.within;
      page_is = blames.page;
      slot_is = blames.slot_is;
      bytes = blames.bytes;
      read = was_listed (records_by_width (run_of reader.places) (omega (arith, blames.width))) blames.read;
      found_is = blames.found_is;
    }

-- what is in order still is after a list was given
reads_more :
    (page now : ℕ → List ℕ) (rows : ℕ) (before new : PlaceReader) (ids : List (List ℕ)) (result : Result (Option ListRef) PageFault) → now ≡ page
    → GivesLists (PlacedHas now page rows new) now page rows ids result → ReadsInOrder now rows new
reads_more page now rows before new ids (Ok None) pages gives =
    let P : (ℕ → List ℕ) → Type 0 = λ right. PlacedHas now right rows new [] in
    record { ids = []; has = subst P (sym pages) gives.1 }
reads_more page now rows before new ids (Ok (Some list)) pages gives =
    let P : (ℕ → List ℕ) → Type 0 = λ right. PlacedHas now right rows new gives.rest in
    record { ids = gives.rest; has = subst P (sym pages) gives.has_rest }
reads_more page now rows before new ids (Err fault) pages gives =
    let P : (ℕ → List ℕ) → Type 0 = λ right. PlacedHas now right rows new ids in
    record { ids = ids; has = subst P (sym pages) gives }

all_gives :
    (page now : ℕ → List ℕ) (rows : ℕ) (before new : PlaceReader) (ids : List (List ℕ)) (result : Result (Option ListRef) PageFault) → now ≡ page
    → GivesPlace page before result → IfOk result (λ list. MatchOption list ((before.at ≡ before.places.count) × (new ≡ before)) (IsNextList before new))
    → OnErr result (new ≡ before) → SamePlaces before new → before.lists.count < 2 ^ 32 → PlacedHas page page rows before ids
    → GivesLists (PlacedHas now page rows new) now page rows ids result
all_gives page now rows before new ids result pages gives step fault same small has =
    placed_gives page now page rows before new ids result pages same.lists has
    (gives_list page now page rows before new ids result pages gives step fault same small has.has)

ordered_answer :
    {has : List (List ℕ) → Type 0} (page now : ℕ → List ℕ) (rows : ℕ) (ids : List (List ℕ)) (list : ListRef) → now ≡ page
    → GivesLists has now page rows ids (Ok (Some list)) → IsOrdered now now rows list
ordered_answer page now rows ids list pages gives =
    let P : (ℕ → List ℕ) → Type 0 = λ right. IsOrdered now right rows list in
    subst P (sym pages) gives.ordered

answer_known :
    {told : Bool} {pool : Pool} (page now : ℕ → List ℕ) (since : Since) (device : Device) (rows : ℕ) (before new : PlaceReader) (result : Result (Option ListRef) PageFault)
    → now ≡ page → device.page ≡ page → since.told ≡ told → (told ≡ true → GivesPlace page before result)
    → IfOk result (λ list. MatchOption list ((before.at ≡ before.places.count) × (new ≡ before)) (IsNextList before new))
    → OnErr result (new ≡ before) → SamePlaces before new → before.lists.count < 2 ^ 32
    → ReaderGiven since device pool rows before → KnowsAnswer since now rows result
answer_known page now since device rows before new (Ok None) pages same_page same gives step fault places small given = tt
answer_known page now since device rows before new (Ok (Some list)) pages same_page same gives step fault places small given =
    let R : Run → Type 0 = λ r. MayBlame since (run_of r) (IsOrdered now now rows list) in
    let O : (ℕ → List ℕ) → Type 0 = λ p. ReadsInOrder p rows before in
    subst R (sym step.run)
    (may_then
    (λ tells order.
    let was = subst O same_page order in
    ordered_answer page now rows was.ids list pages
    (all_gives page now rows before new was.ids (Ok (Some list)) pages (gives (sym same ∙ tells)) step fault places small was.has))
    given.lists)
answer_known page now since device rows before new (Err e) pages same_page same gives step fault places small given = tt

-- what `next` leaves
pub reader_known :
    {told : Bool} {before now : Device} {pool later : Pool} (since : Since) (rows : ℕ) (old new : PlaceReader) (result : Result (Option ListRef) PageFault)
    → now.page ≡ before.page → IsSince told before since → (told ≡ true → GivesPlace before.page old result)
    → IfOk result (λ list. MatchOption list ((old.at ≡ old.places.count) × (new ≡ old)) (IsNextList old new))
    → OnErr result (new ≡ old) → SamePlaces old new → old.lists.count < 2 ^ 32
    → ((since : ℕ) → since ≤ before.calls → WasGiven since before pool old.lease → WasGiven since now later old.lease)
    → ReaderGiven since before pool rows old → KnowsNext (ReaderGiven since now later rows new) since now.page rows result
reader_known {before = before} {now = now} {later = later} since rows old new result pages from gives step fault same small read given =
    let order : since.told ≡ true → ReadsInOrder before.page rows old → ReadsInOrder now.page rows new =
    λ tells order.
    reads_more before.page now.page rows old new order.ids result pages
    (all_gives before.page now.page rows old new order.ids result pages (gives (sym from.tells ∙ tells)) step fault same small order.has) in
    let L : ℕ → Type 0 = λ lease. WasGiven since.calls now later lease in
    let R : Run → Type 0 = λ r. MayBlame since (run_of r) (ReadsInOrder now.page rows new) in
    record {
      still = record {
        read = subst L (sym same.lease) (read since.calls from.calls given.read);
        places = subst R (sym same.places) (may_then order given.places);
        lists = subst R (sym same.lists) (may_then order given.lists);
      };
      list = answer_known before.page now.page since before rows old new result pages refl from.tells gives step fault same small given;
    }

-- where the pages that it uses are as they were, they have the same identifiers
ids_now :
    (page now : ℕ → List ℕ) (rows : ℕ) (reader : PlaceReader) (ids : List (List ℕ)) → ((number : ℕ) → (source_of reader).uses number ≡ true → now number ≡ page number)
    → PlacedHas page page rows reader ids → (i : ℕ) → i < reader.lists.count → id_at now (run_of reader.lists) i ≡ id_at page (run_of reader.lists) i
ids_now page now rows reader ids same has i within =
    ap (λ r. number_in r 0)
    (record_kept page now (run_of reader.lists) i (same (page_of (run_of reader.lists) i) (lists_used reader i has.has.lists_width within)))

right_place :
    (now page right : ℕ → List ℕ) (rows : ℕ) (places lists : Run) (at next : ℕ) (first : List ℕ) → lists.width ≡ 4
    → ((i : ℕ) → i < lists.count → id_at right (run_of lists) i ≡ id_at page (run_of lists) i)
    → HasPlace now page rows places lists at next first → HasPlace now right rows places lists at next first
right_place now page right rows places lists at next first width same was =
    let list : ListRef = record { run = lists; first = next; count = length first } in
    let there : (i : ℕ) → i < length first → id_at right (run_of lists) (next + i) ≡ id_at page (run_of lists) (next + i) =
    λ i within. same (next + i) (omega (arith, within, was.inside)) in
    let wide : 4 ≤ lists.width = omega (arith, width) in
    let here : (i : ℕ) → i < length first → id_of right list i ≡ id_of page list i =
    λ i within. listed_by_width right (run_of lists) next i wide ∙ there i within ∙ sym (listed_by_width page (run_of lists) next i wide) in
    record {
      within = was.within;
      inside = was.inside;
      place = was.place;
      ordered = record {
        above = λ i within. omega (arith, here i within, was.ordered.above i within);
        order = λ i j less within. omega (arith, here i (omega (arith, less, within)), here j within, was.ordered.order i j less within);
        within = λ i within. omega (arith, here i within, was.ordered.within i within);
        same = λ i within some most. was.ordered.same i within some most ∙ sym (here i within);
      };
      ids = λ i within. there i within ∙ was.ids i within;
    }

right_places :
    (now page right : ℕ → List ℕ) (rows : ℕ) (places lists : Run) (at next : ℕ) (ids : List (List ℕ)) → lists.width ≡ 4
    → ((i : ℕ) → i < lists.count → id_at right (run_of lists) i ≡ id_at page (run_of lists) i)
    → HasPlaces now page rows places lists at next ids → HasPlaces now right rows places lists at next ids
right_places now page right rows places lists at next [] width same was = was
right_places now page right rows places lists at next (first ∷ rest) width same was = (
  right_place now page right rows places lists at next first width same was.0,
  right_places now page right rows places lists (at + 1) (next + length first) rest width same was.1,
)

placed_now :
    (page now : ℕ → List ℕ) (rows : ℕ) (reader : PlaceReader) (ids : List (List ℕ)) → ((number : ℕ) → (source_of reader).uses number ≡ true → now number ≡ page number)
    → PlacedHas page page rows reader ids → PlacedHas now now rows reader ids
placed_now page now rows reader ids same has =
    let still = placed_still page now page rows reader ids same has in
    record {
      has = record {
        places_width = still.has.places_width;
        lists_width = still.has.lists_width;
        has = right_places now page now rows reader.places reader.lists reader.at reader.next ids has.has.lists_width (ids_now page now rows reader ids same has) still.has.has;
      };
      above = still.above;
      within = still.within;
    }

-- it stays where nobody changed its pages and its buffer
pub reader_spared :
    {before now : Device} {pool later : Pool} (since : Since) (rows : ℕ) (reader : PlaceReader) → SparesSource before now pool later (source_of reader)
    → ((at number : ℕ) (bytes : List ℕ) → before.gave at number bytes ≡ true → now.gave at number bytes ≡ true)
    → ReaderGiven since before pool rows reader → ReaderGiven since now later rows reader
reader_spared {before = before} {now = now} since rows reader spares gave given =
    let order : since.told ≡ true → ReadsInOrder before.page rows reader → ReadsInOrder now.page rows reader =
    λ tells order. record { ids = order.ids; has = placed_now before.page now.page rows reader order.ids spares.pages order.has } in
    record {
      read = given_kept since.calls before now gave spares.buffer given.read;
      places = may_then order given.places;
      lists = may_then order given.lists;
    }

-- the lists of a pass, as the next one reads them
pub reads_given :
    {device : Device} {pool : Pool} (since : Since) (rows : ℕ) (placed : PlacedLists) (reader : PlaceReader) → rows < 2 ^ 32 → placed.places.width ≡ 8
    → placed.lists.width ≡ 4 → ReadsPlaced placed reader → page_at pool reader.lease ≡ None → PlacedGiven since device.page rows placed
    → ReaderGiven since device pool rows reader
reads_given {device = device} {pool = pool} since rows placed reader small places_width lists_width reads none given =
    let order : since.told ≡ true → StandsInOrder device.page rows placed → ReadsInOrder device.page rows reader =
    λ tells stands. record { ids = stands.lists; has = placed_done device.page rows placed reader stands.lists small places_width lists_width reads stands.stores stands.ordered } in
    let P : Option ℕ → Type 0 = λ page. IfSome page (GaveSince since.calls device (bytes_at pool reader.lease)) in
    let R : Run → Type 0 = λ r. MayBlame since (run_of r) (ReadsInOrder device.page rows reader) in
    record {
      read = subst P (sym none) tt;
      places = subst R (sym reads.places) (may_then order given.places);
      lists = subst R (sym reads.lists) (may_then order given.lists);
    }

-- at most one list
one_list : (page : ℕ → List ℕ) (rows : ℕ) (placed : PlacedLists) (lists : List (List ℕ)) → length lists ≤ 1 → StoresLists page lists placed → AreRowLists rows lists → HasRowList page rows placed.lists
one_list page rows placed [] few stores ordered = record {
  ids = [];
  stores = stores.ids;
  ordered = record {
    ascending = λ i j before within. absurd (omega (arith, within));
    above = λ i within. absurd (omega (arith, within));
    within = λ i within. absurd (omega (arith, within));
  };
}
one_list page rows placed (first ∷ []) few stores ordered =
    let P : List ℕ → Type 0 = λ ids. Stores page (run_of placed.lists) (map number_cell ids) in
    record { ids = first; stores = subst P (append-nil first) stores.ids; ordered = ordered 0 (omega arith) }
one_list page rows placed (first ∷ second ∷ rest) few stores ordered = absurd (omega (arith, few))

pub one_known :
    (since : Since) (page : ℕ → List ℕ) (rows : ℕ) (placed : PlacedLists) (run : Option Run) → rows < 2 ^ 32 → placed.lists.width ≡ 4 → placed.places.count ≤ 1 → run ≡ Some placed.lists
    → PlacedGiven since page rows placed → KnowsRun since page rows run
one_known since page rows placed run small width few is given =
    let P : Option Run → Type 0 = λ o. KnowsRun since page rows o in
    subst P (sym is)
    (may_then
    (λ tells stands.
    row_list_ordered page rows placed.lists small width
    (one_list page rows placed stands.lists (omega (arith, few, stands.stores.places.has.count, count_places 0 stands.lists)) stands.stores stands.ordered))
    given.lists)
