-- The lists that a pass left, as a reader of their places gives them.
use Rattle.std.proofs.Common.{◌≡◌, ◌∙◌, ℕ, zero, suc, ◌+◌, ◌^◌, ◌<◌, ◌≤◌, List, [], ◌∷◌, ◌++◌, length, map, get_or, ap, sym, refl, subst, arith}
use Rattle.std.specs.List.{concat}
use Rattle.std.proofs.lemmas.List.{get_or-append-add, length-append, length-map}
use Rattle.std.proofs.lemmas.Nat.{from_be_bytes-to_be_bytes_4}
use Rattle.ghost_model.specs.forms.Runs.{id_at, number_cell, number_in, record_at}
use Rattle.ghost_base.specs.declared.runs.Run.{Run}
use Rattle.ghost_base.specs.declared.runs.ListRef.{ListRef}
use Rattle.ghost_base.specs.Runs.{run_of}
use Rattle.flash_pages.proofs.ListFrames.{listed_by_width}
use Rattle.spill_pass.specs.declared.groups.PlacedLists.{PlacedLists}
use Rattle.spill_pass.specs.declared.places.PlaceReader.{PlaceReader}
use Rattle.spill_pass.specs.Grouping.{AreRowLists, IsRowList, StoresLists, places_of}
use Rattle.spill_pass.specs.Lists.{id_of}
use Rattle.spill_pass.specs.Places.{HasPlace, HasPlaces, ReaderHas}
use Rattle.spill_pass.proofs.Reducing.{ReadsPlaced}

pub first_number : (n : ℕ) → n < 2 ^ 32 → number_in (number_cell n) 0 ≡ n
unfolding number_in
first_number n fits = from_be_bytes-to_be_bytes_4 n fits

pub get_left : (xs ys : List ℕ) (i : ℕ) → i < length xs → get_or (xs ++ ys) i 0 ≡ get_or xs i 0
get_left [] ys i within = absurd (omega (arith, within))
get_left (x ∷ xs) ys zero within = refl
get_left (x ∷ xs) ys (suc i) within = get_left xs ys i (omega (arith, within))

pub get_cell : (xs : List ℕ) (i : ℕ) → i < length xs → get_or (map number_cell xs) i [] ≡ number_cell (get_or xs i 0)
get_cell [] i within = absurd (omega (arith, within))
get_cell (x ∷ xs) zero within = refl
get_cell (x ∷ xs) (suc i) within = get_cell xs i (omega (arith, within))

pub count_places : (from : ℕ) (lists : List (List ℕ)) → length (places_of from lists) ≡ length lists
count_places from [] = refl
count_places from (ids ∷ lists) = ap suc (count_places (from + length ids) lists)

-- each record of the run is an identifier of the lists, one after another
abbrev pub HasIds : (page : ℕ → List ℕ) → Run → (next : ℕ) → List ℕ → Type 0
HasIds page run next ids = (i : ℕ) → i < length ids → record_at page (run_of run) (next + i) ≡ number_cell (get_or ids i 0)

abbrev pub HasCells : (page : ℕ → List ℕ) → Run → (at : ℕ) → List (List ℕ) → Type 0
HasCells page run at cells = (i : ℕ) → i < length cells → record_at page (run_of run) (at + i) ≡ get_or cells i []

abbrev listed : Run → ℕ → ℕ → ListRef
listed run first count = record { run = run; first = first; count = count }

place_is :
    (page : ℕ → List ℕ) (rows : ℕ) (places lists : Run) (at next : ℕ) (first : List ℕ) (rest : List (List ℕ)) → rows < 2 ^ 32 → lists.width ≡ 4
    → HasCells page places at (places_of next (first ∷ rest)) → HasIds page lists next (first ++ concat rest) → IsRowList rows first
    → at < places.count → next + length first ≤ lists.count → HasPlace page page rows places lists at next first
place_is page rows places lists at next first rest few width cells ids row within inside =
    let id : (i : ℕ) → i < length first → id_at page (run_of lists) (next + i) ≡ get_or first i 0 =
    λ i less.
    ap (λ r. number_in r 0)
    (ids i (omega (arith, less, length-append first (concat rest))) ∙ ap number_cell (get_left first (concat rest) i less))
    ∙ first_number (get_or first i 0) (omega (arith, row.within i less, few)) in
    let list_id : (i : ℕ) → i < length first → id_of page (listed lists next (length first)) i ≡ get_or first i 0 =
    λ i less. listed_by_width page (run_of lists) next i (omega (arith, width)) ∙ id i less in
    record {
      within = within;
      inside = inside;
      place = ap (λ n. record_at page (run_of places) n) (omega arith) ∙ cells 0 (omega arith);
      ordered = record {
        above = λ i less. omega (arith, list_id i less, row.above i less);
        order = λ i j before less. omega (arith, list_id i (omega (arith, before, less)), list_id j less, row.ascending i j before less);
        within = λ i less. omega (arith, list_id i less, row.within i less);
        same = λ i less some most. refl;
      };
      ids = id;
    }

has_places :
    (page : ℕ → List ℕ) (rows : ℕ) (places lists : Run) (at next : ℕ) (rest : List (List ℕ)) → rows < 2 ^ 32 → lists.width ≡ 4
    → HasCells page places at (places_of next rest) → HasIds page lists next (concat rest) → AreRowLists rows rest
    → at + length rest ≡ places.count → next + length (concat rest) ≡ lists.count → HasPlaces page page rows places lists at next rest
has_places page rows places lists at next [] few width cells ids rows_are count all = omega (arith, count)
has_places page rows places lists at next (first ∷ rest) few width cells ids rows_are count all =
    let both = length-append first (concat rest) in (
      place_is page rows places lists at next first rest few width cells ids (rows_are 0 (omega arith)) (omega (arith, count)) (omega (arith, all, both)),
      has_places page rows places lists (at + 1) (next + length first) rest few width
          (λ i less. ap (λ n. record_at page (run_of places) n) (omega arith) ∙ cells (suc i) (omega (arith, less)))
          (λ i less.
          ap (λ n. record_at page (run_of lists) n) (omega arith)
          ∙ ids (length first + i) (omega (arith, less, both))
          ∙ ap number_cell (get_or-append-add first (concat rest) i 0))
          (λ i less. rows_are (suc i) (omega (arith, less))) (omega (arith, count)) (omega (arith, all, both)),
    )

-- what a pass left
pub reader_has_done :
    (page : ℕ → List ℕ) (rows : ℕ) (placed : PlacedLists) (reader : PlaceReader) (done : List (List ℕ)) → rows < 2 ^ 32 → placed.places.width ≡ 8
    → placed.lists.width ≡ 4 → ReadsPlaced placed reader → StoresLists page done placed → AreRowLists rows done → ReaderHas page page rows reader done
reader_has_done page rows placed reader done few places_width lists_width reads stores ordered =
    let A : Run → Type 0 = λ r. HasPlaces page page rows r reader.lists reader.at reader.next done in
    let B : Run → Type 0 = λ r. HasPlaces page page rows placed.places r reader.at reader.next done in
    let C : ℕ → Type 0 = λ n. HasPlaces page page rows placed.places placed.lists n reader.next done in
    let D : ℕ → Type 0 = λ n. HasPlaces page page rows placed.places placed.lists 0 n done in
    let ids = concat done in
    let all = stores.ids.has.count ∙ length-map ids number_cell in
    let count = stores.places.has.count ∙ count_places 0 done in
    record {
      places_width = ap (λ (r : Run). r.width) reads.places ∙ places_width;
      lists_width = ap (λ (r : Run). r.width) reads.lists ∙ lists_width;
      has =
          subst A (sym reads.places)
          (subst B (sym reads.lists)
          (subst C (sym reads.at)
          (subst D (sym reads.next)
          (has_places page rows placed.places placed.lists 0 0 done few lists_width
          (λ i less. ap (λ n. record_at page (run_of placed.places) n) (omega arith) ∙ stores.places.has.each i (omega (arith, less, stores.places.has.count)))
          (λ i less. ap (λ n. record_at page (run_of placed.lists) n) (omega arith) ∙ stores.ids.has.each i (omega (arith, less, all)) ∙ get_cell ids i less)
          ordered (omega (arith, count)) (omega (arith, all))))));
    }
