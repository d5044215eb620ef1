-- Where a pass wrote the lists, each record of their run has an identifier of the rows.
use Rattle.std.proofs.Common.{◌≡◌, ◌∙◌, ℕ, zero, suc, ◌+◌, ◌^◌, ◌<◌, ◌≤◌, ◌⊎◌, inl, inr, true, List, [], ◌∷◌, ◌++◌, length, get_or, ap, sym, refl, subst, arith}
use Rattle.std.specs.Prelude.{Option, Some, None, Result, Ok, Err}
use Rattle.std.specs.List.{concat}
use Rattle.std.proofs.lemmas.List.{get_or-append-add, length-append, length-map}
use Rattle.ghost_model.specs.forms.Gaps as gaps
use Rattle.ghost_model.specs.forms.Runs.{id_at, number_cell, number_in, page_of}
use Rattle.ghost_base.specs.declared.runs.Run.{Run}
use Rattle.ghost_base.specs.declared.runs.ListRef.{ListRef}
use Rattle.ghost_base.specs.Runs.{run_of}
use Rattle.flash_pages.specs.declared.fault.PageFault.{PageFault}
use Rattle.flash_pages.proofs.ListFrames.{listed_by_width}
use Rattle.flash_pages.proofs.RunFrames.{record_kept}
use Rattle.spill_pass.specs.declared.groups.PlacedLists.{PlacedLists}
use Rattle.spill_pass.specs.declared.places.PlaceReader.{PlaceReader}
use Rattle.spill_pass.specs.Grouping.{AreRowLists, StoresLists}
use Rattle.spill_pass.specs.Listings.{PlacedHas}
use Rattle.spill_pass.specs.Lists.{OutOfRowsIn, id_of}
use Rattle.spill_pass.specs.Places.{DamagesReader, ReaderHas, source_of}
use Rattle.spill_pass.specs.Sources.{BlamesSource, GivesLists}
use Rattle.spill_pass.proofs.Over.{blames_less}
use Rattle.spill_pass.proofs.PlaceLaws.{lists_used, reader_has}
use Rattle.spill_pass.proofs.PlacedContents.{first_number, get_cell, get_left, reader_has_done}
use Rattle.spill_pass.proofs.Reducing.{ReadsPlaced}

-- each record of a run has an identifier of the rows
pub record AllOfRows (page : ℕ → List ℕ) (rows : ℕ) (run : Run) : Type 0 where
  pub above : (i : ℕ) → i < run.count → 0 < id_at page (run_of run) i
  pub within : (i : ℕ) → i < run.count → id_at page (run_of run) i ≤ rows

pub sure_on : (page now : ℕ → List ℕ) (rows : ℕ) (run run' : Run) → now ≡ page → run' ≡ run → AllOfRows page rows run → AllOfRows now rows run'
sure_on page now rows run run' pages is all =
    let P : (ℕ → List ℕ) → Type 0 = λ p. AllOfRows p rows run' in
    let Q : Run → Type 0 = λ r. AllOfRows page rows r in
    subst P (sym pages) (subst Q (sym is) all)

-- so none is damaged
pub none_out :
    (page : ℕ → List ℕ) (rows : ℕ) (run : Run) (list : ListRef) → run.width ≡ 4 → list.run ≡ run → list.first + list.count ≤ run.count
    → AllOfRows page rows run → (number slot found : ℕ) → OutOfRowsIn page list rows number slot found → ⊥
none_out page rows run list width same inside all number slot found out =
    let place = list.first + out.at in
    let P : Run → Type 0 = λ r. gaps.listed page (run_of r) list.first out.at ≡ id_at page (run_of run) place in
    let is : id_of page list out.at ≡ id_at page (run_of run) place = subst P (sym same) (listed_by_width page (run_of run) list.first out.at (omega (arith, width))) in
    let within : place < run.count = omega (arith, inside, out.within) in
    out.out (omega (arith, is, all.above place within)) (omega (arith, is, all.within place within))

pub sure_of : {page right : ℕ → List ℕ} {rows : ℕ} {reader : PlaceReader} {ids : List (List ℕ)} → PlacedHas page right rows reader ids → AllOfRows page rows reader.lists
sure_of has = record { above = has.above; within = has.within }

pub placed_sound :
    {T : Type 0} (page now right : ℕ → List ℕ) (rows : ℕ) (reader : PlaceReader) (ids : List (List ℕ)) (damaged : ℕ → ℕ → ℕ → Type 0)
    (result : Result T PageFault) → now ≡ page → PlacedHas page right rows reader ids → BlamesSource (DamagesReader now rows reader) result
    → BlamesSource damaged result
placed_sound page now right rows reader ids damaged result pages has blames =
    blames_less (DamagesReader now rows reader) damaged result
    (λ number slot found out.
    absurd
    (none_out now rows reader.lists out.list has.has.lists_width out.lies.run_is out.lies.within
    (sure_on page now rows reader.lists reader.lists pages refl (sure_of has)) number slot found out.out))
    blames

-- the lists that are given
pub placed_gives :
    (page now right : ℕ → List ℕ) (rows : ℕ) (before new : PlaceReader) (lists : List (List ℕ)) (result : Result (Option ListRef) PageFault)
    → now ≡ page → new.lists ≡ before.lists → PlacedHas page right rows before lists
    → GivesLists (ReaderHas now right rows new) now right rows lists result → GivesLists (PlacedHas now right rows new) now right rows lists result
placed_gives page now right rows before new lists (Ok None) pages same has gives =
    let all = sure_on page now rows before.lists new.lists pages same (sure_of has) in
    (gives.0, record { has = gives.1; above = all.above; within = all.within })
placed_gives page now right rows before new lists (Ok (Some list)) pages same has gives =
    let all = sure_on page now rows before.lists new.lists pages same (sure_of has) in
    record {
      first = gives.first;
      rest = gives.rest;
      is = gives.is;
      ordered = gives.ordered;
      count = gives.count;
      ids = gives.ids;
      has_rest = record { has = gives.has_rest; above = all.above; within = all.within };
    }
placed_gives page now right rows before new lists (Err fault) pages same has gives =
    let all = sure_on page now rows before.lists new.lists pages same (sure_of has) in
    record { has = gives; above = all.above; within = all.within }

-- they stay on other pages that are the same where they are used
pub placed_still :
    (page now right : ℕ → List ℕ) (rows : ℕ) (reader : PlaceReader) (ids : List (List ℕ))
    → ((number : ℕ) → (source_of reader).uses number ≡ true → now number ≡ page number) → PlacedHas page right rows reader ids
    → PlacedHas now right rows reader ids
placed_still page now right rows reader ids same has =
    let is : (i : ℕ) → i < reader.lists.count → id_at now (run_of reader.lists) i ≡ id_at page (run_of reader.lists) i =
    λ i within.
    ap (λ r. number_in r 0)
    (record_kept page now (run_of reader.lists) i (same (page_of (run_of reader.lists) i) (lists_used reader i has.has.lists_width within))) in
    record {
      has = reader_has page now right rows reader ids same has.has;
      above = λ i within. omega (arith, is i within, has.above i within);
      within = λ i within. omega (arith, is i within, has.within i within);
    }

-- what a pass left
side : (i n : ℕ) → (i < n) ⊎ ((j : ℕ) × (i ≡ n + j))
side i zero = inr (i, omega arith)
side zero (suc n) = inl (omega arith)
side (suc i) (suc n) = elim (side i n) [ inl less ↦ inl (omega (arith, less)) | inr at ↦ inr (at.0, omega (arith, at.1)) ]

concat_rows : (rows : ℕ) (lists : List (List ℕ)) → AreRowLists rows lists → (i : ℕ) → i < length (concat lists) → (0 < get_or (concat lists) i 0) × (get_or (concat lists) i 0 ≤ rows)
concat_rows rows [] are i within = absurd (omega (arith, within))
concat_rows rows (first ∷ rest) are i within =
    let P : ℕ → Type 0 = λ n. (0 < n) × (n ≤ rows) in
    elim (side i (length first)) [
      | inl less ↦
          subst P (sym (get_left first (concat rest) i less)) ((are 0 (omega arith)).above i less, (are 0 (omega arith)).within i less)
      | inr at ↦
          subst P
          (sym (ap (λ k. get_or (first ++ concat rest) k 0) (at.1) ∙ get_or-append-add first (concat rest) (at.0) 0))
          (concat_rows rows rest (λ k less. are (suc k) (omega (arith, less))) (at.0) (omega (arith, within, at.1, length-append first (concat rest))))
    ]

sure_stored :
    (page : ℕ → List ℕ) (rows : ℕ) (placed : PlacedLists) (done : List (List ℕ)) → rows < 2 ^ 32 → StoresLists page done placed → AreRowLists rows done
    → AllOfRows page rows placed.lists
sure_stored page rows placed done few stores ordered =
    let ids = concat done in
    let all = stores.ids.has.count ∙ length-map ids number_cell in
    let row = λ (i : ℕ) (within : i < placed.lists.count). concat_rows rows done ordered i (omega (arith, within, all)) in
    let id : (i : ℕ) → i < placed.lists.count → id_at page (run_of placed.lists) i ≡ get_or ids i 0 =
    λ i within.
    ap (λ r. number_in r 0) (stores.ids.has.each i within ∙ get_cell ids i (omega (arith, within, all)))
    ∙ first_number (get_or ids i 0) (omega (arith, (row i within).1, few)) in
    record {
      above = λ i within. omega (arith, id i within, (row i within).0);
      within = λ i within. omega (arith, id i within, (row i within).1);
    }

pub placed_done :
    (page : ℕ → List ℕ) (rows : ℕ) (placed : PlacedLists) (reader : PlaceReader) (done : List (List ℕ)) → rows < 2 ^ 32 → placed.places.width ≡ 8
    → placed.lists.width ≡ 4 → ReadsPlaced placed reader → StoresLists page done placed → AreRowLists rows done → PlacedHas page page rows reader done
placed_done page rows placed reader done few places_width lists_width reads stores ordered =
    let all = sure_on page page rows placed.lists reader.lists refl reads.lists (sure_stored page rows placed done few stores ordered) in
    record {
      has = reader_has_done page rows placed reader done few places_width lists_width reads stores ordered;
      above = all.above;
      within = all.within;
    }
