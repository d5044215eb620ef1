-- The list that a place gives, by right pages.
use Rattle.std.proofs.Common.{◌≡◌, ◌∙◌, ℕ, ◌+◌, ◌^◌, ◌<◌, ◌++◌, List, [], ◌∷◌, length, get_or, ap, sym, refl, subst, arith}
use Rattle.std.specs.Prelude.{Option, Some, None, Result, Ok, Err, IfOk, IfSome, MatchOption, OnErr}
use Rattle.std.proofs.lemmas.Nat.{from_be_bytes-to_be_bytes_4}
use Rattle.ghost_model.specs.forms.Runs.{number_in, number_cell}
use Rattle.ghost_base.specs.declared.runs.Run.{Run}
use Rattle.ghost_base.specs.declared.runs.ListRef.{ListRef}
use Rattle.ghost_base.specs.Runs.{run_of}
use Rattle.flash_pages.specs.declared.fault.PageFault.{PageFault}
use Rattle.flash_pages.specs.declared.fault.PageFault.TheVariants.{Flash, Damaged}
use Rattle.flash_pages.proofs.ListFrames.{listed_by_width}
use Rattle.spill_pass.specs.declared.places.PlaceReader.{PlaceReader}
use Rattle.spill_pass.specs.Lists.{IsOrdered, id_of}
use Rattle.spill_pass.specs.Places.{GivesPlace, IsDamagedPlace, IsNextPlace, IsNextList, IsPlaceOf, HasPlace, HasPlaces, LiesInLists, ReaderHas, SamePlaces, place_at}
use Rattle.spill_pass.specs.Sources.{BlamesSource, GivesLists, GivesFirst}

first_number : (a n : ℕ) → a < 2 ^ 32 → number_in (number_cell a ++ number_cell n) 0 ≡ a
unfolding number_in
first_number a n fits = from_be_bytes-to_be_bytes_4 a fits

second_number : (a n : ℕ) → n < 2 ^ 32 → number_in (number_cell a ++ number_cell n) 4 ≡ n
unfolding number_in
second_number a n fits = from_be_bytes-to_be_bytes_4 n fits

abbrev listed : Run → ℕ → ℕ → ListRef
listed run first count = record { run = run; first = first; count = count }

-- the list is that of the first place
list_is :
    (page right : ℕ → List ℕ) (rows : ℕ) (before now : PlaceReader) (list : ListRef) (first : List ℕ) → before.lists.count < 2 ^ 32
    → IsPlaceOf (place_at page before) list → IsNextList before now list
    → HasPlace page right rows before.places before.lists before.at before.next first
    → listed before.lists before.next (length first) ≡ list
list_is page right rows before now list first small place next has =
    let count : list.count ≡ length first = place.count ∙ ap (λ c. number_in c 4) has.place ∙ second_number before.next (length first) (omega (arith, has.inside, small)) in
    ap (λ r. listed r before.next (length first)) (sym next.run)
    ∙ ap (λ f. listed list.run f (length first)) (sym next.first)
    ∙ ap (λ n. listed list.run list.first n) (sym count)

same_has :
    (page now right : ℕ → List ℕ) (rows : ℕ) (before new : PlaceReader) (rest : List (List ℕ)) → SamePlaces before new
    → (at next : ℕ) → new.at ≡ at → new.next ≡ next → now ≡ page
    → HasPlaces page right rows before.places before.lists at next rest → HasPlaces now right rows new.places new.lists new.at new.next rest
same_has page now right rows before new rest same at next at_is next_is pages has =
    let A : (ℕ → List ℕ) → Type 0 = λ p. HasPlaces p right rows new.places new.lists new.at new.next rest in
    let B : Run → Type 0 = λ r. HasPlaces page right rows r new.lists new.at new.next rest in
    let C : Run → Type 0 = λ r. HasPlaces page right rows before.places r new.at new.next rest in
    let D : ℕ → Type 0 = λ n. HasPlaces page right rows before.places before.lists n new.next rest in
    let E : ℕ → Type 0 = λ n. HasPlaces page right rows before.places before.lists at n rest in
    subst A (sym pages) (subst B (sym same.places) (subst C (sym same.lists) (subst D (sym at_is) (subst E (sym next_is) has))))

gives_first :
    (page now right : ℕ → List ℕ) (rows : ℕ) (before new : PlaceReader) (list : ListRef) (lists : List (List ℕ)) → now ≡ page
    → before.lists.count < 2 ^ 32 → IsPlaceOf (place_at page before) list → IsNextList before new list → SamePlaces before new
    → ReaderHas page right rows before lists → GivesFirst (ReaderHas now right rows new) now right rows lists list
gives_first page now right rows before new list [] pages small place next same has = absurd (omega (arith, next.more, has.has))
gives_first page now right rows before new list (first ∷ rest) pages small place next same has =
    let is = list_is page right rows before new list first small place next has.has.0 in
    let count = ap (λ (l : ListRef). l.count) is in
    let P : ListRef → Type 0 = IsOrdered page right rows in
    let Q : (ℕ → List ℕ) → Type 0 = λ p. IsOrdered p right rows list in
    let R : ListRef → Type 0 = λ l. (i : ℕ) → i < l.count → id_of right l i ≡ get_or first i 0 in
    record {
      first = first;
      rest = rest;
      is = refl;
      ordered = subst Q (sym pages) (subst P is has.has.0.ordered);
      count = sym count;
      ids = subst R is (λ i within. listed_by_width right (run_of before.lists) before.next i (omega (arith, has.lists_width)) ∙ has.has.0.ids i within);
      has_rest = record {
        places_width = ap (λ (r : Run). r.width) same.places ∙ has.places_width;
        lists_width = ap (λ (r : Run). r.width) same.lists ∙ has.lists_width;
        has =
            same_has page now right rows before new rest same (before.at + 1) (before.next + length first) next.at
            (next.next ∙ ap (λ n. before.next + n) (sym count)) pages has.has.1;
      };
    }

none_left : (page right : ℕ → List ℕ) (rows : ℕ) (before : PlaceReader) (lists : List (List ℕ)) → before.at ≡ before.places.count → ReaderHas page right rows before lists → lists ≡ []
none_left page right rows before [] end has = refl
none_left page right rows before (first ∷ rest) end has = absurd (omega (arith, has.has.0.within, end))

ended : (page now right : ℕ → List ℕ) (rows : ℕ) (before new : PlaceReader) (lists : List (List ℕ)) → new ≡ before → before.at ≡ before.places.count → ReaderHas page right rows before lists → ReaderHas now right rows new []
ended page now right rows before new lists same end has =
    let P : PlaceReader → Type 0 = λ r. ReaderHas now right rows r [] in
    subst P (sym same) (record { places_width = has.places_width; lists_width = has.lists_width; has = end })

-- after a fault nothing changed
unchanged :
    (page now right : ℕ → List ℕ) (rows : ℕ) (before new : PlaceReader) (lists : List (List ℕ)) → now ≡ page → new ≡ before
    → ReaderHas page right rows before lists → ReaderHas now right rows new lists
unchanged page now right rows before new lists pages same has =
    let P : (ℕ → List ℕ) → Type 0 = λ p. ReaderHas p right rows new lists in
    let Q : PlaceReader → Type 0 = λ r. ReaderHas page right rows r lists in
    subst P (sym pages) (subst Q (sym same) has)

pub gives_list :
    (page now right : ℕ → List ℕ) (rows : ℕ) (before new : PlaceReader) (lists : List (List ℕ)) (result : Result (Option ListRef) PageFault)
    → now ≡ page → GivesPlace page before result
    → IfOk result (λ list. MatchOption list ((before.at ≡ before.places.count) × (new ≡ before)) (IsNextList before new))
    → OnErr result (new ≡ before) → SamePlaces before new → before.lists.count < 2 ^ 32 → ReaderHas page right rows before lists
    → GivesLists (ReaderHas now right rows new) now right rows lists result
gives_list page now right rows before new lists (Ok None) pages gives step fault same small has =
    (none_left page right rows before lists step.0 has, ended page now right rows before new lists step.1 step.0 has)
gives_list page now right rows before new lists (Ok (Some list)) pages gives step fault same small has =
    gives_first page now right rows before new list lists pages small gives step same has
gives_list page now right rows before new lists (Err e) pages gives step fault same small has =
    unchanged page now right rows before new lists pages fault has

-- it lies in the run of the lists
pub gives_inside :
    (page : ℕ → List ℕ) (before new : PlaceReader) (result : Result (Option ListRef) PageFault)
    → IfOk result (λ list. MatchOption list ((before.at ≡ before.places.count) × (new ≡ before)) (IsNextList before new))
    → IfOk result (λ list. IfSome list (LiesInLists page before))
gives_inside page before new (Ok None) step = tt
gives_inside page before new (Ok (Some list)) step = record { run_is = step.run; within = omega (arith, step.first, step.within) }
gives_inside page before new (Err fault) step = tt

-- where the reader has its places, none of them is damaged
right_place :
    (page right : ℕ → List ℕ) (rows : ℕ) (before : PlaceReader) (first : List ℕ) → before.lists.count < 2 ^ 32
    → HasPlace page right rows before.places before.lists before.at before.next first → IsNextPlace before (place_at page before)
right_place page right rows before first small has =
    let P : List ℕ → Type 0 = IsNextPlace before in
    subst P (sym has.place)
    (record {
      first = first_number before.next (length first) (omega (arith, has.inside, small));
      count = omega (arith, second_number before.next (length first) (omega (arith, has.inside, small)), has.inside);
    })

none_damaged :
    (page right : ℕ → List ℕ) (rows : ℕ) (before : PlaceReader) (lists : List (List ℕ)) → before.lists.count < 2 ^ 32 → IsDamagedPlace page before
    → ReaderHas page right rows before lists → ⊥
none_damaged page right rows before [] small damaged has = absurd (omega (arith, damaged.more, has.has))
none_damaged page right rows before (first ∷ rest) small damaged has = damaged.not_next (right_place page right rows before first small has.has.0)

pub gives_sound :
    (page right : ℕ → List ℕ) (rows : ℕ) (before : PlaceReader) (lists : List (List ℕ)) (damages : ℕ → ℕ → ℕ → Type 0) (result : Result (Option ListRef) PageFault)
    → GivesPlace page before result → before.lists.count < 2 ^ 32 → ReaderHas page right rows before lists → BlamesSource damages result
gives_sound page right rows before lists damages (Ok answer) gives small has = tt
gives_sound page right rows before lists damages (Err Flash) gives small has = tt
gives_sound page right rows before lists damages (Err (Damaged number slot found)) gives small has =
    absurd (none_damaged page right rows before lists small gives has)
