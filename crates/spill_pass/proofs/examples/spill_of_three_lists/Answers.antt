use Rattle.std.proofs.Common.{◌≡◌, ◌/◌, refl, sym, subst, ap, ℕ, zero, suc, ◌+◌, ◌-◌, ◌*◌, ◌<◌, ◌≤◌, List, [], ◌∷◌, length, drop, map, replicate, get_or, slice_index, arith}
use Rattle.std.specs.List.{concat}
use Rattle.ghost_model.specs.forms.Runs.{Run, Stores, number_cell, record_at, records_in}
use Rattle.ghost_base.specs.Runs.{run_of}
use Rattle.spill_pass.specs.Grouping.{AreRowLists, IsRowList, places_of}
use Rattle.spill_pass.specs.Merging.{AreAscending, IsOneOf}
use Rattle.spill_pass.specs.PassContents.{InLists}
use Rattle.spill_pass.specs.Examples.{three_lists, two_lists, one_list, placed, united, spilled_page}
use Rattle.spill_pass.proofs.examples.spill_of_three_lists.Goals as goal

once : (P : ℕ → Type 0) → P 0 → (i : ℕ) → i < 1 → P i
once P a zero low = a
once P a (suc i) low = absurd (omega (arith, low))

twice : (P : ℕ → Type 0) → P 0 → P 1 → (i : ℕ) → i < 2 → P i
twice P a b zero low = a
twice P a b (suc zero) low = b
twice P a b (suc (suc i)) low = absurd (omega (arith, low))

thrice : (P : ℕ → Type 0) → P 0 → P 1 → P 2 → (i : ℕ) → i < 3 → P i
thrice P a b c zero low = a
thrice P a b c (suc zero) low = b
thrice P a b c (suc (suc zero)) low = c
thrice P a b c (suc (suc (suc i))) low = absurd (omega (arith, low))

four_times : (P : ℕ → Type 0) → P 0 → P 1 → P 2 → P 3 → (i : ℕ) → i < 4 → P i
four_times P a b c d zero low = a
four_times P a b c d (suc zero) low = b
four_times P a b c d (suc (suc zero)) low = c
four_times P a b c d (suc (suc (suc zero))) low = d
four_times P a b c d (suc (suc (suc (suc i)))) low = absurd (omega (arith, low))

never : (P : ℕ → Type 0) → (i : ℕ) → i < 0 → P i
never P i low = absurd (omega (arith, low))

-- a run of one page has records and nothing else
stores : (r : Run) → (records : List (List ℕ)) → r.count ≡ length records
    → ((i : ℕ) → i < r.count → record_at spilled_page r i ≡ get_or records i [])
    → ((i : ℕ) → i < (r.count + (2048 / r.width - 1)) / (2048 / r.width) → drop (records_in r i * r.width) (spilled_page (r.first + i)) ≡ replicate (2048 - records_in r i * r.width) 0xff)
    → Stores spilled_page r records
stores r records count each rest = record { has = record { count = count; each = each }; rest = rest }

lists_stored : Stores spilled_page (run_of placed.lists) (map number_cell (concat two_lists))
unfolding record_at
lists_stored = stores (run_of placed.lists) (map number_cell (concat two_lists)) refl
    (four_times (λ i. record_at spilled_page (run_of placed.lists) i ≡ get_or (map number_cell (concat two_lists)) i []) refl refl refl refl)
    (once (λ i. drop (records_in (run_of placed.lists) i * 4) (spilled_page (512 + i)) ≡ replicate (2048 - records_in (run_of placed.lists) i * 4) 0xff) refl)

places_stored : Stores spilled_page (run_of placed.places) (places_of 0 two_lists)
unfolding record_at
places_stored = stores (run_of placed.places) (places_of 0 two_lists) refl
    (twice (λ i. record_at spilled_page (run_of placed.places) i ≡ get_or (places_of 0 two_lists) i []) refl refl)
    (once (λ i. drop (records_in (run_of placed.places) i * 8) (spilled_page (576 + i)) ≡ replicate (2048 - records_in (run_of placed.places) i * 8) 0xff) refl)

one_stored : Stores spilled_page (run_of united) (map number_cell one_list)
unfolding record_at
one_stored = stores (run_of united) (map number_cell one_list) refl
    (four_times (λ i. record_at spilled_page (run_of united) i ≡ get_or (map number_cell one_list) i []) refl refl refl refl)
    (once (λ i. drop (records_in (run_of united) i * 4) (spilled_page (640 + i)) ≡ replicate (2048 - records_in (run_of united) i * 4) 0xff) refl)

one_ascends : AreAscending one_list
one_ascends i j before within =
    four_times (λ j. (i : ℕ) → i < j → get_or one_list i 0 < get_or one_list j 0)
    (never (λ i. get_or one_list i 0 < 1))
    (once (λ i. get_or one_list i 0 < 2) (omega arith))
    (twice (λ i. get_or one_list i 0 < 3) (omega arith) (omega arith))
    (thrice (λ i. get_or one_list i 0 < 5) (omega arith) (omega arith) (omega arith))
    j within i before

first_is_of_rows : IsRowList 5 (2 ∷ 3 ∷ 5 ∷ [])
first_is_of_rows = record {
  ascending = λ i j before within. thrice (λ j. (i : ℕ) → i < j → get_or (2 ∷ 3 ∷ 5 ∷ []) i 0 < get_or (2 ∷ 3 ∷ 5 ∷ []) j 0)
      (never (λ i. get_or (2 ∷ 3 ∷ 5 ∷ []) i 0 < 2))
      (once (λ i. get_or (2 ∷ 3 ∷ 5 ∷ []) i 0 < 3) (omega arith))
      (twice (λ i. get_or (2 ∷ 3 ∷ 5 ∷ []) i 0 < 5) (omega arith) (omega arith))
      j within i before;
  above = thrice (λ i. 0 < get_or (2 ∷ 3 ∷ 5 ∷ []) i 0) (omega arith) (omega arith) (omega arith);
  within = thrice (λ i. get_or (2 ∷ 3 ∷ 5 ∷ []) i 0 ≤ 5) (omega arith) (omega arith) (omega arith);
}

second_is_of_rows : IsRowList 5 (1 ∷ [])
second_is_of_rows = record {
  ascending = λ i j before within. once (λ j. (i : ℕ) → i < j → get_or (1 ∷ []) i 0 < get_or (1 ∷ []) j 0) (never (λ i. get_or (1 ∷ []) i 0 < 1)) j within i before;
  above = once (λ i. 0 < get_or (1 ∷ []) i 0) (omega arith);
  within = once (λ i. get_or (1 ∷ []) i 0 ≤ 5) (omega arith);
}

two_are_of_rows : AreRowLists 5 two_lists
two_are_of_rows = twice (λ i. IsRowList 5 (get_or two_lists i [])) first_is_of_rows second_is_of_rows

one_of : (ids : List ℕ) → (at id : ℕ) → at < length ids → id ≡ get_or ids at 0 → IsOneOf ids id
one_of ids at id low is = record { at = at; within = low; is = is }

in_lists : (lists : List (List ℕ)) → (at place id : ℕ) → at < length lists → place < length (get_or lists at []) → id ≡ get_or (get_or lists at []) place 0
    → InLists lists id
in_lists lists at place id low inner is = record { at = at; within = low; is = one_of (get_or lists at []) place id inner is }

-- what holds of each identifier of lists, one after another
each_of_three : (P : ℕ → Type 0) → P 2 → P 5 → P 3 → P 1 → (id : ℕ) → InLists three_lists id → P id
each_of_three P two five three one id has =
    thrice (λ at. (place : ℕ) → place < length (get_or three_lists at []) → (id : ℕ) → id ≡ get_or (get_or three_lists at []) place 0 → P id)
    (twice (λ place. (id : ℕ) → id ≡ get_or (2 ∷ 5 ∷ []) place 0 → P id) (λ id is. subst P (sym is) two) (λ id is. subst P (sym is) five))
    (twice (λ place. (id : ℕ) → id ≡ get_or (3 ∷ 5 ∷ []) place 0 → P id) (λ id is. subst P (sym is) three) (λ id is. subst P (sym is) five))
    (once (λ place. (id : ℕ) → id ≡ get_or (1 ∷ []) place 0 → P id) (λ id is. subst P (sym is) one))
    has.at has.within has.is.at has.is.within id has.is.is

each_of_two : (P : ℕ → Type 0) → P 2 → P 3 → P 5 → P 1 → (id : ℕ) → InLists two_lists id → P id
each_of_two P two three five one id has =
    twice (λ at. (place : ℕ) → place < length (get_or two_lists at []) → (id : ℕ) → id ≡ get_or (get_or two_lists at []) place 0 → P id)
    (thrice (λ place. (id : ℕ) → id ≡ get_or (2 ∷ 3 ∷ 5 ∷ []) place 0 → P id) (λ id is. subst P (sym is) two) (λ id is. subst P (sym is) three) (λ id is. subst P (sym is) five))
    (once (λ place. (id : ℕ) → id ≡ get_or (1 ∷ []) place 0 → P id) (λ id is. subst P (sym is) one))
    has.at has.within has.is.at has.is.within id has.is.is

each_of_one : (P : ℕ → Type 0) → P 1 → P 2 → P 3 → P 5 → (id : ℕ) → IsOneOf one_list id → P id
each_of_one P one two three five id has =
    four_times (λ place. (id : ℕ) → id ≡ get_or one_list place 0 → P id)
    (λ id is. subst P (sym is) one) (λ id is. subst P (sym is) two) (λ id is. subst P (sym is) three) (λ id is. subst P (sym is) five)
    has.at has.within id has.is

two_have : (id : ℕ) → InLists three_lists id → InLists two_lists id
two_have = each_of_three (InLists two_lists)
    (in_lists two_lists 0 0 2 (omega arith) (omega arith) refl) (in_lists two_lists 0 2 5 (omega arith) (omega arith) refl)
    (in_lists two_lists 0 1 3 (omega arith) (omega arith) refl) (in_lists two_lists 1 0 1 (omega arith) (omega arith) refl)

three_have : (id : ℕ) → InLists two_lists id → InLists three_lists id
three_have = each_of_two (InLists three_lists)
    (in_lists three_lists 0 0 2 (omega arith) (omega arith) refl) (in_lists three_lists 1 0 3 (omega arith) (omega arith) refl)
    (in_lists three_lists 0 1 5 (omega arith) (omega arith) refl) (in_lists three_lists 2 0 1 (omega arith) (omega arith) refl)

one_has : (id : ℕ) → InLists three_lists id → IsOneOf one_list id
one_has = each_of_three (IsOneOf one_list)
    (one_of one_list 1 2 (omega arith) refl) (one_of one_list 3 5 (omega arith) refl) (one_of one_list 2 3 (omega arith) refl) (one_of one_list 0 1 (omega arith) refl)

three_have_one : (id : ℕ) → IsOneOf one_list id → InLists three_lists id
three_have_one = each_of_one (InLists three_lists)
    (in_lists three_lists 2 0 1 (omega arith) (omega arith) refl) (in_lists three_lists 0 0 2 (omega arith) (omega arith) refl)
    (in_lists three_lists 1 0 3 (omega arith) (omega arith) refl) (in_lists three_lists 0 1 5 (omega arith) (omega arith) refl)

pub returns : goal.returns
returns c = record {
  places = refl;
  first_pass = record {
    done = two_lists;
    stores = record { ids = lists_stored; places = places_stored };
    ordered = two_are_of_rows;
    all = λ id. (two_have id, three_have id);
  };
  last_pass = record { ids = one_list; stores = one_stored; ascending = one_ascends; all = λ id. (one_has id, three_have_one id) };
  a_place_is_left_out = λ h. let clash : 0 ≡ 255 = ap (λ bytes. slice_index bytes 0) (h.stores.places.rest 0 (omega arith)) in absurd (omega (arith, clash));
  an_identifier_is_left_out = λ h. let clash : 0 ≡ 255 = ap (λ bytes. slice_index bytes 0) (h.stores.rest 0 (omega arith)) in absurd (omega (arith, clash));
}
