-- Reading the list of an entry: by pages that have all its codes, and by others that have them but for those out of range by themselves.
use Rattle.std.proofs.Common.{◌≡◌, refl, ap, sym, subst, ◌∙◌, ℕ, zero, suc, ◌+◌, ◌-◌, ◌<◌, ◌≤◌, true, false, inl, inr, List, [], length, take, get_or, Option, Some, None, option_map, arith}
use Rattle.std.specs.Prelude.{◌⊎◌}
use Rattle.std.specs.List.{concat}
use Rattle.std.proofs.lemmas.Bool.{cases_lt, le-leb}
use Rattle.ghost_model.specs.core.Channel.{Catalog}
use Rattle.ghost_model.specs.forms.Layout.{count_of}
use Rattle.ghost_model.specs.forms.Runs.{Run}
use Rattle.ghost_model.specs.forms.Gaps.{Reading, after_code, are_codes, code_at, code_in, code_place, gaps_of, last_of, list_begin, listed, listed_from, read_on, reading_at, reading_of, rest_at, ReadsCode}
use Rattle.ghost_model.specs.forms.Slots.{code_stands, is_row}
use Rattle.ghost_model.specs.laws.GapLaws.{AreLevelLists, ListsBeginAtCodes, LevelListsHaveCodes}
use Rattle.ghost_base.specs.declared.runs.ListRef.{ListRef}
use Rattle.ghost_base.specs.Runs.{run_of}
use Rattle.climbing_index.specs.Laws.{GetsTo, HasList, HasListBut, ReadsAlike}
use Rattle.climbing_index.proofs.ListPlaces.{ends}
use Rattle.climbing_index.proofs.Codes.{gaps_count, next_id, previous_id}
use Rattle.climbing_index.proofs.Readings.{IsPast, code_inside, listed_are, listed_is, no_row, of_codes, past_later, past_one, past_wrong, reading_begins, reading_next}

-- where an entry says that its list stands
pub record IsPlaced (begin size : ℕ) (lists : List (List ℕ)) (entry : ℕ) : Type 0 where
  pub first : begin ≡ list_begin lists entry
  pub count : size ≡ length (get_or lists entry [])

-- all codes of a level file are read from pages; or all but those that are out of range by themselves
abbrev pub HasCodes : (ℕ → List ℕ) → Run → (gaps : List ℕ) → Type 0
HasCodes page run gaps = (k : ℕ) → k < length gaps → ReadsCode page run gaps k

abbrev pub HasCodesBut : (ℕ → List ℕ) → Run → (rows : ℕ) → (gaps : List ℕ) → Type 0
HasCodesBut page run rows gaps =
    (k : ℕ) → k < length gaps → ReadsCode page run gaps k ⊎ (code_stands rows (code_in (rest_at page run.first (code_place gaps k))) ≡ false)

module _ (have_codes : LevelListsHaveCodes) (begin_at : ListsBeginAtCodes) (rows : ℕ) (lists : List (List ℕ)) (are : AreLevelLists rows lists)
    (entry : ℕ) (there : entry < length lists) (run : Run) (begin : ℕ) (begin_is : begin ≡ list_begin lists entry) where
  abbrev ids : List ℕ
  ids = get_or lists entry []

  abbrev gaps : List ℕ
  gaps = gaps_of lists

  abbrev pub code_number : (i : ℕ) → ℕ
  code_number i = length (concat (take entry lists)) + i

  -- before each identifier reading stands at its code
  abbrev pub stands_at : (i : ℕ) → Reading
  stands_at i = record { place = code_place (gaps_of lists) (code_number i); last = previous_id 0 (get_or lists entry []) i }

  pub is_code : (i : ℕ) → i < length (get_or lists entry []) → code_number i < length (gaps_of lists)
  is_code i low = let end = ends lists entry in let count = gaps_count lists in omega (arith, end, count, low)

  on : (page : ℕ → List ℕ) (i : ℕ) → i < length ids → ReadsCode page run gaps (code_number i)
      → read_on page run.first run.count (stands_at i) ≡ Some (stands_at (suc i))
  on page i low reads =
      let e : code_number i + 1 ≡ code_number (suc i) = omega arith in
      let place = reads.next ∙ ap (code_place gaps) e in
      let last : previous_id 0 ids i + get_or gaps (code_number i) 0 ≡ get_or ids i 0 = next_id rows lists are entry i there low in
      ap (option_map (after_code page run.first run.count (stands_at i))) reads.code
      ∙ (λ j. Some (record { place = place j; last = last j }))

  first_stands : (page : ℕ → List ℕ) → 0 < length ids → reading_at page run.first run.count begin 0 ≡ Some (stands_at 0)
  first_stands page some =
      let e : length (concat (take entry lists)) ≡ code_number 0 = omega arith in
      let place : begin ≡ code_place gaps (code_number 0) = begin_is ∙ (begin_at lists entry (have_codes rows lists are) there some ∙ ap (code_place gaps) e) in
      reading_begins page run.first run.count begin ∙ ap (λ n. Some (record { place = n; last = 0 })) place

  pub gets : (page : ℕ → List ℕ) → HasCodes page run (gaps_of lists) → 0 < length (get_or lists entry [])
      → (i : ℕ) → i ≤ length (get_or lists entry []) → reading_at page run.first run.count begin i ≡ Some (stands_at i)
  gets page has some zero within = first_stands page some
  gets page has some (suc i) within =
      reading_next page run.first run.count begin i (Some (stands_at i)) (gets page has some i (omega (arith, within)))
      ∙ on page i (omega (arith, within)) (has (code_number i) (is_code i (omega (arith, within))))

  -- by others reading stands there too, or has passed the rows
  pub gets_but : (page : ℕ → List ℕ) → HasCodesBut page run rows (gaps_of lists) → 0 < length (get_or lists entry [])
      → (i : ℕ) → i ≤ length (get_or lists entry [])
      → (reading_at page run.first run.count begin i ≡ Some (stands_at i)) ⊎ IsPast rows (reading_at page run.first run.count begin i)
  gets_but page has some zero within = inl (first_stands page some)
  gets_but page has some (suc i) within =
      let low : i < length ids = omega (arith, within) in
      elim (gets_but page has some i (omega (arith, within))) [
        | inl at ↦ (let next = reading_next page run.first run.count begin i (Some (stands_at i)) at in
            elim (has (code_number i) (is_code i low)) [
              | inl reads ↦ inl (next ∙ on page i low reads)
              | inr wrong ↦ inr (subst (IsPast rows) (sym next) (past_wrong page run.first run.count rows (code_place gaps (code_number i)) (previous_id 0 ids i) wrong))
            ])
        | inr past ↦ inr (past_one page run.first run.count rows begin i past)
      ]

-- so it is of a list in a run of codes
module _ (have_codes : LevelListsHaveCodes) (begin_at : ListsBeginAtCodes) (cat : Catalog) (from : ℕ) (lists : List (List ℕ))
    (are : AreLevelLists (count_of cat from) lists) (entry : ℕ) (there : entry < length lists) (list : ListRef) (codes : are_codes (run_of list.run) ≡ true)
    (placed : IsPlaced list.first list.count lists entry) where
  abbrev own : List ℕ
  own = get_or lists entry []

  abbrev stands : (i : ℕ) → Reading
  stands i = stands_at have_codes begin_at (count_of cat from) lists are entry there (run_of list.run) list.first placed.first i

  some_there : (i : ℕ) → i < list.count → 0 < length own
  some_there i low = let count = placed.count in omega (arith, count, low)

  right_gets : (page : ℕ → List ℕ) → HasCodes page (run_of list.run) (gaps_of lists) → 0 < length own → (i : ℕ) → i ≤ length own
      → reading_at page (run_of list.run).first (run_of list.run).count list.first i ≡ Some (stands i)
  right_gets page has some i within =
      gets have_codes begin_at (count_of cat from) lists are entry there (run_of list.run) list.first placed.first page has some i within

  but_gets : (page : ℕ → List ℕ) → HasCodesBut page (run_of list.run) (count_of cat from) (gaps_of lists) → 0 < length own → (i : ℕ) → i ≤ length own
      → (reading_at page (run_of list.run).first (run_of list.run).count list.first i ≡ Some (stands i))
      ⊎ IsPast (count_of cat from) (reading_at page (run_of list.run).first (run_of list.run).count list.first i)
  but_gets page has some i within =
      gets_but have_codes begin_at (count_of cat from) lists are entry there (run_of list.run) list.first placed.first page has some i within

  pub whole_list : (page : ℕ → List ℕ) → HasCodes page (run_of list.run) (gaps_of lists) → HasList page list (get_or lists entry [])
  whole_list page has = record {
    count = placed.count;
    ids =
        ap (listed_from page (run_of list.run) list.first 0) placed.count
        ∙ listed_are page (run_of list.run) list.first 0 own
        (λ i low.
        let e : 0 + i ≡ i = omega arith in
        ap (listed page (run_of list.run) list.first) e
        ∙ (listed_is page (run_of list.run) codes list.first i ∙ ap last_of (right_gets page has (omega (arith, low)) (suc i) (omega (arith, low)))));
  }

  pub list_but : (page : ℕ → List ℕ) → HasCodesBut page (run_of list.run) (count_of cat from) (gaps_of lists)
      → HasListBut page cat from list (get_or lists entry [])
  list_but page has = record {
    count = placed.count;
    each = λ place within row.
        let count = placed.count in
        let is = listed_is page (run_of list.run) codes list.first place in
        elim (but_gets page has (some_there place within) (suc place) (omega (arith, count, within))) [
          | inl at ↦ is ∙ ap last_of at
          | inr past ↦ (let clash = sym row ∙ (ap (is_row cat from) is ∙ no_row cat from _ past) in absurd (cc (clash)))
        ];
  }

  module _ (page right : ℕ → List ℕ) (has : HasCodes right (run_of list.run) (gaps_of lists))
      (but : HasCodesBut page (run_of list.run) (count_of cat from) (gaps_of lists)) where
    gets_to : (i : ℕ) → i ≤ list.count → GetsTo right list i
    gets_to i within =
        let count = placed.count in
        elim (cases_lt 0 (length own)) [
          | inl some ↦ record {
            place = (stands i).place;
            last = (stands i).last;
            gets = of_codes right (run_of list.run) codes list.first i ∙ right_gets right has some i (omega (arith, count, within));
            inside = λ low.
                let k = code_number have_codes begin_at (count_of cat from) lists are entry there (run_of list.run) list.first placed.first i in
                let code = is_code have_codes begin_at (count_of cat from) lists are entry there (run_of list.run) list.first placed.first i (omega (arith, count, low)) in
                let end = (code_inside right (run_of list.run).first (run_of list.run).count (code_place (gaps_of lists) k) _ (has k code).code).1 in
                omega (arith, end);
          }
          | inr none ↦ (let e : i ≡ 0 = omega (arith, none, count, within) in
              record {
                place = list.first;
                last = 0;
                gets = ap (reading_of right (run_of list.run) list.first) e;
                inside = λ low. absurd (omega (arith, none, count, low));
              })
        ]

    alike : (i : ℕ) → i ≤ list.count
        → (reading_of page (run_of list.run) list.first i ≡ reading_of right (run_of list.run) list.first i)
        ⊎ ((later : ℕ) → i ≤ later + 1 → is_row cat from (listed page (run_of list.run) list.first later) ≡ false)
    alike zero within = inl refl
    alike (suc i) within =
        let count = placed.count in
        let some = some_there i (omega (arith, within)) in
        let low : suc i ≤ length own = omega (arith, count, within) in
        elim (but_gets page but some (suc i) low) [
          | inl at ↦ inl (of_codes page (run_of list.run) codes list.first (suc i)
              ∙ (at ∙ sym (of_codes right (run_of list.run) codes list.first (suc i) ∙ right_gets right has some (suc i) low)))
          | inr past ↦ inr (λ later more.
              let e : suc i + (later - i) ≡ suc later = omega (arith, more) in
              let far = past_later page (run_of list.run).first (run_of list.run).count (count_of cat from) list.first (suc i) (later - i) past in
              let there = subst (λ n. IsPast (count_of cat from) (reading_at page (run_of list.run).first (run_of list.run).count list.first n)) e far in
              ap (is_row cat from) (listed_is page (run_of list.run) codes list.first later) ∙ no_row cat from _ there)
        ]

    pub reads_alike : ReadsAlike page right cat from list (get_or lists entry [])
    reads_alike = record { gets = gets_to; alike = alike; whole = whole_list right has; but = list_but page but }

-- and nothing that reading gets to by right pages passes the rows
pub none_broken : (have_codes : LevelListsHaveCodes) (begin_at : ListsBeginAtCodes) (rows : ℕ) (lists : List (List ℕ)) (are : AreLevelLists rows lists)
    (entry : ℕ) (there : entry < length lists) (page : ℕ → List ℕ) (run : Run) (begin count : ℕ) → IsPlaced begin count lists entry → HasCodes page run (gaps_of lists)
    → (i place last : ℕ) → i < count → reading_at page run.first run.count begin i ≡ Some (record { place = place; last = last })
    → code_stands rows (option_map (λ code. (last + code.0, code.1)) (code_at page run.first run.count place)) ≡ true
none_broken have_codes begin_at rows lists are entry there page run begin count placed has i place last low at =
    let size = placed.count in
    let inside : i < length (get_or lists entry []) = omega (arith, size, low) in
    let k = length (concat (take entry lists)) + i in
    let stands : reading_at page run.first run.count begin i ≡ Some (record { place = code_place (gaps_of lists) k; last = previous_id 0 (get_or lists entry []) i }) =
    gets have_codes begin_at rows lists are entry there run begin placed.first page has (omega (arith, inside)) i (omega (arith, inside)) in
    let same = sym at ∙ stands in
    let place_is : place ≡ code_place (gaps_of lists) k = ap place_or_none same in
    let last_is : last ≡ previous_id 0 (get_or lists entry []) i = ap last_of same in
    let code = (has k (is_code have_codes begin_at rows lists are entry there run begin placed.first i inside)).code in
    let sum : last + get_or (gaps_of lists) k 0 ≡ get_or (get_or lists entry []) i 0 =
    ap (λ n. n + get_or (gaps_of lists) k 0) last_is ∙ next_id rows lists are entry i there inside in
    let most = (are.each entry there).within i inside in
    ap (λ n. code_stands rows (option_map (λ code. (last + code.0, code.1)) (code_at page run.first run.count n))) place_is
    ∙ (ap (λ o. code_stands rows (option_map (λ code. (last + code.0, code.1)) o)) code
    ∙ le-leb (last + get_or (gaps_of lists) k 0) rows (omega (arith, sum, most)))
  where
    place_or_none : Option Reading → ℕ
    place_or_none None = 0
    place_or_none (Some reading) = reading.place
