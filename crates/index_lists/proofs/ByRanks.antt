-- The laws of lists by ranks.
use Rattle.std.proofs.Common.{◌≡◌, refl, sym, ap, ◌∙◌, ℕ, zero, suc, ◌+◌, ◌-◌, ◌<◌, ◌≤◌, Bool, true, false, cond, inl, inr, List, [], ◌∷◌, ◌++◌, length, map, filter, take, drop, get_or, bytes_eq, Some, slice_get, arith}
use Rattle.std.specs.Prelude.{◌==◌}
use Rattle.std.specs.List.{All, AllByRecursion, concat}
use Rattle.std.specs.Option.{option_map_or}
use Rattle.std.proofs.lemmas.Bool.{cases_lt, cases_eq}
use Rattle.std.proofs.lemmas.Bool.Decides.{nat_tests}
use Rattle.std.proofs.lemmas.List.{length-append, length-map, get_or-map, take_more, drop-drop, drop_at, take_at}
use Rattle.std.proofs.lemmas.List.Elements.{All-get_or, All-tail}
use Rattle.ghost_model.specs.forms.Flash.{ids, hidden_cells, leads_to, cell_led_to, value_lists, id_lists, AreValues}
use Rattle.std.specs.List.Sorted.{IsStrictlySortedBy}
use Rattle.std.specs.Cmp.Lexicographic.{slice_cmp}
use Rattle.std.specs.Ordering.{nat_cmp, is_eq, ordering_reverse}
use Rattle.std.specs.declared.cmp.Ordering.TheVariants as order
use Rattle.std.proofs.lemmas.Cmp.{nat_list_cmp_total}
use Rattle.std.proofs.lemmas.Slice.Eq.{bytes_eq-Decides}
use Rattle.std.proofs.lemmas.Map.Text.{is_eq-slice_cmp}
use Rattle.std.proofs.lemmas.Map.Keys.{Less-from_sorted}
use Rattle.std.proofs.lemmas.Option.{slice_get-get_or, get_or_from_slice_get, slice_get_cases}
use Rattle.std.proofs.lemmas.List.FromFn.{fill_by_all, get_or-map-range_with_len, length-map-range_with_len}
use Rattle.ghost_model.specs.core.Schema.{is_table}
use Rattle.ghost_model.specs.core.Channel.{Catalog}
use Rattle.ghost_model.specs.core.Split.{Hidden}
use Rattle.ghost_model.specs.forms.Layout.{count_of}
use Rattle.index_lists.specs.Ranks.{AreRanks, of_referred}
use Rattle.index_lists.specs.Lists.{rank_of, rows_of_rank, lists_of, start_of}
use Rattle.index_lists.specs.Laws.{LeadAs, StandsBetween}
use Rattle.index_lists.proofs.SortedRows.{all_of_range}

-- a list more
concat_push : (lists : List (List ℕ)) (list : List ℕ) → length (concat (lists ++ list ∷ [])) ≡ length (concat lists) + length list
concat_push [] list = omega (arith, length-append list [])
concat_push (one ∷ lists) list =
    omega (arith, length-append one (concat (lists ++ list ∷ [])), concat_push lists list, length-append one (concat lists))

pub start_after : (lists : List (List ℕ)) (entry : ℕ) → entry < length lists → start_of lists (entry + 1) ≡ start_of lists entry + length (get_or lists entry [])
start_after lists entry low = ap (λ ls. length (concat ls)) (take_more lists entry [] low) ∙ concat_push (take entry lists) (get_or lists entry [])

-- all lists: those before an entry, its own, and those behind
concat_drop : (lists : List (List ℕ)) (k : ℕ) → drop (start_of lists k) (concat lists) ≡ concat (drop k lists)
concat_drop lists zero = refl
concat_drop [] (suc k) = refl
concat_drop (one ∷ lists) (suc k) =
    let size : start_of (one ∷ lists) (suc k) ≡ length one + start_of lists k = omega (arith, length-append one (concat (take k lists))) in
    ap (λ n. drop n (one ++ concat lists)) size
    ∙ sym (drop-drop (start_of lists k) (length one) (one ++ concat lists))
    ∙ ap (λ ids. drop (start_of lists k) ids) (drop_at one (concat lists) (length one) refl)
    ∙ concat_drop lists k

first_of : (lists : List (List ℕ)) (k : ℕ) → k < length lists → take (length (get_or lists k [])) (concat (drop k lists)) ≡ get_or lists k []
first_of [] k low = absurd (omega (arith, low))
first_of (one ∷ lists) zero low = take_at one (concat lists) (length one) refl
first_of (one ∷ lists) (suc k) low = first_of lists k (omega (arith, low))

start_within : (lists : List (List ℕ)) (k : ℕ) → start_of lists k ≤ length (concat lists)
start_within lists zero = omega arith
start_within [] (suc k) = omega arith
start_within (one ∷ lists) (suc k) =
    omega (arith, length-append one (concat (take k lists)), length-append one (concat lists), start_within lists k)

pub stand_between : (lists : List (List ℕ)) (entry : ℕ) → entry < length lists → StandsBetween lists entry
stand_between lists entry low =
    let size : start_of lists (entry + 1) - start_of lists entry ≡ length (get_or lists entry []) = omega (arith, start_after lists entry low) in
    record {
      rises = start_after lists entry low;
      within = start_within lists (entry + 1);
      between =
          ap (λ n. take n (drop (start_of lists entry) (concat lists))) size
          ∙ ap (λ ids. take (length (get_or lists entry [])) ids) (concat_drop lists entry)
          ∙ first_of lists entry low;
    }

pub levels_compose : (held reached identifiers : List ℕ) → All (λ identifier. 0 < identifier) identifiers → All (λ identifier. identifier ≤ length reached) identifiers
    → of_referred (of_referred held reached) identifiers ≡ of_referred held (of_referred reached identifiers)
levels_compose held reached [] some within = refl
levels_compose held reached (identifier ∷ identifiers) some within =
    let first = All-get_or (λ k. 0 < k) (identifier ∷ identifiers) 0 0 (omega arith) some in
    let most = All-get_or (λ k. k ≤ length reached) (identifier ∷ identifiers) 0 0 (omega arith) within in
    let here = get_or-map (λ k. get_or held (k - 1) 0) reached (identifier - 1) 0 0 (omega (arith, first, most)) in
    let later = levels_compose held reached identifiers (All-tail (λ k. 0 < k) identifier identifiers some) (All-tail (λ k. k ≤ length reached) identifier identifiers within) in
    λ i. here i ∷ later i

same_filter : (p q : ℕ → Bool) (xs : List ℕ) → AllByRecursion (λ x. p x ≡ q x) xs → filter p xs ≡ filter q xs
same_filter p q [] h = refl
same_filter p q (x ∷ xs) h =
    let rest = same_filter p q xs h.1 in
    ap (λ b. cond b (x ∷ filter p xs) (filter p xs)) h.0 ∙ ap (λ ys. cond (q x) (x ∷ ys) ys) rest

-- lists of the rows that pass a test for each entry are the lists by ranks where the tests ask for the rank
lists_by_tests : (ranks : List ℕ) (entries count : ℕ) → length ranks ≡ count → (lists : List (List ℕ)) (test : ℕ → ℕ → Bool) → length lists ≡ entries
    → ((entry : ℕ) → entry < entries → get_or lists entry [] ≡ filter (test entry) (ids count))
    → ((entry identifier : ℕ) → entry < entries → 0 < identifier → identifier ≤ count → test entry identifier ≡ (rank_of ranks identifier == entry))
    → lists_of ranks entries ≡ lists
lists_by_tests ranks entries count long lists test size are tells =
    sym (fill_by_all (rows_of_rank ranks) lists entries [] size (λ entry low.
    are entry low
    ∙ (same_filter (test entry) (λ identifier. rank_of ranks identifier == entry) (ids count)
    (all_of_range (λ identifier. test entry identifier ≡ (rank_of ranks identifier == entry)) 1 count (λ identifier some most. tells entry identifier low some (omega (arith, most))))
    ∙ ap (λ n. filter (λ identifier. rank_of ranks identifier == entry) (ids n)) (sym long))))

-- values that ascend are apart
values_apart : (values : List (List ℕ)) (i j : ℕ) → IsStrictlySortedBy (slice_cmp nat_cmp) values → i < length values → j < length values
    → bytes_eq (get_or values i []) (get_or values j []) ≡ (i == j)
values_apart values i j up li lj =
    elim (cases_lt i j) [
      | inl less ↦
          (let no : (i == j) ≡ false = grind (arith, nat_tests) in
          sym (is_eq-slice_cmp (get_or values i []) (get_or values j [])) ∙ (ap is_eq (Less-from_sorted (slice_cmp nat_cmp) values i j [] up less lj) ∙ sym no))
      | inr most ↦
          (elim (cases_eq i j) [
            | inl same ↦
                (let yes : (i == j) ≡ true = grind (arith, nat_tests) in
                (bytes_eq-Decides (get_or values i []) (get_or values j [])).1 (ap (λ k. get_or values k []) same) ∙ sym yes)
            | inr differ ↦
                (let no : (i == j) ≡ false = grind (arith, nat_tests, differ) in
                let more : j < i = omega (arith, most, differ) in
                let back : slice_cmp nat_cmp (get_or values i []) (get_or values j []) ≡ order.Greater =
                nat_list_cmp_total.antisymm (get_or values i []) (get_or values j []) ∙ ap ordering_reverse (Less-from_sorted (slice_cmp nat_cmp) values j i [] up more li) in
                sym (is_eq-slice_cmp (get_or values i []) (get_or values j [])) ∙ (ap is_eq back ∙ sym no))
          ])
    ]

inside : {X : Type 0} (xs : List X) (i : ℕ) (x : X) → slice_get xs i ≡ Some x → i < length xs
inside xs i x h =
    elim ((slice_get_cases xs i).1) [
      | inl here ↦ here.1
      | inr past ↦ absurd (cc (h, past.1))
    ]

pub ids_by_ranks : (cat : Catalog) (hidden : Hidden) (table from : ℕ) (reached : List ℕ) → LeadAs cat hidden from table reached
    → lists_of (map (λ row. row - 1) reached) (count_of cat table) ≡ id_lists cat hidden table from
ids_by_ranks cat hidden table from reached lead =
    let places = map (λ row. row - 1) reached in
    let rows = count_of cat table in
    let test = λ (entry identifier : ℕ). is_table (1 + entry) (leads_to cat.schema hidden from identifier table) in
    let list = λ (identifier : ℕ). filter (λ other. is_table identifier (leads_to cat.schema hidden from other table)) (ids (count_of cat from)) in
    lists_by_tests places rows (count_of cat from) (length-map reached (λ row. row - 1) ∙ lead.long) (id_lists cat hidden table from) test
    (length-map-range_with_len list 1 rows)
    (λ entry low. get_or-map-range_with_len list 1 rows entry (1 + entry) [] low refl)
    (λ entry identifier low some most.
    let at : identifier - 1 < length reached = omega (arith, some, most, lead.long) in
    let row = get_or reached (identifier - 1) 0 in
    let rank : rank_of places identifier ≡ row - 1 = get_or-map (λ r. r - 1) reached (identifier - 1) 0 0 at in
    let real = All-get_or (λ r. 0 < r) reached (identifier - 1) 0 at lead.above in
    let same : (row == 1 + entry) ≡ (row - 1 == entry) = shifted row entry real in
    ap (is_table (1 + entry)) (lead.each identifier some most) ∙ (same ∙ ap (λ r. r == entry) (sym rank)))
  where
    shifted : (row entry : ℕ) → 0 < row → (row == 1 + entry) ≡ (row - 1 == entry)
    shifted row entry real = grind (arith, nat_tests)

pub values_by_ranks : (cat : Catalog) (hidden : Hidden) (table column from : ℕ) (values : List (List ℕ)) (ranks reached : List ℕ)
    → AreValues (hidden_cells cat.schema hidden table column) values → AreRanks (hidden_cells cat.schema hidden table column) values ranks
    → length ranks ≡ count_of cat table → LeadAs cat hidden from table reached
    → lists_of (of_referred ranks reached) (length values) ≡ value_lists cat hidden table column values from
values_by_ranks cat hidden table column from values ranks reached are ranked size lead =
    let cells = hidden_cells cat.schema hidden table column in
    let above = of_referred ranks reached in
    let cell = cell_led_to cat.schema hidden table column from in
    let list = λ (value : List ℕ). filter (λ identifier. bytes_eq (cell identifier) value) (ids (count_of cat from)) in
    let test = λ (entry identifier : ℕ). bytes_eq (cell identifier) (get_or values entry []) in
    lists_by_tests above (length values) (count_of cat from) (length-map reached (λ r. get_or ranks (r - 1) 0) ∙ lead.long)
    (value_lists cat hidden table column values from) test (length-map values list)
    (λ entry low. get_or-map list values entry [] [] low)
    (λ entry identifier low some most.
    let at : identifier - 1 < length reached = omega (arith, some, most, lead.long) in
    let row = get_or reached (identifier - 1) 0 in
    let rank : rank_of above identifier ≡ get_or ranks (row - 1) 0 = get_or-map (λ r. get_or ranks (r - 1) 0) reached (identifier - 1) 0 0 at in
    let real = All-get_or (λ r. 0 < r) reached (identifier - 1) 0 at lead.above in
    let there = All-get_or (λ r. r ≤ count_of cat table) reached (identifier - 1) 0 at lead.within in
    let held : row - 1 < length cells = omega (arith, real, there, size, ranked.long) in
    let found : slice_get values (get_or ranks (row - 1) 0) ≡ Some (get_or cells (row - 1) []) =
    ranked.placed (row - 1) held ∙ slice_get-get_or cells (row - 1) [] held in
    let led : cell identifier ≡ get_or cells (row - 1) [] = ap (λ o. option_map_or (λ r. get_or cells (r - 1) []) o []) (lead.each identifier some most) in
    let value : get_or values (get_or ranks (row - 1) 0) [] ≡ get_or cells (row - 1) [] = get_or_from_slice_get values (get_or ranks (row - 1) 0) (get_or cells (row - 1) []) [] found in
    ap (λ bytes. bytes_eq bytes (get_or values entry [])) (led ∙ sym value)
    ∙ (values_apart values (get_or ranks (row - 1) 0) entry are.ascending (inside values (get_or ranks (row - 1) 0) (get_or cells (row - 1) []) found) low
    ∙ ap (λ r. r == entry) (sym rank)))
