-- The lists of a level ascend, are no longer than their table, and their codes fit the pages of its level file.
use Rattle.std.proofs.Common.{refl, ap, ℕ, zero, suc, ◌+◌, ◌*◌, ◌<◌, ◌≤◌, Bool, true, false, not, cond, inl, inr, List, [], ◌∷◌, ◌++◌, length, map, filter, flat_map, get_or, bytes_eq, arith}
use Rattle.std.specs.List.{concat, range_with_len}
use Rattle.std.proofs.lemmas.Bool.{cases_lt}
use Rattle.std.proofs.lemmas.List.{length-append}
use Rattle.std.proofs.lemmas.List.FromFn.{length-range_with_len}
use Rattle.std.proofs.lemmas.List.Sorted.{IsPermutation-filter_both, length_permutation}
use Rattle.ghost_model.specs.core.Schema.{is_table}
use Rattle.ghost_model.specs.core.Channel.{Catalog}
use Rattle.ghost_model.specs.core.Split.{Hidden}
use Rattle.ghost_model.specs.forms.Runs.{page_bytes, pages_of}
use Rattle.ghost_model.specs.forms.Gaps.{gaps_of, level_bytes, with_codes}
use Rattle.ghost_model.specs.forms.Layout.{count_of}
use Rattle.ghost_model.specs.forms.Flash.{hidden_cells, ids, cell_led_to, leads_to, value_lists, id_lists, AreValues}
use Rattle.ghost_model.specs.laws.GapLaws.{AscendsTo}
use Rattle.ghost_model.specs.laws.ListLaws.{ListsAscend}
use Rattle.ghost_model.proofs.GapLemmas.Files as files
use Rattle.ghost_model.proofs.GapLemmas.Files.{level_joined, room_left}
use Rattle.ghost_model.proofs.GapLemmas.Lists.{all_count}
use Rattle.ghost_model.proofs.FlashLemmas.Lists.{Exclusive, lists_rest, joined_lists, exclusive, exclusive_range}

no_bytes : (gaps : List ℕ) → length gaps ≤ 0 → length (with_codes [] gaps) ≤ 0
unfolding with_codes
no_bytes [] none = omega arith
no_bytes (gap ∷ gaps) none = absurd (omega (arith, none))

pub level_fits : (rows : ℕ) (lists : List (List ℕ)) → length (concat lists) ≤ rows → length (level_bytes lists) ≤ page_bytes * pages_of rows 4
level_fits rows lists few =
    let gaps = gaps_of lists in
    let bytes = ap length (level_joined lists) in
    let size = all_count lists in
    elim (cases_lt 0 rows) [
      | inl some ↦ (let most = files.few gaps in
          let room = room_left (length (level_bytes lists)) (length gaps) rows (omega (arith, bytes, most)) (omega (arith, size, few)) some in
          omega (arith, room))
      | inr none ↦ (let empty = no_bytes gaps (omega (arith, size, few, none)) in omega (arith, bytes, empty))
    ]

-- lists of numbers of which none passes two tests have no more of them than there are
few : {V : Type 0} (test : V → ℕ → Bool) (values : List V) (ks : List ℕ) → Exclusive test values
    → length (flat_map (λ v. filter (test v) ks) values) ≤ length ks
few test [] ks apart = omega arith
few test (v ∷ vs) ks apart =
    let left = filter (λ k. not (test v k)) ks in
    let rest = few test vs left apart.1 in
    let same = ap length (lists_rest test v vs ks apart.0) in
    let all = length-append (filter (test v) ks) (flat_map (λ w. filter (test w) ks) vs) in
    let parted = length_permutation ks (filter (test v) ks ++ left) (IsPermutation-filter_both (test v) (λ k. not (test v k)) (λ k. refl) ks) in
    let both = length-append (filter (test v) ks) left in
    omega (arith, rest, same, all, parted, both)

module _ (cat : Catalog) (hidden : Hidden) (table : ℕ) where
  abbrev has_value : (column from : ℕ) → List ℕ → ℕ → Bool
  has_value column from value identifier = bytes_eq (cell_led_to cat.schema hidden table column from identifier) value

  abbrev is_led : (from identifier other : ℕ) → Bool
  is_led from identifier other = is_table identifier (leads_to cat.schema hidden from other table)

  pub few_in_values : (column from : ℕ) (values : List (List ℕ)) → AreValues (hidden_cells cat.schema hidden table column) values
      → length (concat (value_lists cat hidden table column values from)) ≤ count_of cat from
  few_in_values column from values are =
      let each = few (has_value column from) values (ids (count_of cat from)) (exclusive (cell_led_to cat.schema hidden table column from) values are.ascending) in
      let joined = ap length (joined_lists (λ value. filter (has_value column from value) (ids (count_of cat from))) values) in
      let size = length-range_with_len 1 (count_of cat from) in
      omega (arith, each, joined, size)

  pub few_in_ids : (from : ℕ) → length (concat (id_lists cat hidden table from)) ≤ count_of cat from
  few_in_ids from =
      let each = few (is_led from) (ids (count_of cat table)) (ids (count_of cat from)) (exclusive_range (λ other. leads_to cat.schema hidden from other table) 1 (count_of cat table)) in
      let joined = ap length (joined_lists (λ identifier. filter (is_led from identifier) (ids (count_of cat from))) (ids (count_of cat table))) in
      let size = length-range_with_len 1 (count_of cat from) in
      omega (arith, each, joined, size)

-- some of the numbers of a range are of it, and ascend
abbrev Within : (low end : ℕ) → List ℕ → Type 0
Within low end numbers = (i : ℕ) → i < length numbers → (low ≤ get_or numbers i 0) × (get_or numbers i 0 < end)

within : (test : ℕ → Bool) (a n : ℕ) → Within a (a + n) (filter test (range_with_len a n))
within test a zero = λ i low. absurd (omega (arith, low))
within test a (suc n) = by (test a) (filter test (range_with_len (a + 1) n)) (within test (a + 1) n)
  where
    by : (b : Bool) (later : List ℕ) → Within (a + 1) (a + 1 + n) later → Within a (a + suc n) (cond b (a ∷ later) later)
    by true later rest zero low = (omega arith, omega arith)
    by true later rest (suc i) low = let h = rest i (omega (arith, low)) in let from = h.0 in let to = h.1 in (omega (arith, from), omega (arith, to))
    by false later rest i low = let h = rest i low in let from = h.0 in let to = h.1 in (omega (arith, from), omega (arith, to))

abbrev Ascend : List ℕ → Type 0
Ascend numbers = (i j : ℕ) → i < j → j < length numbers → get_or numbers i 0 < get_or numbers j 0

ascend : (test : ℕ → Bool) (a n : ℕ) → Ascend (filter test (range_with_len a n))
ascend test a zero = λ i j less low. absurd (omega (arith, low))
ascend test a (suc n) = by (test a) (filter test (range_with_len (a + 1) n)) (within test (a + 1) n) (ascend test (a + 1) n)
  where
    by : (b : Bool) (later : List ℕ) → Within (a + 1) (a + 1 + n) later → Ascend later → Ascend (cond b (a ∷ later) later)
    by true later above rest i zero less low = absurd (omega (arith, less))
    by true later above rest zero (suc j) less low = let from = (above j (omega (arith, low))).0 in omega (arith, from)
    by true later above rest (suc i) (suc j) less low = rest i j (omega (arith, less)) (omega (arith, low))
    by false later above rest i j less low = rest i j less low

some_ids : (test : ℕ → Bool) (count : ℕ) → AscendsTo count (filter test (ids count))
some_ids test count = record {
  above = λ i low. let h = (within test 1 count i low).0 in omega (arith, h);
  order = ascend test 1 count;
  within = λ i low. let h = (within test 1 count i low).1 in omega (arith, h);
}

each_of : {V : Type 0} (P : List ℕ → Type 0) (list : V → List ℕ) → ((v : V) → P (list v))
    → (values : List V) (entry : ℕ) → entry < length (map list values) → P (get_or (map list values) entry [])
each_of P list has [] entry low = absurd (omega (arith, low))
each_of P list has (v ∷ vs) zero low = has v
each_of P list has (v ∷ vs) (suc entry) low = each_of P list has vs entry (omega (arith, low))

pub lists_ascend : ListsAscend
lists_ascend = record {
  of_values = λ cat hidden table column from values small are. record {
    each = each_of (AscendsTo (count_of cat from)) (λ value. filter (has_value cat hidden table column from value) (ids (count_of cat from)))
        (λ value. some_ids (has_value cat hidden table column from value) (count_of cat from)) values;
    few = few_in_values cat hidden table column from values are;
    small = small;
  };
  of_ids = λ cat hidden table from small. record {
    each = each_of (AscendsTo (count_of cat from)) (λ identifier. filter (is_led cat hidden table from identifier) (ids (count_of cat from)))
        (λ identifier. some_ids (is_led cat hidden table from identifier) (count_of cat from)) (ids (count_of cat table));
    few = few_in_ids cat hidden table from;
    small = small;
  };
}
