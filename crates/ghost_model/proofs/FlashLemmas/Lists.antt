-- The lists of a level partition it.
use Rattle.std.proofs.Common.{◌≡◌, refl, sym, ap, ◌∙◌, subst, ℕ, zero, suc, ◌+◌, ◌-◌, ◌<◌, ◌≤◌, Bool, true, false, not, cond, ◌||◌, inl, inr, List, [], ◌∷◌, ◌++◌, length, filter, flat_map, map, get_or, Contains, bytes_eq, Option, Some, arith}
use Rattle.std.specs.Prelude.{◌==◌}
use Rattle.std.specs.List.{concat, range_with_len, list_any, AllByRecursion}
use Rattle.std.proofs.lemmas.Bool.{cases_lt}
use Rattle.std.proofs.lemmas.Bool.Decides.{nat_tests}
use Rattle.ghost_model.specs.core.Schema.{is_table, IsAtOrBelow}
use Rattle.ghost_model.proofs.MeaningLemmas.OneRow.{child_is}
use Rattle.std.specs.List.Sorted.{IsPermutation, IsStrictlySortedBy}
use Rattle.std.specs.Option.{option_map_or}
use Rattle.std.specs.Cmp.Lexicographic.{slice_cmp}
use Rattle.std.specs.Ordering.{nat_cmp, is_eq}
use Rattle.std.specs.declared.cmp.Ordering.TheVariants as order
use Rattle.std.proofs.lemmas.List.Sorted.{IsPermutation-refl, IsPermutation-trans, IsPermutation-append_right, IsPermutation-filter_both}
use Rattle.std.proofs.lemmas.List.Elements.{All-contains_itself}
use Rattle.std.proofs.lemmas.Slice.Eq.{bytes_eq-Decides}
use Rattle.std.proofs.lemmas.Map.Text.{is_eq-slice_cmp}
use Rattle.ghost_model.specs.core.Values.{Row, Database}
use Rattle.ghost_model.specs.core.Channel.{Catalog}
use Rattle.ghost_model.specs.laws.SchemaTrees.{IsTree}
use Rattle.ghost_model.specs.core.Database.{IsDatabase, rows_of, row_of, row_counts}
use Rattle.ghost_model.specs.laws.MeaningLaws.{Lands, LeadsFollowKeys}
use Rattle.ghost_model.specs.core.Split.{hidden_of}
use Rattle.ghost_model.specs.forms.Layout.{is_hidden, count_of}
use Rattle.ghost_model.specs.forms.Flash.{hidden_cells, ids, cell_led_to, leads_to, value_lists, id_lists, AreValues}
use Rattle.ghost_model.specs.laws.FlashLaws.{CellsFit}
use Rattle.ghost_model.proofs.MeaningLemmas.Leading.{rows_lead, get_within, place_within}
use Rattle.ghost_model.proofs.FlashLemmas.Values.{count_there, cells_fit}
use Rattle.ghost_model.proofs.FlashLemmas.Parts.{goes_with}
use Rattle.ghost_model.proofs.FlashLemmas.Keys.{lead_alike}

-- no number passes the tests of two values
abbrev pub Exclusive : {V : Type 0} → (V → ℕ → Bool) → List V → Type 0
Exclusive test [] = Unit {0}
Exclusive test (v ∷ vs) = AllByRecursion (λ w. (k : ℕ) → test v k ≡ true → test w k ≡ false) vs × Exclusive test vs

-- each number passes the test of some value
abbrev pub Covered : {V : Type 0} → (V → ℕ → Bool) → List V → List ℕ → Type 0
Covered test values ks = AllByRecursion (λ k. list_any (λ v. test v k) values ≡ true) ks

covered_one : {V : Type 0} (test : V → ℕ → Bool) (vs : List V) (b : Bool) (k : ℕ) (ks : List ℕ) → (b || list_any (λ w. test w k) vs) ≡ true
    → Covered test vs ks → Covered test vs (cond (not b) (k ∷ ks) ks)
covered_one test vs true k ks e rest = rest
covered_one test vs false k ks e rest = (e, rest)

covered_rest : {V : Type 0} (test : V → ℕ → Bool) (v : V) (vs : List V) (ks : List ℕ) → Covered test (v ∷ vs) ks
    → Covered test vs (filter (λ k. not (test v k)) ks)
covered_rest test v vs [] h = tt
covered_rest test v vs (k ∷ ks) h = covered_one test vs (test v k) k (filter (λ j. not (test v j)) ks) h.0 (covered_rest test v vs ks h.1)

filter_one : (w : ℕ → Bool) (b : Bool) (k : ℕ) (xs ks : List ℕ) → (b ≡ true → w k ≡ false) → filter w xs ≡ filter w ks
    → filter w (cond (not b) (k ∷ xs) xs) ≡ cond (w k) (k ∷ filter w ks) (filter w ks)
filter_one w true k xs ks h rest = rest ∙ sym (ap (λ c. cond c (k ∷ filter w ks) (filter w ks)) (h refl))
filter_one w false k xs ks h rest = ap (λ ys. cond (w k) (k ∷ ys) ys) rest

filter_rest : (v w : ℕ → Bool) (ks : List ℕ) → ((k : ℕ) → v k ≡ true → w k ≡ false) → filter w (filter (λ k. not (v k)) ks) ≡ filter w ks
filter_rest v w [] h = refl
filter_rest v w (k ∷ ks) h = filter_one w (v k) k (filter (λ j. not (v j)) ks) ks (h k) (filter_rest v w ks h)

pub lists_rest : {V : Type 0} (test : V → ℕ → Bool) (v : V) (vs : List V) (ks : List ℕ)
    → AllByRecursion (λ w. (k : ℕ) → test v k ≡ true → test w k ≡ false) vs
    → flat_map (λ w. filter (test w) (filter (λ k. not (test v k)) ks)) vs ≡ flat_map (λ w. filter (test w) ks) vs
lists_rest test v [] ks h = refl
lists_rest test v (w ∷ vs) ks h =
    let one = filter_rest (test v) (test w) ks h.0 in
    let others = lists_rest test v vs ks h.1 in
    λ i. one i ++ others i

pub joined_lists : {V : Type 0} (list : V → List ℕ) (values : List V) → flat_map list values ≡ concat (map list values)
joined_lists list [] = refl
joined_lists list (v ∷ vs) = ap (λ rest. list v ++ rest) (joined_lists list vs)

partitioned : {V : Type 0} (test : V → ℕ → Bool) (values : List V) (ks : List ℕ) → Exclusive test values → Covered test values ks
    → IsPermutation ks (flat_map (λ v. filter (test v) ks) values)
partitioned test [] [] apart covered = IsPermutation-refl []
partitioned test [] (k ∷ ks) apart covered = absurd (cc (covered.0))
partitioned test (v ∷ vs) ks apart covered =
    let left = filter (λ k. not (test v k)) ks in
    let rest = partitioned test vs left apart.1 (covered_rest test v vs ks covered) in
    let moved : IsPermutation left (flat_map (λ w. filter (test w) ks) vs) = subst (IsPermutation left) (lists_rest test v vs ks apart.0) rest in
    IsPermutation-trans ks (filter (test v) ks ++ left) (filter (test v) ks ++ flat_map (λ w. filter (test w) ks) vs)
    (IsPermutation-filter_both (test v) (λ k. not (test v k)) (λ k. refl) ks)
    (IsPermutation-append_right (filter (test v) ks) left (flat_map (λ w. filter (test w) ks) vs) moved)

-- values that ascend exclude each other
apart_from : (key : ℕ → List ℕ) (v w : List ℕ) → slice_cmp nat_cmp v w ≡ order.Less → (k : ℕ) → bytes_eq (key k) v ≡ true → bytes_eq (key k) w ≡ false
apart_from key v w less k e =
    ap (λ bytes. bytes_eq bytes w) ((bytes_eq-Decides (key k) v).0 e) ∙ (sym (is_eq-slice_cmp v w) ∙ ap is_eq less)

apart_from_all : (key : ℕ → List ℕ) (v : List ℕ) (vs : List (List ℕ)) → AllByRecursion (λ w. slice_cmp nat_cmp v w ≡ order.Less) vs
    → AllByRecursion (λ w. (k : ℕ) → bytes_eq (key k) v ≡ true → bytes_eq (key k) w ≡ false) vs
apart_from_all key v [] h = tt
apart_from_all key v (w ∷ vs) h = (apart_from key v w h.0, apart_from_all key v vs h.1)

pub exclusive : (key : ℕ → List ℕ) (values : List (List ℕ)) → IsStrictlySortedBy (slice_cmp nat_cmp) values → Exclusive (λ v k. bytes_eq (key k) v) values
unfolding IsStrictlySortedBy
exclusive key [] h = tt
exclusive key (v ∷ vs) h = (apart_from_all key v vs h.0, exclusive key vs h.1)

-- a value that is among some passes the test of one
found : (value : List ℕ) (values : List (List ℕ)) (k : ℕ) → k < length values → get_or values k value ≡ value → list_any (bytes_eq value) values ≡ true
found value [] k low e = absurd (omega (arith, low))
found value (v ∷ vs) zero low e =
    let same : bytes_eq value v ≡ true = (bytes_eq-Decides value v).1 (sym e) in
    ap (λ b. b || list_any (bytes_eq value) vs) same
found value (v ∷ vs) (suc k) low e = either (bytes_eq value v) (list_any (bytes_eq value) vs) (found value vs k (omega (arith, low)) e)
  where
    either : (a b : Bool) → b ≡ true → (a || b) ≡ true
    either true b h = refl
    either false b h = h

all_of_range : (P : ℕ → Type 0) (a n : ℕ) → ((k : ℕ) → a ≤ k → k < a + n → P k) → AllByRecursion P (range_with_len a n)
all_of_range P a zero h = tt
all_of_range P a (suc n) h =
    (h a (omega arith) (omega arith), all_of_range P (a + 1) n (λ k low high. h k (omega (arith, low)) (omega (arith, high))))

-- identifiers exclude each other
numbers_apart : (o : Option ℕ) (v w : ℕ) → v < w → is_table v o ≡ true → is_table w o ≡ false
numbers_apart o v w less e =
    let differ : (v == w) ≡ false = grind (arith, nat_tests) in ap (is_table w) (child_is v o e) ∙ differ

pub exclusive_range : (key : ℕ → Option ℕ) (a n : ℕ) → Exclusive (λ v k. is_table v (key k)) (range_with_len a n)
exclusive_range key a zero = tt
exclusive_range key a (suc n) = (
  all_of_range (λ w. (k : ℕ) → is_table a (key k) ≡ true → is_table w (key k) ≡ false) (a + 1) n (λ w low high k e. numbers_apart (key k) a w (omega (arith, low)) e),
  exclusive_range key (a + 1) n,
)

found_in_range : (x a n : ℕ) → a ≤ x → x < a + n → list_any (λ v. x == v) (range_with_len a n) ≡ true
found_in_range x a zero low high = absurd (omega (arith, low, high))
found_in_range x a (suc n) low high =
    elim (cases_lt a x) [
      | inl less ↦ (let differ : (x == a) ≡ false = grind (arith, nat_tests) in
          ap (λ b. b || list_any (λ v. x == v) (range_with_len (a + 1) n)) differ ∙ found_in_range x (a + 1) n (omega (arith, less)) (omega (arith, high)))
      | inr more ↦ (let same : (x == a) ≡ true = grind (arith, nat_tests) in
          ap (λ b. b || list_any (λ v. x == v) (range_with_len (a + 1) n)) same)
    ]

module _ (cat : Catalog) (database : Database) (tree : IsTree cat.schema) (is : IsDatabase cat.schema database) (counts : row_counts database ≡ cat.counts) where
  count_is : (table : ℕ) → count_of cat table ≡ length (rows_of database table)
  count_is table = sym (ap (λ (ns : List ℕ). get_or ns table 0) counts) ∙ count_there database table

  led_cell : (table column from place : ℕ) → is_hidden cat.schema table column ≡ true → IsAtOrBelow cat.schema from table → place < count_of cat from
      → Contains (hidden_cells cat.schema (hidden_of cat.schema database) table column) (cell_led_to cat.schema (hidden_of cat.schema database) table column from (suc place))
  led_cell table column from place h under low =
      let size = count_is from in
      let held = get_within (rows_of database from) place (omega (arith, size, low)) in
      let follow : LeadsFollowKeys cat.schema database = rows_lead cat.schema database tree is in
      let lands : Lands cat.schema database from (suc place) table = follow.lands from table (suc place) held.0 under held.1 in
      by_reached lands.reached lands.row (lead_alike cat.schema database tree is from (suc place) table ∙ lands.led) lands.stands
    where
      by_reached : (reached : ℕ) (row : Row) → leads_to cat.schema (hidden_of cat.schema database) from (suc place) table ≡ Some reached
          → row_of database table reached ≡ Some row
          → Contains (hidden_cells cat.schema (hidden_of cat.schema database) table column) (cell_led_to cat.schema (hidden_of cat.schema database) table column from (suc place))
      by_reached zero row led stands = absurd (cc (stands))
      by_reached (suc j) row led stands =
          let hidden = hidden_of cat.schema database in
          let cells = hidden_cells cat.schema hidden table column in
          let fit : CellsFit cat hidden = cells_fit cat hidden tree (goes_with cat database is counts) in
          let size = fit.count table column h in
          let rows = count_is table in
          let near = place_within (rows_of database table) j row stands in
          let e : suc j - 1 ≡ j = omega arith in
          let same : cell_led_to cat.schema hidden table column from (suc place) ≡ get_or cells j [] =
          ap (λ o. option_map_or (λ n. get_or cells (n - 1) []) o []) led ∙ ap (λ n. get_or cells n []) e in
          subst (Contains cells) (sym same) (All-contains_itself cells j [] (omega (arith, size, rows, near)))

  covered : (table column from : ℕ) → is_hidden cat.schema table column ≡ true → IsAtOrBelow cat.schema from table
      → (values : List (List ℕ)) → AreValues (hidden_cells cat.schema (hidden_of cat.schema database) table column) values
      → (k : ℕ) → 1 ≤ k → k < 1 + count_of cat from
      → list_any (bytes_eq (cell_led_to cat.schema (hidden_of cat.schema database) table column from k)) values ≡ true
  covered table column from h under values are zero low high = absurd (omega (arith, low))
  covered table column from h under values are (suc place) low high =
      let key = cell_led_to cat.schema (hidden_of cat.schema database) table column from (suc place) in
      let has = are.all key (led_cell table column from place h under (omega (arith, high))) in
      found key values has.0 has.1 has.2

  pub lists_partition : (table column from : ℕ) → is_hidden cat.schema table column ≡ true → IsAtOrBelow cat.schema from table
      → (values : List (List ℕ)) → AreValues (hidden_cells cat.schema (hidden_of cat.schema database) table column) values
      → IsPermutation (ids (count_of cat from)) (concat (value_lists cat (hidden_of cat.schema database) table column values from))
  lists_partition table column from h under values are =
      let key = cell_led_to cat.schema (hidden_of cat.schema database) table column from in
      subst (IsPermutation (ids (count_of cat from))) (joined_lists (λ v. filter (λ k. bytes_eq (key k) v) (ids (count_of cat from))) values)
      (partitioned (λ v k. bytes_eq (key k) v) values (ids (count_of cat from)) (exclusive key values are.ascending)
      (all_of_range (λ k. list_any (bytes_eq (key k)) values ≡ true) 1 (count_of cat from) (covered table column from h under values are)))

  covered_id : (table from : ℕ) → IsAtOrBelow cat.schema from table → (k : ℕ) → 1 ≤ k → k < 1 + count_of cat from
      → list_any (λ v. is_table v (leads_to cat.schema (hidden_of cat.schema database) from k table)) (ids (count_of cat table)) ≡ true
  covered_id table from under zero low high = absurd (omega (arith, low))
  covered_id table from under (suc place) low high =
      let size = count_is from in
      let held = get_within (rows_of database from) place (omega (arith, size, high)) in
      let follow : LeadsFollowKeys cat.schema database = rows_lead cat.schema database tree is in
      let lands : Lands cat.schema database from (suc place) table = follow.lands from table (suc place) held.0 under held.1 in
      by_reached lands.reached lands.row (lead_alike cat.schema database tree is from (suc place) table ∙ lands.led) lands.stands
    where
      by_reached : (reached : ℕ) (row : Row) → leads_to cat.schema (hidden_of cat.schema database) from (suc place) table ≡ Some reached
          → row_of database table reached ≡ Some row
          → list_any (λ v. is_table v (leads_to cat.schema (hidden_of cat.schema database) from (suc place) table)) (ids (count_of cat table)) ≡ true
      by_reached zero row led stands = absurd (cc (stands))
      by_reached (suc j) row led stands =
          let rows = count_is table in
          let near = place_within (rows_of database table) j row stands in
          ap (λ o. list_any (λ v. is_table v o) (ids (count_of cat table))) led
          ∙ found_in_range (suc j) 1 (count_of cat table) (omega arith) (omega (arith, rows, near))

  pub id_lists_partition : (table from : ℕ) → IsAtOrBelow cat.schema from table
      → IsPermutation (ids (count_of cat from)) (concat (id_lists cat (hidden_of cat.schema database) table from))
  id_lists_partition table from under =
      let key = λ (k : ℕ). leads_to cat.schema (hidden_of cat.schema database) from k table in
      subst (IsPermutation (ids (count_of cat from))) (joined_lists (λ v. filter (λ k. is_table v (key k)) (ids (count_of cat from))) (ids (count_of cat table)))
      (partitioned (λ v k. is_table v (key k)) (ids (count_of cat table)) (ids (count_of cat from)) (exclusive_range key 1 (count_of cat table))
      (all_of_range (λ k. list_any (λ v. is_table v (key k)) (ids (count_of cat table)) ≡ true) 1 (count_of cat from) (covered_id table from under)))
