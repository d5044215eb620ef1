-- What is written: which values a column has and how many, and the pages of all files, table by table.
use Rattle.std.proofs.Common.{◌≡◌, refl, ap, sym, ◌∙◌, subst, ℕ, suc, ◌+◌, ◌*◌, Bool, true, false, cond, ◌||◌, List, [], ◌∷◌, ◌++◌, length, map, filter, flat_map, sum_by, Contains, bytes_eq, arith}
use Rattle.std.specs.List.{list_any, AllByRecursion, IsDistinct}
use Rattle.std.specs.Set.{distinct_count}
use Rattle.std.specs.List.Sorted.{IsStrictlySortedBy}
use Rattle.std.specs.Cmp.Lexicographic.{slice_cmp}
use Rattle.std.specs.declared.cmp.Ordering.{Ordering}
use Rattle.std.specs.declared.cmp.Ordering.TheVariants.{Less, Equal, Greater}
use Rattle.std.specs.Ordering.{nat_cmp, eq_by_cmp, is_eq, is_lt, ordering_reverse}
use Rattle.std.proofs.lemmas.Cmp.{nat_list_cmp_total, nat_list_eq_equiv}
use Rattle.std.proofs.lemmas.Map.Keys.{IsDistinct-from_sorted}
use Rattle.std.proofs.lemmas.Map.Lookups.{btree_set_from_contains, exact_bytes}
use Rattle.std.proofs.lemmas.Map.Made.{distinct_count-le}
use Rattle.std.proofs.lemmas.Map.Views.{list_any-from_Contains}
use Rattle.std.proofs.lemmas.Map.Text.{is_eq-slice_cmp}
use Rattle.std.proofs.lemmas.Slice.Eq.{bytes_eq-Decides}
use Rattle.std.proofs.lemmas.Map.Made.{length-from_keys}
use Rattle.std.proofs.lemmas.List.Sums.{sum_by-cons, sum_by-append}
use Rattle.ghost_model.specs.core.Channel.{Catalog}
use Rattle.ghost_model.specs.core.Split.{Hidden}
use Rattle.ghost_model.specs.forms.Runs.{pages_of}
use Rattle.ghost_model.specs.forms.Layout.{below, is_hidden, hidden_columns, width_at, count_of, levels_of, above_of, descendants_of, Structure, ColumnFile, SubtreeTable, ClimbingIndex, IdIndex, files_pages, tables_of}
use Rattle.ghost_model.specs.laws.ShortWords.{structures_of, column_count}
use Rattle.ghost_model.specs.laws.LayoutSums.{column_pages, columns_pages, directory_width, subtree_width}
use Rattle.ghost_model.specs.forms.Flash.{hidden_cells, value_lists, id_lists, AreValues}
use Rattle.ghost_model.specs.forms.Work.{value_count, with_value, values_among, values_at, levels_written, written_of}
use Rattle.ghost_model.specs.laws.WorkLaws.{index_written, indexes_written, table_written, PagesAddUp, ValuesAreCounted}
use Rattle.ghost_model.proofs.LayoutLemmas.Following as follow
use Rattle.ghost_model.proofs.LayoutLemmas.Following.{one_file, some_width}

-- values
any_contains : (q : List ℕ) (xs : List (List ℕ)) → list_any (bytes_eq q) xs ≡ true → Contains xs q
any_contains q [] h = absurd (cc (h))
any_contains q (x ∷ xs) h = by (bytes_eq q x) refl h (any_contains q xs)
  where
    by : (b : Bool) → bytes_eq q x ≡ b → (b || list_any (bytes_eq q) xs) ≡ true → (list_any (bytes_eq q) xs ≡ true → Contains xs q) → Contains (x ∷ xs) q
    by true e g r = (0, omega arith, sym ((bytes_eq-Decides q x).0 e))
    by false e g r = let there = r g in (suc there.0, (let low = there.1 in omega (arith, low)), there.2)

as_one : (a b : Bool) → (a ≡ true → b ≡ true) → (b ≡ true → a ≡ true) → a ≡ b
as_one true b h g = sym (h refl)
as_one false true h g = g refl
as_one false false h g = refl

by_order : eq_by_cmp (slice_cmp nat_cmp) ≡ bytes_eq
by_order = λ i x y. is_eq-slice_cmp x y i

distinct : (values : List (List ℕ)) → IsStrictlySortedBy (slice_cmp nat_cmp) values → IsDistinct bytes_eq values
distinct values ascending =
    subst (λ (e : List ℕ → List ℕ → Bool). IsDistinct e values) by_order (IsDistinct-from_sorted (slice_cmp nat_cmp) values ascending)

same_members : (cells values : List (List ℕ)) → AreValues cells values → (q : List ℕ) → list_any (bytes_eq q) values ≡ list_any (bytes_eq q) cells
same_members cells values are q =
    as_one (list_any (bytes_eq q) values) (list_any (bytes_eq q) cells)
    (λ h. list_any-from_Contains nat_list_eq_equiv q cells (are.only q (any_contains q values h)))
    (λ h. list_any-from_Contains nat_list_eq_equiv q values (are.all q (any_contains q cells h)))

pub counted : (cells values : List (List ℕ)) → AreValues cells values → distinct_count bytes_eq cells ≡ length values
counted cells values are = sym (length-from_keys nat_list_eq_equiv values cells (distinct values are.ascending) (same_members cells values are))

-- values that are put among others one by one
all_with : (P : List ℕ → Type 0) (value : List ℕ) (values : List (List ℕ)) → P value → AllByRecursion P values → AllByRecursion P (with_value value values)
unfolding with_value
all_with P value [] here rest = (here, tt)
all_with P value (other ∷ values) here rest =
    by (is_lt (slice_cmp nat_cmp value other)) (bytes_eq value other) (all_with P value values here rest.1)
  where
    by : (a b : Bool) → AllByRecursion P (with_value value values)
        → AllByRecursion P (cond a (value ∷ other ∷ values) (cond b (other ∷ values) (other ∷ with_value value values)))
    by true b later = (here, rest)
    by false true later = rest
    by false false later = (rest.0, later)

all_behind : (value other : List ℕ) (values : List (List ℕ)) → slice_cmp nat_cmp value other ≡ Less
    → AllByRecursion (λ z. slice_cmp nat_cmp other z ≡ Less) values → AllByRecursion (λ z. slice_cmp nat_cmp value z ≡ Less) values
all_behind value other [] less all = tt
all_behind value other (z ∷ values) less all = (nat_list_cmp_total.trans value other z less all.0, all_behind value other values less all.1)

ascending_with : (value : List ℕ) (values : List (List ℕ)) → IsStrictlySortedBy (slice_cmp nat_cmp) values
    → IsStrictlySortedBy (slice_cmp nat_cmp) (with_value value values)
unfolding with_value IsStrictlySortedBy
ascending_with value [] order = (tt, tt)
ascending_with value (other ∷ values) order =
    by (slice_cmp nat_cmp value other) refl (bytes_eq value other) refl (ascending_with value values order.1)
  where
    by : (r : Ordering) → slice_cmp nat_cmp value other ≡ r → (b : Bool) → bytes_eq value other ≡ b
        → IsStrictlySortedBy (slice_cmp nat_cmp) (with_value value values)
        → IsStrictlySortedBy (slice_cmp nat_cmp) (cond (is_lt r) (value ∷ other ∷ values) (cond b (other ∷ values) (other ∷ with_value value values)))
    by Less e b f later = ((e, all_behind value other values e order.0), order)
    by Equal e true f later = order
    by Equal e false f later = let clash : true ≡ false = sym (ap is_eq e) ∙ (is_eq-slice_cmp value other ∙ f) in absurd (cc (clash))
    by Greater e true f later = order
    by Greater e false f later = (
      all_with (λ z. slice_cmp nat_cmp other z ≡ Less) value values (nat_list_cmp_total.antisymm other value ∙ ap ordering_reverse e) order.0,
      later,
    )

twice : (a b : Bool) → (a || b) ≡ (a || (a || b))
twice true b = refl
twice false b = refl

other_first : (a b c : Bool) → (a || (b || c)) ≡ (b || (a || c))
other_first true true c = refl
other_first true false c = refl
other_first false b c = refl

any_with : (q value : List ℕ) (values : List (List ℕ)) → list_any (bytes_eq q) (with_value value values) ≡ (bytes_eq q value || list_any (bytes_eq q) values)
unfolding with_value
any_with q value [] = refl
any_with q value (other ∷ values) = by (is_lt (slice_cmp nat_cmp value other)) (bytes_eq value other) refl (any_with q value values)
  where
    by : (a b : Bool) → bytes_eq value other ≡ b
        → list_any (bytes_eq q) (with_value value values) ≡ (bytes_eq q value || list_any (bytes_eq q) values)
        → list_any (bytes_eq q) (cond a (value ∷ other ∷ values) (cond b (other ∷ values) (other ∷ with_value value values)))
        ≡ (bytes_eq q value || (bytes_eq q other || list_any (bytes_eq q) values))
    by true b e later = refl
    by false true e later =
        let same : value ≡ other = (bytes_eq-Decides value other).0 e in
        twice (bytes_eq q other) (list_any (bytes_eq q) values)
        ∙ sym (ap (λ v. bytes_eq q v || (bytes_eq q other || list_any (bytes_eq q) values)) same)
    by false false e later =
        ap (λ b. bytes_eq q other || b) later ∙ other_first (bytes_eq q other) (bytes_eq q value) (list_any (bytes_eq q) values)

ascending_among : (cells : List (List ℕ)) → IsStrictlySortedBy (slice_cmp nat_cmp) (values_among cells)
unfolding values_among IsStrictlySortedBy
ascending_among [] = tt
ascending_among (cell ∷ cells) = ascending_with cell (values_among cells) (ascending_among cells)

any_among : (q : List ℕ) (cells : List (List ℕ)) → list_any (bytes_eq q) (values_among cells) ≡ list_any (bytes_eq q) cells
unfolding values_among
any_among q [] = refl
any_among q (cell ∷ cells) = any_with q cell (values_among cells) ∙ ap (λ b. bytes_eq q cell || b) (any_among q cells)

pub among : (cells values : List (List ℕ)) → AreValues cells values → values_among cells ≡ values
among cells values are =
    btree_set_from_contains nat_list_cmp_total (record { keys = values_among cells }) (record { keys = values }) (ascending_among cells) are.ascending
    (λ q.
    ap (λ (e : List ℕ → List ℕ → Bool). list_any (e q) (values_among cells)) by_order
    ∙ (any_among q cells
    ∙ (sym (same_members cells values are q)
    ∙ sym (ap (λ (e : List ℕ → List ℕ → Bool). list_any (e q) values) by_order))))
    exact_bytes

pub values_counted : ValuesAreCounted
values_counted = record {
  count = λ cat hidden table column values are. counted (hidden_cells cat.schema hidden table column) values are;
  are = λ cat hidden table column values are. among (hidden_cells cat.schema hidden table column) values are;
  few = λ cat hidden table column. distinct_count-le bytes_eq (hidden_cells cat.schema hidden table column);
}

-- sums over lists that are joined, and over those of some numbers that pass a test
sum_joined : {X : Type 0} (g : X → ℕ) (f : ℕ → List X) (ks : List ℕ) → sum_by g (flat_map f ks) ≡ sum_by (λ k. sum_by g (f k)) ks
sum_joined g f [] = refl
sum_joined g f (k ∷ ks) =
    let two = sum_by-append g (f k) (flat_map f ks) in
    let one = sum_by-cons (λ j. sum_by g (f j)) k ks in
    let rest = sum_joined g f ks in
    omega (arith, two, one, rest)

sum_kept : {X : Type 0} (g : X → ℕ) (f : ℕ → X) (test : ℕ → Bool) (ks : List ℕ)
    → sum_by g (map f (filter test ks)) ≡ sum_by (λ k. cond (test k) (g (f k)) 0) ks
sum_kept g f test [] = refl
sum_kept g f test (k ∷ ks) = by (test k) (sum_kept g f test ks) ∙ sym (sum_by-cons (λ j. cond (test j) (g (f j)) 0) k ks)
  where
    by : (b : Bool) → sum_by g (map f (filter test ks)) ≡ sum_by (λ j. cond (test j) (g (f j)) 0) ks
        → sum_by g (map f (cond b (k ∷ filter test ks) (filter test ks))) ≡ cond b (g (f k)) 0 + sum_by (λ j. cond (test j) (g (f j)) 0) ks
    by true r = let one = sum_by-cons g (f k) (map f (filter test ks)) in omega (arith, one, r)
    by false r = omega (arith, r)

sum_same : (g h : ℕ → ℕ) → ((k : ℕ) → g k ≡ h k) → (ks : List ℕ) → sum_by g ks ≡ sum_by h ks
sum_same g h same ks = ap (λ (f : ℕ → ℕ). sum_by f ks) (λ i k. same k i)

module _ (cat : Catalog) (hidden : Hidden) where
  index_is : (table column : ℕ)
      → files_pages (written_of cat hidden (ClimbingIndex table column))
      ≡ 1 + (pages_of (value_count cat hidden table column) (directory_width cat.schema table column)
      + files_pages (levels_written (value_lists cat hidden table column (values_at cat hidden table column)) (levels_of cat.schema table)))
  index_is table column =
      let directory : ℕ × ℕ = (value_count cat hidden table column, directory_width cat.schema table column) in
      let levels = levels_written (value_lists cat hidden table column (values_at cat hidden table column)) (levels_of cat.schema table) in
      let first = sum_by-cons follow.file_pages (1, 4) (directory ∷ levels) in
      let second = sum_by-cons follow.file_pages directory levels in
      omega (arith, first, second)

  columns_are : (table : ℕ) → sum_by (λ s. files_pages (written_of cat hidden s)) (map (ColumnFile table) (hidden_columns cat.schema table)) ≡ columns_pages cat table
  columns_are table =
      sum_kept (λ s. files_pages (written_of cat hidden s)) (ColumnFile table) (is_hidden cat.schema table) (below (column_count cat.schema table))
      ∙ sum_same (λ c. cond (is_hidden cat.schema table c) (files_pages (written_of cat hidden (ColumnFile table c))) 0) (column_pages cat table)
      (λ c. ap (λ n. cond (is_hidden cat.schema table c) n 0) (one_file (count_of cat table) (width_at cat.schema table c)))
      (below (column_count cat.schema table))

  indexes_are : (table : ℕ)
      → sum_by (λ s. files_pages (written_of cat hidden s)) (map (ClimbingIndex table) (hidden_columns cat.schema table))
      ≡ indexes_written cat hidden table (column_count cat.schema table)
  indexes_are table =
      sum_kept (λ s. files_pages (written_of cat hidden s)) (ClimbingIndex table) (is_hidden cat.schema table) (below (column_count cat.schema table))
      ∙ sum_same (λ c. cond (is_hidden cat.schema table c) (files_pages (written_of cat hidden (ClimbingIndex table c))) 0) (index_written cat hidden table)
      (λ c. ap (λ n. cond (is_hidden cat.schema table c) n 0) (index_is table c))
      (below (column_count cat.schema table))

  table_is : (table : ℕ) → sum_by (λ s. files_pages (written_of cat hidden s)) (structures_of cat.schema table) ≡ table_written cat hidden table
  table_is table =
      let g : Structure → ℕ = λ s. files_pages (written_of cat hidden s) in
      let files = map (ColumnFile table) (hidden_columns cat.schema table) in
      let trees = map (ClimbingIndex table) (hidden_columns cat.schema table) in
      let a = sum_by-append g files (SubtreeTable table ∷ (trees ++ IdIndex table ∷ [])) in
      let b = sum_by-cons g (SubtreeTable table) (trees ++ IdIndex table ∷ []) in
      let c = sum_by-append g trees (IdIndex table ∷ []) in
      let d = sum_by-cons g (IdIndex table) [] in
      let columns = columns_are table in
      let indexes = indexes_are table in
      let below_it = one_file (count_of cat table) (subtree_width cat.schema table) ∙ some_width 4 (count_of cat table) (descendants_of cat.schema table) in
      let above_it = sum_by-cons follow.file_pages (count_of cat table, 8 * length (above_of cat.schema table)) (levels_written (id_lists cat hidden table) (above_of cat.schema table)) in
      omega (arith, a, b, c, d, columns, indexes, below_it, above_it)

pub add_up : PagesAddUp
add_up cat hidden =
    sum_joined (λ s. files_pages (written_of cat hidden s)) (structures_of cat.schema) (tables_of cat.schema)
    ∙ sum_same (λ t. sum_by (λ s. files_pages (written_of cat hidden s)) (structures_of cat.schema t)) (table_written cat hidden) (table_is cat hidden) (tables_of cat.schema)
