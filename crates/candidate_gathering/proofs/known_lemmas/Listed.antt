-- A test of some element of a list, and each file that a schema has among those that it may have.
use Rattle.std.proofs.Common.{◌≡◌, ◌∙◌, ap, ap₂, refl, ℕ, zero, suc, ◌+◌, ◌<◌, inl, inr, Bool, true, false, not, ◌&&◌, ◌||◌, nat_eq, nat_lt, List, [], ◌∷◌, ◌++◌, length, map, slice_get, Some, arith}
use Rattle.std.specs.Prelude.{flat_map}
use Rattle.std.specs.List.{list_any, range_with_len}
use Rattle.std.proofs.lemmas.Bool.{and_parts, or_cases, ltb-true, eqb-true, eq-eqb}
use Rattle.ghost_model.specs.core.Schema.{columns_of, is_empty}
use Rattle.ghost_model.specs.core.Channel.{Catalog}
use Rattle.ghost_model.specs.forms.Layout.{above_of, below, descendants_of, is_hidden, levels_of, tables_of, File, Cells, Subtrees, IndexHeader, IndexDirectory, IndexLevel, IdDirectory, IdLevel}
use Rattle.ghost_model.specs.forms.Runs.{Run}
use Rattle.ghost_model.specs.forms.Slots.{has_file}
use Rattle.ghost_model.specs.laws.LayoutLaws.{LieInOrder}
use Rattle.ghost_model.specs.laws.SchemaTrees.{IsTree}
use Rattle.candidate_gathering.specs.known.May.{files_in, files_of_column, files_of_table, is_same_run}
use Rattle.candidate_gathering.proofs.known_lemmas.TablesThere.{low_is_table, high_is_table}

-- ---- tests

pub record IsSome {X : Type 0} (test : X → Bool) (xs : List X) : Type 0 where
  pub at : ℕ
  pub item : X
  pub is : slice_get xs at ≡ Some item
  pub passes : test item ≡ true

pub some_of : {X : Type 0} (test : X → Bool) (xs : List X) → list_any test xs ≡ true → IsSome test xs
some_of test [] any = absurd (cc any)
some_of test (x ∷ xs) any =
    elim (or_cases (test x) (list_any test xs) any) [
      | inl here ↦ record { at = 0; item = x; is = refl; passes = here }
      | inr later ↦ (let rest = some_of test xs later in record { at = suc rest.at; item = rest.item; is = rest.is; passes = rest.passes })
    ]

pub behind : (a b : Bool) → b ≡ true → (a || b) ≡ true
behind true b h = refl
behind false b h = h

pub before : (a b : Bool) → a ≡ true → (a || b) ≡ true
before a b h = ap (λ c. c || b) h

pub both : (a b : Bool) → a ≡ true → b ≡ true → (a && b) ≡ true
both a b h g = ap₂ (λ x y. x && y) h g

pub any_of : {X : Type 0} (test : X → Bool) (xs : List X) (at : ℕ) (item : X) → slice_get xs at ≡ Some item → test item ≡ true → list_any test xs ≡ true
any_of test [] at item is passes = absurd (cc is)
any_of test (x ∷ xs) zero item is passes =
    let same : x ≡ item = some_is is in
    let here = ap test same ∙ passes in
    ap (λ b. b || list_any test xs) here
  where
    some_is : {X : Type 0} {a b : X} → Some a ≡ Some b → a ≡ b
    some_is h = cc
any_of test (x ∷ xs) (suc at) item is passes = behind (test x) (list_any test xs) (any_of test xs at item is passes)

any_first : {X : Type 0} (test : X → Bool) (xs ys : List X) → list_any test xs ≡ true → list_any test (xs ++ ys) ≡ true
any_first test [] ys any = absurd (cc any)
any_first test (x ∷ xs) ys any =
    elim (or_cases (test x) (list_any test xs) any) [
      | inl here ↦ before (test x) (list_any test (xs ++ ys)) here
      | inr later ↦ behind (test x) (list_any test (xs ++ ys)) (any_first test xs ys later)
    ]

any_last : {X : Type 0} (test : X → Bool) (xs ys : List X) → list_any test ys ≡ true → list_any test (xs ++ ys) ≡ true
any_last test [] ys any = any
any_last test (x ∷ xs) ys any = behind (test x) (list_any test (xs ++ ys)) (any_last test xs ys any)

any_mapped : {X Y : Type 0} (test : Y → Bool) (f : X → Y) (xs : List X) (at : ℕ) (x : X) → slice_get xs at ≡ Some x → test (f x) ≡ true → list_any test (map f xs) ≡ true
any_mapped test f [] at x is passes = absurd (cc is)
any_mapped test f (y ∷ xs) zero x is passes =
    let same : y ≡ x = some_is is in
    before (test (f y)) (list_any test (map f xs)) (ap (λ z. test (f z)) same ∙ passes)
  where
    some_is : {X : Type 0} {a b : X} → Some a ≡ Some b → a ≡ b
    some_is h = cc
any_mapped test f (y ∷ xs) (suc at) x is passes = behind (test (f y)) (list_any test (map f xs)) (any_mapped test f xs at x is passes)

any_flat : {X Y : Type 0} (test : Y → Bool) (f : X → List Y) (xs : List X) (at : ℕ) (x : X) → slice_get xs at ≡ Some x → list_any test (f x) ≡ true → list_any test (flat_map f xs) ≡ true
any_flat test f [] at x is passes = absurd (cc is)
any_flat test f (y ∷ xs) zero x is passes =
    let same : y ≡ x = some_is is in
    any_first test (f y) (flat_map f xs) (ap (λ z. list_any test (f z)) same ∙ passes)
  where
    some_is : {X : Type 0} {a b : X} → Some a ≡ Some b → a ≡ b
    some_is h = cc
any_flat test f (y ∷ xs) (suc at) x is passes = any_last test (f y) (flat_map f xs) (any_flat test f xs at x is passes)

-- a number below another stands among those below it
pub is_below : (from count at : ℕ) → at < count → slice_get (range_with_len from count) at ≡ Some (from + at)
is_below from zero at low = absurd (omega (arith, low))
is_below from (suc count) zero low = let same : from ≡ from + 0 = omega arith in ap Some same
is_below from (suc count) (suc at) low = let same : (from + 1) + at ≡ from + suc at = omega arith in is_below (from + 1) count at (omega (arith, low)) ∙ ap Some same

among_below : (count at : ℕ) → at < count → slice_get (below count) at ≡ Some at
among_below count at low = let same : 0 + at ≡ at = omega arith in is_below 0 count at low ∙ ap Some same

-- ---- files

not_so : (b : Bool) → not b ≡ true → b ≡ false
not_so true e = absurd (cc e)
not_so false e = refl

above_some : (xs : List ℕ) (level : ℕ) → level < length xs → is_empty xs ≡ false
above_some [] level low = absurd (omega (arith, low))
above_some (x ∷ xs) level low = refl

module _ (cat : Catalog) (tree : IsTree cat.schema) (order : LieInOrder cat) (test : File → Bool) where
  in_table : (table : ℕ) → table < length cat.schema → list_any test (files_of_table cat.schema table) ≡ true → list_any test (files_in cat.schema) ≡ true
  in_table table there any = any_flat test (files_of_table cat.schema) (tables_of cat.schema) table table (among_below (length cat.schema) table there) any

  in_column : (table column : ℕ) → is_hidden cat.schema table column ≡ true → list_any test (files_of_column cat.schema table column) ≡ true → list_any test (files_in cat.schema) ≡ true
  in_column table column h any =
      let there = order.there_are table column h in
      let levels = map (IdLevel table) (below (length (above_of cat.schema table))) in
      let columns = flat_map (files_of_column cat.schema table) (below (length (columns_of cat.schema table))) in
      let here = any_flat test (files_of_column cat.schema table) (below (length (columns_of cat.schema table))) column column (among_below (length (columns_of cat.schema table)) column there.1) any in
      in_table table there.0
      (behind (test (Subtrees table)) (test (IdDirectory table) || list_any test (levels ++ columns))
      (behind (test (IdDirectory table)) (list_any test (levels ++ columns)) (any_last test levels columns here)))

  pub listed : (file : File) → has_file cat.schema file ≡ true → test file ≡ true → list_any test (files_in cat.schema) ≡ true
  listed (Cells table column) has is = in_column table column has (any_of test (files_of_column cat.schema table column) 0 (Cells table column) refl is)
  listed (Subtrees table) has is =
      in_table table (high_is_table cat.schema table (not_so (is_empty (descendants_of cat.schema table)) has)) (any_of test (files_of_table cat.schema table) 0 (Subtrees table) refl is)
  listed (IndexHeader table column) has is = in_column table column has (any_of test (files_of_column cat.schema table column) 1 (IndexHeader table column) refl is)
  listed (IndexDirectory table column) has is = in_column table column has (any_of test (files_of_column cat.schema table column) 2 (IndexDirectory table column) refl is)
  listed (IndexLevel table column level) has is =
      let parts = and_parts (is_hidden cat.schema table column) (nat_lt level (length (levels_of cat.schema table))) has in
      let low = ltb-true level (length (levels_of cat.schema table)) parts.1 in
      let levels = map (IndexLevel table column) (below (length (levels_of cat.schema table))) in
      let here = any_mapped test (IndexLevel table column) (below (length (levels_of cat.schema table))) level level (among_below (length (levels_of cat.schema table)) level low) is in
      in_column table column parts.0
      (behind (test (Cells table column)) (test (IndexHeader table column) || (test (IndexDirectory table column) || list_any test levels))
      (behind (test (IndexHeader table column)) (test (IndexDirectory table column) || list_any test levels) (behind (test (IndexDirectory table column)) (list_any test levels) here)))
  listed (IdDirectory table) has is =
      in_table table (low_is_table cat.schema tree table (not_so (is_empty (above_of cat.schema table)) has)) (any_of test (files_of_table cat.schema table) 1 (IdDirectory table) refl is)
  listed (IdLevel table level) has is =
      let low = ltb-true level (length (above_of cat.schema table)) has in
      let there = low_is_table cat.schema tree table (above_some (above_of cat.schema table) level low) in
      let levels = map (IdLevel table) (below (length (above_of cat.schema table))) in
      let columns = flat_map (files_of_column cat.schema table) (below (length (columns_of cat.schema table))) in
      let here = any_mapped test (IdLevel table) (below (length (above_of cat.schema table))) level level (among_below (length (above_of cat.schema table)) level low) is in
      in_table table there
      (behind (test (Subtrees table)) (test (IdDirectory table) || list_any test (levels ++ columns))
      (behind (test (IdDirectory table)) (list_any test (levels ++ columns)) (any_first test levels columns here)))

-- ---- runs

pub same_run : (run : Run) → is_same_run run run ≡ true
same_run run =
    both (nat_eq run.first run.first) (nat_eq run.count run.count && nat_eq run.width run.width) (eq-eqb run.first run.first refl)
    (both (nat_eq run.count run.count) (nat_eq run.width run.width) (eq-eqb run.count run.count refl) (eq-eqb run.width run.width refl))

pub run_is : (run other : Run) → is_same_run run other ≡ true → run ≡ other
run_is run other is =
    let first = and_parts (nat_eq run.first other.first) (nat_eq run.count other.count && nat_eq run.width other.width) is in
    let rest = and_parts (nat_eq run.count other.count) (nat_eq run.width other.width) first.1 in
    let a = eqb-true run.first other.first first.0 in
    let b = eqb-true run.count other.count rest.0 in
    let c = eqb-true run.width other.width rest.1 in
    λ i. record { first = a i; count = b i; width = c i }
