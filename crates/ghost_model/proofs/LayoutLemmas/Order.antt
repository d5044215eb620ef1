-- Where the files of tables and columns lie to one another.
use Rattle.std.proofs.Common.{◌≡◌, refl, ap, ◌∙◌, ℕ, zero, suc, ◌+◌, ◌*◌, ◌<◌, ◌≤◌, Bool, true, false, cond, ◌==◌, inl, inr, [], ◌∷◌, ◌++◌, length, filter, sum_by, arith}
use Rattle.std.specs.List.{range_with_len}
use Rattle.std.proofs.lemmas.List.{length-append}
use Rattle.std.proofs.lemmas.List.Elements.{filter-append}
use Rattle.std.proofs.lemmas.List.Sums.{sum_by-cons, sum_by-append}
use Rattle.std.proofs.lemmas.Bool.{cases_lt}
use Rattle.std.proofs.Math.Nat.{mul-le-mul_right}
use Rattle.ghost_model.specs.core.Schema.{is_visible}
use Rattle.ghost_model.specs.core.Channel.{Catalog}
use Rattle.ghost_model.specs.forms.Runs.{run_pages, run_end}
use Rattle.ghost_model.specs.forms.Layout.{below, is_hidden, is_below, width_at, first_page, files_end, catalog_pages, public_pages, spool_pages, scratch_count, scratch_pages, column_file}
use Rattle.ghost_model.specs.laws.ShortWords.{column_count}
use Rattle.ghost_model.specs.laws.LayoutSums.{column_pages, column_begin, index_pages, table_pages, table_begin, subtree_begin}
use Rattle.ghost_model.specs.laws.LayoutLaws.{LieInOrder}
use Rattle.ghost_model.proofs.LayoutLemmas.Numbers.{more_times}
use Rattle.ghost_model.proofs.LayoutLemmas.Following.{sum_below}
use Rattle.ghost_model.proofs.LayoutLemmas.Places.{table_there, column_there, lie_as_summed, end_is}

pub sum_next : (g : ℕ → ℕ) (n : ℕ) → sum_by g (below (n + 1)) ≡ sum_by g (below n) + g n
sum_next g n = let e : n + 1 ≡ suc n = omega arith in ap (λ k. sum_by g (below k)) e ∙ sum_below g n

pub sums_rise : (g : ℕ → ℕ) (n m : ℕ) → n ≤ m → sum_by g (below n) ≤ sum_by g (below m)
sums_rise g n zero low = let e : n ≡ 0 = omega (arith, low) in let same = ap (λ k. sum_by g (below k)) e in omega (arith, same)
sums_rise g n (suc m) low =
    elim (cases_lt n (suc m)) [
      | inl less ↦ (let before = sums_rise g n m (omega (arith, less)) in let last = sum_below g m in omega (arith, before, last))
      | inr more ↦ (let e : n ≡ suc m = omega (arith, low, more) in let same = ap (λ k. sum_by g (below k)) e in omega (arith, same))
    ]

-- one number more among those that pass a test
range_more : (a n : ℕ) → range_with_len a (suc n) ≡ range_with_len a n ++ (a + n) ∷ []
range_more a zero = let e : a ≡ a + 0 = omega arith in ap (λ k. k ∷ []) e
range_more a (suc n) =
    let e : a + 1 + n ≡ a + suc n = omega arith in
    ap (λ ks. a ∷ ks) (range_more (a + 1) n ∙ ap (λ k. range_with_len (a + 1) n ++ k ∷ []) e)

below_more : (n : ℕ) → below (n + 1) ≡ below n ++ n ∷ []
below_more n =
    let e : n + 1 ≡ suc n = omega arith in
    let f : 0 + n ≡ n = omega arith in
    ap below e ∙ (range_more 0 n ∙ ap (λ k. below n ++ k ∷ []) f)

kept_sum : (g : ℕ → ℕ) (b : Bool) (k : ℕ) → sum_by g (cond b (k ∷ []) []) ≡ cond b (g k) 0
kept_sum g true k = let one = sum_by-cons g k [] in omega (arith, one)
kept_sum g false k = refl

kept_length : (b : Bool) (k : ℕ) → length (cond b (k ∷ []) []) ≡ cond b 1 0
kept_length true k = refl
kept_length false k = refl

next_sum : (test : ℕ → Bool) (g : ℕ → ℕ) (n : ℕ) → sum_by g (filter test (below (n + 1))) ≡ sum_by g (filter test (below n)) + cond (test n) (g n) 0
next_sum test g n =
    ap (λ ks. sum_by g (filter test ks)) (below_more n)
    ∙ (ap (sum_by g) (filter-append test (below n) (n ∷ []))
    ∙ (sum_by-append g (filter test (below n)) (filter test (n ∷ []))
    ∙ ap (λ k. sum_by g (filter test (below n)) + k) (kept_sum g (test n) n)))

next_length : (test : ℕ → Bool) (n : ℕ) → length (filter test (below (n + 1))) ≡ length (filter test (below n)) + cond (test n) 1 0
next_length test n =
    ap (λ ks. length (filter test ks)) (below_more n)
    ∙ (ap length (filter-append test (below n) (n ∷ []))
    ∙ (length-append (filter test (below n)) (filter test (n ∷ []))
    ∙ ap (λ k. length (filter test (below n)) + k) (kept_length (test n) n)))

module _ (cat : Catalog) where
  pub its_pages : (table column : ℕ) → is_hidden cat.schema table column ≡ true → column_pages cat table column ≡ run_pages (column_file cat table column)
  its_pages table column h = ap (λ b. cond b (run_pages (column_file cat table column)) 0) h

  ends_before : (table column later : ℕ) → is_hidden cat.schema table column ≡ true → column < later
      → run_end (column_file cat table column) ≤ column_begin cat table later
  ends_before table column later h low =
      let pages = its_pages table column h in
      let first = (lie_as_summed cat).column_file table column h in
      let next = sum_next (column_pages cat table) column in
      let rise = sums_rise (column_pages cat table) (column + 1) later (omega (arith, low)) in
      omega (arith, pages, first, next, rise)

  ends_within : (table column : ℕ) → is_hidden cat.schema table column ≡ true → run_end (column_file cat table column) ≤ subtree_begin cat table
  ends_within table column h = ends_before table column (column_count cat.schema table) h (column_there cat.schema table column h)

  ends_before_tables : (table later column : ℕ) → is_hidden cat.schema table column ≡ true → table < later
      → run_end (column_file cat table column) ≤ table_begin cat later
  ends_before_tables table later column h low =
      let within = ends_within table column h in
      let next = sum_next (table_pages cat) table in
      let rise = sums_rise (table_pages cat) (table + 1) later (omega (arith, low)) in
      omega (arith, within, next, rise)

  ends_at_files : (table column : ℕ) → is_hidden cat.schema table column ≡ true → run_end (column_file cat table column) ≤ files_end cat
  ends_at_files table column h =
      let within = ends_before_tables table (length cat.schema) column h (table_there cat.schema table column h) in
      let end = end_is cat in
      omega (arith, within, end)

  behind_public : (table column : ℕ) → public_pages cat ≤ (column_file cat table column).first
  unfolding first_page
  behind_public table column = omega arith

  some_pages : public_pages cat ≤ files_end cat
  unfolding files_end
  some_pages = omega arith

  catalog_within : (first : Bool) → catalog_pages ≤ cond first catalog_pages 256
  catalog_within true = omega arith
  catalog_within false = omega arith

  six_areas : (first : Bool) → 6 ≤ cond first 6 8
  six_areas true = omega arith
  six_areas false = omega arith

  areas_within : (area count size : ℕ) → area < count → area * size + size ≤ count * size
  areas_within area count size low =
      let times = more_times area size in
      let all : (area + 1) * size ≤ count * size = mul-le-mul_right size (omega (arith, low)) in
      omega (arith, times, all)

  pub lie_in_order : LieInOrder cat
  lie_in_order = record {
    there_are = λ table column h. (table_there cat.schema table column h, column_there cat.schema table column h);
    next_table = λ table. let next = sum_next (table_pages cat) table in omega (arith, next);
    tables = λ table later low. let rise = sums_rise (table_pages cat) table later low in omega (arith, rise);
    next_column = λ table column. sum_next (column_pages cat table) column;
    next_index = λ table column. sum_next (index_pages cat table) column;
    next_spool = λ table. sum_next (spool_pages cat) table;
    next_visible = λ table column. next_sum (is_visible cat.schema table) (width_at cat.schema table) column;
    next_descendant = λ table other. next_length (is_below cat.schema table) other;
    column_files = ends_before;
    within_table = ends_within;
    before_tables = ends_before_tables;
    after_public = behind_public;
    within = ends_at_files;
    static = omega arith;
    spool = omega arith;
    scratch = omega arith;
    appended = omega arith;
    some = some_pages;
    catalog = catalog_within (cat.version == 1);
    six = six_areas (cat.version == 1);
    areas = λ area low. let within = areas_within area (scratch_count cat) (scratch_pages cat) low in omega (arith, within);
    rows = omega arith;
  }
