-- The bytes of the tables before one, and of those that are left.
use Rattle.std.proofs.Common.{◌≡◌, ◌≤◌, ◌<◌, ◌+◌, ◌*◌, ◌∙◌, ℕ, zero, suc, List, [], ◌∷◌, length, drop, get_or, min, Some, None, inl, inr, refl, sym, ap, arith, add-one}
use Rattle.std.specs.Prelude.{◌-◌, ◌^◌, ◌⊎◌, slice_get, true, false}
use Rattle.std.proofs.Math.Dec.{leb}
use Rattle.std.proofs.Math.Nat.{min-eq_left, min-eq_right, min-le_right}
use Rattle.std.proofs.lemmas.Bool.Decides.{leb_tells}
use Rattle.std.proofs.lemmas.List.{drop_all, length-map}
use Rattle.std.proofs.lemmas.Option.{slice_get-get_or}
use Rattle.std.proofs.lemmas.Grind.{common_steps}
use Rattle.ghost_model.specs.core.Schema as schema
use Rattle.ghost_model.specs.laws.SchemaTrees.{identifier}
use Rattle.ghost_model.specs.core.Values.{Rows}
use Rattle.tree_schema.specs.declared.schema.Column.{Column}
use Rattle.tree_schema.specs.Views.{column_of}
use Rattle.csv_split.specs.ImageLengths.{column_bytes, counted, row_bytes, tables_bytes}
use Rattle.csv_split.specs.Reading.{columns_of}
use Rattle.csv_split.proofs.FieldPlaces.{next}
use Rattle.csv_split.proofs.Headers.{column_there}

-- the bytes before and those that are left are all bytes, as they are counted
pub record IsWidthSoFar (declared : List Column) (i width : ℕ) : Type 0 where
  pub exact : counted (width + row_bytes (drop i (columns_of declared))) ≡ counted (row_bytes (columns_of declared))
  pub fits : counted width ≡ width

-- what was counted may be counted again with more
again : (bound a b : ℕ) → min (min a bound + b) bound ≡ min (a + b) bound
again bound a b = by (leb_tells a bound)
  where
    by : ((leb a bound ≡ true) × (a ≤ bound)) ⊎ ((leb a bound ≡ false) × (bound < a)) → min (min a bound + b) bound ≡ min (a + b) bound
    by (inl small) = ap (λ n. min (n + b) bound) (min-eq_left small.1)
    by (inr large) =
        ap (λ n. min (n + b) bound) (min-eq_right (omega (arith, large.1)))
        ∙ min-eq_right (omega arith) ∙ sym (min-eq_right (omega (arith, large.1)))

again_times : (bound a rows : ℕ) → min (min a bound * rows) bound ≡ min (a * rows) bound
again_times bound a zero = ap (λ n. min n bound) (none (min a bound) ∙ sym (none a))
  where
    none : (n : ℕ) → n * zero ≡ 0
    none n = omega arith
again_times bound a (suc rows) = by (leb_tells a bound)
  where
    more : (n : ℕ) → bound ≤ n → bound ≤ n * suc rows
    more n most = grind (arith, common_steps, most)

    by : ((leb a bound ≡ true) × (a ≤ bound)) ⊎ ((leb a bound ≡ false) × (bound < a)) → min (min a bound * suc rows) bound ≡ min (a * suc rows) bound
    by (inl small) = ap (λ n. min (n * suc rows) bound) (min-eq_left small.1)
    by (inr large) =
        ap (λ n. min (n * suc rows) bound) (min-eq_right (omega (arith, large.1)))
        ∙ min-eq_right (more bound (omega arith)) ∙ sym (min-eq_right (more a (omega (arith, large.1))))

counted_twice : (bound a : ℕ) → min (min a bound) bound ≡ min a bound
counted_twice bound a = min-eq_left (min-le_right a bound)

-- one number more, counted
one_more : (bound have more left rest whole sum : ℕ) → min (have + left) bound ≡ whole → left ≡ more + rest → sum ≡ min (have + min more bound) bound
    → min (sum + rest) bound ≡ whole
one_more bound have more left rest whole sum so_far is grown =
    ap (λ n. min (n + rest) bound) grown
    ∙ again bound (have + min more bound) rest
    ∙ ap (λ n. min n bound) (swap have (min more bound) rest)
    ∙ again bound more (have + rest)
    ∙ ap (λ n. min n bound) (swap_back have more rest)
    ∙ ap (λ n. min (have + n) bound) (sym is)
    ∙ so_far
  where
    swap : (a b c : ℕ) → a + b + c ≡ b + (a + c)
    swap a b c = omega arith

    swap_back : (a b c : ℕ) → b + (a + c) ≡ a + (b + c)
    swap_back a b c = omega arith

left_of : (declared : List Column) (i : ℕ) (column : Column) → i < length declared → column ≡ get_or declared i column
    → row_bytes (drop i (columns_of declared)) ≡ column_bytes (column_of column) + row_bytes (drop (i + 1) (columns_of declared))
left_of declared i column within is =
    let wide : length (columns_of declared) ≡ length declared = length-map declared column_of in
    ap row_bytes (next (columns_of declared) i identifier (omega arith) ∙ ap (λ (one : schema.Column). one ∷ drop (i + 1) (columns_of declared)) (column_there declared i column within is))

pub one_width : (declared : List Column) (i width more : ℕ) (column : Column) → IsWidthSoFar declared i width → i < length declared → column ≡ get_or declared i column
    → more ≡ counted (width + column_bytes (column_of column)) → IsWidthSoFar declared (i + 1) more
one_width declared i width more column so_far within is grown = record {
  exact = again_here;
  fits = ap counted grown ∙ counted_twice (2 ^ 64 - 1) (width + column_bytes (column_of column)) ∙ sym grown;
}
  where
    sum : (a b c : ℕ) → a + b + c ≡ a + (b + c)
    sum a b c = omega arith

    again_here : counted (more + row_bytes (drop (i + 1) (columns_of declared))) ≡ counted (row_bytes (columns_of declared))
    again_here =
        ap (λ n. counted (n + row_bytes (drop (i + 1) (columns_of declared)))) grown
        ∙ again (2 ^ 64 - 1) (width + column_bytes (column_of column)) (row_bytes (drop (i + 1) (columns_of declared)))
        ∙ ap counted (sum width (column_bytes (column_of column)) (row_bytes (drop (i + 1) (columns_of declared))))
        ∙ ap (λ n. counted (width + n)) (sym (left_of declared i column within is))
        ∙ so_far.exact

pub all_widths : (declared : List Column) (i width : ℕ) → IsWidthSoFar declared i width → length declared ≤ i → width ≡ counted (row_bytes (columns_of declared))
all_widths declared i width so_far past =
    let wide : length (columns_of declared) ≡ length declared = length-map declared column_of in
    let none : drop i (columns_of declared) ≡ [] = drop_all i (columns_of declared) (omega arith) in
    let zero : width + row_bytes (drop i (columns_of declared)) ≡ width = ap (λ columns. width + row_bytes columns) none ∙ no_more width in
    sym so_far.fits ∙ ap counted (sym zero) ∙ so_far.exact
  where
    no_more : (n : ℕ) → n + 0 ≡ n
    no_more n = omega arith

pub record IsLengthSoFar (tables : schema.Schema) (visible : List Rows) (head i len : ℕ) : Type 0 where
  pub exact : counted (len + tables_bytes (drop i tables) (drop i visible)) ≡ counted (head + tables_bytes tables visible)
  pub fits : counted len ≡ len

nowhere : schema.Table
nowhere = record { name = []; columns = [] }

there_after : (visible : List Rows) (i : ℕ) (rows : Rows) → Some rows ≡ slice_get visible i → drop i visible ≡ rows ∷ drop (suc i) visible
there_after [] i rows there = cc there
there_after (other ∷ visible) zero rows there = cc there
there_after (other ∷ visible) (suc i) rows there = there_after visible i rows there

none_left : (visible : List Rows) (i : ℕ) → None ≡ slice_get visible i → drop i visible ≡ []
none_left [] i past = drop_all i _ (omega arith)
none_left (rows ∷ visible) zero past = cc past
none_left (rows ∷ visible) (suc i) past = none_left visible i past

none_after : (visible : List Rows) (i : ℕ) → None ≡ slice_get visible i → drop (suc i) visible ≡ []
none_after [] i past = refl
none_after (rows ∷ visible) zero past = cc past
none_after (rows ∷ visible) (suc i) past = none_after visible i past

no_bytes : (tables : schema.Schema) → tables_bytes tables [] ≡ 0
no_bytes [] = refl
no_bytes (table ∷ tables) = refl

pub scaled : (bound width whole rows sum : ℕ) → width ≡ min whole bound → sum ≡ min (width * rows) bound → sum ≡ min (whole * rows) bound
scaled bound width whole rows sum is times = times ∙ ap (λ n. min (n * rows) bound) is ∙ again_times bound whole rows

pub one_length : (tables : schema.Schema) (visible : List Rows) (head i len more : ℕ) (declared : List schema.Column) (rows : Rows) → IsLengthSoFar tables visible head i len
    → i < length tables → identifier ∷ declared ≡ schema.columns_of tables i → Some rows ≡ slice_get visible i
    → more ≡ counted (len + counted (row_bytes declared * length rows)) → IsLengthSoFar tables visible head (i + 1) more
one_length tables visible head i len more declared rows so_far within are there grown =
    let table = get_or tables i nowhere in
    let columns_are : table.columns ≡ identifier ∷ declared = sym (ap schema.columns_or_none (slice_get-get_or tables i nowhere within)) ∙ sym are in
    let left : tables_bytes (drop i tables) (drop i visible) ≡ row_bytes declared * length rows + tables_bytes (drop (i + 1) tables) (drop (i + 1) visible) =
    ap (λ tables. tables_bytes tables (drop i visible)) (next tables i nowhere within)
    ∙ ap (λ visible. tables_bytes (table ∷ drop (i + 1) tables) visible) (there_after visible i rows there ∙ ap (λ n. rows ∷ drop n visible) (sym (add-one i)))
    ∙ ap (λ columns. row_bytes (drop 1 columns) * length rows + tables_bytes (drop (i + 1) tables) (drop (i + 1) visible)) columns_are in
    record {
      exact = one_more (2 ^ 64 - 1) len (row_bytes declared * length rows) (tables_bytes (drop i tables) (drop i visible)) (tables_bytes (drop (i + 1) tables) (drop (i + 1) visible))
          (counted (head + tables_bytes tables visible)) more so_far.exact left grown;
      fits = ap counted grown ∙ counted_twice (2 ^ 64 - 1) (len + counted (row_bytes declared * length rows)) ∙ sym grown;
    }

pub no_table : (tables : schema.Schema) (visible : List Rows) (head i len : ℕ) → IsLengthSoFar tables visible head i len → None ≡ slice_get visible i → IsLengthSoFar tables visible head (i + 1) len
no_table tables visible head i len so_far past =
    let now : tables_bytes (drop (i + 1) tables) (drop (i + 1) visible) ≡ 0 =
    ap (λ visible. tables_bytes (drop (i + 1) tables) visible) (ap (λ n. drop n visible) (add-one i) ∙ none_after visible i past) ∙ no_bytes (drop (i + 1) tables) in
    let before : tables_bytes (drop i tables) (drop i visible) ≡ 0 = ap (tables_bytes (drop i tables)) (none_left visible i past) ∙ no_bytes (drop i tables) in
    record { exact = ap (λ n. counted (len + n)) (now ∙ sym before) ∙ so_far.exact; fits = so_far.fits }

pub all_lengths : (tables : schema.Schema) (visible : List Rows) (head i len : ℕ) → IsLengthSoFar tables visible head i len → length tables ≤ i
    → len ≡ counted (head + tables_bytes tables visible)
all_lengths tables visible head i len so_far past =
    let none : drop i tables ≡ [] = drop_all i tables past in
    let zero : len + tables_bytes (drop i tables) (drop i visible) ≡ len = ap (λ tables. len + tables_bytes tables (drop i visible)) none ∙ no_more len in
    sym so_far.fits ∙ ap counted (sym zero) ∙ so_far.exact
  where
    no_more : (n : ℕ) → n + 0 ≡ n
    no_more n = omega arith
