-- Such a database of pages.
use Rattle.std.proofs.Common.{◌≡◌, refl, ap, sym, ◌∙◌, subst, pos, ℕ, zero, suc, ◌+◌, ◌<◌, ◌≤◌, true, List, [], ◌∷◌, length, map, drop, filter, Option, Some, None, slice_get, slice_index, unwrap_or, option_and_then, arith, lt-ltb}
use Rattle.std.specs.Prelude.{option_map, ◌^◌}
use Rattle.std.proofs.lemmas.List.{length-map}
use Rattle.ghost_model.specs.core.Schema.{Column, Integer, columns_of, columns_or_none, column_at}
use Rattle.ghost_model.specs.core.Values.{Value, Number, Row, Rows, Database}
use Rattle.ghost_model.specs.core.Channel.{Catalog}
use Rattle.ghost_model.specs.core.Database.{IsDatabase, rows_of, row_of, row_count, row_counts, is_of_kind, is_row_among, value_at_row}
use Rattle.ghost_model.specs.core.Asks.{kind_or_none}
use Rattle.ghost_model.specs.core.Split.{Public, IsPublic, public_of, is_open, kind_of_column, are_of_kinds}
use Rattle.ghost_model.specs.laws.ShortWords.{rows_or_none}
use Rattle.ghost_model.specs.laws.SplitByFlags.{PartsByFlags}
use Rattle.ghost_model.specs.laws.SchemaTrees.{IsTree, identifier}
use Rattle.ghost_model.specs.forms.Layout.{is_hidden, count_of}
use Rattle.ghost_model.specs.forms.Slots.{child_at, child_or_none, child_rows, is_in_range}
use Rattle.ghost_model.proofs.FlashLemmas.Values.{count_there, not_hidden}
use Rattle.ghost_model.proofs.LayoutLemmas.Columns.{hidden_or_none}
use Rattle.ghost_model.proofs.MeaningLemmas.Leading.{get_within}
use Rattle.key_exec.specs.Filled.{CanHaveRows, MayStand}
use Rattle.key_exec.proofs.FilledRows.{tables_made, rows_made, row_made, values_count, given_there, kinds_there, GivenKinds, made_at, tables_count, counts_made, table_at, shown_tables, IsRowMade}

-- a place of a list
pub within : {X : Type 0} (xs : List X) (place : ℕ) (x : X) → slice_get xs place ≡ Some x → place < length xs
within [] place x h = absurd (cc (h))
within (one ∷ xs) zero x h = omega arith
within (one ∷ xs) (suc place) x h = let low = within xs place x h in omega (arith, low)

-- some value of an option that has one
pub then_some : {X Y : Type 0} (f : X → Option Y) (o : Option X) (y : Y) → option_and_then f o ≡ Some y → (x : X) × (o ≡ Some x) × (f x ≡ Some y)
then_some f None y h = absurd (cc (h))
then_some f (Some x) y h = (x, refl, h)

one_before : (columns : List Column) (column : Column) → slice_get columns 0 ≡ Some column → suc (length (drop 1 columns)) ≡ length columns
one_before [] column h = absurd (cc (h))
one_before (one ∷ columns) column h = refl

next_of : (columns : List Column) (place : ℕ) → slice_get (drop 1 columns) place ≡ slice_get columns (suc place)
next_of [] place = refl
next_of (one ∷ columns) place = refl

within_tables : (tables : List Rows) (table place : ℕ) (row : Row) → slice_get (rows_or_none (slice_get tables table)) place ≡ Some row → table < length tables
within_tables [] table place row h = absurd (cc (h))
within_tables (rows ∷ tables) zero place row h = omega arith
within_tables (rows ∷ tables) (suc table) place row h = let low = within_tables tables table place row h in omega (arith, low)

small_number : (n : ℕ) → n ≤ 1000000 → is_of_kind Integer (Number (pos n)) ≡ true
small_number n few = lt-ltb n (2 ^ 63) (omega (arith, few))

by_range : (o : Option ℕ) (rows : ℕ) (value : Value) → o ≡ Some rows → is_in_range o value ≡ true → is_row_among rows value ≡ true
by_range o rows value e range = subst (λ found. is_in_range found value ≡ true) e range

module _ (cat : Catalog) (public : Public) (given : (table column identifier : ℕ) → Value) (tree : IsTree cat.schema) (can : CanHaveRows cat) (is : IsPublic cat public)
    (small : (table : ℕ) → count_of cat table ≤ 1000000)
    (may : (table column identifier : ℕ) → is_hidden cat.schema table column ≡ true → 1 ≤ identifier → identifier ≤ count_of cat table → MayStand cat table column (given table column identifier)) where
  abbrev pub made : Database
  made = tables_made given 0 cat.schema public.visible

  as_many : length public.visible ≡ length cat.schema
  as_many = sym (length-map public.visible length) ∙ (ap length is.counted ∙ can.counted)

  shown_of : (table : ℕ) → Rows
  shown_of table = rows_or_none (slice_get public.visible table)

  rows_are : (table : ℕ) → rows_of made table ≡ rows_made (given table) (columns_of cat.schema table) 1 (rows_or_none (slice_get public.visible table))
  rows_are table =
      let e : 0 + table ≡ table = omega arith in
      table_at given 0 cat.schema public.visible table as_many
      ∙ ap (λ n. rows_made (given n) (columns_of cat.schema table) 1 (rows_or_none (slice_get public.visible table))) e

  shown_count : (table : ℕ) → length (rows_or_none (slice_get public.visible table)) ≡ count_of cat table
  shown_count table = sym (count_there public.visible table) ∙ ap (λ counts. slice_index counts table) is.counted

  pub counts_are : row_counts made ≡ cat.counts
  counts_are = counts_made given 0 cat.schema public.visible as_many ∙ is.counted

  count_is : (table : ℕ) → row_count made table ≡ count_of cat table
  count_is table = sym (count_there made table) ∙ ap (λ counts. slice_index counts table) counts_are

  -- a row that is made
  record IsMade (table place : ℕ) (row : Row) : Type 0 where
    shown : Row
    there : slice_get (rows_or_none (slice_get public.visible table)) place ≡ Some shown
    is_row : row ≡ row_made (λ column. given table column (suc place)) (columns_of cat.schema table) (suc place) shown
    low : table < length cat.schema
    few : suc place ≤ count_of cat table

  row_is : (table place : ℕ) (row : Row) → slice_get (rows_of made table) place ≡ Some row → IsMade table place row
  row_is table place row h =
      let found : IsRowMade (given table) (columns_of cat.schema table) (rows_or_none (slice_get public.visible table)) 1 place row =
      made_at (given table) (columns_of cat.schema table) 1 (rows_or_none (slice_get public.visible table)) place row (sym (ap (λ (rows : Rows). slice_get rows place) (rows_are table)) ∙ h) in
      let e : 1 + place ≡ suc place = omega arith in
      let low = within_tables public.visible table place found.shown found.there in
      let many = as_many in
      let less = within (rows_or_none (slice_get public.visible table)) place found.shown found.there in
      let count = shown_count table in
      record {
        shown = found.shown;
        there = found.there;
        is_row = found.is ∙ ap (λ n. row_made (λ column. given table column n) (columns_of cat.schema table) n found.shown) e;
        low = omega (arith, low, many);
        few = omega (arith, less, count);
      }

  -- the kinds of what was given
  kinds_given : (table place : ℕ) → suc place ≤ count_of cat table → GivenKinds (λ column. given table column (suc place)) 1 (drop 1 (columns_of cat.schema table))
  kinds_given table place few p declared there hidden =
      let e : 1 + p ≡ suc p = omega arith in
      let at : slice_get (columns_of cat.schema table) (suc p) ≡ Some declared = sym (next_of (columns_of cat.schema table) p) ∙ there in
      let h : is_hidden cat.schema table (suc p) ≡ true = ap hidden_or_none at ∙ hidden in
      let stands = may table (suc p) (suc place) h (omega arith) few in
      subst (λ n. is_of_kind declared.kind (given table n (suc place)) ≡ true) (sym e)
      (subst (λ o. is_of_kind (kind_or_none o) (given table (suc p) (suc place)) ≡ true) at stands.kind)

  kinds_shown : (table place : ℕ) (row : Row) → table < length cat.schema → slice_get (rows_or_none (slice_get public.visible table)) place ≡ Some row
      → are_of_kinds (map kind_of_column (filter is_open (drop 1 (columns_of cat.schema table)))) row ≡ true
  kinds_shown table place row low there =
      let held = get_within cat.schema table low in
      let columns : columns_of cat.schema table ≡ held.0.columns = ap columns_or_none held.1 in
      subst (λ cs. are_of_kinds (map kind_of_column (filter is_open (drop 1 cs))) row ≡ true) (sym columns) (is.kinds table place held.0 row held.1 there)

  -- a hidden value of a row
  hidden_in : (table column place : ℕ) (row : Row) → is_hidden cat.schema table column ≡ true → IsMade table place row → slice_get row column ≡ Some (given table column (suc place))
  hidden_in table zero place row h one = absurd (not_hidden (column_at cat.schema table 0) (tree.begins_with_id table one.low) h)
  hidden_in table (suc column) place row h one =
      let e : 1 + column ≡ suc column = omega arith in
      ap (λ r. slice_get r (suc column)) one.is_row
      ∙ (given_there (λ c. given table c (suc place)) 1 (drop 1 (columns_of cat.schema table)) column (ap hidden_or_none (next_of (columns_of cat.schema table) column) ∙ h) one.shown
      ∙ ap (λ n. Some (given table n (suc place))) e)

  pub value_is : (table column identifier : ℕ) → is_hidden cat.schema table column ≡ true → 1 ≤ identifier → identifier ≤ count_of cat table
      → value_at_row made table identifier column ≡ Some (given table column identifier)
  value_is table column zero h some few = absurd (omega (arith, some))
  value_is table column (suc place) h some few =
      let count = count_is table in
      let found = get_within (rows_of made table) place (omega (arith, few, count)) in
      ap (λ o. option_and_then (λ (row : Row). slice_get row column) o) found.1
      ∙ hidden_in table column place found.0 h (row_is table place found.0 found.1)

  kind_is : (table place column : ℕ) (row : Row) (value : Value) (declared : Column) → IsMade table place row → slice_get row column ≡ Some value
      → column_at cat.schema table column ≡ Some declared → is_of_kind declared.kind value ≡ true
  kind_is table place zero row value declared one found at =
      let number : Number (pos (suc place)) ≡ value = ap (λ o. unwrap_or o value) (sym (ap (λ r. slice_get r 0) one.is_row) ∙ found) in
      let same : identifier ≡ declared = ap (λ o. unwrap_or o declared) (sym (tree.begins_with_id table one.low) ∙ at) in
      let few = one.few in
      let most = small table in
      subst (λ (d : Column). is_of_kind d.kind value ≡ true) same
      (subst (λ v. is_of_kind Integer v ≡ true) number (small_number (suc place) (omega (arith, few, most))))
  kind_is table place (suc column) row value declared one found at =
      kinds_there (λ c. given table c (suc place)) 1 (drop 1 (columns_of cat.schema table)) (kinds_given table place one.few) one.shown
      (kinds_shown table place one.shown one.low one.there) column value declared
      (sym (ap (λ r. slice_get r (suc column)) one.is_row) ∙ found) (next_of (columns_of cat.schema table) column ∙ at)

  pub is_database : IsDatabase cat.schema made
  is_database = record {
    tables = tables_count given 0 cat.schema public.visible as_many;
    widths = λ table id row h. width table id row h;
    identifiers = λ table id row h. number table id row h;
    kinds = λ table id column value declared found at. kind table id column value declared found at;
    references = λ table id column child value declared found at names. reference table id column child value declared found at names;
  }
    where
      width : (table id : ℕ) (row : Row) → row_of made table id ≡ Some row → length row ≡ length (columns_of cat.schema table)
      width table zero row h = absurd (cc (h))
      width table (suc place) row h =
          let one = row_is table place row h in
          ap length one.is_row ∙ (ap suc (values_count (λ c. given table c (suc place)) 1 (drop 1 (columns_of cat.schema table)) one.shown)
          ∙ one_before (columns_of cat.schema table) identifier (tree.begins_with_id table one.low))

      number : (table id : ℕ) (row : Row) → row_of made table id ≡ Some row → slice_get row 0 ≡ Some (Number (pos id))
      number table zero row h = absurd (cc (h))
      number table (suc place) row h = let one = row_is table place row h in ap (λ r. slice_get r 0) one.is_row

      kind : (table id column : ℕ) (value : Value) (declared : Column) → value_at_row made table id column ≡ Some value → column_at cat.schema table column ≡ Some declared → is_of_kind declared.kind value ≡ true
      kind table zero column value declared found at = absurd (cc (found))
      kind table (suc place) column value declared found at =
          let row = then_some (λ (r : Row). slice_get r column) (slice_get (rows_of made table) place) value found in
          kind_is table place column row.0 value declared (row_is table place row.0 row.1) row.2 at

      reference : (table id column child : ℕ) (value : Value) (declared : Column) → value_at_row made table id column ≡ Some value → column_at cat.schema table column ≡ Some declared
          → declared.child ≡ Some child → is_row_among (row_count made child) value ≡ true
      reference table zero column child value declared found at names = absurd (cc (found))
      reference table (suc place) column child value declared found at names =
          let row = then_some (λ (r : Row). slice_get r column) (slice_get (rows_of made table) place) value found in
          let one = row_is table place row.0 row.1 in
          let h : is_hidden cat.schema table column ≡ true = ap hidden_or_none at ∙ tree.references_are_hidden table column child declared at names in
          let same : given table column (suc place) ≡ value = ap (λ o. unwrap_or o value) (sym (hidden_in table column place row.0 h one) ∙ row.2) in
          let named : child_at cat.schema table column ≡ Some child = ap child_or_none at ∙ names in
          let stands = may table column (suc place) h (omega arith) one.few in
          subst (λ n. is_row_among n value ≡ true) (sym (count_is child))
          (subst (λ v. is_row_among (count_of cat child) v ≡ true) same
          (by_range (child_rows cat table column) (count_of cat child) (given table column (suc place)) (ap (option_map (count_of cat)) named) stands.range))

  pub public_is : PartsByFlags → public_of cat.schema made ≡ public
  public_is parts =
      let same : (public_of cat.schema made).visible ≡ public.visible =
      parts.visible cat.schema made
      ∙ shown_tables given 0 cat.schema public.visible as_many (λ table declared held place row there. is.kinds table place declared row held there) in
      ap (λ (visible : List Rows). record { visible = visible }) same
