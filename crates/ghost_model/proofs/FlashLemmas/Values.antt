-- Values and cells of hidden columns by their places.
use Rattle.std.proofs.Common.{◌≡◌, refl, ap, sym, ◌∙◌, subst, ℕ, zero, suc, ◌+◌, Bool, true, false, not, cond, List, [], ◌∷◌, length, map, drop, filter, sum_by, count_by, slice_index, Option, Some, None, slice_get, option_and_then, unwrap_or, arith}
use Rattle.std.specs.Prelude.{if◌then◌else◌}
use Rattle.std.specs.List.{range_with_len}
use Rattle.std.specs.Option.{option_map, option_map_or}
use Rattle.std.proofs.lemmas.List.{length-map}
use Rattle.std.proofs.lemmas.List.Sums.{sum_by-cons}
use Rattle.std.proofs.lemmas.Option.{slice_get-map}
use Rattle.ghost_model.specs.core.Schema.{Schema, Column, Kind, columns_of, columns_or_none, column_at, places_from, is_shown}
use Rattle.ghost_model.specs.core.Values.{Value, Row, Rows, Database}
use Rattle.ghost_model.specs.core.Channel.{Catalog}
use Rattle.ghost_model.specs.laws.SchemaTrees.{IsTree, identifier}
use Rattle.ghost_model.specs.core.Database.{IsDatabase, is_of_kind, rows_of}
use Rattle.ghost_model.specs.laws.ShortWords.{rows_or_none}
use Rattle.ghost_model.specs.forms.Cells.{cell_width, encode_cell}
use Rattle.ghost_model.specs.readings.CellReading.{decode_cell}
use Rattle.ghost_model.specs.core.Asks.{kind_or_none, kind_at}
use Rattle.ghost_model.specs.core.Split.{Hidden, value_at, kind_of_column, are_of_kinds, hidden_of}
use Rattle.ghost_model.specs.laws.SplitByFlags.{hidden_flags, hidden_values}
use Rattle.ghost_model.proofs.MeaningLemmas.PartsByFlags.{hidden_rows_at}
use Rattle.ghost_model.specs.core.Replies.{hidden_places}
use Rattle.ghost_model.specs.forms.Layout.{below, is_hidden, count_of}
use Rattle.ghost_model.specs.forms.Flash.{hidden_rows, hidden_cell, hidden_cells}
use Rattle.ghost_model.specs.laws.FlashLaws.{GoesWith, hidden_before, CellsFit}
use Rattle.ghost_model.proofs.LayoutLemmas.Columns.{hidden_or_none, width_or_none}
use Rattle.ghost_model.proofs.ChannelLemmas.Asks.{cell_is_read, cell_length}
use Rattle.ghost_model.proofs.MeaningLemmas.Leading.{get_within}
use Rattle.ghost_model.proofs.SessionLemmas.Values.{at_itself, not_later, hidden_of_row}
use Rattle.ghost_model.proofs.LayoutLemmas.Places.{table_there}
use Rattle.ghost_model.proofs.ChannelLemmas.Tests.{BothHold, both_hold}

abbrev cell_if_any : Kind → Option Value → List ℕ
cell_if_any kind value = option_map_or (encode_cell kind) value []

is_kept : Column → Bool
is_kept column = column.hidden

-- how many of the first columns are hidden
unfoldable pub hidden_among : ℕ → List Column → ℕ
hidden_among zero columns = 0
hidden_among (suc place) [] = 0
hidden_among (suc place) (column ∷ columns) = cond column.hidden 1 0 + hidden_among place columns

shifted : (g : ℕ → ℕ) (a n : ℕ) → sum_by g (range_with_len (a + 1) n) ≡ sum_by (λ k. g (suc k)) (range_with_len a n)
shifted g a zero = refl
shifted g a (suc n) =
    let here = sum_by-cons g (a + 1) (range_with_len (a + 1 + 1) n) in
    let there = sum_by-cons (λ k. g (suc k)) a (range_with_len (a + 1) n) in
    let rest = shifted g (a + 1) n in
    let e : a + 1 ≡ suc a = omega arith in
    let same = ap g e in
    omega (arith, here, there, rest, same)

none_counted : (ks : List ℕ) → sum_by (λ k. 0) ks ≡ 0
none_counted [] = refl
none_counted (k ∷ ks) = let one = sum_by-cons (λ n. 0) k ks in let rest = none_counted ks in omega (arith, one, rest)

among_is : (columns : List Column) (place : ℕ) → count_by (λ k. hidden_or_none (slice_get columns k)) (below place) ≡ hidden_among place columns
unfolding hidden_among
among_is columns zero = refl
among_is [] (suc place) = none_counted (below (suc place))
among_is (column ∷ columns) (suc place) =
    let first = sum_by-cons (λ k. cond (hidden_or_none (slice_get (column ∷ columns) k)) 1 0) 0 (range_with_len (0 + 1) place) in
    let rest = shifted (λ k. cond (hidden_or_none (slice_get (column ∷ columns) k)) 1 0) 0 place in
    let later = among_is columns place in
    omega (arith, first, rest, later)

at_once : (b : Bool) (at : ℕ) (places : List ℕ) (row : Row) → b ≡ true → value_at (cond b (at ∷ places) places) row (at + 0) ≡ slice_get row 0
at_once true at places [] e = refl
at_once true at places (value ∷ row) e = ap (λ t. if t then Some value else value_at places row (at + 0)) (at_itself at)
at_once false at places row e = absurd (cc (e))

further_on : (b : Bool) (at place n : ℕ) (places : List ℕ) (row : Row)
    → ((values : Row) → value_at places values (at + suc place) ≡ slice_get values n)
    → value_at (cond b (at ∷ places) places) row (at + suc place) ≡ slice_get row (cond b 1 0 + n)
further_on true at place n places [] rest = refl
further_on true at place n places (value ∷ row) rest =
    let e : suc n ≡ 1 + n = omega arith in
    ap (λ t. if t then Some value else value_at places row (at + suc place)) (not_later at place)
    ∙ (rest row ∙ ap (slice_get (value ∷ row)) e)
further_on false at place n places row rest = let e : n ≡ 0 + n = omega arith in rest row ∙ ap (slice_get row) e

pub value_by_place : (at : ℕ) (columns : List Column) (place : ℕ) → hidden_or_none (slice_get columns place) ≡ true → (row : Row)
    → value_at (places_from (λ (c : Column). c.hidden) at columns) row (at + place) ≡ slice_get row (hidden_among place columns)
unfolding places_from hidden_among
value_by_place at [] place h row = absurd (cc (h))
value_by_place at (column ∷ columns) zero h row =
    at_once column.hidden at (places_from (λ (c : Column). c.hidden) (at + 1) columns) row h
value_by_place at (column ∷ columns) (suc place) h row =
    further_on column.hidden at place (hidden_among place columns) (places_from (λ (c : Column). c.hidden) (at + 1) columns) row
    (λ values. let e : at + suc place ≡ at + 1 + place = omega arith in
    ap (value_at (places_from (λ (c : Column). c.hidden) (at + 1) columns) values) e ∙ value_by_place (at + 1) columns place h values)

pub not_hidden : (o : Option Column) → o ≡ Some identifier → hidden_or_none o ≡ true → ⊥
not_hidden o e h = let clash : false ≡ true = sym (ap hidden_or_none e) ∙ h in absurd (cc (clash))

none_added : (b : Bool) (n : ℕ) → b ≡ false → n ≡ cond b 1 0 + n
none_added true n e = absurd (cc (e))
none_added false n e = omega arith

by_columns : (columns : List Column) → slice_get columns 0 ≡ Some identifier → (column : ℕ) → hidden_or_none (slice_get columns column) ≡ true → (row : Row)
    → value_at (places_from (λ (c : Column). c.hidden) 1 (drop 1 columns)) row column
    ≡ slice_get row (count_by (λ k. hidden_or_none (slice_get columns k)) (below column))
unfolding hidden_among
by_columns [] first column h row = absurd (cc (h))
by_columns (id ∷ columns) first zero h row = absurd (not_hidden (Some id) first h)
by_columns (id ∷ columns) first (suc place) h row =
    let e : suc place ≡ 1 + place = omega arith in
    let none : hidden_or_none (Some id) ≡ false = ap hidden_or_none first in
    let same = none_added (hidden_or_none (Some id)) (hidden_among place columns) none in
    ap (value_at (places_from (λ (c : Column). c.hidden) 1 columns) row) e
    ∙ (value_by_place 1 columns place h row
    ∙ ap (slice_get row) (same ∙ sym (among_is (id ∷ columns) (suc place))))

pub values_by_place : (schema : Schema) → IsTree schema → (table column : ℕ) → is_hidden schema table column ≡ true → (row : Row)
    → value_at (hidden_places schema table) row column ≡ slice_get row (hidden_before schema table column)
values_by_place schema tree table column h row =
    by_columns (columns_of schema table) (tree.begins_with_id table (table_there schema table column h)) column h row

-- the cells of a database's hidden part
shown_not : (o : Option Column) → hidden_or_none o ≡ true → is_shown o ≡ false
shown_not None h = refl
shown_not (Some column) h = ap not h

pub value_of_row : (columns : List Column) → slice_get columns 0 ≡ Some identifier → (column : ℕ) → hidden_or_none (slice_get columns column) ≡ true
    → (row : Row) → length row ≡ length columns
    → value_at (places_from (λ (c : Column). c.hidden) 1 (drop 1 columns)) (hidden_values (hidden_flags columns) (drop 1 row)) column ≡ slice_get row column
value_of_row columns first zero h row same = absurd (not_hidden (slice_get columns 0) first h)
value_of_row columns first (suc place) h row same = hidden_of_row columns row place same (shown_not (slice_get columns (suc place)) h)

map_both : (f : Row → List ℕ) (part : Row → Row) (g : Row → List ℕ) (rows : Rows)
    → ((place : ℕ) (row : Row) → slice_get rows place ≡ Some row → f (part row) ≡ g row) → map f (map part rows) ≡ map g rows
map_both f part g [] same = refl
map_both f part g (row ∷ rows) same =
    let one = same 0 row refl in
    let others = map_both f part g rows (λ place. same (suc place)) in
    λ i. one i ∷ others i

pub cells_of_databases : (schema : Schema) (database : Database) → IsTree schema → IsDatabase schema database
    → (table column : ℕ) → is_hidden schema table column ≡ true
    → hidden_cells schema (hidden_of schema database) table column
    ≡ map (λ row. cell_if_any (kind_at schema table column) (slice_get row column)) (rows_of database table)
cells_of_databases schema database tree is table column h =
    ap (map (hidden_cell schema table column)) (hidden_rows_at schema database is.tables table)
    ∙ map_both (hidden_cell schema table column) (λ row. hidden_values (hidden_flags (columns_of schema table)) (drop 1 row))
    (λ row. cell_if_any (kind_at schema table column) (slice_get row column)) (rows_of database table)
    (λ place row there.
    ap (cell_if_any (kind_at schema table column))
    (value_of_row (columns_of schema table) (tree.begins_with_id table (table_there schema table column h)) column h row (is.widths table (suc place) row there)))

-- the values of a row of a hidden part that goes with a catalog
pub record HasValue (found : Option Value) (kind : Kind) : Type 0 where
  pub value : Value
  pub there : found ≡ Some value
  pub is : is_of_kind kind value ≡ true

kinds_once : (b : Bool) (column : Column) (rest : List Column) (row : Row) → b ≡ true
    → are_of_kinds (map kind_of_column (cond b (column ∷ rest) rest)) row ≡ true → HasValue (slice_get row 0) column.kind
kinds_once false column rest row e are = absurd (cc (e))
kinds_once true column rest [] e are = absurd (cc (are))
kinds_once true column rest (value ∷ row) e are =
    let both : BothHold (is_of_kind column.kind value) (are_of_kinds (map kind_of_column rest) row) = both_hold _ _ are in
    record { value = value; there = refl; is = both.one }

kinds_on : (b : Bool) (column : Column) (rest : List Column) (row : Row) (n : ℕ) (kind : Kind)
    → are_of_kinds (map kind_of_column (cond b (column ∷ rest) rest)) row ≡ true
    → ((values : Row) → are_of_kinds (map kind_of_column rest) values ≡ true → HasValue (slice_get values n) kind)
    → HasValue (slice_get row (cond b 1 0 + n)) kind
kinds_on true column rest [] n kind are later = absurd (cc (are))
kinds_on true column rest (value ∷ row) n kind are later =
    let both : BothHold (is_of_kind column.kind value) (are_of_kinds (map kind_of_column rest) row) = both_hold _ _ are in
    let e : suc n ≡ 1 + n = omega arith in
    subst (λ k. HasValue (slice_get (value ∷ row) k) kind) e (later row both.other)
kinds_on false column rest row n kind are later =
    let e : n ≡ 0 + n = omega arith in subst (λ k. HasValue (slice_get row k) kind) e (later row are)

kinds_there : (columns : List Column) (place : ℕ) → hidden_or_none (slice_get columns place) ≡ true → (row : Row)
    → are_of_kinds (map kind_of_column (filter (λ (c : Column). c.hidden) columns)) row ≡ true
    → HasValue (slice_get row (hidden_among place columns)) (kind_or_none (slice_get columns place))
unfolding hidden_among
kinds_there [] place h row are = absurd (cc (h))
kinds_there (column ∷ columns) zero h row are = kinds_once column.hidden column (filter (λ (c : Column). c.hidden) columns) row h are
kinds_there (column ∷ columns) (suc place) h row are =
    kinds_on column.hidden column (filter (λ (c : Column). c.hidden) columns) row (hidden_among place columns) (kind_or_none (slice_get columns place)) are
    (λ values. kinds_there columns place h values)

value_there : (columns : List Column) → slice_get columns 0 ≡ Some identifier → (column : ℕ) → hidden_or_none (slice_get columns column) ≡ true
    → (row : Row) → are_of_kinds (map kind_of_column (filter (λ (c : Column). c.hidden) (drop 1 columns))) row ≡ true
    → HasValue (value_at (places_from (λ (c : Column). c.hidden) 1 (drop 1 columns)) row column) (kind_or_none (slice_get columns column))
value_there [] first column h row are = absurd (cc (h))
value_there (id ∷ columns) first zero h row are = absurd (not_hidden (Some id) first h)
value_there (id ∷ columns) first (suc place) h row are =
    let e : suc place ≡ 1 + place = omega arith in
    let same : value_at (places_from (λ (c : Column). c.hidden) 1 columns) row (suc place) ≡ slice_get row (hidden_among place columns) =
    ap (value_at (places_from (λ (c : Column). c.hidden) 1 columns) row) e ∙ value_by_place 1 columns place h row in
    subst (λ o. HasValue o (kind_or_none (slice_get columns place))) (sym same) (kinds_there columns place h row are)

pub count_there : (tables : List Rows) (table : ℕ) → slice_index (map length tables) table ≡ length (rows_or_none (slice_get tables table))
count_there [] table = refl
count_there (rows ∷ tables) zero = refl
count_there (rows ∷ tables) (suc table) = count_there tables table

width_of_kind : (o : Option Column) → cell_width (kind_or_none o) ≡ width_or_none o
width_of_kind None = refl
width_of_kind (Some column) = refl

mapped : (f : Row → List ℕ) (o : Option Row) (cell : List ℕ) → option_map f o ≡ Some cell → (row : Row) × (o ≡ Some row) × (f row ≡ cell)
mapped f None cell h = absurd (cc (h))
mapped f (Some row) cell h = (row, refl, ap (λ o. unwrap_or o (f row)) h)

module _ (cat : Catalog) (hidden : Hidden) (tree : IsTree cat.schema) (is : GoesWith cat hidden) where
  count_fits : (table column : ℕ) → length (hidden_cells cat.schema hidden table column) ≡ count_of cat table
  count_fits table column =
      length-map (hidden_rows hidden table) (hidden_cell cat.schema table column)
      ∙ (sym (count_there hidden.hidden table) ∙ ap (λ counts. slice_index counts table) is.counted)

  row_value : (table column place : ℕ) (row : Row) → is_hidden cat.schema table column ≡ true → slice_get (hidden_rows hidden table) place ≡ Some row
      → HasValue (value_at (hidden_places cat.schema table) row column) (kind_at cat.schema table column)
  row_value table column place row h there =
      let within = table_there cat.schema table column h in
      let held = get_within cat.schema table within in
      let columns : columns_of cat.schema table ≡ held.0.columns = ap columns_or_none held.1 in
      let kinds = is.kinds table place held.0 row held.1 there in
      value_there (columns_of cat.schema table) (tree.begins_with_id table within) column h row
      (subst (λ cs. are_of_kinds (map kind_of_column (filter (λ (c : Column). c.hidden) (drop 1 cs))) row ≡ true) (sym columns) kinds)

  pub cells_fit : CellsFit cat hidden
  cells_fit = record {
    count = λ table column h. count_fits table column;
    width = λ table column place cell h there.
        let found = mapped (hidden_cell cat.schema table column) (slice_get (hidden_rows hidden table) place) cell (sym (slice_get-map (hidden_cell cat.schema table column) (hidden_rows hidden table) place) ∙ there) in
        let has = row_value table column place found.0 h found.1 in
        ap length (sym found.2) ∙ (ap (λ o. length (cell_if_any (kind_at cat.schema table column) o)) has.there
        ∙ (cell_length (kind_at cat.schema table column) has.value has.is ∙ width_of_kind (column_at cat.schema table column)));
    value = λ table column place cell h there.
        let found = mapped (hidden_cell cat.schema table column) (slice_get (hidden_rows hidden table) place) cell (sym (slice_get-map (hidden_cell cat.schema table column) (hidden_rows hidden table) place) ∙ there) in
        let has = row_value table column place found.0 h found.1 in
        ap (decode_cell (kind_at cat.schema table column)) (sym found.2)
        ∙ (ap (λ o. decode_cell (kind_at cat.schema table column) (cell_if_any (kind_at cat.schema table column) o)) has.there
        ∙ (cell_is_read (kind_at cat.schema table column) has.value has.is
        ∙ (sym has.there
        ∙ sym (ap (option_and_then (λ (row : Row). value_at (hidden_places cat.schema table) row column)) found.1))));
  }
