-- The two parts of a database are those that walks along the flags of its columns take.
use Rattle.std.proofs.Common.{◌≡◌, refl, ap, ap₂, ◌∙◌, pos, ℕ, zero, suc, arith, Bool, true, false, not, cond, List, [], ◌∷◌, length, map, drop, filter}
use Rattle.std.specs.Prelude.{◌==◌, ◌+◌, ◌<◌, if◌then◌else◌, slice_get, Option, Some, None}
use Rattle.std.specs.List.{zip, enumerate_from}
use Rattle.std.specs.Option.{option_or, some_prefix}
use Rattle.std.proofs.lemmas.Bool.Decides.{nat_tests}
use Rattle.ghost_model.specs.core.Schema.{Schema, Column, columns_of, places_from}
use Rattle.ghost_model.specs.core.Values.{Value, Number, Row, Rows, Database}
use Rattle.ghost_model.specs.core.Database.{rows_of}
use Rattle.ghost_model.specs.laws.ShortWords.{rows_or_none, rejoined_table}
use Rattle.ghost_model.specs.core.Split.{Public, Hidden, is_open, is_closed, part_of, table_parts, public_of, hidden_of, value_at, rejoined_row, rejoined}
use Rattle.ghost_model.specs.laws.SplitByFlags.{hidden_flags, visible_values, hidden_values, rows_by, tables_by, merged, rejoined_rows, rejoined_tables}

-- the values beside columns that pass a test
abbrev beside : (Column → Bool) → List Column → Row → Row
beside test columns values = map (λ held. held.1) (filter (λ held. test held.0) (zip columns values))

visible_beside : (columns : List Column) (values : Row) → beside is_open columns values ≡ visible_values (map is_closed columns) values
visible_beside [] values = refl
visible_beside (column ∷ columns) [] = refl
visible_beside (column ∷ columns) (value ∷ values) =
    (elim (column.hidden) as (λ h. map (λ held. held.1) (cond (not h) ((column, value) ∷ filter (λ held. is_open held.0) (zip columns values)) (filter (λ held. is_open held.0) (zip columns values))) ≡ visible_values (h ∷ map is_closed columns) (value ∷ values)) [
      | true ↦ visible_beside columns values
      | false ↦ ap (λ (rest : Row). value ∷ rest) (visible_beside columns values)
    ])

hidden_beside : (columns : List Column) (values : Row) → beside is_closed columns values ≡ hidden_values (map is_closed columns) values
hidden_beside [] values = refl
hidden_beside (column ∷ columns) [] = refl
hidden_beside (column ∷ columns) (value ∷ values) =
    (elim (column.hidden) as (λ h. map (λ held. held.1) (cond h ((column, value) ∷ filter (λ held. is_closed held.0) (zip columns values)) (filter (λ held. is_closed held.0) (zip columns values))) ≡ hidden_values (h ∷ map is_closed columns) (value ∷ values)) [
      | true ↦ ap (λ (rest : Row). value ∷ rest) (hidden_beside columns values)
      | false ↦ hidden_beside columns values
    ])

-- where the parts of a row are the same, so are those of the tables
rows_alike : (test : Column → Bool) (part : List Bool → Row → Row) (columns : List Column)
    → ((row : Row) → part_of test columns row ≡ part (hidden_flags columns) (drop 1 row)) → (rows : Rows)
    → map (part_of test columns) rows ≡ rows_by part columns rows
rows_alike test part columns same [] = refl
rows_alike test part columns same (row ∷ rows) = let one = same row in let others = rows_alike test part columns same rows in λ i. one i ∷ others i

tables_alike : (test : Column → Bool) (part : List Bool → Row → Row)
    → ((columns : List Column) (row : Row) → part_of test columns row ≡ part (hidden_flags columns) (drop 1 row))
    → (schema : Schema) (database : Database) → table_parts test schema database ≡ tables_by part schema database
tables_alike test part same [] database = refl
tables_alike test part same (table ∷ schema) [] = refl
tables_alike test part same (table ∷ schema) (rows ∷ database) =
    let one = rows_alike test part table.columns (same table.columns) rows in
    let others = tables_alike test part same schema database in
    λ i. one i ∷ others i

pub visible_parts : (schema : Schema) (database : Database) → (public_of schema database).visible ≡ tables_by visible_values schema database
visible_parts = tables_alike is_open visible_values (λ columns row. visible_beside (drop 1 columns) (drop 1 row))

pub hidden_parts : (schema : Schema) (database : Database) → (hidden_of schema database).hidden ≡ tables_by hidden_values schema database
hidden_parts = tables_alike is_closed hidden_values (λ columns row. hidden_beside (drop 1 columns) (drop 1 row))

-- the rows of a table by their flags
by_flags :
    (part : List Bool → Row → Row) (schema : Schema) (database : Database) → length database ≡ length schema → (table : ℕ)
    → rows_or_none (slice_get (tables_by part schema database) table) ≡ rows_by part (columns_of schema table) (rows_of database table)
by_flags part [] [] same table = refl
by_flags part [] (rows ∷ database) same table = absurd (omega (arith, same))
by_flags part (declared ∷ schema) [] same table = absurd (omega (arith, same))
by_flags part (declared ∷ schema) (rows ∷ database) same zero = refl
by_flags part (declared ∷ schema) (rows ∷ database) same (suc table) = by_flags part schema database (omega (arith, same)) table

pub visible_rows_at :
    (schema : Schema) (database : Database) → length database ≡ length schema → (table : ℕ)
    → rows_or_none (slice_get (public_of schema database).visible table) ≡ rows_by visible_values (columns_of schema table) (rows_of database table)
visible_rows_at schema database same table =
    ap (λ (tables : List Rows). rows_or_none (slice_get tables table)) (visible_parts schema database) ∙ by_flags visible_values schema database same table

pub hidden_rows_at :
    (schema : Schema) (database : Database) → length database ≡ length schema → (table : ℕ)
    → rows_or_none (slice_get (hidden_of schema database).hidden table) ≡ rows_by hidden_values (columns_of schema table) (rows_of database table)
hidden_rows_at schema database same table =
    ap (λ (tables : List Rows). rows_or_none (slice_get tables table)) (hidden_parts schema database) ∙ by_flags hidden_values schema database same table

-- ---- rows rejoined

abbrev every : Column → Bool
every _ = true

same_place : (n : ℕ) → (n == n) ≡ true
same_place n = grind (arith, nat_tests)

other_place : (n k : ℕ) → n < k → (n == k) ≡ false
other_place n k less = grind (arith, nat_tests)

-- no value stands for a place before the first
none_before : (test : Column → Bool) (at k : ℕ) (columns : List Column) (row : Row) → k < at → value_at (places_from test at columns) row k ≡ None
unfolding places_from
none_before test at k [] row less = refl
none_before test at k (column ∷ columns) [] less =
    (elim (test column) as (λ t. value_at (if t then at ∷ places_from test (at + 1) columns else places_from test (at + 1) columns) [] k ≡ None) [
      | true ↦ refl
      | false ↦ none_before test (at + 1) k columns [] (omega (arith, less))
    ])
none_before test at k (column ∷ columns) (value ∷ row) less =
    let no : (at == k) ≡ false = grind (arith, nat_tests) in
    (elim (test column) as (λ t. value_at (if t then at ∷ places_from test (at + 1) columns else places_from test (at + 1) columns) (value ∷ row) k ≡ None) [
      | true ↦ ap (λ b. if b then Some value else value_at (places_from test (at + 1) columns) row k) no ∙ none_before test (at + 1) k columns row (omega (arith, less))
      | false ↦ none_before test (at + 1) k columns (value ∷ row) (omega (arith, less))
    ])

-- the first place, and a later one
at_first : (at : ℕ) (places : List ℕ) (value : Value) (row : Row) → value_at (at ∷ places) (value ∷ row) at ≡ Some value
at_first at places value row = ap (λ b. if b then Some value else value_at places row at) (same_place at)

at_later : (at k : ℕ) (places : List ℕ) (value : Value) (row : Row) → at < k → value_at (at ∷ places) (value ∷ row) k ≡ value_at places row k
at_later at k places value row less = ap (λ b. if b then Some value else value_at places row k) (other_place at k less)

-- functions that agree from a place on
mapped_alike : (f g : ℕ → Option Value) (at : ℕ) (columns : List Column) → ((k : ℕ) → at < k + 1 → f k ≡ g k)
    → map f (places_from every at columns) ≡ map g (places_from every at columns)
unfolding places_from
mapped_alike f g at [] same = refl
mapped_alike f g at (column ∷ columns) same =
    let one = same at (omega arith) in
    let others = mapped_alike f g (at + 1) columns (λ k less. same k (omega (arith, less))) in
    λ i. one i ∷ others i

abbrev opened : ℕ → List Column → List ℕ
opened at columns = places_from is_open at columns

abbrev closed : ℕ → List Column → List ℕ
closed at columns = places_from is_closed at columns

-- the value of a place in its part
abbrev in_part : (open_places closed_places : List ℕ) → (visible kept : Row) → ℕ → Option Value
in_part open_places closed_places visible kept column = option_or (value_at open_places visible column) (value_at closed_places kept column)

from_hidden : (at : ℕ) (columns : List Column) (visible kept : Row) (whole : Row)
    → some_prefix (map (in_part (opened (at + 1) columns) (closed (at + 1) columns) visible kept) (places_from every (at + 1) columns)) ≡ whole
    → (value : Value)
    → some_prefix (map (in_part (opened (at + 1) columns) (at ∷ closed (at + 1) columns) visible (value ∷ kept)) (at ∷ places_from every (at + 1) columns)) ≡ value ∷ whole
from_hidden at columns visible kept whole same value =
    let here : in_part (opened (at + 1) columns) (at ∷ closed (at + 1) columns) visible (value ∷ kept) at ≡ Some value =
    ap₂ option_or (none_before is_open (at + 1) at columns visible (omega arith)) (at_first at (closed (at + 1) columns) value kept) in
    let later = mapped_alike (in_part (opened (at + 1) columns) (at ∷ closed (at + 1) columns) visible (value ∷ kept)) (in_part (opened (at + 1) columns) (closed (at + 1) columns) visible kept) (at + 1) columns
    (λ k less. ap (option_or (value_at (opened (at + 1) columns) visible k)) (at_later at k (closed (at + 1) columns) value kept (omega (arith, less)))) in
    ap₂ (λ (first : Option Value) (rest : List (Option Value)). some_prefix (first ∷ rest)) here later ∙ ap (λ (rest : Row). value ∷ rest) same

from_visible : (at : ℕ) (columns : List Column) (visible kept : Row) (whole : Row)
    → some_prefix (map (in_part (opened (at + 1) columns) (closed (at + 1) columns) visible kept) (places_from every (at + 1) columns)) ≡ whole
    → (value : Value)
    → some_prefix (map (in_part (at ∷ opened (at + 1) columns) (closed (at + 1) columns) (value ∷ visible) kept) (at ∷ places_from every (at + 1) columns)) ≡ value ∷ whole
from_visible at columns visible kept whole same value =
    let here : in_part (at ∷ opened (at + 1) columns) (closed (at + 1) columns) (value ∷ visible) kept at ≡ Some value =
    ap (λ (o : Option Value). option_or o (value_at (closed (at + 1) columns) kept at)) (at_first at (opened (at + 1) columns) value visible) in
    let later = mapped_alike (in_part (at ∷ opened (at + 1) columns) (closed (at + 1) columns) (value ∷ visible) kept) (in_part (opened (at + 1) columns) (closed (at + 1) columns) visible kept) (at + 1) columns
    (λ k less. ap (λ (o : Option Value). option_or o (value_at (closed (at + 1) columns) kept k)) (at_later at k (opened (at + 1) columns) value visible (omega (arith, less)))) in
    ap₂ (λ (first : Option Value) (rest : List (Option Value)). some_prefix (first ∷ rest)) here later ∙ ap (λ (rest : Row). value ∷ rest) same

-- where the next column's part has run out
no_hidden_left : (at : ℕ) (columns : List Column) (visible : Row)
    → some_prefix (map (in_part (opened (at + 1) columns) (at ∷ closed (at + 1) columns) visible []) (at ∷ places_from every (at + 1) columns)) ≡ []
no_hidden_left at columns visible =
    let none : in_part (opened (at + 1) columns) (at ∷ closed (at + 1) columns) visible [] at ≡ None =
    ap (λ (o : Option Value). option_or o None) (none_before is_open (at + 1) at columns visible (omega arith)) in
    ap (λ (first : Option Value). some_prefix (first ∷ map (in_part (opened (at + 1) columns) (at ∷ closed (at + 1) columns) visible []) (places_from every (at + 1) columns))) none

no_visible_left : (at : ℕ) (columns : List Column) (kept : Row)
    → some_prefix (map (in_part (at ∷ opened (at + 1) columns) (closed (at + 1) columns) [] kept) (at ∷ places_from every (at + 1) columns)) ≡ []
no_visible_left at columns kept =
    let none : in_part (at ∷ opened (at + 1) columns) (closed (at + 1) columns) [] kept at ≡ None =
    none_before is_closed (at + 1) at columns kept (omega arith) in
    ap (λ (first : Option Value). some_prefix (first ∷ map (in_part (at ∷ opened (at + 1) columns) (closed (at + 1) columns) [] kept) (places_from every (at + 1) columns))) none

-- the values from a place on are merged
abbrev AreMerged : ℕ → List Column → Type 0
AreMerged at columns =
    (visible kept : Row)
    → some_prefix (map (in_part (opened at columns) (closed at columns) visible kept) (places_from every at columns)) ≡ merged (map is_closed columns) visible kept

hidden_next : (at : ℕ) (columns : List Column) → AreMerged (at + 1) columns → (visible kept : Row)
    → some_prefix (map (in_part (opened (at + 1) columns) (at ∷ closed (at + 1) columns) visible kept) (at ∷ places_from every (at + 1) columns)) ≡ merged (true ∷ map is_closed columns) visible kept
hidden_next at columns later visible [] = no_hidden_left at columns visible
hidden_next at columns later visible (value ∷ kept) = from_hidden at columns visible kept _ (later visible kept) value

visible_next : (at : ℕ) (columns : List Column) → AreMerged (at + 1) columns → (visible kept : Row)
    → some_prefix (map (in_part (at ∷ opened (at + 1) columns) (closed (at + 1) columns) visible kept) (at ∷ places_from every (at + 1) columns)) ≡ merged (false ∷ map is_closed columns) visible kept
visible_next at columns later [] kept = no_visible_left at columns kept
visible_next at columns later (value ∷ visible) kept = from_visible at columns visible kept _ (later visible kept) value

values_merged : (at : ℕ) (columns : List Column) → AreMerged at columns
unfolding places_from
values_merged at [] visible kept = refl
values_merged at (column ∷ columns) visible kept =
    (elim (column.hidden) as (λ h. some_prefix (map (in_part (if not h then at ∷ opened (at + 1) columns else opened (at + 1) columns) (if h then at ∷ closed (at + 1) columns else closed (at + 1) columns) visible kept) (at ∷ places_from every (at + 1) columns)) ≡ merged (h ∷ map is_closed columns) visible kept) [
      | true ↦ hidden_next at columns (values_merged (at + 1) columns) visible kept
      | false ↦ visible_next at columns (values_merged (at + 1) columns) visible kept
    ])

table_again : (columns : List Column) (identifier : ℕ) (visible kept : Rows)
    → map (λ row. rejoined_row columns row.0 row.1.0 row.1.1) (enumerate_from identifier (zip visible kept)) ≡ rejoined_rows identifier columns visible kept
table_again columns identifier [] kept = refl
table_again columns identifier (one ∷ visible) [] = refl
table_again columns identifier (one ∷ visible) (other ∷ kept) =
    let values = values_merged 1 (drop 1 columns) one other in
    let later = table_again columns (identifier + 1) visible kept in
    λ i. (Number (pos identifier) ∷ values i) ∷ later i

tables_again : (schema : Schema) (visible kept : List Rows)
    → map (λ table. rejoined_table table.0.columns table.1.0 table.1.1) (zip schema (zip visible kept)) ≡ rejoined_tables schema visible kept
tables_again [] visible kept = refl
tables_again (table ∷ schema) [] kept = refl
tables_again (table ∷ schema) (one ∷ visible) [] = refl
tables_again (table ∷ schema) (one ∷ visible) (other ∷ kept) =
    let rows = table_again table.columns 1 one other in
    let later = tables_again schema visible kept in
    λ i. rows i ∷ later i

pub rejoined_parts : (schema : Schema) (public : Public) (kept : Hidden) → rejoined schema public kept ≡ rejoined_tables schema public.visible kept.hidden
rejoined_parts schema public kept = tables_again schema public.visible kept.hidden
