-- The public part of a database goes with its catalog.
use Rattle.std.proofs.Common.{◌≡◌, refl, sym, ap, ◌∙◌, subst, ℕ, zero, suc, Bool, true, false, not, cond, ◌&&◌, List, [], ◌∷◌, length, map, drop, filter, Option, Some, None, slice_get, unwrap_or, option_and_then, arith}
use Rattle.std.proofs.lemmas.List.{length-map, length-drop}
use Rattle.std.proofs.lemmas.Option.{slice_get-map}
use Rattle.std.specs.Option.{option_map}
use Rattle.ghost_model.specs.core.Schema.{Schema, Column, Table, columns_of, columns_or_none}
use Rattle.ghost_model.specs.core.Values.{Value, Row, Rows, Database}
use Rattle.ghost_model.specs.core.Channel.{Catalog}
use Rattle.ghost_model.specs.core.Database.{IsDatabase, is_of_kind, rows_of, row_counts}
use Rattle.ghost_model.specs.laws.ShortWords.{rows_or_none}
use Rattle.ghost_model.specs.core.Split.{public_of, is_open, kind_of_column, visible_kinds, are_of_kinds, IsPublic}
use Rattle.ghost_model.specs.laws.SplitByFlags.{hidden_flags, visible_values, rows_by, tables_by}
use Rattle.ghost_model.proofs.MeaningLemmas.PartsByFlags.{visible_parts}

-- each value is of its column's kind
abbrev pub AreOfKinds : List Column → Row → Type 0
AreOfKinds columns values = (place : ℕ) (value : Value) (declared : Column) → slice_get values place ≡ Some value → slice_get columns place ≡ Some declared → is_of_kind declared.kind value ≡ true

pub kinds_of_visible : (columns : List Column) (values : Row) → length values ≡ length columns → AreOfKinds columns values
    → are_of_kinds (map kind_of_column (filter is_open columns)) (visible_values (map (λ (column : Column). column.hidden) columns) values) ≡ true
kinds_of_visible [] [] same are = refl
kinds_of_visible [] (v ∷ vs) same are = let bad : ⊥ = cc in absurd bad
kinds_of_visible (c ∷ cs) [] same are = let bad : ⊥ = cc in absurd bad
kinds_of_visible (c ∷ cs) (v ∷ vs) same are =
    let later = kinds_of_visible cs vs (omega arith) (λ place. are (suc place)) in
    let flags = map (λ (column : Column). column.hidden) cs in
    let first : is_of_kind c.kind v ≡ true = are 0 v c refl refl in
    (elim (c.hidden) as (λ h. are_of_kinds (map kind_of_column (cond (not h) (c ∷ filter is_open cs) (filter is_open cs))) (visible_values (h ∷ flags) (v ∷ vs)) ≡ true) [
      | true ↦ later
      | false ↦ ap (λ b. b && are_of_kinds (map kind_of_column (filter is_open cs)) (visible_values flags vs)) first ∙ later
    ])

-- the kinds of a row without its identifier
pub row_without : (columns : List Column) (row : Row) → length row ≡ length columns → AreOfKinds columns row
    → AreOfKinds (drop 1 columns) (drop 1 row)
row_without [] [] same are = are
row_without [] (v ∷ vs) same are = let bad : ⊥ = cc in absurd bad
row_without (c ∷ cs) [] same are = let bad : ⊥ = cc in absurd bad
row_without (c ∷ cs) (v ∷ vs) same are = λ place. are (suc place)

pub rows_in_tables : (part : List Bool → Row → Row) (schema : Schema) (database : Database) (table : ℕ) (declared : Table)
    → slice_get schema table ≡ Some declared
    → rows_or_none (slice_get (tables_by part schema database) table) ≡ rows_by part declared.columns (rows_of database table)
rows_in_tables part [] database table declared h = let bad : ⊥ = cc in absurd bad
rows_in_tables part (t ∷ ts) [] table declared h = refl
rows_in_tables part (t ∷ ts) (rows ∷ later) zero declared h =
    ap (λ (w : Table). rows_by part w.columns rows) (ap (λ o. unwrap_or o t) h)
rows_in_tables part (t ∷ ts) (rows ∷ later) (suc table) declared h = rows_in_tables part ts later table declared h

pub counts_of_tables : (part : List Bool → Row → Row) (schema : Schema) (database : Database)
    → length database ≡ length schema → map length (tables_by part schema database) ≡ map length database
counts_of_tables part [] [] same = refl
counts_of_tables part [] (r ∷ rs) same = cc
counts_of_tables part (t ∷ ts) [] same = cc
counts_of_tables part (t ∷ ts) (rows ∷ later) same =
    let one = length-map rows (λ row. part (hidden_flags t.columns) (drop 1 row)) in
    let others = counts_of_tables part ts later (omega arith) in
    λ i. one i ∷ others i

pub mapped_row : (f : Row → Row) (o : Option Row) (row : Row) → option_map f o ≡ Some row
    → (whole : Row) × (o ≡ Some whole) × (f whole ≡ row)
mapped_row f None row h = let bad : ⊥ = cc in absurd bad
mapped_row f (Some whole) row h = (whole, refl, ap (λ o. unwrap_or o (f whole)) h)

pub goes_with : (cat : Catalog) (database : Database) → IsDatabase cat.schema database
    → row_counts database ≡ cat.counts → IsPublic cat (public_of cat.schema database)
goes_with cat database is counts = record {
  counted = ap (λ (tables : List Rows). map length tables) (visible_parts cat.schema database) ∙ counts_of_tables visible_values cat.schema database is.tables ∙ counts;
  kinds = λ table place declared row hd hr.
      let part = λ (whole : Row). visible_values (hidden_flags declared.columns) (drop 1 whole) in
      let rows = ap (λ (tables : List Rows). rows_or_none (slice_get tables table)) (visible_parts cat.schema database) ∙ rows_in_tables visible_values cat.schema database table declared hd in
      let at : slice_get (rows_by visible_values declared.columns (rows_of database table)) place ≡ Some row =
      subst (λ w. slice_get w place ≡ Some row) rows hr in
      let found = mapped_row part (slice_get (rows_of database table) place) row (sym (slice_get-map part (rows_of database table) place) ∙ at) in
      let columns : columns_of cat.schema table ≡ declared.columns = ap columns_or_none hd in
      let width : length found.0 ≡ length declared.columns =
      is.widths table (suc place) found.0 found.1 ∙ ap length columns in
      let kinds : AreOfKinds declared.columns found.0 = λ column value each hv hc.
      is.kinds table (suc place) column value each (ap (λ o. option_and_then (λ w. slice_get w column) o) found.1 ∙ hv) (ap (λ w. slice_get w column) columns ∙ hc) in
      let fewer = length-drop 1 found.0 in
      let fewer_columns = length-drop 1 declared.columns in
      let visible = kinds_of_visible (drop 1 declared.columns) (drop 1 found.0) (omega arith) (row_without declared.columns found.0 width kinds) in
      subst (λ w. are_of_kinds (visible_kinds declared) w ≡ true) found.2 visible;
}
