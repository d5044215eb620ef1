-- The hidden part of a database goes with its catalog.
use Rattle.std.proofs.Common.{◌≡◌, refl, sym, ap, ◌∙◌, subst, suc, true, false, ◌&&◌, cond, List, [], ◌∷◌, length, map, drop, filter, Some, slice_get, option_and_then, arith}
use Rattle.std.proofs.lemmas.List.{length-drop}
use Rattle.std.proofs.lemmas.Option.{slice_get-map}
use Rattle.ghost_model.specs.core.Schema.{Column, columns_of, columns_or_none}
use Rattle.ghost_model.specs.core.Values.{Row, Rows, Database}
use Rattle.ghost_model.specs.core.Channel.{Catalog}
use Rattle.ghost_model.specs.core.Database.{IsDatabase, is_of_kind, rows_of, row_counts}
use Rattle.ghost_model.specs.laws.ShortWords.{rows_or_none}
use Rattle.ghost_model.specs.core.Split.{hidden_of, kind_of_column, are_of_kinds}
use Rattle.ghost_model.specs.laws.SplitByFlags.{hidden_flags, hidden_values, rows_by}
use Rattle.ghost_model.proofs.MeaningLemmas.PartsByFlags.{hidden_parts}
use Rattle.ghost_model.specs.laws.FlashLaws.{hidden_kinds, GoesWith}
use Rattle.ghost_model.proofs.MeaningLemmas.PublicPart.{AreOfKinds, row_without, rows_in_tables, counts_of_tables, mapped_row}

kinds_of_hidden : (columns : List Column) (values : Row) → length values ≡ length columns → AreOfKinds columns values
    → are_of_kinds (map kind_of_column (filter (λ (c : Column). c.hidden) columns)) (hidden_values (map (λ (column : Column). column.hidden) columns) values) ≡ true
kinds_of_hidden [] [] same are = refl
kinds_of_hidden [] (v ∷ vs) same are = absurd (omega (arith, same))
kinds_of_hidden (c ∷ cs) [] same are = absurd (omega (arith, same))
kinds_of_hidden (c ∷ cs) (v ∷ vs) same are =
    let later = kinds_of_hidden cs vs (omega (arith, same)) (λ place. are (suc place)) in
    let flags = map (λ (column : Column). column.hidden) cs in
    let rest = filter (λ (column : Column). column.hidden) cs in
    let first : is_of_kind c.kind v ≡ true = are 0 v c refl refl in
    (elim (c.hidden) as (λ h. are_of_kinds (map kind_of_column (cond h (c ∷ rest) rest)) (hidden_values (h ∷ flags) (v ∷ vs)) ≡ true) [
      | true ↦ ap (λ b. b && are_of_kinds (map kind_of_column rest) (hidden_values flags vs)) first ∙ later
      | false ↦ later
    ])

pub goes_with : (cat : Catalog) (database : Database) → IsDatabase cat.schema database
    → row_counts database ≡ cat.counts → GoesWith cat (hidden_of cat.schema database)
goes_with cat database is counts = record {
  counted = ap (λ (tables : List Rows). map length tables) (hidden_parts cat.schema database) ∙ counts_of_tables hidden_values cat.schema database is.tables ∙ counts;
  kinds = λ table place declared row hd hr.
      let part = λ (whole : Row). hidden_values (hidden_flags declared.columns) (drop 1 whole) in
      let rows = ap (λ (tables : List Rows). rows_or_none (slice_get tables table)) (hidden_parts cat.schema database) ∙ rows_in_tables hidden_values cat.schema database table declared hd in
      let at : slice_get (rows_by hidden_values declared.columns (rows_of database table)) place ≡ Some row =
      subst (λ w. slice_get w place ≡ Some row) rows hr in
      let found = mapped_row part (slice_get (rows_of database table) place) row (sym (slice_get-map part (rows_of database table) place) ∙ at) in
      let columns : columns_of cat.schema table ≡ declared.columns = ap columns_or_none hd in
      let width : length found.0 ≡ length declared.columns =
      is.widths table (suc place) found.0 found.1 ∙ ap length columns in
      let kinds : AreOfKinds declared.columns found.0 = λ column value each hv hc.
      is.kinds table (suc place) column value each (ap (λ o. option_and_then (λ w. slice_get w column) o) found.1 ∙ hv) (ap (λ w. slice_get w column) columns ∙ hc) in
      let fewer = length-drop 1 found.0 in
      let fewer_columns = length-drop 1 declared.columns in
      let hidden = kinds_of_hidden (drop 1 declared.columns) (drop 1 found.0) (omega arith) (row_without declared.columns found.0 width kinds) in
      subst (λ w. are_of_kinds (hidden_kinds declared) w ≡ true) found.2 hidden;
}
