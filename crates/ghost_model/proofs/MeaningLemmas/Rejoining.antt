-- A database is its two parts rejoined: value by value, row by row and table by table.
use Rattle.std.proofs.Common.{◌≡◌, refl, sym, ap, subst, ℕ, suc, ◌+◌, pos, Bool, true, false, List, [], ◌∷◌, length, drop, Some, slice_get, unwrap_or, arith}
use Rattle.std.proofs.lemmas.List.{length-map, length-drop}
use Rattle.ghost_model.specs.core.Schema.{Schema, Column, columns_of}
use Rattle.ghost_model.specs.core.Values.{Number, Row, Rows, Database}
use Rattle.ghost_model.specs.core.Database.{IsDatabase, rows_of}
use Rattle.ghost_model.specs.laws.SplitByFlags.{hidden_flags, merged, rejoined_rows, rejoined_tables, visible_values, hidden_values, rows_by, tables_by}

pub merged-split : {X : Type 0} (flags : List Bool) (values : List X) → length values ≡ length flags
    → merged flags (visible_values flags values) (hidden_values flags values) ≡ values
merged-split [] [] same = refl
merged-split [] (x ∷ xs) same = cc
merged-split (b ∷ flags) [] same = cc
merged-split (true ∷ flags) (x ∷ xs) same = ap (λ rest. x ∷ rest) (merged-split flags xs (omega arith))
merged-split (false ∷ flags) (x ∷ xs) same = ap (λ rest. x ∷ rest) (merged-split flags xs (omega arith))

-- a row is its identifier and its two parts merged
pub row_again : (columns : List Column) (identifier : ℕ) (row : Row) → length row ≡ length columns
    → slice_get row 0 ≡ Some (Number (pos identifier))
    → Number (pos identifier) ∷ merged (hidden_flags columns) (visible_values (hidden_flags columns) (drop 1 row)) (hidden_values (hidden_flags columns) (drop 1 row)) ≡ row
row_again columns identifier [] same first = cc
row_again columns identifier (value ∷ values) same first =
    let it : value ≡ Number (pos identifier) = ap (λ found. unwrap_or found value) first in
    let flags = length-map (drop 1 columns) (λ (column : Column). column.hidden) in
    let fewer = length-drop 1 columns in
    let values_again = merged-split (hidden_flags columns) values (omega arith) in
    λ i. sym it i ∷ values_again i

-- rows that are numbered from `identifier` and have a value for each column
pub record AreRows (columns : List Column) (identifier : ℕ) (rows : Rows) : Type 0 where
  pub width : (place : ℕ) (row : Row) → slice_get rows place ≡ Some row → length row ≡ length columns
  pub number : (place : ℕ) (row : Row) → slice_get rows place ≡ Some row → slice_get row 0 ≡ Some (Number (pos (identifier + place)))

pub later_rows : (columns : List Column) (identifier : ℕ) (row : Row) (rows : Rows)
    → AreRows columns identifier (row ∷ rows) → AreRows columns (identifier + 1) rows
later_rows columns identifier row rows are = record {
  width = λ place other h. are.width (suc place) other h;
  number = λ place other h. let e : identifier + 1 + place ≡ identifier + suc place = omega arith in rw e (are.number (suc place) other h);
}

pub rows_again : (columns : List Column) (identifier : ℕ) (rows : Rows) → AreRows columns identifier rows
    → rejoined_rows identifier columns (rows_by visible_values columns rows) (rows_by hidden_values columns rows) ≡ rows
rows_again columns identifier [] are = refl
rows_again columns identifier (row ∷ rows) are =
    let e : identifier + 0 ≡ identifier = omega arith in
    let first : slice_get row 0 ≡ Some (Number (pos identifier)) =
    subst (λ n. slice_get row 0 ≡ Some (Number (pos n))) e (are.number 0 row refl) in
    let one = row_again columns identifier row (are.width 0 row refl) first in
    let others = rows_again columns (identifier + 1) rows (later_rows columns identifier row rows are) in
    λ i. one i ∷ others i

-- a table's rows, for each table
abbrev pub AreTables : Schema → Database → Type 0
AreTables schema database = (table : ℕ) → AreRows (columns_of schema table) 1 (rows_of database table)

pub tables_again : (schema : Schema) (database : Database) → length database ≡ length schema → AreTables schema database
    → rejoined_tables schema (tables_by visible_values schema database) (tables_by hidden_values schema database) ≡ database
tables_again [] [] same are = refl
tables_again [] (rows ∷ database) same are = cc
tables_again (table ∷ tables) [] same are = cc
tables_again (table ∷ tables) (rows ∷ database) same are =
    let one = rows_again table.columns 1 rows (are 0) in
    let others = tables_again tables database (omega arith) (λ place. are (suc place)) in
    λ i. one i ∷ others i

pub are_tables : (schema : Schema) (database : Database) → IsDatabase schema database → AreTables schema database
are_tables schema database is = λ table. record {
  width = λ place row h. is.widths table (suc place) row h;
  number = λ place row h. let e : 1 + place ≡ suc place = omega arith in rw e (is.identifiers table (suc place) row h);
}
