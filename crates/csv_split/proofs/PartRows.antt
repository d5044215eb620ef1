-- The rows of a part: how many there are, and what stands in them.
use Rattle.std.proofs.Common.{◌≡◌, ◌≤◌, ◌<◌, ◌+◌, ◌-◌, ◌∙◌, ◌⊎◌, inl, inr, Bor, ℕ, zero, suc, List, [], length, Option, Some, None, sym, ap, refl, subst, arith}
use Rattle.std.specs.Prelude.{slice_get, option_map, option_and_then, IfSome, IfNone, get_or}
use Rattle.std.proofs.lemmas.List.FromFn.{length-map-range_with_len, get_or-map-range_with_len}
use Rattle.std.proofs.lemmas.Option.{slice_get-get_or, slice_get_past, slice_get_cases}
use Rattle.ghost_model.specs.core.Values.{Value, Row, Rows}
use Rattle.csv_split.specs.declared.cells.Cells.{Cells}
use Rattle.csv_split.specs.Cells.{values_in}
use Rattle.csv_split.specs.Parts.{part_in}
use Rattle.csv_split.specs.Reading.{HaveAll}
use Rattle.csv_split.specs.Tables.{IsColumn, rows_in, value_in, value_of_columns, values_at}
use Rattle.csv_split.proofs.TableRows.{Each, in_row}
use Rattle.csv_split.proofs.TableRows as table

pub many : (count : ℕ) (columns : List (List Value)) → length (part_in count columns) ≡ count
many count columns = length-map-range_with_len (values_at columns) 0 count

-- as many rows as are told
pub counted : (count : ℕ) (columns : List (List Value)) (rows : Rows) → part_in count columns ≡ rows → count ≡ length rows
counted count columns rows are = sym (many count columns) ∙ ap (λ (rows : Rows). length rows) are

pub rows_again : (count : ℕ) (columns : List (List Value)) (rows : Rows) → part_in count columns ≡ rows → rows ≡ part_in (length rows) columns
rows_again count columns rows are = sym are ∙ ap (λ n. part_in n columns) (counted count columns rows are)

pub have_all : (count : ℕ) (columns : List (List Value)) (rows : Rows) → part_in count columns ≡ rows → Each count columns → HaveAll (length rows) columns
have_all count columns rows are each = record { each = λ column values is. each column values is ∙ counted count columns rows are }

-- the same of a table
pub table_again : (count : ℕ) (columns : List (List Value)) (rows : Rows) → rows_in count columns ≡ rows → rows ≡ rows_in (length rows) columns
table_again count columns rows are =
    sym are ∙ ap (λ n. rows_in n columns) (sym (table.many count columns) ∙ ap (λ (rows : Rows). length rows) are)

pub table_has_all : (count : ℕ) (columns : List (List Value)) (rows : Rows) → rows_in count columns ≡ rows → Each count columns → HaveAll (length rows) columns
table_has_all count columns rows are each =
    record { each = λ column values is. each column values is ∙ (sym (table.many count columns) ∙ ap (λ (rows : Rows). length rows) are) }

pub row_there : (count place : ℕ) (columns : List (List Value)) → place < count → slice_get (part_in count columns) place ≡ Some (values_at columns place)
row_there count place columns within =
    let all = many count columns in
    slice_get-get_or (part_in count columns) place [] (omega arith)
    ∙ ap Some (get_or-map-range_with_len (values_at columns) 0 count place place [] within (omega arith))

no_row : (count place : ℕ) (columns : List (List Value)) → count ≤ place → slice_get (part_in count columns) place ≡ None
no_row count place columns past = slice_get_past (part_in count columns) place (let all = many count columns in omega arith)

pub value_is : (count identifier column : ℕ) (columns : List (List Value)) → Each count columns → 0 < identifier → identifier ≤ count
    → value_of_columns columns column (identifier - 1) ≡ value_in (part_in count columns) identifier column
value_is count zero column columns each some within = absurd (omega arith)
value_is count (suc place) column columns each some within =
    let p : suc place - 1 ≡ place = omega arith in
    rw p
    (sym (ap (option_and_then (λ (row : Row). slice_get row column)) (row_there count place columns (omega arith)) ∙ in_row count place column columns (omega arith) each))

pub no_identifier : (count identifier column : ℕ) (columns : List (List Value)) → (identifier ≡ 0) ⊎ (count < identifier)
    → None ≡ value_in (part_in count columns) identifier column
no_identifier count zero column columns out = refl
no_identifier count (suc place) column columns (inl none) = absurd (omega arith)
no_identifier count (suc place) column columns (inr past) =
    sym (ap (option_and_then (λ (row : Row). slice_get row column)) (no_row count place columns (omega arith)))

column_is : (count column : ℕ) (columns : List (List Value)) (values : List Value) → Each count columns → slice_get columns column ≡ Some values
    → IsColumn (part_in count columns) column values
column_is count column columns values each is =
    let all = many count columns in
    record {
      long = each column values is ∙ sym all;
      placed = λ place within.
          let e : place + 1 - 1 ≡ place = omega arith in
          sym (sym (value_is count (place + 1) column columns each (omega arith) (omega arith)) ∙ ap (option_and_then (λ values. slice_get values (place + 1 - 1))) is ∙ ap (slice_get values) e);
    }

no_column : (count column : ℕ) (columns : List (List Value)) → Each count columns → slice_get columns column ≡ None → (identifier : ℕ)
    → value_in (part_in count columns) identifier column ≡ None
no_column count column columns each none zero = refl
no_column count column columns each none (suc place) = by (slice_get_cases (part_in count columns) place).1
  where
    by : ((row : Row) × (place < length (part_in count columns)) × (slice_get (part_in count columns) place ≡ Some row) × (get_or (part_in count columns) place row ≡ row))
        ⊎ ((length (part_in count columns) ≤ place) × (slice_get (part_in count columns) place ≡ None))
        → value_in (part_in count columns) (suc place) column ≡ None
    by (inl here) =
        let all = many count columns in
        let within = here.1 in
        sym (value_is count (suc place) column columns each (omega arith) (omega arith)) ∙ ap (option_and_then (λ values. slice_get values (suc place - 1))) none
    by (inr past) = ap (option_and_then (λ (row : Row). slice_get row column)) past.1

-- the column at a place, where there is one
pub column_held : (count column : ℕ) (columns : List (List Value)) (rows : Rows) (o : Option (Bor Cells)) → part_in count columns ≡ rows → Each count columns
    → option_map (λ (cells : Bor Cells). values_in cells.now) o ≡ slice_get columns column → IfSome o (λ cells. IsColumn rows column (values_in cells.now))
column_held count column columns rows None are each is = tt
column_held count column columns rows (Some cells) are each is =
    let P : Rows → Type 0 = λ rows. IsColumn rows column (values_in cells.now) in
    subst P are (column_is count column columns (values_in cells.now) each (sym is))

pub column_none : (count column : ℕ) (columns : List (List Value)) (rows : Rows) (o : Option (Bor Cells)) → part_in count columns ≡ rows → Each count columns
    → option_map (λ (cells : Bor Cells). values_in cells.now) o ≡ slice_get columns column
    → IfNone o ((identifier : ℕ) → value_in rows identifier column ≡ None)
column_none count column columns rows None are each is =
    let P : Rows → Type 0 = λ rows. (identifier : ℕ) → value_in rows identifier column ≡ None in
    subst P are (no_column count column columns each (sym is))
column_none count column columns rows (Some cells) are each is = tt
