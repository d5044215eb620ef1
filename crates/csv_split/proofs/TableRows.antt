-- The rows of columns: how many there are, and what stands in them.
use Rattle.std.proofs.Common.{◌≡◌, ◌≤◌, ◌<◌, ◌+◌, ◌-◌, ◌∙◌, ◌⊎◌, inl, inr, Bor, ℕ, zero, suc, pos, List, [], length, get_or, Option, Some, None, sym, ap, refl, subst, arith}
use Rattle.std.specs.Prelude.{slice_get, option_map, option_and_then, IfSome, IfNone}
use Rattle.std.proofs.lemmas.List.FromFn.{length-map-range_with_len, get_or-map-range_with_len}
use Rattle.std.proofs.lemmas.Option.{slice_get-map, slice_get-get_or, slice_get_past, slice_get_cases}
use Rattle.ghost_model.specs.core.Values.{Value, Number, Row, Rows}
use Rattle.csv_split.specs.declared.cells.Cells.{Cells}
use Rattle.csv_split.specs.Cells.{values_in}
use Rattle.csv_split.specs.Tables.{IsColumn, row_at, rows_in, value_in, value_of_columns, values_at}

pub many : (count : ℕ) (columns : List (List Value)) → length (rows_in count columns) ≡ count
many count columns = length-map-range_with_len (row_at columns) 0 count

pub row_there : (count place : ℕ) (columns : List (List Value)) → place < count
    → slice_get (rows_in count columns) place ≡ Some (row_at columns place)
row_there count place columns within =
    let all = many count columns in
    slice_get-get_or (rows_in count columns) place [] (omega arith)
    ∙ ap Some (get_or-map-range_with_len (row_at columns) 0 count place place [] within (omega arith))

pub no_row : (count place : ℕ) (columns : List (List Value)) → count ≤ place → slice_get (rows_in count columns) place ≡ None
no_row count place columns past = slice_get_past (rows_in count columns) place (let all = many count columns in omega arith)

-- all columns have so many values
abbrev pub Each : (count : ℕ) → List (List Value) → Type 0
Each count columns = (column : ℕ) (values : List Value) → slice_get columns column ≡ Some values → length values ≡ count

-- the value of a row, the columns being counted from 0
pub in_row : (count place column : ℕ) (columns : List (List Value)) → place < count → Each count columns
    → slice_get (values_at columns place) column ≡ value_of_columns columns column place
in_row count place column columns within each =
    slice_get-map (λ (values : List Value). get_or values place (Number (pos 0))) columns column
    ∙ by (slice_get columns column) (each column)
  where
    by : (o : Option (List Value)) → ((values : List Value) → o ≡ Some values → length values ≡ count)
        → option_map (λ (values : List Value). get_or values place (Number (pos 0))) o ≡ option_and_then (λ values. slice_get values place) o
    by None long = refl
    by (Some values) long = let same = long values refl in sym (slice_get-get_or values place (Number (pos 0)) (omega arith))

pub value_is : (count identifier column : ℕ) (columns : List (List Value)) → Each count columns → 0 < identifier → identifier ≤ count → 0 < column
    → value_of_columns columns (column - 1) (identifier - 1) ≡ value_in (rows_in count columns) identifier column
value_is count zero column columns each some within other = absurd (omega arith)
value_is count (suc place) zero columns each some within other = absurd (omega arith)
value_is count (suc place) (suc column) columns each some within other =
    let p : suc place - 1 ≡ place = omega arith in
    let q : suc column - 1 ≡ column = omega arith in
    rw (p, q)
    (sym (ap (option_and_then (λ (row : Row). slice_get row (suc column))) (row_there count place columns (omega arith)) ∙ in_row count place column columns (omega arith) each))

pub identifier_is : (count identifier : ℕ) (columns : List (List Value)) → 0 < identifier → identifier ≤ count
    → Some (Number (pos identifier)) ≡ value_in (rows_in count columns) identifier 0
identifier_is count zero columns some within = absurd (omega arith)
identifier_is count (suc place) columns some within =
    let e : place + 1 ≡ suc place = omega arith in
    sym (ap (option_and_then (λ (row : Row). slice_get row 0)) (row_there count place columns (omega arith)) ∙ ap (λ n. Some (Number (pos n))) e)

pub no_identifier : (count identifier column : ℕ) (columns : List (List Value)) → (identifier ≡ 0) ⊎ (count < identifier)
    → None ≡ value_in (rows_in count columns) identifier column
no_identifier count zero column columns out = refl
no_identifier count (suc place) column columns (inl none) = absurd (omega arith)
no_identifier count (suc place) column columns (inr past) =
    sym (ap (option_and_then (λ (row : Row). slice_get row column)) (no_row count place columns (omega arith)))

pub column_is : (count column : ℕ) (columns : List (List Value)) (values : List Value) → Each count columns → 0 < column → slice_get columns (column - 1) ≡ Some values
    → IsColumn (rows_in count columns) column values
column_is count column columns values each other is =
    let all = many count columns in
    record {
      long = each (column - 1) values is ∙ sym all;
      placed = λ place within.
          let e : place + 1 - 1 ≡ place = omega arith in
          sym (sym (value_is count (place + 1) column columns each (omega arith) (omega arith) other) ∙ ap (option_and_then (λ values. slice_get values (place + 1 - 1))) is ∙ ap (slice_get values) e);
    }

pub no_column : (count column : ℕ) (columns : List (List Value)) → Each count columns → slice_get columns (column - 1) ≡ None → 0 < column → (identifier : ℕ)
    → value_in (rows_in count columns) identifier column ≡ None
no_column count column columns each none other zero = refl
no_column count column columns each none other (suc place) = by (slice_get_cases (rows_in count columns) place).1
  where
    by : ((row : Row) × (place < length (rows_in count columns)) × (slice_get (rows_in count columns) place ≡ Some row) × (get_or (rows_in count columns) place row ≡ row))
        ⊎ ((length (rows_in count columns) ≤ place) × (slice_get (rows_in count columns) place ≡ None))
        → value_in (rows_in count columns) (suc place) column ≡ None
    by (inl here) =
        let all = many count columns in
        let within = here.1 in
        sym (value_is count (suc place) column columns each (omega arith) (omega arith) other) ∙ ap (option_and_then (λ values. slice_get values (suc place - 1))) none
    by (inr past) = ap (option_and_then (λ (row : Row). slice_get row column)) past.1

-- the column at a place, where there is one
pub column_held : (count column : ℕ) (columns : List (List Value)) (rows : Rows) (o : Option (Bor Cells)) → rows_in count columns ≡ rows → Each count columns → 0 < column
    → option_map (λ (cells : Bor Cells). values_in cells.now) o ≡ slice_get columns (column - 1) → IfSome o (λ cells. IsColumn rows column (values_in cells.now))
column_held count column columns rows None are each other is = tt
column_held count column columns rows (Some cells) are each other is =
    let P : Rows → Type 0 = λ rows. IsColumn rows column (values_in cells.now) in
    subst P are (column_is count column columns (values_in cells.now) each other (sym is))

pub column_none : (count column : ℕ) (columns : List (List Value)) (rows : Rows) (o : Option (Bor Cells)) → rows_in count columns ≡ rows → Each count columns
    → option_map (λ (cells : Bor Cells). values_in cells.now) o ≡ slice_get columns (column - 1)
    → IfNone o (0 < column → (identifier : ℕ) → value_in rows identifier column ≡ None)
column_none count column columns rows None are each is =
    let P : Rows → Type 0 = λ rows. 0 < column → (identifier : ℕ) → value_in rows identifier column ≡ None in
    subst P are (no_column count column columns each (sym is))
column_none count column columns rows (Some cells) are each is = tt
