-- A row of the visible image, cell by cell.
use Rattle.std.proofs.Common.{◌≡◌, ℕ, zero, suc, ◌+◌, Bool, true, false, List, [], ◌∷◌, ◌++◌, length, map, take, drop, filter, Some, ap, sym, refl, subst, ◌∙◌, arith, length-append}
use Rattle.std.specs.Prelude.{slice_get, if◌then◌else◌, ◌==◌}
use Rattle.std.specs.Cmp.{first_so, second_so}
use Rattle.std.proofs.lemmas.Bool.Decides.{nat_tests}
use Rattle.std.proofs.Math.Seq.{drop-append-add, take-append_seam}
use Rattle.ghost_model.specs.core.Schema.{Column, Kind, places_from}
use Rattle.ghost_model.specs.core.Values.{Value, Row}
use Rattle.ghost_model.specs.forms.Cells.{cell_width, encode_cell}
use Rattle.ghost_model.specs.core.Database.{is_of_kind}
use Rattle.ghost_model.specs.core.Split.{is_open, kind_of_column, value_at, cells, are_of_kinds}
use Rattle.ghost_model.proofs.ChannelLemmas.Asks.{cell_length}
use Rattle.host_exec.specs.RowBytes.{width_before, shown_width}

-- the kinds of the visible columns of these
abbrev pub kinds_in : List Column → List Kind
kinds_in columns = map kind_of_column (filter is_open columns)

-- what is left of the definitions at a column that is shown, or that is not
kinds_shown : (column : Column) (columns : List Column) (b : Bool) → is_open column ≡ b → kinds_in (column ∷ columns) ≡ (if b then kind_of_column column ∷ kinds_in columns else kinds_in columns)
kinds_shown column columns true e = ap (λ (t : Bool). map kind_of_column (if t then column ∷ filter is_open columns else filter is_open columns)) e
kinds_shown column columns false e = ap (λ (t : Bool). map kind_of_column (if t then column ∷ filter is_open columns else filter is_open columns)) e

width_shown : (column : Column) (b : Bool) → is_open column ≡ b → shown_width column ≡ (if b then cell_width column.kind else 0)
width_shown column b e = ap (λ (t : Bool). if t then cell_width column.kind else 0) e

places_shown : (at : ℕ) (column : Column) (columns : List Column) (b : Bool) → is_open column ≡ b
    → places_from is_open at (column ∷ columns) ≡ (if b then at ∷ places_from is_open (at + 1) columns else places_from is_open (at + 1) columns)
unfolding places_from
places_shown at column columns b e = ap (λ (t : Bool). if t then at ∷ places_from is_open (at + 1) columns else places_from is_open (at + 1) columns) e

-- the first value of a row
record Splits (kind : Kind) (kinds : List Kind) (row : Row) : Type 0 where
  value : Value
  rest : Row
  is : row ≡ value ∷ rest
  fits : is_of_kind kind value ≡ true
  later : are_of_kinds kinds rest ≡ true

splits : (kind : Kind) (kinds : List Kind) (row : Row) → are_of_kinds (kind ∷ kinds) row ≡ true → Splits kind kinds row
splits kind kinds [] h = cc
splits kind kinds (value ∷ row) h = record { value = value; rest = row; is = refl; fits = first_so (is_of_kind kind value) _ h; later = second_so (is_of_kind kind value) _ h }

splits_row : (column : Column) (columns : List Column) (row : Row) → is_open column ≡ true → are_of_kinds (kinds_in (column ∷ columns)) row ≡ true
    → Splits (kind_of_column column) (kinds_in columns) row
splits_row column columns row e k = splits (kind_of_column column) (kinds_in columns) row (ap (λ (ks : List Kind). are_of_kinds ks row) (sym (kinds_shown column columns true e)) ∙ k)

hidden_row : (column : Column) (columns : List Column) (row : Row) → is_open column ≡ false → are_of_kinds (kinds_in (column ∷ columns)) row ≡ true
    → are_of_kinds (kinds_in columns) row ≡ true
hidden_row column columns row e k = ap (λ (ks : List Kind). are_of_kinds ks row) (sym (kinds_shown column columns false e)) ∙ k

cells_shown : (column : Column) (columns : List Column) (row : Row) (e : is_open column ≡ true) (s : Splits (kind_of_column column) (kinds_in columns) row)
    → cells (kinds_in (column ∷ columns)) row ≡ encode_cell (kind_of_column column) s.value ++ cells (kinds_in columns) s.rest
cells_shown column columns row e s =
    ap (λ (ks : List Kind). cells ks row) (kinds_shown column columns true e) ∙ ap (cells (kind_of_column column ∷ kinds_in columns)) s.is

cells_hidden : (column : Column) (columns : List Column) (row : Row) → is_open column ≡ false → cells (kinds_in (column ∷ columns)) row ≡ cells (kinds_in columns) row
cells_hidden column columns row e = ap (λ (ks : List Kind). cells ks row) (kinds_shown column columns false e)

before_next : (column : Column) (columns : List Column) (place : ℕ) → width_before (column ∷ columns) (suc place) ≡ shown_width column + width_before columns place
unfolding width_before
before_next column columns place = refl

before_none : (place : ℕ) → width_before [] place ≡ 0
unfolding width_before
before_none place = refl

-- ---- the width of a row

length_by : (column : Column) (columns : List Column) (row : Row) (b : Bool) → is_open column ≡ b → are_of_kinds (kinds_in (column ∷ columns)) row ≡ true
    → ((rest : Row) → are_of_kinds (kinds_in columns) rest ≡ true → length (cells (kinds_in columns) rest) ≡ width_before columns (length columns))
    → length (cells (kinds_in (column ∷ columns)) row) ≡ width_before (column ∷ columns) (suc (length columns))
length_by column columns row true e k rec =
    let s = splits_row column columns row e k in
    let whole = ap length (cells_shown column columns row e s) ∙ length-append (encode_cell (kind_of_column column) s.value) (cells (kinds_in columns) s.rest) in
    omega (arith, whole, cell_length (kind_of_column column) s.value s.fits, rec s.rest s.later, before_next column columns (length columns), width_shown column true e)
length_by column columns row false e k rec =
    let whole = ap length (cells_hidden column columns row e) in
    omega (arith, whole, rec row (hidden_row column columns row e k), before_next column columns (length columns), width_shown column false e)

pub row_length : (columns : List Column) (row : Row) → are_of_kinds (kinds_in columns) row ≡ true → length (cells (kinds_in columns) row) ≡ width_before columns (length columns)
row_length [] row k = sym (before_none 0)
row_length (column ∷ columns) row k = length_by column columns row (is_open column) refl k (λ rest h. row_length columns rest h)

-- ---- the cell of a column

pub record CellAt (at : ℕ) (columns : List Column) (row : Row) (column : Column) (place : ℕ) : Type 0 where
  pub value : Value
  pub fits : is_of_kind (kind_of_column column) value ≡ true
  pub has : value_at (places_from is_open at columns) row (at + place) ≡ Some value
  pub spelled : take (cell_width (kind_of_column column)) (drop (width_before columns place) (cells (kinds_in columns) row)) ≡ encode_cell (kind_of_column column) value

same_place : (at : ℕ) → (at == at + 0) ≡ true
same_place at = grind (arith, nat_tests)

other_place : (at place : ℕ) → (at == at + suc place) ≡ false
other_place at place = grind (arith, nat_tests)

first_cell : (at : ℕ) (column : Column) (columns : List Column) (row : Row) → is_open column ≡ true → are_of_kinds (kinds_in (column ∷ columns)) row ≡ true
    → width_before (column ∷ columns) 0 ≡ 0 → CellAt at (column ∷ columns) row column 0
first_cell at column columns row e k w =
    let s = splits_row column columns row e k in
    let long : length (encode_cell (kind_of_column column) s.value) ≡ cell_width (kind_of_column column) = cell_length (kind_of_column column) s.value s.fits in
    record {
      value = s.value;
      fits = s.fits;
      has = ap (λ (ps : List ℕ). value_at ps row (at + 0)) (places_shown at column columns true e)
          ∙ (ap (λ (r : Row). value_at (at ∷ places_from is_open (at + 1) columns) r (at + 0)) s.is
          ∙ ap (λ (t : Bool). if t then Some s.value else value_at (places_from is_open (at + 1) columns) s.rest (at + 0)) (same_place at));
      spelled = ap (λ (n : ℕ). take (cell_width (kind_of_column column)) (drop n (cells (kinds_in (column ∷ columns)) row))) w
          ∙ (ap (take (cell_width (kind_of_column column))) (cells_shown column columns row e s)
          ∙ (ap (λ (n : ℕ). take n (encode_cell (kind_of_column column) s.value ++ cells (kinds_in columns) s.rest)) (sym long) ∙ take-append_seam (encode_cell (kind_of_column column) s.value) (cells (kinds_in columns) s.rest)));
    }

later_cell : (at : ℕ) (first : Column) (columns : List Column) (row : Row) (column : Column) (place : ℕ) (b : Bool) → is_open first ≡ b → are_of_kinds (kinds_in (first ∷ columns)) row ≡ true
    → ((rest : Row) → are_of_kinds (kinds_in columns) rest ≡ true → CellAt (at + 1) columns rest column place) → CellAt at (first ∷ columns) row column (suc place)
later_cell at first columns row column place true e k rec =
    let s = splits_row first columns row e k in
    let c = rec s.rest s.later in
    let long : length (encode_cell (kind_of_column first) s.value) ≡ cell_width (kind_of_column first) = cell_length (kind_of_column first) s.value s.fits in
    let there : width_before (first ∷ columns) (suc place) ≡ length (encode_cell (kind_of_column first) s.value) + width_before columns place =
    omega (arith, before_next first columns place, width_shown first true e, long) in
    let further : at + suc place ≡ at + 1 + place = omega arith in
    record {
      value = c.value;
      fits = c.fits;
      has = ap (λ (ps : List ℕ). value_at ps row (at + suc place)) (places_shown at first columns true e)
          ∙ (ap (λ (r : Row). value_at (at ∷ places_from is_open (at + 1) columns) r (at + suc place)) s.is
          ∙ (ap (λ (t : Bool). if t then Some s.value else value_at (places_from is_open (at + 1) columns) s.rest (at + suc place)) (other_place at place)
          ∙ (ap (value_at (places_from is_open (at + 1) columns) s.rest) further ∙ c.has)));
      spelled = ap (λ (bs : List ℕ). take (cell_width (kind_of_column column)) (drop (width_before (first ∷ columns) (suc place)) bs)) (cells_shown first columns row e s)
          ∙ (ap (λ (n : ℕ). take (cell_width (kind_of_column column)) (drop n (encode_cell (kind_of_column first) s.value ++ cells (kinds_in columns) s.rest))) there
          ∙ (ap (take (cell_width (kind_of_column column))) (drop-append-add (encode_cell (kind_of_column first) s.value) (cells (kinds_in columns) s.rest) (width_before columns place)) ∙ c.spelled));
    }
later_cell at first columns row column place false e k rec =
    let c = rec row (hidden_row first columns row e k) in
    let there : width_before (first ∷ columns) (suc place) ≡ width_before columns place = omega (arith, before_next first columns place, width_shown first false e) in
    let further : at + suc place ≡ at + 1 + place = omega arith in
    record {
      value = c.value;
      fits = c.fits;
      has = ap (λ (ps : List ℕ). value_at ps row (at + suc place)) (places_shown at first columns false e)
          ∙ (ap (value_at (places_from is_open (at + 1) columns) row) further ∙ c.has);
      spelled = ap (λ (bs : List ℕ). take (cell_width (kind_of_column column)) (drop (width_before (first ∷ columns) (suc place)) bs)) (cells_hidden first columns row e)
          ∙ (ap (λ (n : ℕ). take (cell_width (kind_of_column column)) (drop n (cells (kinds_in columns) row))) there ∙ c.spelled);
    }

first_none : (column : Column) (columns : List Column) → width_before (column ∷ columns) 0 ≡ 0
unfolding width_before
first_none column columns = refl

pub cell_at : (at : ℕ) (columns : List Column) (row : Row) (column : Column) (place : ℕ) → slice_get columns place ≡ Some column → is_open column ≡ true
    → are_of_kinds (kinds_in columns) row ≡ true → CellAt at columns row column place
cell_at at [] row column place there shown k = cc
cell_at at (first ∷ columns) row column zero there shown k =
    let same : first ≡ column = cc in
    subst (λ (c : Column). CellAt at (first ∷ columns) row c 0) same
    (first_cell at first columns row (ap is_open same ∙ shown) k (first_none first columns))
cell_at at (first ∷ columns) row column (suc place) there shown k =
    later_cell at first columns row column place (is_open first) refl k (λ rest h. cell_at (at + 1) columns rest column place there shown h)
