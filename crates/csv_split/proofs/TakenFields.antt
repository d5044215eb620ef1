-- The fields of a record, put at the ends of the columns one by one.
use Rattle.std.proofs.Common.{◌≡◌, ◌≤◌, ◌<◌, ◌+◌, ◌∙◌, ℕ, List, [], ◌∷◌, ◌++◌, map, length, take, drop, get_or, sym, ap, ap₂, refl, arith, append_assoc, append-nil}
use Rattle.std.proofs.Math.ListN.{set, get_or-map}
use Rattle.std.proofs.lemmas.List.{map-set, set-get_or, length-map, length-set, drop-set-lt, drop_all, take_all, get_or-drop}
use Rattle.std.proofs.lemmas.Grind.{take-set_at}
use Rattle.std.proofs.lemmas.Option.{slice_get-get_or}
use Rattle.ghost_model.specs.refusals.LoadFaults.{field_faults, place, value_faults}
use Rattle.ghost_model.specs.core.Schema as schema
use Rattle.ghost_model.specs.laws.SchemaTrees.{identifier}
use Rattle.ghost_model.specs.core.Split.{kind_of_column}
use Rattle.ghost_model.specs.core.Values.{Value, Row}
use Rattle.ghost_model.specs.core.Database.{row_spelled, value_of_field}
use Rattle.csv_split.specs.declared.cells.Cells.{Cells}
use Rattle.csv_split.specs.Cells.{kind_in, values_in}
use Rattle.csv_split.specs.Tables.{column_values}
use Rattle.csv_split.specs.Reading.{AreOfKinds, AtMost, with_row}
use Rattle.csv_split.proofs.FieldPlaces.{next}

-- the fields before column `i` are at the ends of their columns, and the faults are those of the others
pub record IsTakenSoFar (table rec : ℕ) (columns : List schema.Column) (fields : List (List ℕ)) (old new : List Cells) (i : ℕ) : Type 0 where
  pub faults : field_faults table rec 1 columns (drop 1 fields) ≡ field_faults table rec (i + 1) (drop i columns) (drop (i + 1) fields)
  pub values : with_row (column_values old) (row_spelled columns (drop 1 fields))
      ≡ take i (column_values new) ++ with_row (drop i (column_values new)) (row_spelled (drop i columns) (drop (i + 1) fields))
  pub kinds : AreOfKinds columns new
  pub left : drop i (column_values new) ≡ drop i (column_values old)

pub begin : (table rec : ℕ) (columns : List schema.Column) (fields : List (List ℕ)) (old : List Cells) → AreOfKinds columns old
    → IsTakenSoFar table rec columns fields old old 0
begin table rec columns fields old kinds = record { faults = refl; values = refl; kinds = kinds; left = refl }

pub same_length : (columns : List schema.Column) (cells : List Cells) → AreOfKinds columns cells → length cells ≡ length columns
same_length columns cells kinds = sym (length-map cells kind_in) ∙ ap length kinds ∙ length-map columns kind_of_column

-- the kind of the column at a place
pub kind_there : (columns : List schema.Column) (cells : List Cells) (i : ℕ) (held : schema.Column) (cell : Cells) → AreOfKinds columns cells → i < length columns
    → kind_in (get_or cells i cell) ≡ (get_or columns i held).kind
kind_there columns cells i held cell kinds within =
    let many = same_length columns cells kinds in
    sym (Rattle.std.proofs.lemmas.List.get_or-map kind_in cells i cell schema.Integer (omega arith))
    ∙ ap (λ kinds. get_or kinds i schema.Integer) kinds
    ∙ Rattle.std.proofs.lemmas.List.get_or-map kind_of_column columns i held schema.Integer within

-- the faults that are left begin with those of the field of column `i`
pub faults_next : (table rec : ℕ) (columns : List schema.Column) (fields : List (List ℕ)) (i : ℕ) (cells : List Cells) (cell : Cells)
    → AreOfKinds columns cells → i < length columns → length fields ≡ length columns + 1
    → field_faults table rec (i + 1) (drop i columns) (drop (i + 1) fields)
    ≡ value_faults (place table rec (i + 1)) (kind_in (get_or cells i cell)) (get_or fields (i + 1) [])
    ++ field_faults table rec (i + 1 + 1) (drop (i + 1) columns) (drop (i + 1 + 1) fields)
unfolding field_faults
faults_next table rec columns fields i cells cell kinds within many =
    let here = next columns i identifier within in
    let field = next fields (i + 1) [] (omega arith) in
    let kind = kind_there columns cells i identifier cell kinds within in
    rw (here, field, kind) refl

-- the values of the columns with one of them replaced
pub values_set : (cells : List Cells) (i : ℕ) (cell : Cells) → column_values (set cells i cell) ≡ set (column_values cells) i (values_in cell)
values_set cells i cell = map-set values_in cells i cell

-- the column at a place has as many values as at first
pub room_there : (table rec : ℕ) (columns : List schema.Column) (fields : List (List ℕ)) (old new : List Cells) (i most : ℕ) (cell : Cells)
    → IsTakenSoFar table rec columns fields old new i → AreOfKinds columns old → i < length columns → AtMost most (column_values old)
    → length (values_in (get_or new i cell)) ≤ most
room_there table rec columns fields old new i most cell so_far kinds within room =
    let many_new = same_length columns new so_far.kinds in
    let many_old = same_length columns old kinds in
    let wide_new : length (column_values new) ≡ length new = length-map new values_in in
    let wide_old : length (column_values old) ≡ length old = length-map old values_in in
    let from_new : get_or (column_values new) i [] ≡ values_in (get_or new i cell) = Rattle.std.proofs.lemmas.List.get_or-map values_in new i cell [] (omega arith) in
    let head : get_or (column_values new) i [] ≡ get_or (column_values old) i [] =
    ap (λ values. get_or values 0 []) (sym (next (column_values new) i [] (omega arith)) ∙ so_far.left ∙ next (column_values old) i [] (omega arith)) in
    let few = room i (get_or (column_values old) i []) (slice_get-get_or (column_values old) i [] (omega arith)) in
    let same = ap length (sym from_new ∙ head) in
    omega arith

-- the faults of all begin with those of the field of column `i`
pub all_faults : (table rec : ℕ) (columns : List schema.Column) (fields : List (List ℕ)) (old new : List Cells) (i : ℕ) (cell : Cells)
    → IsTakenSoFar table rec columns fields old new i → i < length columns → length fields ≡ length columns + 1
    → field_faults table rec 1 columns (drop 1 fields)
    ≡ value_faults (place table rec (i + 1)) (kind_in (get_or new i cell)) (get_or fields (i + 1) [])
    ++ field_faults table rec (i + 1 + 1) (drop (i + 1) columns) (drop (i + 1 + 1) fields)
all_faults table rec columns fields old new i cell so_far within many =
    so_far.faults ∙ faults_next table rec columns fields i new cell so_far.kinds within many

-- the kinds stay where a column with the same kind takes a column's place
pub kinds_stay : (columns : List schema.Column) (cells : List Cells) (i : ℕ) (cell more : Cells) → AreOfKinds columns cells → kind_in more ≡ kind_in (get_or cells i cell)
    → AreOfKinds columns (set cells i more)
kinds_stay columns cells i cell more kinds same =
    map-set kind_in cells i more
    ∙ ap (set (map kind_in cells) i) (same ∙ sym (get_or-map kind_in cells i cell))
    ∙ set-get_or (map kind_in cells) i (kind_in cell)
    ∙ kinds

pub values_step : (N : List (List Value)) (i : ℕ) (x : List Value) (value : Value) (row : Row) → i < length N → x ≡ get_or N i [] ++ value ∷ []
    → take i N ++ with_row (drop i N) (value ∷ row) ≡ take (i + 1) (set N i x) ++ with_row (drop (i + 1) (set N i x)) row
values_step N i x value row within is =
    let front : take (i + 1) (set N i x) ≡ take i N ++ x ∷ [] = take-set_at N i (i + 1) x refl within in
    let back : drop (i + 1) (set N i x) ≡ drop (i + 1) N = drop-set-lt (i + 1) N i x (omega arith) in
    rw (next N i [] within, front, back)
    (ap (λ values. take i N ++ (values ∷ with_row (drop (i + 1) N) row)) (sym is) ∙ sym (append_assoc (take i N) (x ∷ []) (with_row (drop (i + 1) N) row)))

-- one field more
pub step : (table rec : ℕ) (columns : List schema.Column) (fields : List (List ℕ)) (old new : List Cells) (i : ℕ) (cell more : Cells) (field : List ℕ)
    → IsTakenSoFar table rec columns fields old new i → AreOfKinds columns old → i < length columns → length fields ≡ length columns + 1 → field ≡ get_or fields (i + 1) []
    → value_faults (place table rec (i + 1)) (kind_in (get_or new i cell)) field ≡ []
    → values_in more ≡ values_in (get_or new i cell) ++ value_of_field (kind_in (get_or new i cell)) field ∷ [] → kind_in more ≡ kind_in (get_or new i cell)
    → IsTakenSoFar table rec columns fields old (set new i more) (i + 1)
step table rec columns fields old new i cell more field so_far kinds within many is none values same =
    let clean : value_faults (place table rec (i + 1)) (kind_in (get_or new i cell)) (get_or fields (i + 1) []) ≡ [] = rw is at none in
    let value = value_of_field (kind_in (get_or new i cell)) field in
    let many_new = same_length columns new so_far.kinds in
    let many_old = same_length columns old kinds in
    let wide_new : length (column_values new) ≡ length new = length-map new values_in in
    let wide_old : length (column_values old) ≡ length old = length-map old values_in in
    let from_new : get_or (column_values new) i [] ≡ values_in (get_or new i cell) = Rattle.std.proofs.lemmas.List.get_or-map values_in new i cell [] (omega arith) in
    let grown : values_in more ≡ get_or (column_values new) i [] ++ value ∷ [] = values ∙ ap (λ values. values ++ value ∷ []) (sym from_new) in
    let kind : kind_in (get_or new i cell) ≡ (get_or columns i identifier).kind = kind_there columns new i identifier cell so_far.kinds within in
    let row : row_spelled (drop i columns) (drop (i + 1) fields) ≡ value ∷ row_spelled (drop (i + 1) columns) (drop (i + 1 + 1) fields) =
    ap₂ row_spelled (next columns i identifier within) (next fields (i + 1) [] (omega arith))
    ∙ ap₂ (λ kind field. value_of_field kind field ∷ row_spelled (drop (i + 1) columns) (drop (i + 1 + 1) fields)) (sym kind) (sym is) in
    let set_is = values_set new i more in
    record {
      faults = all_faults table rec columns fields old new i cell so_far within many ∙ ap (λ faults. faults ++ field_faults table rec (i + 1 + 1) (drop (i + 1) columns) (drop (i + 1 + 1) fields)) clean;
      values = so_far.values
          ∙ ap (λ row. take i (column_values new) ++ with_row (drop i (column_values new)) row) row
          ∙ values_step (column_values new) i (values_in more) value (row_spelled (drop (i + 1) columns) (drop (i + 1 + 1) fields)) (omega arith) grown
          ∙ ap (λ values. take (i + 1) values ++ with_row (drop (i + 1) values) (row_spelled (drop (i + 1) columns) (drop (i + 1 + 1) fields))) (sym set_is);
      kinds = kinds_stay columns new i cell more so_far.kinds same;
      left = ap (drop (i + 1)) set_is
          ∙ drop-set-lt (i + 1) (column_values new) i (values_in more) (omega arith)
          ∙ ap (drop 1) (sym (next (column_values new) i [] (omega arith)) ∙ so_far.left ∙ next (column_values old) i [] (omega arith));
    }

-- after the last field
pub all_taken : (table rec : ℕ) (columns : List schema.Column) (fields : List (List ℕ)) (old new : List Cells) (i : ℕ)
    → IsTakenSoFar table rec columns fields old new i → length columns ≤ i
    → (field_faults table rec 1 columns (drop 1 fields) ≡ []) × (column_values new ≡ with_row (column_values old) (row_spelled columns (drop 1 fields)))
unfolding field_faults
all_taken table rec columns fields old new i so_far past =
    let many_new = same_length columns new so_far.kinds in
    let wide_new : length (column_values new) ≡ length new = length-map new values_in in
    let none : drop i columns ≡ [] = drop_all i columns past in
    let no_values : drop i (column_values new) ≡ [] = drop_all i (column_values new) (omega arith) in
    let whole : take i (column_values new) ≡ column_values new = take_all i (column_values new) (omega arith) in
    let all : with_row (column_values old) (row_spelled columns (drop 1 fields)) ≡ column_values new =
    so_far.values ∙ ap₂ (λ front back. front ++ with_row back (row_spelled (drop i columns) (drop (i + 1) fields))) whole no_values ∙ append-nil (column_values new) in
    (so_far.faults ∙ ap (λ columns. field_faults table rec (i + 1) columns (drop (i + 1) fields)) none, sym all)
