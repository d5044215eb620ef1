-- The rows of a file, record by record.
use Rattle.std.proofs.Common.{◌≡◌, ◌≤◌, ◌<◌, ◌+◌, ◌∙◌, ℕ, zero, suc, pos, Bool, true, false, nat_le, nat_eq, leb-true, eqb-true, length-drop, List, [], ◌∷◌, ◌++◌, map, length, drop, get_or, Some, sym, ap, ap₂, refl, subst, arith, append_assoc, append-nil, length-append}
use Rattle.std.specs.Prelude.{slice_get}
use Rattle.std.specs.List.{range_with_len}
use Rattle.std.proofs.Math.ListN.{get_or-append}
use Rattle.std.proofs.Math.Seq.{get_or-append_seam}
use Rattle.std.proofs.lemmas.List.{drop_all, length-map, map_push}
use Rattle.std.proofs.lemmas.List.FromFn.{map-range_with_len_more}
use Rattle.ghost_model.specs.forms.Cells.{cell_width}
use Rattle.ghost_model.specs.refusals.LoadFaults.{FieldCount, LoadFault, RowLimit, most_rows, place, row_faults, rows_faults, unless}
use Rattle.ghost_model.specs.core.Schema as schema
use Rattle.ghost_model.specs.laws.SchemaTrees.{identifier}
use Rattle.ghost_model.specs.core.Split.{kind_of_column}
use Rattle.ghost_model.specs.core.Values.{Value, Number, Row}
use Rattle.tree_schema.specs.declared.schema.Column.{Column}
use Rattle.tree_schema.specs.Views.{column_of}
use Rattle.ghost_model.specs.core.Database.{row_spelled}
use Rattle.csv_split.specs.declared.cells.Cells.{Cells}
use Rattle.csv_split.specs.Cells.{kind_in, values_in}
use Rattle.csv_split.specs.Reading.{AreColumns, AreOfKinds, HaveAll, columns_of, with_identifier, with_row}
use Rattle.csv_split.proofs.FieldPlaces.{next}
use Rattle.csv_split.proofs.Headers.{column_there, held_there}
use Rattle.csv_split.proofs.TakenFields.{same_length}
use Rattle.csv_split.specs.Tables.{column_values, row_at, rows_in, values_at}

-- functions that agree on so many places
pub made_same : {X : Type 0} (f g : ℕ → X) (from count : ℕ) → ((place : ℕ) → place < from + count → f place ≡ g place)
    → map f (range_with_len from count) ≡ map g (range_with_len from count)
made_same f g from zero same = refl
made_same f g from (suc count) same =
    ap₂ (λ x xs. x ∷ xs) (same from (omega arith)) (made_same f g (from + 1) count (λ place within. same place (omega arith)))

-- the columns after the first have as many values too
later_have_all : (count : ℕ) (values : List Value) (columns : List (List Value)) → HaveAll count (values ∷ columns) → HaveAll count columns
later_have_all count values columns all = record { each = λ column held is. all.each (suc column) held is }

first_has_all : (count : ℕ) (values : List Value) (columns : List (List Value)) → HaveAll count (values ∷ columns) → length values ≡ count
first_has_all count values columns all = all.each 0 values refl

-- one row more changes no row before
pub earlier : (count place : ℕ) (columns : List (List Value)) (row : Row) → HaveAll count columns → length row ≡ length columns → place < count
    → values_at (with_row columns row) place ≡ values_at columns place
earlier count place [] row all same within = refl
earlier count place (values ∷ columns) [] all same within = absurd (omega arith)
earlier count place (values ∷ columns) (value ∷ row) all same within =
    let long = first_has_all count values columns all in
    ap₂ (λ x xs. x ∷ xs) (get_or-append values (value ∷ []) (Number (pos 0)) place (omega arith))
    (earlier count place columns row (later_have_all count values columns all) (omega arith) within)

-- and stands behind them
pub last : (count : ℕ) (columns : List (List Value)) (row : Row) → HaveAll count columns → length row ≡ length columns → values_at (with_row columns row) count ≡ row
last count [] [] all same = refl
last count [] (_ ∷ _) all same = absurd (omega arith)
last count (values ∷ columns) [] all same = absurd (omega arith)
last count (values ∷ columns) (value ∷ row) all same =
    let long = first_has_all count values columns all in
    ap₂ (λ x xs. x ∷ xs) (ap (λ n. get_or (values ++ value ∷ []) n (Number (pos 0))) (sym long) ∙ get_or-append_seam values value [] (Number (pos 0)))
    (last count columns row (later_have_all count values columns all) (omega arith))

pub rows_more : (count : ℕ) (columns : List (List Value)) (row : Row) → HaveAll count columns → length row ≡ length columns
    → rows_in (count + 1) (with_row columns row) ≡ rows_in count columns ++ (Number (pos (count + 1)) ∷ row) ∷ []
rows_more count columns row all same =
    map-range_with_len_more (row_at (with_row columns row)) 0 count count (omega arith)
    ∙ ap₂ (λ rows (values : Row). rows ++ (Number (pos (count + 1)) ∷ values) ∷ [])
    (made_same (row_at (with_row columns row)) (row_at columns) 0 count (λ place within. ap (λ (values : Row). Number (pos (place + 1)) ∷ values) (earlier count place columns row all same (omega arith))))
    (last count columns row all same)

pub all_more : (count : ℕ) (columns : List (List Value)) (row : Row) → HaveAll count columns → length row ≡ length columns → HaveAll (count + 1) (with_row columns row)
all_more count [] row all same = record { each = λ column values is. cc is }
all_more count (values ∷ columns) [] all same = absurd (omega arith)
all_more count (values ∷ columns) (value ∷ row) all same =
    record { each = each (all_more count columns row (later_have_all count values columns all) (omega arith)) }
  where
    each : HaveAll (count + 1) (with_row columns row) → (column : ℕ) (held : List Value)
        → slice_get ((values ++ value ∷ []) ∷ with_row columns row) column ≡ Some held → length held ≡ count + 1
    each later zero held is =
        let same : held ≡ values ++ value ∷ [] = cc is in
        ap length same ∙ length-append values (value ∷ []) ∙ ap (λ n. n + 1) (first_has_all count values columns all)
    each later (suc column) held is = later.each column held is

pub spelled_width : (columns : List schema.Column) (fields : List (List ℕ)) → length fields ≡ length columns → length (row_spelled columns fields) ≡ length columns
spelled_width [] fields same = refl
spelled_width (k ∷ ks) [] same = absurd (omega arith)
spelled_width (k ∷ ks) (f ∷ fs) same = ap suc (spelled_width ks fs (omega arith))

-- the records before `left` are so many rows, and break no rule
pub record IsReadSoFar (table : ℕ) (columns : List schema.Column) (whole : List (List (List ℕ))) (count : ℕ) (cells : List Cells) (left : List (List (List ℕ))) : Type 0 where
  pub few : count ≤ most_rows
  pub faults : rows_faults table 1 (with_identifier columns) whole ≡ rows_faults table (count + 1) (with_identifier columns) left
  pub rows : map (row_spelled (with_identifier columns)) whole ≡ rows_in count (column_values cells) ++ map (row_spelled (with_identifier columns)) left
  pub kinds : AreOfKinds columns cells
  pub all : HaveAll count (column_values cells)

-- after the last record
pub none_broken : (table : ℕ) (columns : List schema.Column) (whole : List (List (List ℕ))) (count : ℕ) (cells : List Cells) (left : List (List (List ℕ)))
    → IsReadSoFar table columns whole count cells left → left ≡ [] → rows_faults table 1 (with_identifier columns) whole ≡ []
unfolding rows_faults
none_broken table columns whole count cells left so_far none =
    so_far.faults ∙ ap (rows_faults table (count + 1) (with_identifier columns)) none

-- at a record, whose faults are the first
pub row_next : (table : ℕ) (columns : List schema.Column) (whole : List (List (List ℕ))) (count : ℕ) (cells : List Cells) (left later : List (List (List ℕ))) (fields : List (List ℕ))
    → IsReadSoFar table columns whole count cells left → left ≡ fields ∷ later
    → rows_faults table 1 (with_identifier columns) whole
    ≡ row_faults table (count + 1) (with_identifier columns) fields ++ rows_faults table (count + 1 + 1) (with_identifier columns) later
unfolding rows_faults
row_next table columns whole count cells left later fields so_far is =
    so_far.faults ∙ ap (rows_faults table (count + 1) (with_identifier columns)) is

-- a row without faults is not one too many, and has a field for each column
rule_kept : (rule : Bool) (fault : LoadFault) (later : List LoadFault) → unless rule fault ++ later ≡ [] → (rule ≡ true) × (later ≡ [])
rule_kept true fault later none = (refl, none)
rule_kept false fault later none = absurd (cc none)

pub clean_row : (table number : ℕ) (columns : List schema.Column) (fields : List (List ℕ)) → row_faults table number (with_identifier columns) fields ≡ []
    → (number ≤ most_rows) × (length (drop 1 fields) ≡ length columns)
clean_row table number columns fields none =
    let few = rule_kept (nat_le number most_rows) (RowLimit (place table (number + 1) 0)) _ none in
    let width = rule_kept (nat_eq (length fields) (suc (length columns))) (FieldCount (place table (number + 1) 0)) _ few.1 in
    let same : length fields ≡ suc (length columns) = eqb-true (length fields) (suc (length columns)) width.0 in
    let less = length-drop 1 fields in
    (leb-true number most_rows few.0, omega arith)

-- after one more row
pub row_read : (table : ℕ) (columns : List schema.Column) (whole : List (List (List ℕ))) (count : ℕ) (cells more : List Cells) (left later : List (List (List ℕ))) (fields : List (List ℕ))
    → IsReadSoFar table columns whole count cells left → left ≡ fields ∷ later
    → row_faults table (count + 1) (with_identifier columns) fields ≡ []
    → column_values more ≡ with_row (column_values cells) (row_spelled columns (drop 1 fields))
    → AreOfKinds columns more
    → row_spelled (with_identifier columns) fields ≡ Number (pos (count + 1)) ∷ row_spelled columns (drop 1 fields)
    → IsReadSoFar table columns whole (count + 1) more later
row_read table columns whole count cells more left later fields so_far is none values kinds number =
    let clean = clean_row table (count + 1) columns fields none in
    let width : length (row_spelled columns (drop 1 fields)) ≡ length (column_values cells) =
    spelled_width columns (drop 1 fields) clean.1 ∙ sym (same_length columns cells so_far.kinds) ∙ sym (length-map cells values_in) in
    let row = row_spelled columns (drop 1 fields) in
    let spelled = row_spelled (with_identifier columns) in
    record {
      few = clean.0;
      faults = row_next table columns whole count cells left later fields so_far is
          ∙ ap (λ faults. faults ++ rows_faults table (count + 1 + 1) (with_identifier columns) later) none;
      rows = so_far.rows
          ∙ ap (λ left. rows_in count (column_values cells) ++ map spelled left) is
          ∙ ap (λ one. rows_in count (column_values cells) ++ (one ∷ map spelled later)) number
          ∙ sym (append_assoc (rows_in count (column_values cells)) ((Number (pos (count + 1)) ∷ row) ∷ []) (map spelled later))
          ∙ ap (λ rows. rows ++ map spelled later) (sym (rows_more count (column_values cells) row so_far.all width))
          ∙ ap (λ columns. rows_in (count + 1) columns ++ map spelled later) (sym values);
      kinds = kinds;
      all = subst (HaveAll (count + 1)) (sym values) (all_more count (column_values cells) row so_far.all width);
    }

-- columns without values: one more
pub none_more : (columns : List (List Value)) (values : List Value) → HaveAll 0 columns → values ≡ [] → HaveAll 0 (columns ++ values ∷ [])
none_more [] values none is = record { each = λ column held same. only column held same }
  where
    only : (column : ℕ) (held : List Value) → slice_get (values ∷ []) column ≡ Some held → length held ≡ 0
    only zero held same = let e : held ≡ values = cc same in ap length (e ∙ is)
    only (suc column) held same = cc same
none_more (first ∷ columns) values none is = record { each = each (none_more columns values (later_have_all 0 first columns none) is) }
  where
    each : HaveAll 0 (columns ++ values ∷ []) → (column : ℕ) (held : List Value) → slice_get (first ∷ (columns ++ values ∷ [])) column ≡ Some held → length held ≡ 0
    each later zero held same = none.each 0 held same
    each later (suc column) held same = later.each column held same

-- the kinds of the columns made are those of the first columns
pub record AreMade (columns : List schema.Column) (cells : List Cells) (i : ℕ) : Type 0 where
  pub kinds : map kind_of_column columns ≡ map kind_in cells ++ map kind_of_column (drop i columns)
  pub none : HaveAll 0 (column_values cells)

pub one_made : (declared : List Column) (cells more : List Cells) (i : ℕ) (column : Column) (cell : Cells)
    → AreMade (columns_of declared) cells i → i < length declared → column ≡ get_or declared i column → more ≡ cells ++ cell ∷ []
    → kind_in cell ≡ (column_of column).kind → values_in cell ≡ [] → AreMade (columns_of declared) more (i + 1)
one_made declared cells more i column cell made within is grown kind none =
    let wide : length (columns_of declared) ≡ length declared = length-map declared column_of in
    let here : drop i (columns_of declared) ≡ column_of column ∷ drop (i + 1) (columns_of declared) =
    next (columns_of declared) i identifier (omega arith) ∙ ap (λ held. held ∷ drop (i + 1) (columns_of declared)) (column_there declared i column within is) in
    let rest = map kind_of_column (drop (i + 1) (columns_of declared)) in
    record {
      kinds = made.kinds
          ∙ ap (λ left. map kind_in cells ++ map kind_of_column left) here
          ∙ ap (λ kind. map kind_in cells ++ (kind ∷ rest)) (sym kind)
          ∙ sym (append_assoc (map kind_in cells) (kind_in cell ∷ []) rest)
          ∙ ap (λ kinds. kinds ++ rest) (sym (ap (map kind_in) grown ∙ map_push kind_in cells cell));
      none = subst (HaveAll 0) (sym (ap column_values grown ∙ map_push values_in cells cell)) (none_more (column_values cells) (values_in cell) made.none none);
    }

pub all_made : (declared : List Column) (cells : List Cells) (i : ℕ) → AreMade (columns_of declared) cells i → length declared ≤ i → AreOfKinds (columns_of declared) cells
all_made declared cells i made past =
    let wide : length (columns_of declared) ≡ length declared = length-map declared column_of in
    let none : drop i (columns_of declared) ≡ [] = drop_all i (columns_of declared) (omega arith) in
    sym (made.kinds ∙ ap (λ left. map kind_in cells ++ map kind_of_column left) none ∙ append-nil (map kind_in cells))

-- no columns yet
pub none_made : (columns : List schema.Column) (cells : List Cells) → cells ≡ [] → AreMade columns cells 0
none_made columns cells is =
    let P : List Cells → Type 0 = λ cells. AreMade columns cells 0 in
    subst P (sym is) (record { kinds = refl; none = record { each = λ column values same. cc same } })

-- its cells are narrow
pub narrow_there : (declared : List Column) (i : ℕ) (column : Column) → AreColumns (columns_of declared) → i < length declared → column ≡ get_or declared i column
    → cell_width (schema.plain_of (column_of column).kind) ≤ 64
narrow_there declared i column are within is = are.narrow i (column_of column) (held_there declared i column within is)
