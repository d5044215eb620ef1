-- A row that is put at the ends of columns, value by value.
use Rattle.std.proofs.Common.{◌≡◌, ◌≤◌, ◌<◌, ◌+◌, ◌∙◌, ℕ, zero, suc, pos, true, List, [], ◌∷◌, ◌++◌, map, length, take, drop, get_or, Some, sym, ap, ap₂, refl, arith, append-nil}
use Rattle.std.specs.Cmp.{first_so, second_so}
use Rattle.std.proofs.Math.ListN.{set, get_or-map}
use Rattle.std.proofs.lemmas.List.{map-set, set-get_or, length-map, length-set, drop-set-lt, drop_all, take_all}
use Rattle.std.proofs.lemmas.List.FromFn.{map-range_with_len_more}
use Rattle.std.proofs.lemmas.Option.{slice_get-get_or}
use Rattle.ghost_model.specs.core.Schema.{Kind, Integer}
use Rattle.ghost_model.specs.core.Values.{Value, Null, Number, Row}
use Rattle.ghost_model.specs.core.Database.{is_of_kind}
use Rattle.ghost_model.specs.core.Split.{are_of_kinds}
use Rattle.csv_split.specs.declared.cells.Cells.{Cells}
use Rattle.csv_split.specs.Cells.{kind_in, values_in}
use Rattle.csv_split.specs.Parts.{part_in}
use Rattle.csv_split.specs.Reading.{AtMost, HaveAll, with_row}
use Rattle.csv_split.specs.Tables.{column_values, values_at}
use Rattle.csv_split.proofs.FieldPlaces.{next}
use Rattle.csv_split.proofs.ReadRows.{made_same, earlier, last, all_more}
use Rattle.csv_split.proofs.TakenFields.{values_set, values_step}

-- a row has as many values as there are kinds, each of its kind
pub width_of : (kinds : List Kind) (row : Row) → are_of_kinds kinds row ≡ true → length row ≡ length kinds
width_of [] [] h = refl
width_of [] (value ∷ row) h = cc
width_of (kind ∷ kinds) [] h = cc
width_of (kind ∷ kinds) (value ∷ row) h = ap suc (width_of kinds row (second_so (is_of_kind kind value) _ h))

pub kind_at : (kinds : List Kind) (row : Row) (i : ℕ) (kind : Kind) (value : Value) → are_of_kinds kinds row ≡ true → i < length kinds
    → is_of_kind (get_or kinds i kind) (get_or row i value) ≡ true
kind_at [] row i kind value h within = absurd (omega arith)
kind_at (k ∷ kinds) [] i kind value h within = cc
kind_at (k ∷ kinds) (v ∷ row) zero kind value h within = first_so (is_of_kind k v) _ h
kind_at (k ∷ kinds) (v ∷ row) (suc i) kind value h within = kind_at kinds row i kind value (second_so (is_of_kind k v) _ h) (omega arith)

-- the values before column `i` are at the ends of their columns
pub record IsPutSoFar (row : Row) (old new : List Cells) (i : ℕ) : Type 0 where
  pub kinds : map kind_in new ≡ map kind_in old
  pub values : with_row (column_values old) row ≡ take i (column_values new) ++ with_row (drop i (column_values new)) (drop i row)
  pub left : drop i (column_values new) ≡ drop i (column_values old)

pub many : (old new : List Cells) → map kind_in new ≡ map kind_in old → length new ≡ length old
many old new same = sym (length-map new kind_in) ∙ ap length same ∙ length-map old kind_in

-- the value that is put next is of its column's kind
pub held_there : (row : Row) (old new : List Cells) (i : ℕ) (cell : Cells) (value : Value) → map kind_in new ≡ map kind_in old
    → are_of_kinds (map kind_in old) row ≡ true → i < length new → is_of_kind (kind_in (get_or new i cell)) (get_or row i value) ≡ true
held_there row old new i cell value same held within =
    let wide = length-map new kind_in in
    let kind : get_or (map kind_in new) i Integer ≡ kind_in (get_or new i cell) = Rattle.std.proofs.lemmas.List.get_or-map kind_in new i cell Integer within in
    ap (λ (k : Kind). is_of_kind k (get_or row i value)) (sym kind)
    ∙ kind_at (map kind_in new) row i Integer value (ap (λ (kinds : List Kind). are_of_kinds kinds row) same ∙ held) (omega arith)

pub room_there : (row : Row) (old new : List Cells) (i most : ℕ) (cell : Cells) → IsPutSoFar row old new i → i < length new → AtMost most (column_values old)
    → length (values_in (get_or new i cell)) ≤ most
room_there row old new i most cell so_far within room =
    let same = many old new so_far.kinds in
    let wide_new : length (column_values new) ≡ length new = length-map new values_in in
    let wide_old : length (column_values old) ≡ length old = length-map old values_in in
    let from_new : get_or (column_values new) i [] ≡ values_in (get_or new i cell) = Rattle.std.proofs.lemmas.List.get_or-map values_in new i cell [] within in
    let head : get_or (column_values new) i [] ≡ get_or (column_values old) i [] =
    ap (λ values. get_or values 0 []) (sym (next (column_values new) i [] (omega arith)) ∙ so_far.left ∙ next (column_values old) i [] (omega arith)) in
    let few = room i (get_or (column_values old) i []) (slice_get-get_or (column_values old) i [] (omega arith)) in
    let long = ap length (sym from_new ∙ head) in
    omega arith

-- the kinds stay where a column with the same kind takes a column's place
pub kinds_stay : (old new : List Cells) (i : ℕ) (cell more : Cells) → map kind_in new ≡ map kind_in old → kind_in more ≡ kind_in (get_or new i cell)
    → map kind_in (set new i more) ≡ map kind_in old
kinds_stay old new i cell more kinds same =
    map-set kind_in new i more
    ∙ ap (set (map kind_in new) i) (same ∙ sym (get_or-map kind_in new i cell))
    ∙ set-get_or (map kind_in new) i (kind_in cell)
    ∙ kinds

pub put_none : (row : Row) (old : List Cells) → IsPutSoFar row old old 0
put_none row old = record { kinds = refl; values = refl; left = refl }

-- one value more
pub step : (row : Row) (old new : List Cells) (i : ℕ) (cell more : Cells) (other : Value) → IsPutSoFar row old new i → i < length new → i < length row
    → values_in more ≡ values_in (get_or new i cell) ++ get_or row i other ∷ [] → kind_in more ≡ kind_in (get_or new i cell)
    → IsPutSoFar row old (set new i more) (i + 1)
step row old new i cell more other so_far within inside values same =
    let many_old = many old new so_far.kinds in
    let wide_new : length (column_values new) ≡ length new = length-map new values_in in
    let wide_old : length (column_values old) ≡ length old = length-map old values_in in
    let from_new : get_or (column_values new) i [] ≡ values_in (get_or new i cell) = Rattle.std.proofs.lemmas.List.get_or-map values_in new i cell [] within in
    let value : Value = get_or row i other in
    let grown : values_in more ≡ get_or (column_values new) i [] ++ value ∷ [] = values ∙ ap (λ values. values ++ value ∷ []) (sym from_new) in
    let here : drop i row ≡ value ∷ drop (i + 1) row = next row i other inside in
    let set_is = values_set new i more in
    record {
      kinds = kinds_stay old new i cell more so_far.kinds same;
      values = so_far.values
          ∙ ap (λ row. take i (column_values new) ++ with_row (drop i (column_values new)) row) here
          ∙ values_step (column_values new) i (values_in more) value (drop (i + 1) row) (omega arith) grown
          ∙ ap (λ values. take (i + 1) values ++ with_row (drop (i + 1) values) (drop (i + 1) row)) (sym set_is);
      left = ap (drop (i + 1)) set_is
          ∙ drop-set-lt (i + 1) (column_values new) i (values_in more) (omega arith)
          ∙ ap (drop 1) (sym (next (column_values new) i [] (omega arith)) ∙ so_far.left ∙ next (column_values old) i [] (omega arith));
    }

-- after the last value
pub all_put : (row : Row) (old new : List Cells) (i : ℕ) → IsPutSoFar row old new i → length new ≤ i → column_values new ≡ with_row (column_values old) row
all_put row old new i so_far past =
    let wide_new : length (column_values new) ≡ length new = length-map new values_in in
    let no_values : drop i (column_values new) ≡ [] = drop_all i (column_values new) (omega arith) in
    let whole : take i (column_values new) ≡ column_values new = take_all i (column_values new) (omega arith) in
    sym (so_far.values ∙ ap₂ (λ front back. front ++ with_row back (drop i row)) whole no_values ∙ append-nil (column_values new))

part_more : (count : ℕ) (columns : List (List Value)) (row : Row) → HaveAll count columns → length row ≡ length columns
    → part_in (count + 1) (with_row columns row) ≡ part_in count columns ++ row ∷ []
part_more count columns row all same =
    map-range_with_len_more (values_at (with_row columns row)) 0 count count (omega arith)
    ∙ ap₂ (λ rows (values : Row). rows ++ values ∷ [])
    (made_same (values_at (with_row columns row)) (values_at columns) 0 count (λ place within. earlier count place columns row all same (omega arith)))
    (last count columns row all same)

wide : (row : Row) (old : List Cells) → are_of_kinds (map kind_in old) row ≡ true → length row ≡ length (column_values old)
wide row old held = width_of (map kind_in old) row held ∙ (length-map old kind_in ∙ sym (length-map old values_in))

pub one_each : (row : Row) (old new : List Cells) (count : ℕ) → are_of_kinds (map kind_in old) row ≡ true → column_values new ≡ with_row (column_values old) row
    → HaveAll count (column_values old) → HaveAll (count + 1) (column_values new)
one_each row old new count held is all = Rattle.std.proofs.Common.subst (HaveAll (count + 1)) (sym is) (all_more count (column_values old) row all (wide row old held))

pub one_row : (row : Row) (old new : List Cells) (count : ℕ) → are_of_kinds (map kind_in old) row ≡ true → column_values new ≡ with_row (column_values old) row
    → HaveAll count (column_values old) → part_in (count + 1) (column_values new) ≡ part_in count (column_values old) ++ row ∷ []
one_row row old new count held is all = ap (part_in (count + 1)) is ∙ part_more count (column_values old) row all (wide row old held)
