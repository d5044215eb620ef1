-- What the key knows of a row by the hidden part and by whole replies is what stands in the row.
use Rattle.std.proofs.Common.{◌≡◌, ℕ, zero, suc, ◌+◌, ◌<◌, inl, inr, Bool, true, false, not, List, [], ◌∷◌, length, map, drop, sym, ◌∙◌, ap, subst, refl, arith, Option, Some, None, slice_get, unwrap_or}
use Rattle.std.specs.Prelude.{◌==◌, if◌then◌else◌, option_and_then}
use Rattle.std.specs.Option.{option_map}
use Rattle.std.proofs.lemmas.Option.{slice_get-map}
use Rattle.std.proofs.lemmas.Bool.Decides.{nat_tests}
use Rattle.std.proofs.lemmas.Bool.{eqb-true}
use Rattle.ghost_model.specs.core.Schema.{Schema, Column, columns_of, column_at, places_from, is_shown}
use Rattle.ghost_model.specs.core.Values.{Value, Text, Row, Rows, Database}
use Rattle.ghost_model.specs.core.Channel.{Ask}
use Rattle.ghost_model.specs.core.Database.{rows_of, IsDatabase}
use Rattle.ghost_model.specs.core.Split.{hidden_of, value_at, is_open, RowValues, replied, meets_tests, replies_from}
use Rattle.ghost_model.specs.laws.SplitByFlags.{hidden_flags, visible_values, hidden_values}
use Rattle.ghost_model.proofs.MeaningLemmas.PartsByFlags.{hidden_rows_at}
use Rattle.ghost_model.specs.core.Replies.{hidden_places, hidden_value, row_replied}
use Rattle.ghost_model.proofs.MeaningLemmas.OneRow.{Among}
use Rattle.ghost_model.proofs.ChannelLemmas.Tests.{false_is_not}

same_number : (n : ℕ) → (n == n) ≡ true
same_number n = grind (arith, nat_tests)

pub at_itself : (n : ℕ) → (n == n + 0) ≡ true
at_itself n = grind (arith, nat_tests)

pub not_later : (n k : ℕ) → (n == n + suc k) ≡ false
not_later n k = grind (arith, nat_tests)

value_if : (here : Bool) (value : Value) (other found : Option Value) → (here ≡ true → Some value ≡ found) → (here ≡ false → other ≡ found) → (if here then Some value else other) ≡ found
value_if true value other found p q = p refl
value_if false value other found p q = q refl

-- a hidden value by its place
hidden_at :
    (at : ℕ) (columns : List Column) (values : Row) (place : ℕ) → length values ≡ length columns → is_shown (slice_get columns place) ≡ false
    → value_at (places_from (λ (column : Column). column.hidden) at columns) (hidden_values (map (λ (column : Column). column.hidden) columns) values) (at + place) ≡ slice_get values place
unfolding places_from
hidden_at at [] [] place same h = refl
hidden_at at [] (value ∷ values) place same h = absurd (omega (arith, same))
hidden_at at (column ∷ columns) [] place same h = absurd (omega (arith, same))
hidden_at at (column ∷ columns) (value ∷ values) zero same h =
    (elim (column.hidden) as (λ v. not v ≡ false → value_at (if v then at ∷ places_from (λ (c : Column). c.hidden) (at + 1) columns else places_from (λ (c : Column). c.hidden) (at + 1) columns) (hidden_values (v ∷ map (λ (c : Column). c.hidden) columns) (value ∷ values)) (at + 0) ≡ Some value) [
      | true ↦ λ e. value_if (at == at + 0) value _ (Some value) (λ _. refl) (λ no. absurd (false_is_not (sym no ∙ at_itself at)))
      | false ↦ λ e. absurd (false_is_not (sym e))
    ]) h
hidden_at at (column ∷ columns) (value ∷ values) (suc place) same h =
    let later : value_at (places_from (λ (c : Column). c.hidden) (at + 1) columns) (hidden_values (map (λ (c : Column). c.hidden) columns) values) (at + suc place) ≡ slice_get values place =
    subst (λ (n : ℕ). value_at (places_from (λ (c : Column). c.hidden) (at + 1) columns) (hidden_values (map (λ (c : Column). c.hidden) columns) values) n ≡ slice_get values place) (omega arith)
    (hidden_at (at + 1) columns values place (omega (arith, same)) h) in
    (elim (column.hidden) as (λ v. value_at (if v then at ∷ places_from (λ (c : Column). c.hidden) (at + 1) columns else places_from (λ (c : Column). c.hidden) (at + 1) columns) (hidden_values (v ∷ map (λ (c : Column). c.hidden) columns) (value ∷ values)) (at + suc place) ≡ slice_get values place) [
      | true ↦ value_if (at == at + suc place) value _ (slice_get values place) (λ yes. absurd (false_is_not (sym (not_later at place) ∙ yes))) (λ _. later)
      | false ↦ later
    ])

-- a visible value by its place
visible_at :
    (at : ℕ) (columns : List Column) (values : Row) (place : ℕ) → length values ≡ length columns → is_shown (slice_get columns place) ≡ true
    → value_at (places_from is_open at columns) (visible_values (map (λ (column : Column). column.hidden) columns) values) (at + place) ≡ slice_get values place
unfolding places_from
visible_at at [] [] place same h = refl
visible_at at [] (value ∷ values) place same h = absurd (omega (arith, same))
visible_at at (column ∷ columns) [] place same h = absurd (omega (arith, same))
visible_at at (column ∷ columns) (value ∷ values) zero same h =
    (elim (column.hidden) as (λ v. not v ≡ true → value_at (if not v then at ∷ places_from is_open (at + 1) columns else places_from is_open (at + 1) columns) (visible_values (v ∷ map (λ (c : Column). c.hidden) columns) (value ∷ values)) (at + 0) ≡ Some value) [
      | true ↦ λ e. absurd (false_is_not e)
      | false ↦ λ e. value_if (at == at + 0) value _ (Some value) (λ _. refl) (λ no. absurd (false_is_not (sym no ∙ at_itself at)))
    ]) h
visible_at at (column ∷ columns) (value ∷ values) (suc place) same h =
    let later : value_at (places_from is_open (at + 1) columns) (visible_values (map (λ (c : Column). c.hidden) columns) values) (at + suc place) ≡ slice_get values place =
    subst (λ (n : ℕ). value_at (places_from is_open (at + 1) columns) (visible_values (map (λ (c : Column). c.hidden) columns) values) n ≡ slice_get values place) (omega arith)
    (visible_at (at + 1) columns values place (omega (arith, same)) h) in
    (elim (column.hidden) as (λ v. value_at (if not v then at ∷ places_from is_open (at + 1) columns else places_from is_open (at + 1) columns) (visible_values (v ∷ map (λ (c : Column). c.hidden) columns) (value ∷ values)) (at + suc place) ≡ slice_get values place) [
      | true ↦ later
      | false ↦ value_if (at == at + suc place) value _ (slice_get values place) (λ yes. absurd (false_is_not (sym (not_later at place) ∙ yes))) (λ _. later)
    ])

pub hidden_of_row :
    (columns : List Column) (row : Row) (column : ℕ) → length row ≡ length columns → is_shown (slice_get columns (suc column)) ≡ false
    → value_at (places_from (λ (c : Column). c.hidden) 1 (drop 1 columns)) (hidden_values (hidden_flags columns) (drop 1 row)) (suc column) ≡ slice_get row (suc column)
unfolding places_from
hidden_of_row [] [] column same h = refl
hidden_of_row [] (value ∷ values) column same h = absurd (omega (arith, same))
hidden_of_row (first ∷ columns) [] column same h = absurd (omega (arith, same))
hidden_of_row (first ∷ columns) (value ∷ values) column same h =
    subst (λ (n : ℕ). value_at (places_from (λ (c : Column). c.hidden) 1 columns) (hidden_values (map (λ (c : Column). c.hidden) columns) values) n ≡ slice_get values column) (omega arith)
    (hidden_at 1 columns values column (omega (arith, same)) h)

pub visible_of_row :
    (columns : List Column) (row : Row) (column : ℕ) → length row ≡ length columns → is_shown (slice_get columns (suc column)) ≡ true
    → value_at (places_from is_open 1 (drop 1 columns)) (visible_values (hidden_flags columns) (drop 1 row)) (suc column) ≡ slice_get row (suc column)
visible_of_row [] [] column same h = absurd (false_is_not h)
visible_of_row [] (value ∷ values) column same h = absurd (omega (arith, same))
visible_of_row (first ∷ columns) [] column same h = absurd (omega (arith, same))
visible_of_row (first ∷ columns) (value ∷ values) column same h =
    subst (λ (n : ℕ). value_at (places_from is_open 1 columns) (visible_values (map (λ (c : Column). c.hidden) columns) values) n ≡ slice_get values column) (omega arith)
    (visible_at 1 columns values column (omega (arith, same)) h)

-- the row of an identifier among the rows that meet an ask
row_if : (here : Bool) (row : RowValues) (other found : Option RowValues) → (here ≡ true → Some row ≡ found) → (here ≡ false → other ≡ found) → (if here then Some row else other) ≡ found
row_if true row other found p q = p refl
row_if false row other found p q = q refl

abbrev pub if_met : (places : List ℕ) → Ask → (identifier : ℕ) → Row → Option RowValues
if_met places ask identifier row = if meets_tests places ask.tests row then Some (replied places ask identifier row) else None

-- no row before the first one
none_before : (at k : ℕ) (places : List ℕ) (ask : Ask) (rows : Rows) → k < at → row_replied k (replies_from at places ask rows) ≡ None
unfolding replies_from
none_before at k places ask [] h = refl
none_before at k places ask (row ∷ rows) h =
    let later : row_replied k (replies_from (at + 1) places ask rows) ≡ None = none_before (at + 1) k places ask rows (omega (arith, h)) in
    let no : (at == k) ≡ false = grind (arith, nat_tests) in
    (elim (meets_tests places ask.tests row) as (λ v. row_replied k (if v then replied places ask at row ∷ replies_from (at + 1) places ask rows else replies_from (at + 1) places ask rows) ≡ None) [
      | true ↦ row_if (at == k) (replied places ask at row) _ None (λ yes. absurd (false_is_not (sym no ∙ yes))) (λ _. later)
      | false ↦ later
    ])

pub row_is_replied :
    (at place : ℕ) (places : List ℕ) (ask : Ask) (rows : Rows) (row : Row) → slice_get rows place ≡ Some row
    → row_replied (at + place) (replies_from at places ask rows) ≡ if_met places ask (at + place) row
unfolding replies_from
row_is_replied at place places ask [] row h = absurd (cc)
row_is_replied at zero places ask (first ∷ rows) row h =
    let same : first ≡ row = cc in
    let none : row_replied (at + 0) (replies_from (at + 1) places ask rows) ≡ None = none_before (at + 1) (at + 0) places ask rows (omega arith) in
    let zeroes : at ≡ at + 0 = omega arith in
    subst (λ (r : Row). row_replied (at + 0) (replies_from at places ask (first ∷ rows)) ≡ if_met places ask (at + 0) r) same
    (elim (meets_tests places ask.tests first) as (λ v. row_replied (at + 0) (if v then replied places ask at first ∷ replies_from (at + 1) places ask rows else replies_from (at + 1) places ask rows) ≡ (if v then Some (replied places ask (at + 0) first) else None)) [
      | true ↦ row_if (at == at + 0) (replied places ask at first) _ (Some (replied places ask (at + 0) first)) (λ _. ap (λ (n : ℕ). Some (replied places ask n first)) zeroes) (λ no. absurd (false_is_not (sym no ∙ at_itself at)))
      | false ↦ none
    ])
row_is_replied at (suc place) places ask (first ∷ rows) row h =
    let later : row_replied (at + suc place) (replies_from (at + 1) places ask rows) ≡ if_met places ask (at + suc place) row =
    subst (λ (n : ℕ). row_replied n (replies_from (at + 1) places ask rows) ≡ if_met places ask n row) (omega arith)
    (row_is_replied (at + 1) place places ask rows row h) in
    (elim (meets_tests places ask.tests first) as (λ v. row_replied (at + suc place) (if v then replied places ask at first ∷ replies_from (at + 1) places ask rows else replies_from (at + 1) places ask rows) ≡ if_met places ask (at + suc place) row) [
      | true ↦ row_if (at == at + suc place) (replied places ask at first) _ (if_met places ask (at + suc place) row) (λ yes. absurd (false_is_not (sym (not_later at place) ∙ yes))) (λ _. later)
      | false ↦ later
    ])

-- whether a value stands for each of some columns
abbrev pub AllThere : (ℕ → Option Value) → List ℕ → Type 0
AllThere f [] = Unit {0}
AllThere f (column ∷ columns) = ((value : Value) × (f column ≡ Some value)) × AllThere f columns

later_one : (first column : ℕ) (columns : List ℕ) → (first == column) ≡ false → Among column (first ∷ columns) → Among column columns
later_one first column columns differs (inl same) =
    absurd (false_is_not (sym differs ∙ (ap (λ (n : ℕ). first == n) (sym same) ∙ same_number first)))
later_one first column columns differs (inr later) = later

-- an asked value by its place
pub value_asked :
    (f : ℕ → Option Value) (columns : List ℕ) (column : ℕ) → AllThere f columns → Among column columns
    → value_at columns (map (λ asked. unwrap_or (f asked) (Text [])) columns) column ≡ f column
value_asked f [] column some h = absurd h
value_asked f (first ∷ columns) column some h =
    let there : f first ≡ Some some.0.0 = some.0.1 in
    value_if (first == column) (unwrap_or (f first) (Text [])) (value_at columns (map (λ asked. unwrap_or (f asked) (Text [])) columns) column) (f column)
    (λ yes. ap (λ o. Some (unwrap_or o (Text []))) there ∙ (sym there ∙ ap f (eqb-true first column yes)))
    (λ no. value_asked f columns column some.1 (later_one first column columns no h))

module _ (schema : Schema) (database : Database) (is : IsDatabase schema database) where
  pub hidden_is_known :
      (table place column : ℕ) (row : Row) → slice_get (rows_of database table) place ≡ Some row → is_shown (column_at schema table (suc column)) ≡ false
      → hidden_value schema (hidden_of schema database) table (suc place) (suc column) ≡ slice_get row (suc column)
  hidden_is_known table place column row h hidden =
      let part : Row → Row = λ whole. hidden_values (hidden_flags (columns_of schema table)) (drop 1 whole) in
      let value : Row → Option Value = λ kept. value_at (hidden_places schema table) kept (suc column) in
      ap (λ (rows : Rows). option_and_then value (slice_get rows place)) (hidden_rows_at schema database is.tables table)
      ∙ (ap (λ (o : Option Row). option_and_then value o) (slice_get-map part (rows_of database table) place)
      ∙ (ap (λ (o : Option Row). option_and_then value (option_map part o)) h
      ∙ hidden_of_row (columns_of schema table) row column (is.widths table (suc place) row h) hidden))
