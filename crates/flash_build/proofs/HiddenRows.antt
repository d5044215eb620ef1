-- Rows of a hidden part, value by value: their kinds, and when two of them are the same.
use Rattle.std.proofs.Common.{◌≡◌, refl, ap, sym, ◌∙◌, ℕ, zero, suc, ◌+◌, Bool, true, false, cond, List, [], ◌∷◌, length, map, drop, filter, Some, slice_get, arith}
use Rattle.ghost_model.specs.core.Schema.{Schema, Column, columns_of, places_from}
use Rattle.ghost_model.specs.core.Values.{Value, Row}
use Rattle.ghost_model.specs.core.Database.{is_of_kind}
use Rattle.ghost_model.specs.core.Asks.{kind_or_none}
use Rattle.ghost_model.specs.core.Split.{value_at, kind_of_column, are_of_kinds}
use Rattle.ghost_model.specs.forms.Layout.{is_hidden}
use Rattle.ghost_model.specs.laws.SchemaTrees.{identifier}
use Rattle.ghost_model.specs.laws.FlashLaws.{hidden_before}
use Rattle.ghost_model.proofs.ChannelLemmas.Tests.{BothHold, both_hold, hold_both}
use Rattle.ghost_model.proofs.LayoutLemmas.Columns.{hidden_or_none}
use Rattle.ghost_model.proofs.LayoutLemmas.Order.{sum_next}
use Rattle.ghost_model.proofs.FlashLemmas.Values.{hidden_among, value_by_place}

-- the hidden ones among the first columns, one column more
among_next : (n : ℕ) (columns : List Column) → hidden_among (suc n) columns ≡ hidden_among n columns + cond (hidden_or_none (slice_get columns n)) 1 0
unfolding hidden_among
among_next zero [] = refl
among_next zero (column ∷ columns) = omega arith
among_next (suc n) [] = refl
among_next (suc n) (column ∷ columns) = let later = among_next n columns in omega (arith, later)

none_among : (columns : List Column) → 0 ≡ hidden_among 0 columns
unfolding hidden_among
none_among columns = refl

pub before_is_among : (schema : Schema) (table n : ℕ) → hidden_before schema table n ≡ hidden_among n (columns_of schema table)
before_is_among schema table zero = none_among (columns_of schema table)
before_is_among schema table (suc n) =
    let was = before_is_among schema table n in
    let next = sum_next (λ k. cond (is_hidden schema table k) 1 0) n in
    let among = among_next n (columns_of schema table) in
    let e : n + 1 ≡ suc n = omega arith in
    let same = ap (hidden_before schema table) e in
    omega (arith, was, next, among, same)

-- a row has one value for each hidden column, of its kind
abbrev hidden_only : List Column → List Column
hidden_only columns = filter (λ (column : Column). column.hidden) columns

kinds_at_first : (b : Bool) (column : Column) (rest : List Column) (row : Row) (n : ℕ) → length row ≡ cond b 1 0 + n
    → ((value : Value) → b ≡ true → slice_get row 0 ≡ Some value → is_of_kind column.kind value ≡ true)
    → ((values : Row) → length values ≡ n → ((k : ℕ) → slice_get values k ≡ slice_get row (cond b 1 0 + k)) → are_of_kinds (map kind_of_column rest) values ≡ true)
    → are_of_kinds (map kind_of_column (cond b (column ∷ rest) rest)) row ≡ true
kinds_at_first true column rest [] n size first later = absurd (omega (arith, size))
kinds_at_first true column rest (value ∷ row) n size first later =
    hold_both (is_of_kind column.kind value) (are_of_kinds (map kind_of_column rest) row) (first value refl refl)
    (later row (omega (arith, size)) (λ k. let e : suc k ≡ 1 + k = omega arith in ap (slice_get (value ∷ row)) e))
kinds_at_first false column rest row n size first later =
    later row (omega (arith, size)) (λ k. let e : k ≡ 0 + k = omega arith in ap (slice_get row) e)

pub kinds_of_row : (columns : List Column) (row : Row) → length row ≡ hidden_among (length columns) columns
    → ((place : ℕ) (value : Value) → hidden_or_none (slice_get columns place) ≡ true → slice_get row (hidden_among place columns) ≡ Some value
    → is_of_kind (kind_or_none (slice_get columns place)) value ≡ true)
    → are_of_kinds (map kind_of_column (hidden_only columns)) row ≡ true
unfolding hidden_among
kinds_of_row [] [] size each = refl
kinds_of_row [] (value ∷ row) size each = absurd (omega (arith, size))
kinds_of_row (column ∷ columns) row size each =
    kinds_at_first column.hidden column (hidden_only columns) row (hidden_among (length columns) columns) size
    (λ value h first. each 0 value h first)
    (λ values many same. kinds_of_row columns values many (λ place value h there. each (suc place) value h (sym (same (hidden_among place columns)) ∙ there)))

pub kinds_behind_identifier : (columns : List Column) → slice_get columns 0 ≡ Some identifier → (row : Row) → length row ≡ hidden_among (length columns) columns
    → ((place : ℕ) (value : Value) → hidden_or_none (slice_get columns place) ≡ true → slice_get row (hidden_among place columns) ≡ Some value
    → is_of_kind (kind_or_none (slice_get columns place)) value ≡ true)
    → are_of_kinds (map kind_of_column (hidden_only (drop 1 columns))) row ≡ true
unfolding hidden_among
kinds_behind_identifier [] first row size each = absurd (cc (first))
kinds_behind_identifier (id ∷ columns) first row size each =
    let shown : id.hidden ≡ false = ap hidden_or_none first in
    let none : cond id.hidden 1 0 ≡ 0 = ap {B = ℕ} (λ b. cond b 1 0) shown in
    kinds_of_row columns row (omega (arith, size, none))
    (λ place value h there.
    let e : cond id.hidden 1 0 + hidden_among place columns ≡ hidden_among place columns = omega (arith, none) in
    each (suc place) value h (ap (slice_get row) e ∙ there))

-- rows that have the same values are the same
same_at_first : (b : Bool) (column : Column) (rest : List Column) (one other : Row)
    → are_of_kinds (map kind_of_column (cond b (column ∷ rest) rest)) one ≡ true → are_of_kinds (map kind_of_column (cond b (column ∷ rest) rest)) other ≡ true
    → (b ≡ true → slice_get one 0 ≡ slice_get other 0)
    → ((values others : Row) → are_of_kinds (map kind_of_column rest) values ≡ true → are_of_kinds (map kind_of_column rest) others ≡ true
    → ((k : ℕ) → slice_get one (cond b 1 0 + k) ≡ slice_get other (cond b 1 0 + k) → slice_get values k ≡ slice_get others k) → values ≡ others)
    → one ≡ other
same_at_first true column rest [] other k j first later = absurd (cc (k))
same_at_first true column rest (v ∷ one) [] k j first later = absurd (cc (j))
same_at_first true column rest (v ∷ one) (w ∷ other) k j first later =
    let here : BothHold (is_of_kind column.kind v) (are_of_kinds (map kind_of_column rest) one) = both_hold _ _ k in
    let there : BothHold (is_of_kind column.kind w) (are_of_kinds (map kind_of_column rest) other) = both_hold _ _ j in
    let e : v ≡ w = cc (first refl) in
    let es = later one other here.other there.other
    (λ k same. let step : suc k ≡ 1 + k = omega arith in ap (slice_get (v ∷ one)) step ∙ (same ∙ sym (ap (slice_get (w ∷ other)) step))) in
    λ i. e i ∷ es i
same_at_first false column rest one other k j first later =
    later one other k j (λ k same. let step : k ≡ 0 + k = omega arith in ap (slice_get one) step ∙ (same ∙ sym (ap (slice_get other) step)))

same_row : (columns : List Column) (one other : Row) → are_of_kinds (map kind_of_column (hidden_only columns)) one ≡ true
    → are_of_kinds (map kind_of_column (hidden_only columns)) other ≡ true
    → ((place : ℕ) → hidden_or_none (slice_get columns place) ≡ true → slice_get one (hidden_among place columns) ≡ slice_get other (hidden_among place columns))
    → one ≡ other
unfolding hidden_among
same_row [] [] [] k j each = refl
same_row [] [] (w ∷ other) k j each = absurd (cc (j))
same_row [] (v ∷ one) other k j each = absurd (cc (k))
same_row (column ∷ columns) one other k j each =
    same_at_first column.hidden column (hidden_only columns) one other k j (λ h. each 0 h)
    (λ values others k j same. same_row columns values others k j (λ place h. same (hidden_among place columns) (each (suc place) h)))

pub same_by_columns : (columns : List Column) → slice_get columns 0 ≡ Some identifier → (one other : Row)
    → are_of_kinds (map kind_of_column (hidden_only (drop 1 columns))) one ≡ true → are_of_kinds (map kind_of_column (hidden_only (drop 1 columns))) other ≡ true
    → ((column : ℕ) → hidden_or_none (slice_get columns column) ≡ true
    → value_at (places_from (λ (c : Column). c.hidden) 1 (drop 1 columns)) one column ≡ value_at (places_from (λ (c : Column). c.hidden) 1 (drop 1 columns)) other column)
    → one ≡ other
same_by_columns [] first one other k j each = absurd (cc (first))
same_by_columns (id ∷ columns) first one other k j each =
    same_row columns one other k j
    (λ place h.
    let e : 1 + place ≡ suc place = omega arith in
    let places = places_from (λ (c : Column). c.hidden) 1 columns in
    sym (value_by_place 1 columns place h one) ∙ (ap (value_at places one) e ∙ (each (suc place) h ∙ (sym (ap (value_at places other) e) ∙ value_by_place 1 columns place h other))))
