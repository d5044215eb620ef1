-- A database that has a public part, and given values in its hidden columns.
use Rattle.std.proofs.Common.{◌≡◌, refl, ap, sym, ◌∙◌, subst, pos, ℕ, zero, suc, ◌+◌, Bool, true, false, not, cond, List, [], ◌∷◌, length, map, drop, filter, Option, Some, slice_get, unwrap_or, arith}
use Rattle.ghost_model.specs.core.Schema.{Schema, Column, Table, columns_of}
use Rattle.ghost_model.specs.core.Values.{Value, Number, Text, Row, Rows, Database}
use Rattle.ghost_model.specs.core.Database.{rows_of, is_of_kind}
use Rattle.ghost_model.specs.core.Split.{is_open, is_closed, kind_of_column, are_of_kinds}
use Rattle.ghost_model.specs.laws.ShortWords.{rows_or_none}
use Rattle.ghost_model.specs.laws.SplitByFlags.{visible_values, rows_by, tables_by}
use Rattle.ghost_model.proofs.LayoutLemmas.Columns.{hidden_or_none}
use Rattle.ghost_model.proofs.ChannelLemmas.Tests.{BothHold, both_hold}

-- the first value of a row, and a text where it has none
abbrev pub head_of : Row → Value
head_of [] = Text []
head_of (value ∷ row) = value

-- the values of columns from a place on: those given for the hidden ones, and of the others those of a row in their order
abbrev pub values_from : (given : ℕ → Value) → (at : ℕ) → List Column → Row → Row
values_from given at [] row = []
values_from given at (column ∷ columns) row =
    cond column.hidden (given at ∷ values_from given (at + 1) columns row) (head_of row ∷ values_from given (at + 1) columns (drop 1 row))

abbrev pub row_made : (given : ℕ → Value) → List Column → (identifier : ℕ) → Row → Row
row_made given columns identifier row = Number (pos identifier) ∷ values_from given 1 (drop 1 columns) row

abbrev pub rows_made : (given : (column identifier : ℕ) → Value) → List Column → (identifier : ℕ) → Rows → Rows
rows_made given columns identifier [] = []
rows_made given columns identifier (row ∷ rows) =
    row_made (λ column. given column identifier) columns identifier row ∷ rows_made given columns (identifier + 1) rows

abbrev pub tables_made : (given : (table column identifier : ℕ) → Value) → (table : ℕ) → Schema → List Rows → Database
tables_made given table [] shown = []
tables_made given table (declared ∷ schema) [] = []
tables_made given table (declared ∷ schema) (rows ∷ shown) =
    rows_made (given table) declared.columns 1 rows ∷ tables_made given (table + 1) schema shown

-- ---- a row

pub values_count : (given : ℕ → Value) (at : ℕ) (columns : List Column) (row : Row) → length (values_from given at columns row) ≡ length columns
values_count given at [] row = refl
values_count given at (column ∷ columns) row =
    (elim (column.hidden) as (λ h. length (cond h (given at ∷ values_from given (at + 1) columns row) (head_of row ∷ values_from given (at + 1) columns (drop 1 row))) ≡ suc (length columns)) [
      | true ↦ ap suc (values_count given (at + 1) columns row)
      | false ↦ ap suc (values_count given (at + 1) columns (drop 1 row))
    ])

-- the visible values are those of the row
shown_once : (given : ℕ → Value) (at : ℕ) (column : Column) (columns : List Column) (h : Bool) (row : Row)
    → ((rest : Row) → are_of_kinds (map kind_of_column (filter is_open columns)) rest ≡ true
    → visible_values (map is_closed columns) (values_from given (at + 1) columns rest) ≡ rest)
    → are_of_kinds (map kind_of_column (cond (not h) (column ∷ filter is_open columns) (filter is_open columns))) row ≡ true
    → visible_values (h ∷ map is_closed columns) (cond h (given at ∷ values_from given (at + 1) columns row) (head_of row ∷ values_from given (at + 1) columns (drop 1 row))) ≡ row
shown_once given at column columns true row later are = later row are
shown_once given at column columns false [] later are = absurd (cc (are))
shown_once given at column columns false (value ∷ row) later are =
    let both : BothHold (is_of_kind column.kind value) (are_of_kinds (map kind_of_column (filter is_open columns)) row) = both_hold _ _ are in
    ap (λ (rest : Row). value ∷ rest) (later row both.other)

pub shown_again : (given : ℕ → Value) (at : ℕ) (columns : List Column) (row : Row)
    → are_of_kinds (map kind_of_column (filter is_open columns)) row ≡ true
    → visible_values (map is_closed columns) (values_from given at columns row) ≡ row
shown_again given at [] [] are = refl
shown_again given at [] (value ∷ row) are = absurd (cc (are))
shown_again given at (column ∷ columns) row are =
    shown_once given at column columns column.hidden row (λ rest. shown_again given (at + 1) columns rest) are

-- a hidden value is the given one
given_once : (given : ℕ → Value) (at : ℕ) (columns : List Column) (h : Bool) (row : Row) → h ≡ true
    → slice_get (cond h (given at ∷ values_from given (at + 1) columns row) (head_of row ∷ values_from given (at + 1) columns (drop 1 row))) 0 ≡ Some (given (at + 0))
given_once given at columns true row e = let same : at ≡ at + 0 = omega arith in ap (λ n. Some (given n)) same
given_once given at columns false row e = absurd (cc (e))

given_later : (given : ℕ → Value) (at place : ℕ) (columns : List Column) (h : Bool) (row : Row)
    → ((rest : Row) → slice_get (values_from given (at + 1) columns rest) place ≡ Some (given (at + 1 + place)))
    → slice_get (cond h (given at ∷ values_from given (at + 1) columns row) (head_of row ∷ values_from given (at + 1) columns (drop 1 row))) (suc place) ≡ Some (given (at + suc place))
given_later given at place columns true row later = let same : at + 1 + place ≡ at + suc place = omega arith in later row ∙ ap (λ n. Some (given n)) same
given_later given at place columns false row later = let same : at + 1 + place ≡ at + suc place = omega arith in later (drop 1 row) ∙ ap (λ n. Some (given n)) same

pub given_there : (given : ℕ → Value) (at : ℕ) (columns : List Column) (place : ℕ) → hidden_or_none (slice_get columns place) ≡ true → (row : Row)
    → slice_get (values_from given at columns row) place ≡ Some (given (at + place))
given_there given at [] place h row = absurd (cc (h))
given_there given at (column ∷ columns) zero h row = given_once given at columns column.hidden row h
given_there given at (column ∷ columns) (suc place) h row =
    given_later given at place columns column.hidden row (λ rest. given_there given (at + 1) columns place h rest)

-- each value is of its column's kind where the given ones are, and those of the row
abbrev pub IsOfKindAt : List Column → (place : ℕ) → Option Value → Type 0
IsOfKindAt columns place found = (value : Value) (declared : Column) → found ≡ Some value → slice_get columns place ≡ Some declared → is_of_kind declared.kind value ≡ true

abbrev pub GivenKinds : (given : ℕ → Value) (at : ℕ) → List Column → Type 0
GivenKinds given at columns = (place : ℕ) (declared : Column) → slice_get columns place ≡ Some declared → declared.hidden ≡ true → is_of_kind declared.kind (given (at + place)) ≡ true

kind_once : (given : ℕ → Value) (at : ℕ) (column : Column) (columns : List Column) (h : Bool) (row : Row)
    → (h ≡ true → is_of_kind column.kind (given at) ≡ true)
    → are_of_kinds (map kind_of_column (cond (not h) (column ∷ filter is_open columns) (filter is_open columns))) row ≡ true
    → IsOfKindAt (column ∷ columns) 0 (slice_get (cond h (given at ∷ values_from given (at + 1) columns row) (head_of row ∷ values_from given (at + 1) columns (drop 1 row))) 0)
kind_once given at column columns true row first are value declared found there =
    let one : given at ≡ value = ap (λ o. unwrap_or o (given at)) found in
    let same : column ≡ declared = ap (λ o. unwrap_or o column) there in
    subst (λ (d : Column). is_of_kind d.kind value ≡ true) same (subst (λ v. is_of_kind column.kind v ≡ true) one (first refl))
kind_once given at column columns false [] first are value declared found there = absurd (cc (are))
kind_once given at column columns false (one ∷ row) first are value declared found there =
    let both : BothHold (is_of_kind column.kind one) (are_of_kinds (map kind_of_column (filter is_open columns)) row) = both_hold _ _ are in
    let is : one ≡ value = ap (λ o. unwrap_or o one) found in
    let same : column ≡ declared = ap (λ o. unwrap_or o column) there in
    subst (λ (d : Column). is_of_kind d.kind value ≡ true) same (subst (λ v. is_of_kind column.kind v ≡ true) is both.one)

kind_later : (given : ℕ → Value) (at place : ℕ) (column : Column) (columns : List Column) (h : Bool) (row : Row)
    → ((rest : Row) → are_of_kinds (map kind_of_column (filter is_open columns)) rest ≡ true → IsOfKindAt columns place (slice_get (values_from given (at + 1) columns rest) place))
    → are_of_kinds (map kind_of_column (cond (not h) (column ∷ filter is_open columns) (filter is_open columns))) row ≡ true
    → IsOfKindAt columns place (slice_get (cond h (given at ∷ values_from given (at + 1) columns row) (head_of row ∷ values_from given (at + 1) columns (drop 1 row))) (suc place))
kind_later given at place column columns true row later are = later row are
kind_later given at place column columns false [] later are = absurd (cc (are))
kind_later given at place column columns false (one ∷ row) later are =
    let both : BothHold (is_of_kind column.kind one) (are_of_kinds (map kind_of_column (filter is_open columns)) row) = both_hold _ _ are in
    later row both.other

pub kinds_there : (given : ℕ → Value) (at : ℕ) (columns : List Column) → GivenKinds given at columns → (row : Row)
    → are_of_kinds (map kind_of_column (filter is_open columns)) row ≡ true → (place : ℕ)
    → IsOfKindAt columns place (slice_get (values_from given at columns row) place)
kinds_there given at [] kinds row are place value declared found there = absurd (cc (there))
kinds_there given at (column ∷ columns) kinds row are zero value declared found there =
    kind_once given at column columns column.hidden row
    (λ h. let same : at + 0 ≡ at = omega arith in subst (λ n. is_of_kind column.kind (given n) ≡ true) same (kinds 0 column refl h)) are value declared found there
kinds_there given at (column ∷ columns) kinds row are (suc place) value declared found there =
    kind_later given at place column columns column.hidden row
    (λ rest. λ these. kinds_there given (at + 1) columns
    (λ other declared there h. let same : at + suc other ≡ at + 1 + other = omega arith in subst (λ n. is_of_kind declared.kind (given n) ≡ true) same (kinds (suc other) declared there h))
    rest these place) are value declared found there

-- ---- rows and tables

pub rows_count : (given : (column identifier : ℕ) → Value) (columns : List Column) (identifier : ℕ) (rows : Rows) → length (rows_made given columns identifier rows) ≡ length rows
rows_count given columns identifier [] = refl
rows_count given columns identifier (row ∷ rows) = ap suc (rows_count given columns (identifier + 1) rows)

-- a row is made of the one at its place
pub record IsRowMade (given : (column identifier : ℕ) → Value) (columns : List Column) (rows : Rows) (identifier place : ℕ) (row : Row) : Type 0 where
  pub shown : Row
  pub there : slice_get rows place ≡ Some shown
  pub is : row ≡ row_made (λ column. given column (identifier + place)) columns (identifier + place) shown

pub made_at : (given : (column identifier : ℕ) → Value) (columns : List Column) (identifier : ℕ) (rows : Rows) (place : ℕ) (row : Row)
    → slice_get (rows_made given columns identifier rows) place ≡ Some row → IsRowMade given columns rows identifier place row
made_at given columns identifier [] place row h = absurd (cc (h))
made_at given columns identifier (one ∷ rows) zero row h =
    let same : identifier ≡ identifier + 0 = omega arith in
    record { shown = one; there = refl; is = sym (ap (λ o. unwrap_or o row) h) ∙ ap (λ n. row_made (λ column. given column n) columns n one) same }
made_at given columns identifier (one ∷ rows) (suc place) row h =
    let made = made_at given columns (identifier + 1) rows place row h in
    let same : identifier + 1 + place ≡ identifier + suc place = omega arith in
    record { shown = made.shown; there = made.there; is = made.is ∙ ap (λ n. row_made (λ column. given column n) columns n made.shown) same }

pub made_there : (given : (column identifier : ℕ) → Value) (columns : List Column) (identifier : ℕ) (rows : Rows) (place : ℕ) (shown : Row)
    → slice_get rows place ≡ Some shown
    → slice_get (rows_made given columns identifier rows) place ≡ Some (row_made (λ column. given column (identifier + place)) columns (identifier + place) shown)
made_there given columns identifier [] place shown h = absurd (cc (h))
made_there given columns identifier (one ∷ rows) zero shown h =
    let same : identifier ≡ identifier + 0 = omega arith in
    let is : one ≡ shown = ap (λ o. unwrap_or o one) h in
    ap (λ n. Some (row_made (λ column. given column n) columns n one)) same
    ∙ ap (λ row. Some (row_made (λ column. given column (identifier + 0)) columns (identifier + 0) row)) is
made_there given columns identifier (one ∷ rows) (suc place) shown h =
    let same : identifier + 1 + place ≡ identifier + suc place = omega arith in
    made_there given columns (identifier + 1) rows place shown h ∙ ap (λ n. Some (row_made (λ column. given column n) columns n shown)) same

pub tables_count : (given : (table column identifier : ℕ) → Value) (table : ℕ) (schema : Schema) (shown : List Rows) → length shown ≡ length schema
    → length (tables_made given table schema shown) ≡ length schema
tables_count given table [] shown same = refl
tables_count given table (declared ∷ schema) [] same = absurd (omega (arith, same))
tables_count given table (declared ∷ schema) (rows ∷ shown) same = ap suc (tables_count given (table + 1) schema shown (omega (arith, same)))

pub counts_made : (given : (table column identifier : ℕ) → Value) (table : ℕ) (schema : Schema) (shown : List Rows) → length shown ≡ length schema
    → map length (tables_made given table schema shown) ≡ map length shown
counts_made given table [] [] same = refl
counts_made given table [] (rows ∷ shown) same = absurd (omega (arith, same))
counts_made given table (declared ∷ schema) [] same = absurd (omega (arith, same))
counts_made given table (declared ∷ schema) (rows ∷ shown) same =
    let one = rows_count (given table) declared.columns 1 rows in
    let others = counts_made given (table + 1) schema shown (omega (arith, same)) in
    λ i. one i ∷ others i

pub table_at : (given : (table column identifier : ℕ) → Value) (first : ℕ) (schema : Schema) (shown : List Rows) (table : ℕ) → length shown ≡ length schema
    → rows_of (tables_made given first schema shown) table ≡ rows_made (given (first + table)) (columns_of schema table) 1 (rows_or_none (slice_get shown table))
table_at given first [] [] table same = refl
table_at given first [] (rows ∷ shown) table same = absurd (omega (arith, same))
table_at given first (declared ∷ schema) [] table same = absurd (omega (arith, same))
table_at given first (declared ∷ schema) (rows ∷ shown) zero same =
    let e : first ≡ first + 0 = omega arith in ap (λ n. rows_made (given n) declared.columns 1 rows) e
table_at given first (declared ∷ schema) (rows ∷ shown) (suc table) same =
    let e : first + 1 + table ≡ first + suc table = omega arith in
    table_at given (first + 1) schema shown table (omega (arith, same))
    ∙ ap (λ n. rows_made (given n) (columns_of schema table) 1 (rows_or_none (slice_get shown table))) e

-- the visible part of what is made is what it was made of
abbrev pub AreShownRows : List Column → Rows → Type 0
AreShownRows columns rows = (place : ℕ) (row : Row) → slice_get rows place ≡ Some row → are_of_kinds (map kind_of_column (filter is_open (drop 1 columns))) row ≡ true

shown_rows : (given : (column identifier : ℕ) → Value) (columns : List Column) (identifier : ℕ) (rows : Rows) → AreShownRows columns rows
    → rows_by visible_values columns (rows_made given columns identifier rows) ≡ rows
shown_rows given columns identifier [] are = refl
shown_rows given columns identifier (row ∷ rows) are =
    let one = shown_again (λ column. given column identifier) 1 (drop 1 columns) row (are 0 row refl) in
    let others = shown_rows given columns (identifier + 1) rows (λ place. are (suc place)) in
    λ i. one i ∷ others i

pub shown_tables : (given : (table column identifier : ℕ) → Value) (table : ℕ) (schema : Schema) (shown : List Rows) → length shown ≡ length schema
    → ((place : ℕ) (declared : Table) → slice_get schema place ≡ Some declared → AreShownRows declared.columns (rows_or_none (slice_get shown place)))
    → tables_by visible_values schema (tables_made given table schema shown) ≡ shown
shown_tables given table [] [] same are = refl
shown_tables given table [] (rows ∷ shown) same are = absurd (omega (arith, same))
shown_tables given table (declared ∷ schema) [] same are = absurd (omega (arith, same))
shown_tables given table (declared ∷ schema) (rows ∷ shown) same are =
    let one = shown_rows (given table) declared.columns 1 rows (are 0 declared refl) in
    let others = shown_tables given (table + 1) schema shown (omega (arith, same)) (λ place. are (suc place)) in
    λ i. one i ∷ others i
