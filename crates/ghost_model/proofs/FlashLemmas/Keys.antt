-- Rows lead to the same rows by the hidden part of a database as by the whole.
use Rattle.std.proofs.Common.{◌≡◌, refl, sym, ap, ◌∙◌, ℕ, zero, suc, ◌+◌, ◌<◌, ◌≤◌, Bool, true, false, cond, List, [], ◌∷◌, length, map, drop, Option, Some, None, slice_get, option_and_then, arith}
use Rattle.std.specs.Prelude.{◌==◌, if◌then◌else◌}
use Rattle.std.specs.Option.{option_map}
use Rattle.std.proofs.lemmas.List.{length-map, length-drop}
use Rattle.std.proofs.lemmas.Option.{slice_get-map}
use Rattle.ghost_model.specs.core.Schema.{Schema, Table, Column, columns_of, columns_or_none, column_at, parent, places_from, first_of, references_to, is_table}
use Rattle.ghost_model.specs.core.Values.{Value, Row, Rows, Database}
use Rattle.ghost_model.specs.laws.SchemaTrees.{IsTree}
use Rattle.ghost_model.specs.core.Database.{IsDatabase, rows_of, value_at_row, identifier_in, reference_column, points_to, leads_within, leads}
use Rattle.ghost_model.specs.laws.ShortWords.{rows_or_none}
use Rattle.ghost_model.specs.core.Split.{Hidden, value_at, hidden_of}
use Rattle.ghost_model.specs.laws.SplitByFlags.{merged, hidden_flags, rejoined_rows, rejoined_tables, hidden_values}
use Rattle.ghost_model.proofs.MeaningLemmas.PartsByFlags.{hidden_rows_at, rejoined_parts}
use Rattle.ghost_model.specs.core.Replies.{hidden_places, hidden_value}
use Rattle.ghost_model.specs.forms.Layout.{is_hidden}
use Rattle.ghost_model.specs.forms.Flash.{zeros, hidden_database, leads_to}
use Rattle.ghost_model.proofs.LayoutLemmas.Columns.{hidden_or_none}
use Rattle.ghost_model.proofs.MeaningLemmas.OneRow.{child_is}
use Rattle.ghost_model.proofs.MeaningLemmas.Leading.{told_place}
use Rattle.ghost_model.proofs.LayoutLemmas.Places.{table_there}
use Rattle.ghost_model.proofs.FlashLemmas.Values.{hidden_among, not_hidden, value_by_place, value_of_row}

-- a hidden value of a row whose visible values are zeros
merged_once : (b : Bool) (flags : List Bool) (visible kept : Row) → b ≡ true → slice_get (merged (b ∷ flags) visible kept) 0 ≡ slice_get kept 0
merged_once true flags visible [] e = refl
merged_once true flags visible (value ∷ kept) e = refl
merged_once false flags visible kept e = absurd (cc (e))

merged_on : (b : Bool) (flags : List Bool) (visible kept : Row) (place n : ℕ) → suc (length flags) ≤ length visible
    → ((shown values : Row) → length flags ≤ length shown → slice_get (merged flags shown values) place ≡ slice_get values n)
    → slice_get (merged (b ∷ flags) visible kept) (suc place) ≡ slice_get kept (cond b 1 0 + n)
merged_on true flags visible [] place n enough rest = refl
merged_on true flags visible (value ∷ kept) place n enough rest =
    let e : suc n ≡ 1 + n = omega arith in rest visible kept (omega (arith, enough)) ∙ ap (slice_get (value ∷ kept)) e
merged_on false flags [] kept place n enough rest = absurd (omega (arith, enough))
merged_on false flags (value ∷ visible) kept place n enough rest =
    let e : n ≡ 0 + n = omega arith in rest visible kept (omega (arith, enough)) ∙ ap (slice_get kept) e

merged_at : (columns : List Column) (place : ℕ) → hidden_or_none (slice_get columns place) ≡ true → (visible kept : Row)
    → length (map (λ (c : Column). c.hidden) columns) ≤ length visible
    → slice_get (merged (map (λ (c : Column). c.hidden) columns) visible kept) place ≡ slice_get kept (hidden_among place columns)
unfolding hidden_among
merged_at [] place h visible kept enough = absurd (cc (h))
merged_at (column ∷ columns) zero h visible kept enough = merged_once column.hidden (map (λ (c : Column). c.hidden) columns) visible kept h
merged_at (column ∷ columns) (suc place) h visible kept enough =
    merged_on column.hidden (map (λ (c : Column). c.hidden) columns) visible kept place (hidden_among place columns) enough
    (λ shown values. merged_at columns place h shown values)

later_column : (columns : List Column) (place : ℕ) → slice_get columns (suc place) ≡ slice_get (drop 1 columns) place
later_column [] place = refl
later_column (column ∷ columns) place = refl

row_known : (columns : List Column) → length columns ≤ 24 → (place : ℕ) → hidden_or_none (slice_get columns (suc place)) ≡ true → (kept : Row)
    → slice_get (merged (hidden_flags columns) zeros kept) place ≡ value_at (places_from (λ (c : Column). c.hidden) 1 (drop 1 columns)) kept (suc place)
row_known columns few place h kept =
    let others = drop 1 columns in
    let there : hidden_or_none (slice_get others place) ≡ true = sym (ap hidden_or_none (later_column columns place)) ∙ h in
    let fewer = length-drop 1 columns in
    let size = length-map others (λ (c : Column). c.hidden) in
    let e : 1 + place ≡ suc place = omega arith in
    merged_at others place there zeros kept (omega (arith, few, fewer, size))
    ∙ (sym (value_by_place 1 others place there kept)
    ∙ ap (value_at (places_from (λ (c : Column). c.hidden) 1 others) kept) e)

rows_known : (columns : List Column) → length columns ≤ 24 → (place : ℕ) → hidden_or_none (slice_get columns (suc place)) ≡ true
    → (identifier : ℕ) (rows : Rows) (k : ℕ)
    → option_and_then (λ row. slice_get row (suc place)) (slice_get (rejoined_rows identifier columns (map (λ _. zeros) rows) rows) k)
    ≡ option_and_then (λ row. value_at (places_from (λ (c : Column). c.hidden) 1 (drop 1 columns)) row (suc place)) (slice_get rows k)
rows_known columns few place h identifier [] k = refl
rows_known columns few place h identifier (row ∷ rows) zero = row_known columns few place h row
rows_known columns few place h identifier (row ∷ rows) (suc k) = rows_known columns few place h (identifier + 1) rows k

table_known : (schema : Schema) (tables : List Rows) (table : ℕ) → table < length schema
    → rows_or_none (slice_get (rejoined_tables schema (map (map (λ _. zeros)) tables) tables) table)
    ≡ rejoined_rows 1 (columns_of schema table) (map (λ _. zeros) (rows_or_none (slice_get tables table))) (rows_or_none (slice_get tables table))
table_known [] tables table there = absurd (omega (arith, there))
table_known (declared ∷ schema) [] table there = refl
table_known (declared ∷ schema) (rows ∷ tables) zero there = refl
table_known (declared ∷ schema) (rows ∷ tables) (suc table) there = table_known schema tables table (omega (arith, there))

-- a field of the database that stands for a hidden part
field_known : (schema : Schema) (hidden : Hidden) → IsTree schema → (table identifier column : ℕ) → is_hidden schema table column ≡ true
    → value_at_row (hidden_database schema hidden) table identifier column ≡ hidden_value schema hidden table identifier column
field_known schema hidden tree table identifier zero h =
    absurd (not_hidden (column_at schema table 0) (tree.begins_with_id table (table_there schema table 0 h)) h)
field_known schema hidden tree table zero (suc place) h = refl
field_known schema hidden tree table (suc k) (suc place) h =
    ap (λ (database : Database). option_and_then (λ row. slice_get row (suc place)) (slice_get (rows_or_none (slice_get database table)) k))
    (rejoined_parts schema (record { visible = map (map (λ _. zeros)) hidden.hidden }) hidden)
    ∙ ap (λ rows. option_and_then (λ row. slice_get row (suc place)) (slice_get rows k)) (table_known schema hidden.hidden table (table_there schema table (suc place) h))
    ∙ rows_known (columns_of schema table) (tree.few_columns table) place h 1 (rows_or_none (slice_get hidden.hidden table)) k

-- a field of the database
by_row : (f : Row → Option Value) (part : Row → Row) (g : Row → Option Value) (o : Option Row) → ((row : Row) → o ≡ Some row → f (part row) ≡ g row)
    → option_and_then f (option_map part o) ≡ option_and_then g o
by_row f part g None same = refl
by_row f part g (Some row) same = same row refl

pub field_hidden : (schema : Schema) (database : Database) → IsTree schema → IsDatabase schema database → (table identifier column : ℕ)
    → is_hidden schema table column ≡ true
    → hidden_value schema (hidden_of schema database) table identifier column ≡ value_at_row database table identifier column
field_hidden schema database tree is table zero column h = refl
field_hidden schema database tree is table (suc k) column h =
    let value : Row → Option Value = λ kept. value_at (hidden_places schema table) kept column in
    let part : Row → Row = λ whole. hidden_values (hidden_flags (columns_of schema table)) (drop 1 whole) in
    ap (λ (rows : Rows). option_and_then value (slice_get rows k)) (hidden_rows_at schema database is.tables table)
    ∙ (ap (λ (o : Option Row). option_and_then value o) (slice_get-map part (rows_of database table) k)
    ∙ by_row value part (λ row. slice_get row column) (slice_get (rows_of database table) k)
    (λ row there. value_of_row (columns_of schema table) (tree.begins_with_id table (table_there schema table column h)) column h row (is.widths table (suc k) row there)))

-- foreign keys
key_of : (schema : Schema) → IsTree schema → (table child column : ℕ) (o : Option Table) → slice_get schema table ≡ o
    → option_and_then (λ held. first_of (references_to child held)) o ≡ Some column → is_hidden schema table column ≡ true
key_of schema tree table child column None there h = absurd (cc (h))
key_of schema tree table child column (Some held) there h =
    let told = told_place (λ (c : Column). is_table child c.child) 0 held.columns column h in
    let at = told.2 in
    let same : column ≡ told.0 = omega (arith, at) in
    let declared : column_at schema table told.0 ≡ Some told.1 = ap (λ o. slice_get (columns_or_none o) told.0) there ∙ told.3 in
    let hidden = tree.references_are_hidden table told.0 child told.1 declared (child_is child told.1.child told.4) in
    ap (is_hidden schema table) same ∙ (ap hidden_or_none declared ∙ hidden)

points_by : (one other : ℕ → Option Value) (o : Option ℕ) → ((column : ℕ) → o ≡ Some column → one column ≡ other column)
    → option_and_then (λ column. identifier_in (one column)) o ≡ option_and_then (λ column. identifier_in (other column)) o
points_by one other None same = refl
points_by one other (Some column) same = ap identifier_in (same column refl)

module _ (schema : Schema) (database : Database) (tree : IsTree schema) (is : IsDatabase schema database) where
  field_same : (table identifier column : ℕ) → is_hidden schema table column ≡ true
      → value_at_row (hidden_database schema (hidden_of schema database)) table identifier column ≡ value_at_row database table identifier column
  field_same table identifier column h =
      field_known schema (hidden_of schema database) tree table identifier column h ∙ field_hidden schema database tree is table identifier column h

  points_same : (table identifier child : ℕ)
      → points_to schema (hidden_database schema (hidden_of schema database)) table identifier child ≡ points_to schema database table identifier child
  points_same table identifier child =
      points_by (value_at_row (hidden_database schema (hidden_of schema database)) table identifier) (value_at_row database table identifier) (reference_column schema table child)
      (λ column key. field_same table identifier column (key_of schema tree table child column (slice_get schema table) refl key))

  lead_within : (steps : Schema) (from identifier to : ℕ)
      → leads_within steps schema (hidden_database schema (hidden_of schema database)) from identifier to ≡ leads_within steps schema database from identifier to
  unfolding leads_within
  lead_within [] from identifier to = refl
  lead_within (_ ∷ steps) from identifier to = λ i.
      if from == to then Some identifier
      else option_and_then (λ above. option_and_then (λ reached. points_same above reached to i) (lead_within steps from identifier above i)) (parent schema to)

  pub lead_alike : (from identifier to : ℕ) → leads_to schema (hidden_of schema database) from identifier to ≡ leads schema database from identifier to
  lead_alike from identifier to = lead_within schema from identifier to
