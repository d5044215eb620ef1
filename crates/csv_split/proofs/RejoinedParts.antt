-- Columns, rows and tables from their two parts, and what is left to rejoin.
use Rattle.std.proofs.Common.{◌≡◌, ◌≤◌, ◌<◌, ◌+◌, ◌∙◌, ℕ, zero, suc, pos, Bool, true, false, List, [], ◌∷◌, ◌++◌, map, length, drop, get_or, Option, Some, None, sym, ap, ap₂, refl, arith, append_assoc, append-nil}
use Rattle.std.specs.Prelude.{slice_get}
use Rattle.std.specs.List.{range_with_len}
use Rattle.std.proofs.lemmas.List.{drop_all, length-map}
use Rattle.std.proofs.lemmas.Option.{slice_get-get_or}
use Rattle.ghost_model.specs.core.Schema as schema
use Rattle.ghost_model.specs.laws.SplitByFlags.{hidden_flags, merged, rejoined_rows, rejoined_tables}
use Rattle.ghost_model.specs.core.Values.{Value, Number, Rows, Database}
use Rattle.tree_schema.specs.declared.schema.Column.{Column}
use Rattle.csv_split.specs.declared.cells.Cells.{Cells}
use Rattle.csv_split.specs.Cells.{values_in}
use Rattle.csv_split.specs.Parts.{HaveAsMany, NextMerged, both_rejoined, part_in}
use Rattle.csv_split.specs.Reading.{HaveAll, columns_of, with_identifier}
use Rattle.csv_split.specs.Tables.{column_values, row_at, rows_in, values_at}
use Rattle.csv_split.proofs.FieldPlaces.{next}
use Rattle.csv_split.proofs.SplitParts.{flags_next, flags_of, more_columns, no_column, later}

-- the columns before `i` are merged
abbrev pub AreMerged : (flags : List Bool) (i : ℕ) (visible kept left_visible left_kept columns : List Cells) → Type 0
AreMerged flags i visible kept left_visible left_kept columns = merged flags visible kept ≡ columns ++ merged (drop i flags) left_visible left_kept

pub none_merged : (flags : List Bool) (visible kept left_visible left_kept columns : List Cells) → left_visible ≡ visible → left_kept ≡ kept → columns ≡ []
    → AreMerged flags 0 visible kept left_visible left_kept columns
none_merged flags visible kept left_visible left_kept columns all each none = rw (all, each, none) refl

pub one_merged : (declared : List Column) (i : ℕ) (column : Column) (visible kept left_visible left_kept later_visible later_kept columns more : List Cells) (taken : Cells)
    → AreMerged (flags_of declared) i visible kept left_visible left_kept columns → i < length declared → column ≡ get_or declared i column
    → NextMerged column.hidden (Some taken) left_visible left_kept later_visible later_kept → more ≡ columns ++ taken ∷ []
    → AreMerged (flags_of declared) (i + 1) visible kept later_visible later_kept more
one_merged declared i column visible kept left_visible left_kept later_visible later_kept columns more taken so_far within is gives grown =
    let flags = drop (i + 1) (flags_of declared) in
    so_far
    ∙ ap (λ flags. columns ++ merged flags left_visible left_kept) (flags_next declared i column within is)
    ∙ ap (λ rest. columns ++ rest) (gives flags)
    ∙ sym (append_assoc columns (taken ∷ []) (merged flags later_visible later_kept))
    ∙ ap (λ front. front ++ merged flags later_visible later_kept) (sym grown)

pub no_more_merged : (declared : List Column) (i : ℕ) (column : Column) (visible kept left_visible left_kept later_visible later_kept columns : List Cells)
    → AreMerged (flags_of declared) i visible kept left_visible left_kept columns → i < length declared → column ≡ get_or declared i column
    → NextMerged {X = Cells} column.hidden None left_visible left_kept later_visible later_kept → columns ≡ merged (flags_of declared) visible kept
no_more_merged declared i column visible kept left_visible left_kept later_visible later_kept columns so_far within is gives =
    sym (so_far
    ∙ ap (λ flags. columns ++ merged flags left_visible left_kept) (flags_next declared i column within is)
    ∙ ap (λ rest. columns ++ rest) (gives (drop (i + 1) (flags_of declared)))
    ∙ append-nil columns)

pub all_merged : (declared : List Column) (i : ℕ) (visible kept left_visible left_kept columns : List Cells)
    → AreMerged (flags_of declared) i visible kept left_visible left_kept columns → length declared ≤ i → columns ≡ merged (flags_of declared) visible kept
all_merged declared i visible kept left_visible left_kept columns so_far past =
    let wide : length (columns_of declared) ≡ length declared = length-map declared _ in
    let many : length (flags_of declared) ≡ length (columns_of declared) = length-map (columns_of declared) _ in
    let none : drop i (flags_of declared) ≡ [] = drop_all i (flags_of declared) (omega arith) in
    sym (so_far ∙ ap (λ flags. columns ++ merged flags left_visible left_kept) none ∙ append-nil columns)

-- what is made of the merged ones is merged
merged_map : {X Y : Type 0} (flags : List Bool) (make : X → Y) (visible kept : List X) → merged flags (map make visible) (map make kept) ≡ map make (merged flags visible kept)
merged_map [] make visible kept = refl
merged_map (true ∷ flags) make visible [] = refl
merged_map (true ∷ flags) make visible (x ∷ kept) = ap (λ ys. make x ∷ ys) (merged_map flags make visible kept)
merged_map (false ∷ flags) make [] kept = refl
merged_map (false ∷ flags) make (x ∷ visible) kept = ap (λ ys. make x ∷ ys) (merged_map flags make visible kept)

merged_have_all : (count : ℕ) (flags : List Bool) (visible kept : List (List Value)) → HaveAll count visible → HaveAll count kept → HaveAll count (merged flags visible kept)
merged_have_all count [] visible kept all each = no_column count
merged_have_all count (true ∷ flags) visible [] all each = no_column count
merged_have_all count (true ∷ flags) visible (values ∷ kept) all each =
    more_columns count values (merged flags visible kept) (each.each 0 values refl) (merged_have_all count flags visible kept all (later count values kept each))
merged_have_all count (false ∷ flags) [] kept all each = no_column count
merged_have_all count (false ∷ flags) (values ∷ visible) kept all each =
    more_columns count values (merged flags visible kept) (all.each 0 values refl) (merged_have_all count flags visible kept (later count values visible all) each)

merged_cells : (flags : List Bool) (visible kept columns : List Cells) → columns ≡ merged flags visible kept
    → column_values columns ≡ merged flags (column_values visible) (column_values kept)
merged_cells flags visible kept columns is = ap column_values is ∙ sym (merged_map flags values_in visible kept)

pub merged_all : (count : ℕ) (flags : List Bool) (visible kept columns : List Cells) → columns ≡ merged flags visible kept → HaveAll count (column_values visible) → HaveAll count (column_values kept)
    → HaveAll count (column_values columns)
merged_all count flags visible kept columns is all each =
    rw (merged_cells flags visible kept columns is) (merged_have_all count flags (column_values visible) (column_values kept) all each)

-- rows from a number on
rows_from : (from count : ℕ) (columns : List schema.Column) (visible kept : List (List Value))
    → rejoined_rows (from + 1) columns (map (values_at visible) (range_with_len from count)) (map (values_at kept) (range_with_len from count))
    ≡ map (row_at (merged (hidden_flags columns) visible kept)) (range_with_len from count)
rows_from from zero columns visible kept = refl
rows_from from (suc count) columns visible kept =
    ap₂ (λ row rows. (Number (pos (from + 1)) ∷ row) ∷ rows)
    (merged_map (hidden_flags columns) (λ (values : List Value). get_or values from (Number (pos 0))) visible kept)
    (rows_from (from + 1) count columns visible kept)

pub rows_merged : (count : ℕ) (declared : List Column) (visible kept columns : List Cells) (one other : Rows) → columns ≡ merged (flags_of declared) visible kept
    → one ≡ part_in count (column_values visible) → other ≡ part_in count (column_values kept)
    → rows_in count (column_values columns) ≡ rejoined_rows 1 (with_identifier (columns_of declared)) one other
rows_merged count declared visible kept columns one other is shown hid =
    ap (rows_in count) (merged_cells (flags_of declared) visible kept columns is)
    ∙ sym (rows_from 0 count (with_identifier (columns_of declared)) (column_values visible) (column_values kept))
    ∙ ap₂ (rejoined_rows 1 (with_identifier (columns_of declared))) (sym shown) (sym hid)

-- the tables before `i` are rejoined
pub record AreRejoined (tables : schema.Schema) (i : ℕ) (visible kept left_visible left_kept : List Rows) (database : Database) : Type 0 where
  pub rows : rejoined_tables tables visible kept ≡ database ++ rejoined_tables (drop i tables) left_visible left_kept
  pub counts : map length left_visible ≡ map length left_kept

pub none_rejoined : (tables : schema.Schema) (visible kept left_visible left_kept : List Rows) (database : Database) → left_visible ≡ visible → left_kept ≡ kept → database ≡ []
    → map length visible ≡ map length kept → AreRejoined tables 0 visible kept left_visible left_kept database
none_rejoined tables visible kept left_visible left_kept database all each none same = record {
  rows = rw (all, each, none) refl;
  counts = rw (all, each) same;
}

pub as_many : (visible kept : List Rows) → map length visible ≡ map length kept → HaveAsMany (slice_get visible 0) (slice_get kept 0)
as_many [] kept same = record { same = λ one other is there. cc is }
as_many (rows ∷ visible) [] same = record { same = λ one other is there. cc there }
as_many (rows ∷ visible) (others ∷ kept) same = record {
  same = λ one other is there.
      let first : rows ≡ one = cc is in
      let second : others ≡ other = cc there in
      let long : length rows ≡ length others = cc same in
      rw (← first, ← second) long;
}

later_counts : (visible kept : List Rows) → map length visible ≡ map length kept → map length (drop 1 visible) ≡ map length (drop 1 kept)
later_counts [] [] same = refl
later_counts [] (others ∷ kept) same = cc same
later_counts (rows ∷ visible) [] same = cc same
later_counts (rows ∷ visible) (others ∷ kept) same = cc same

nowhere : schema.Table
nowhere = record { name = []; columns = [] }

no_visible : (tables : schema.Schema) (kept : List Rows) → rejoined_tables tables [] kept ≡ []
no_visible [] kept = refl
no_visible (table ∷ tables) kept = refl

no_kept : (tables : schema.Schema) (visible : List Rows) → rejoined_tables tables visible [] ≡ []
no_kept [] visible = refl
no_kept (table ∷ tables) [] = refl
no_kept (table ∷ tables) (rows ∷ visible) = refl

first_rejoined : (table : schema.Table) (tables : schema.Schema) (visible kept : List Rows)
    → rejoined_tables (table ∷ tables) visible kept
    ≡ both_rejoined table.columns (slice_get visible 0) (slice_get kept 0) ++ rejoined_tables tables (drop 1 visible) (drop 1 kept)
first_rejoined table tables [] kept = sym (no_visible tables (drop 1 kept))
first_rejoined table tables (rows ∷ visible) [] = sym (no_kept tables visible)
first_rejoined table tables (rows ∷ visible) (others ∷ kept) = refl

pub one_rejoined : (tables : schema.Schema) (i : ℕ) (columns : List schema.Column) (visible kept left_visible left_kept later_visible later_kept : List Rows) (one other : Option Rows) (database more : Database)
    → AreRejoined tables i visible kept left_visible left_kept database → i < length tables → columns ≡ schema.columns_of tables i
    → one ≡ slice_get left_visible 0 → later_visible ≡ drop 1 left_visible → other ≡ slice_get left_kept 0 → later_kept ≡ drop 1 left_kept
    → more ≡ database ++ both_rejoined columns one other → AreRejoined tables (i + 1) visible kept later_visible later_kept more
one_rejoined tables i columns visible kept left_visible left_kept later_visible later_kept one other database more so_far within are first shown second hid grown =
    let table = get_or tables i nowhere in
    let there : table.columns ≡ columns = sym (ap schema.columns_or_none (slice_get-get_or tables i nowhere within)) ∙ sym are in
    let rest = rejoined_tables (drop (i + 1) tables) (drop 1 left_visible) (drop 1 left_kept) in
    record {
      rows = so_far.rows
          ∙ ap (λ tables. database ++ rejoined_tables tables left_visible left_kept) (next tables i nowhere within)
          ∙ ap (λ rows. database ++ rows) (first_rejoined table (drop (i + 1) tables) left_visible left_kept)
          ∙ ap (λ columns. database ++ (both_rejoined columns (slice_get left_visible 0) (slice_get left_kept 0) ++ rest)) there
          ∙ ap₂ (λ one other. database ++ (both_rejoined columns one other ++ rest)) (sym first) (sym second)
          ∙ sym (append_assoc database (both_rejoined columns one other) rest)
          ∙ ap (λ front. front ++ rest) (sym grown)
          ∙ ap₂ (λ visible kept. more ++ rejoined_tables (drop (i + 1) tables) visible kept) (sym shown) (sym hid);
      counts = rw (shown, hid) (later_counts left_visible left_kept so_far.counts);
    }

pub all_rejoined : (tables : schema.Schema) (i : ℕ) (visible kept left_visible left_kept : List Rows) (database : Database) → AreRejoined tables i visible kept left_visible left_kept database
    → length tables ≤ i → database ≡ rejoined_tables tables visible kept
all_rejoined tables i visible kept left_visible left_kept database so_far past =
    let none : drop i tables ≡ [] = drop_all i tables past in
    sym (so_far.rows ∙ ap (λ tables. database ++ rejoined_tables tables left_visible left_kept) none ∙ append-nil database)
