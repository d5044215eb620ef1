-- The cells of a row, of a table and of all tables, and what is left to put.
use Rattle.std.proofs.Common.{◌≡◌, ◌≤◌, ◌<◌, ◌+◌, ◌∙◌, ◌⊎◌, inl, inr, ℕ, zero, suc, pos, Bool, true, false, not, List, [], ◌∷◌, ◌++◌, map, filter, flat_map, length, take, drop, replicate, get_or, Some, None, sym, ap, ap₂, refl, arith, append_assoc, append-nil, add-one, if◌then◌else◌}
use Rattle.std.specs.Prelude.{slice_get}
use Rattle.std.proofs.lemmas.List.{drop_all, length-map, get_or-map, take-replicate}
use Rattle.std.proofs.lemmas.List.FromFn.{get_or-map-range_with_len}
use Rattle.std.proofs.lemmas.Option.{slice_get-get_or}
use Rattle.ghost_model.specs.forms.Cells.{encode_cell}
use Rattle.ghost_model.specs.core.Schema as schema
use Rattle.ghost_model.specs.laws.SchemaTrees.{identifier}
use Rattle.ghost_model.specs.core.Split as parts
use Rattle.ghost_model.specs.core.Values.{Value, Number, Row, Rows}
use Rattle.ghost_base.specs.declared.kind.Kind.{Kind}
use Rattle.ghost_base.specs.Views.{kind_of}
use Rattle.tree_schema.specs.declared.schema.Column.{Column}
use Rattle.tree_schema.specs.Views.{column_of}
use Rattle.csv_split.specs.declared.cells.Cells.{Cells}
use Rattle.csv_split.specs.Cells.{values_in}
use Rattle.csv_split.specs.Parts.{HaveRow, part_in}
use Rattle.csv_split.specs.Reading.{HaveAll, columns_of}
use Rattle.csv_split.specs.Tables.{column_values, values_at}
use Rattle.csv_split.proofs.FieldPlaces.{next}
use Rattle.csv_split.proofs.Headers.{column_there}
use Rattle.csv_split.proofs.PartRows.{many}

pub zeros : (count most : ℕ) → count ≤ most → take {A = ℕ} count (replicate {A = ℕ} most 0) ≡ replicate {A = ℕ} count 0
zeros count most few = take-replicate count most 0 few

-- the kinds of the visible ones of columns
abbrev pub open_kinds : List schema.Column → List schema.Kind
open_kinds columns = map parts.kind_of_column (filter parts.is_open columns)

kinds_first : (column : schema.Column) (later : List schema.Column) → open_kinds (column ∷ later) ≡ open_kinds (column ∷ []) ++ open_kinds later
kinds_first column later = by column.hidden
  where
    by : (hidden : Bool)
        → map parts.kind_of_column (if not hidden then column ∷ filter parts.is_open later else filter parts.is_open later)
        ≡ map parts.kind_of_column (if not hidden then column ∷ [] else []) ++ open_kinds later
    by true = refl
    by false = refl

-- the columns before `i` have these kinds
abbrev pub AreKindsSoFar : List Column → (i : ℕ) → List Kind → Type 0
AreKindsSoFar declared i kinds = open_kinds (columns_of declared) ≡ map kind_of kinds ++ open_kinds (drop i (columns_of declared))

pub no_kinds : (declared : List Column) (kinds : List Kind) → kinds ≡ [] → AreKindsSoFar declared 0 kinds
no_kinds declared kinds none = ap (λ (kinds : List Kind). map kind_of kinds ++ open_kinds (columns_of declared)) (sym none)

pub one_kind : (declared : List Column) (i : ℕ) (column : Column) (kinds more : List Kind) → AreKindsSoFar declared i kinds → i < length declared → column ≡ get_or declared i column
    → map kind_of more ≡ map kind_of kinds ++ open_kinds (column_of column ∷ []) → AreKindsSoFar declared (i + 1) more
one_kind declared i column kinds more so_far within is grown =
    let wide : length (columns_of declared) ≡ length declared = length-map declared column_of in
    let later = drop (i + 1) (columns_of declared) in
    so_far
    ∙ ap (λ columns. map kind_of kinds ++ open_kinds columns)
    (next (columns_of declared) i identifier (omega arith) ∙ ap (λ (column : schema.Column). column ∷ later) (column_there declared i column within is))
    ∙ ap (λ rest. map kind_of kinds ++ rest) (kinds_first (column_of column) later)
    ∙ sym (append_assoc (map kind_of kinds) (open_kinds (column_of column ∷ [])) (open_kinds later))
    ∙ ap (λ front. front ++ open_kinds later) (sym grown)

pub all_kinds : (declared : List Column) (i : ℕ) (kinds : List Kind) → AreKindsSoFar declared i kinds → length declared ≤ i → map kind_of kinds ≡ open_kinds (columns_of declared)
all_kinds declared i kinds so_far past =
    let wide : length (columns_of declared) ≡ length declared = length-map declared column_of in
    let none : drop i (columns_of declared) ≡ [] = drop_all i (columns_of declared) (omega arith) in
    sym (so_far ∙ ap (λ columns. map kind_of kinds ++ open_kinds columns) none ∙ append-nil (map kind_of kinds))

-- the value of a column in a row
value_there : (columns : List Cells) (i place : ℕ) (column : Cells) → i < length columns → column ≡ get_or columns i column
    → get_or (values_at (column_values columns) place) i (Number (pos 0)) ≡ get_or (values_in column) place (Number (pos 0))
value_there columns i place column within is =
    let wide : length (column_values columns) ≡ length columns = length-map columns values_in in
    get_or-map (λ (values : List Value). get_or values place (Number (pos 0))) (column_values columns) i [] (Number (pos 0)) (omega arith)
    ∙ ap (λ (values : List Value). get_or values place (Number (pos 0))) (get_or-map values_in columns i column [] within ∙ ap values_in (sym is))

pub row_reaches : (columns : List Cells) (i place : ℕ) (column : Cells) → HaveRow place (column_values columns) → i < length columns → column ≡ get_or columns i column
    → place < length (values_in column)
row_reaches columns i place column have within is =
    let wide : length (column_values columns) ≡ length columns = length-map columns values_in in
    have.each i (values_in column)
    (slice_get-get_or (column_values columns) i [] (omega arith) ∙ ap Some (get_or-map values_in columns i column [] within ∙ ap values_in (sym is)))

-- the cells of the columns before `i` are put
abbrev pub AreCellsSoFar : List Kind → List Cells → (place i : ℕ) → (before out : List ℕ) → Type 0
AreCellsSoFar kinds columns place i before out =
    before ++ parts.cells (map kind_of kinds) (values_at (column_values columns) place)
    ≡ out ++ parts.cells (drop i (map kind_of kinds)) (drop i (values_at (column_values columns) place))

pub one_cell : (kinds : List Kind) (columns : List Cells) (place i : ℕ) (before out more : List ℕ) (kind : Kind) (column : Cells)
    → AreCellsSoFar kinds columns place i before out → i < length kinds → i < length columns → column ≡ get_or columns i column
    → more ≡ out ++ encode_cell (kind_of (get_or kinds i kind)) (get_or (values_in column) place (Number (pos 0))) → AreCellsSoFar kinds columns place (i + 1) before more
one_cell kinds columns place i before out more kind column so_far some within there grown =
    let values = values_at (column_values columns) place in
    let long : length (map kind_of kinds) ≡ length kinds = length-map kinds kind_of in
    let wide : length (column_values columns) ≡ length columns = length-map columns values_in in
    let full : length values ≡ length (column_values columns) = length-map (column_values columns) _ in
    let later = parts.cells (drop (i + 1) (map kind_of kinds)) (drop (i + 1) values) in
    so_far
    ∙ ap₂ (λ kinds values. out ++ parts.cells kinds values)
    (next (map kind_of kinds) i (kind_of kind) (omega arith)) (next values i (Number (pos 0)) (omega arith))
    ∙ ap₂ (λ kind value. out ++ (encode_cell kind value ++ later))
    (get_or-map kind_of kinds i kind (kind_of kind) some) (value_there columns i place column within there)
    ∙ sym (append_assoc out (encode_cell (kind_of (get_or kinds i kind)) (get_or (values_in column) place (Number (pos 0)))) later)
    ∙ ap (λ front. front ++ later) (sym grown)

no_cells : (kinds : List schema.Kind) → parts.cells kinds [] ≡ []
no_cells [] = refl
no_cells (kind ∷ kinds) = refl

pub all_cells : (kinds : List Kind) (columns : List Cells) (place i : ℕ) (before out : List ℕ) → AreCellsSoFar kinds columns place i before out
    → (length kinds ≤ i) ⊎ (length columns ≤ i) → out ≡ before ++ parts.cells (map kind_of kinds) (values_at (column_values columns) place)
all_cells kinds columns place i before out so_far (inl past) =
    let values = values_at (column_values columns) place in
    let long : length (map kind_of kinds) ≡ length kinds = length-map kinds kind_of in
    let none : drop i (map kind_of kinds) ≡ [] = drop_all i (map kind_of kinds) (omega arith) in
    sym (so_far ∙ ap (λ kinds. out ++ parts.cells kinds (drop i values)) none ∙ append-nil out)
all_cells kinds columns place i before out so_far (inr past) =
    let values = values_at (column_values columns) place in
    let wide : length (column_values columns) ≡ length columns = length-map columns values_in in
    let full : length values ≡ length (column_values columns) = length-map (column_values columns) _ in
    let none : drop i values ≡ [] = drop_all i values (omega arith) in
    sym (so_far ∙ ap (λ values. out ++ parts.cells (drop i (map kind_of kinds)) values) none ∙ ap (λ cells. out ++ cells) (no_cells (drop i (map kind_of kinds))) ∙ append-nil out)

pub have_row : (count place : ℕ) (columns : List (List Value)) → HaveAll count columns → place < count → HaveRow place columns
have_row count place columns all within = record {
  each = λ column values is. let long = all.each column values is in omega arith;
}

-- the rows before `place` are put
abbrev pub AreRowsSoFar : List Kind → List Cells → (count place : ℕ) → (before out : List ℕ) → Type 0
AreRowsSoFar kinds columns count place before out =
    before ++ flat_map (parts.cells (map kind_of kinds)) (part_in count (column_values columns))
    ≡ out ++ flat_map (parts.cells (map kind_of kinds)) (drop place (part_in count (column_values columns)))

pub one_row : (kinds : List Kind) (columns : List Cells) (count place : ℕ) (before out more : List ℕ) → AreRowsSoFar kinds columns count place before out → place < count
    → more ≡ out ++ parts.cells (map kind_of kinds) (values_at (column_values columns) place) → AreRowsSoFar kinds columns count (place + 1) before more
one_row kinds columns count place before out more so_far within grown =
    let rows = part_in count (column_values columns) in
    let all : length rows ≡ count = many count (column_values columns) in
    let row = values_at (column_values columns) place in
    let cells = parts.cells (map kind_of kinds) in
    so_far
    ∙ ap (λ rows. out ++ flat_map cells rows) (next rows place [] (omega arith))
    ∙ ap (λ (row : Row). out ++ (cells row ++ flat_map cells (drop (place + 1) rows)))
    (get_or-map-range_with_len (values_at (column_values columns)) 0 count place place [] within (omega arith))
    ∙ sym (append_assoc out (cells row) (flat_map cells (drop (place + 1) rows)))
    ∙ ap (λ front. front ++ flat_map cells (drop (place + 1) rows)) (sym grown)

pub all_rows : (kinds : List Kind) (columns : List Cells) (count place : ℕ) (before out : List ℕ) → AreRowsSoFar kinds columns count place before out → count ≤ place
    → out ≡ before ++ flat_map (parts.cells (map kind_of kinds)) (part_in count (column_values columns))
all_rows kinds columns count place before out so_far past =
    let rows = part_in count (column_values columns) in
    let all : length rows ≡ count = many count (column_values columns) in
    let none : drop place rows ≡ [] = drop_all place rows (omega arith) in
    sym (so_far ∙ ap (λ rows. out ++ flat_map (parts.cells (map kind_of kinds)) rows) none ∙ append-nil out)

-- the tables before `i` are put
abbrev pub AreTablesSoFar : schema.Schema → List Rows → (i : ℕ) → (before out : List ℕ) → Type 0
AreTablesSoFar tables visible i before out = before ++ parts.cells_of_tables tables visible ≡ out ++ parts.cells_of_tables (drop i tables) (drop i visible)

nowhere : schema.Table
nowhere = record { name = []; columns = [] }

no_tables : (tables : schema.Schema) → parts.cells_of_tables tables [] ≡ []
no_tables [] = refl
no_tables (table ∷ tables) = refl

pub one_table : (tables : schema.Schema) (visible : List Rows) (i : ℕ) (declared : List schema.Column) (rows : Rows) (before out more : List ℕ) → AreTablesSoFar tables visible i before out
    → i < length tables → identifier ∷ declared ≡ schema.columns_of tables i → Some rows ≡ slice_get visible i
    → more ≡ out ++ flat_map (parts.cells (open_kinds declared)) rows → AreTablesSoFar tables visible (i + 1) before more
one_table tables visible i declared rows before out more so_far within are there grown =
    let table = get_or tables i nowhere in
    let columns_are : table.columns ≡ identifier ∷ declared = sym (ap schema.columns_or_none (slice_get-get_or tables i nowhere within)) ∙ sym are in
    let later = parts.cells_of_tables (drop (i + 1) tables) (drop (i + 1) visible) in
    so_far
    ∙ ap₂ (λ tables visible. out ++ parts.cells_of_tables tables visible) (next tables i nowhere within) (rows_next visible i rows there)
    ∙ ap (λ columns. out ++ (flat_map (parts.cells (open_kinds (drop 1 columns))) rows ++ later)) columns_are
    ∙ sym (append_assoc out (flat_map (parts.cells (open_kinds declared)) rows) later)
    ∙ ap (λ front. front ++ later) (sym grown)
  where
    there_after : (visible : List Rows) (i : ℕ) (rows : Rows) → Some rows ≡ slice_get visible i → drop i visible ≡ rows ∷ drop (suc i) visible
    there_after [] i rows there = cc there
    there_after (other ∷ visible) zero rows there = cc there
    there_after (other ∷ visible) (suc i) rows there = there_after visible i rows there

    rows_next : (visible : List Rows) (i : ℕ) (rows : Rows) → Some rows ≡ slice_get visible i → drop i visible ≡ rows ∷ drop (i + 1) visible
    rows_next visible i rows there = there_after visible i rows there ∙ ap (λ n. rows ∷ drop n visible) (sym (add-one i))

pub all_tables : (tables : schema.Schema) (visible : List Rows) (i : ℕ) (before out : List ℕ) → AreTablesSoFar tables visible i before out → length tables ≤ i
    → out ≡ before ++ parts.cells_of_tables tables visible
all_tables tables visible i before out so_far past =
    let none : drop i tables ≡ [] = drop_all i tables past in
    sym (so_far ∙ ap (λ tables. out ++ parts.cells_of_tables tables (drop i visible)) none ∙ append-nil out)

pub no_more_rows : (tables : schema.Schema) (visible : List Rows) (i : ℕ) (before out : List ℕ) → AreTablesSoFar tables visible i before out → None ≡ slice_get visible i
    → out ≡ before ++ parts.cells_of_tables tables visible
no_more_rows tables visible i before out so_far past =
    sym (so_far ∙ ap (λ visible. out ++ parts.cells_of_tables (drop i tables) visible) (none_left visible i past)
    ∙ ap (λ cells. out ++ cells) (no_tables (drop i tables)) ∙ append-nil out)
  where
    none_left : (visible : List Rows) (i : ℕ) → None ≡ slice_get visible i → drop i visible ≡ []
    none_left [] i past = drop_all i _ (omega arith)
    none_left (rows ∷ visible) zero past = cc past
    none_left (rows ∷ visible) (suc i) past = none_left visible i past
