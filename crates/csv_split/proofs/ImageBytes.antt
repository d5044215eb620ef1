-- An image is as long as the numbers of rows tell, which is no more than the greatest count.
use Rattle.std.proofs.Common.{◌≡◌, ◌≤◌, ◌+◌, ◌*◌, ◌∙◌, ℕ, suc, Bool, true, false, List, [], ◌∷◌, length, map, drop, filter, nat_le, Some, sym, ap, ap₂, refl, arith, leb-true}
use Rattle.std.specs.Prelude.{◌-◌, ◌^◌, not, sum, sum_by, slice_get, if◌then◌else◌}
use Rattle.std.specs.List.{list_all, zip}
use Rattle.std.specs.Cmp.{first_so, second_so}
use Rattle.std.proofs.Math.Nat.{min-eq_left, mul-le-mul_right}
use Rattle.std.proofs.lemmas.List.{length-drop}
use Rattle.std.proofs.lemmas.List.Sums.{sum_by-cons}
use Rattle.ghost_model.specs.core.Schema.{Schema, Table, Column, columns_of, columns_or_none}
use Rattle.ghost_model.specs.core.Values.{Rows}
use Rattle.ghost_model.specs.core.Channel.{Catalog}
use Rattle.ghost_model.specs.core.Split.{Public, IsPublic, image, is_open, kind_of_column}
use Rattle.ghost_model.specs.forms.Catalog.{catalog_bytes, IsCatalog}
use Rattle.ghost_model.specs.forms.Cells.{cell_width}
use Rattle.ghost_model.specs.laws.SchemaTrees.{IsTree}
use Rattle.ghost_model.specs.refusals.LoadFaults.{most_rows}
use Rattle.ghost_model.proofs.MeaningLemmas.ImageLengths.{images_are_long}
use Rattle.ghost_model.proofs.SessionLemmas.Settings.{tree_of}
use Rattle.csv_split.specs.ImageLengths.{ImagesHaveTheirBytes, column_bytes, image_bytes, row_bytes, tables_bytes}
use Rattle.csv_split.proofs.DeclaredColumns.{not_wide}
use Rattle.csv_split.proofs.ImageCells.{open_kinds}
use Rattle.csv_split.proofs.ImageLengths.{IsLengthSoFar, all_lengths}

-- the widths of the visible ones of columns, together
abbrev widths : List Column → ℕ
widths columns = sum (map cell_width (open_kinds columns))

widths_first : (column : Column) (later : List Column) → widths (column ∷ later) ≡ column_bytes column + widths later
widths_first column later = by column.hidden
  where
    by : (hidden : Bool)
        → sum (map cell_width (map kind_of_column (if not hidden then column ∷ filter is_open later else filter is_open later)))
        ≡ (if hidden then 0 else cell_width column.kind) + widths later
    by true = omega arith
    by false = sum_by-cons (λ n. n) (cell_width column.kind) (map cell_width (open_kinds later))

row_wide : (columns : List Column) → widths columns ≡ row_bytes columns
row_wide [] = refl
row_wide (column ∷ later) = widths_first column later ∙ ap (λ n. column_bytes column + n) (row_wide later)

-- the bytes of the rows of a table, of which the number is told
abbrev rows_bytes : Table × ℕ → ℕ
rows_bytes held = held.1 * widths (drop 1 held.0.columns)

tables_wide : (schema : Schema) (visible : List Rows) → sum_by rows_bytes (zip schema (map length visible)) ≡ tables_bytes schema visible
tables_wide [] visible = refl
tables_wide (table ∷ schema) [] = refl
tables_wide (table ∷ schema) (rows ∷ visible) =
    sum_by-cons rows_bytes (table, length rows) (zip schema (map length visible))
    ∙ ap₂ (λ a b. a + b) (turned (length rows) (widths (drop 1 table.columns)) ∙ ap (λ n. n * length rows) (row_wide (drop 1 table.columns))) (tables_wide schema visible)
  where
    turned : (a b : ℕ) → a * b ≡ b * a
    turned a b = grind arith

-- an image of a public part that goes with its catalog
pub image_long : (cat : Catalog) (public : Public) → IsPublic cat public → length (image cat public) ≡ image_bytes cat public
image_long cat public goes =
    images_are_long cat public goes
    ∙ ap (λ n. length (catalog_bytes cat) + n)
    (ap (λ counts. sum_by rows_bytes (zip cat.schema counts)) (sym goes.counted) ∙ tables_wide cat.schema public.visible)

pub images_have_their_bytes : ImagesHaveTheirBytes
images_have_their_bytes cat public bytes spells = ap length spells.spelled ∙ image_long cat public spells.goes_with

-- no image has more than the greatest count

row_small : (columns : List Column) → ((column : ℕ) (held : Column) → slice_get columns column ≡ Some held → cell_width held.kind ≤ 65) → row_bytes columns ≤ 65 * length columns
row_small [] each = omega arith
row_small (column ∷ later) each =
    let one : column_bytes column ≤ 65 = by column.hidden in
    let others = row_small later (λ at. each (suc at)) in
    omega (arith, one, others)
  where
    by : (hidden : Bool) → (if hidden then 0 else cell_width column.kind) ≤ 65
    by true = omega arith
    by false = each 0 column refl

later_there : (columns : List Column) (column : ℕ) (held : Column) → slice_get (drop 1 columns) column ≡ Some held → slice_get columns (suc column) ≡ Some held
later_there [] column held is = cc is
later_there (_ ∷ later) column held is = is

table_small : (schema : Schema) → IsTree schema → (table : ℕ) (declared : Table) → slice_get schema table ≡ Some declared → row_bytes (drop 1 declared.columns) ≤ 1560
table_small schema tree table declared is =
    let same : columns_of schema table ≡ declared.columns = ap columns_or_none is in
    let all = tree.few_columns table in
    let few : length declared.columns ≤ 24 = rw same at all in
    let size = length-drop 1 declared.columns in
    let most = row_small (drop 1 declared.columns)
    (λ column held there.
    let found = ap (λ columns. slice_get columns (suc column)) same ∙ later_there declared.columns column held there in
    not_wide held.kind (λ most e. tree.text_lengths table (suc column) most held found e) (λ most e. tree.nullable_text_lengths table (suc column) most held found e)) in
    omega (arith, few, size, most)

tables_small : (schema : Schema) (visible : List Rows) → ((table : ℕ) (declared : Table) → slice_get schema table ≡ Some declared → row_bytes (drop 1 declared.columns) ≤ 1560)
    → list_all (λ count. nat_le count most_rows) (map length visible) ≡ true → tables_bytes schema visible ≤ 1560000000 * length schema
tables_small [] visible each few = omega arith
tables_small (table ∷ schema) [] each few = omega arith
tables_small (table ∷ schema) (rows ∷ visible) each few =
    let wide : row_bytes (drop 1 table.columns) ≤ 1560 = each 0 table refl in
    let long : length rows ≤ most_rows = leb-true (length rows) most_rows (first_so (nat_le (length rows) most_rows) _ few) in
    let one = times (row_bytes (drop 1 table.columns)) (length rows) wide long in
    let later : list_all (λ count. nat_le count most_rows) (map length visible) ≡ true = second_so (nat_le (length rows) most_rows) _ few in
    let others : tables_bytes schema visible ≤ 1560000000 * length schema = tables_small schema visible (λ at. each (suc at)) later in
    omega (arith, one, others)
  where
    times : (a b : ℕ) → a ≤ 1560 → b ≤ 1000000 → a * b ≤ 1560000000
    times a b few long = let most = mul-le-mul_right b few in omega (arith, most, long)

image_small : (cat : Catalog) (public : Public) → IsCatalog cat → length (catalog_bytes cat) ≤ 16640 → IsPublic cat public → image_bytes cat public ≤ 2 ^ 64 - 1
image_small cat public proper short goes =
    let tree = tree_of cat proper in
    let few = tree.few_tables in
    let most = tables_small cat.schema public.visible (table_small cat.schema tree) (ap (list_all (λ count. nat_le count most_rows)) goes.counted ∙ proper.few_rows) in
    omega (arith, few, most, short)

-- where all tables are counted, that is the length
pub whole_length : (cat : Catalog) (public : Public) (i len : ℕ) → IsCatalog cat → length (catalog_bytes cat) ≤ 16640
    → IsLengthSoFar cat.schema public.visible (length (catalog_bytes cat)) i len → length cat.schema ≤ i → IsPublic cat public → len ≡ length (image cat public)
whole_length cat public i len proper short so_far past goes =
    all_lengths cat.schema public.visible (length (catalog_bytes cat)) i len so_far past
    ∙ min-eq_left (image_small cat public proper short goes) ∙ sym (image_long cat public goes)
