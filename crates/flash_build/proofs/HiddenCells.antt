-- The cells of a hidden column are those of the values at its place among the hidden ones, which are of its kind.
use Rattle.std.proofs.Common.{◌≡◌, refl, ap, sym, ◌∙◌, subst, ℕ, suc, ◌+◌, ◌<◌, ◌≤◌, true, List, [], length, map, get_or, Option, Some, None, slice_get, option_and_then, arith}
use Rattle.std.specs.Prelude.{IsTrue}
use Rattle.std.specs.Option.{option_map_or}
use Rattle.std.proofs.lemmas.Option.{slice_get-get_or}
use Rattle.std.proofs.lemmas.List.{get_or-map, length-map}
use Rattle.ghost_model.specs.core.Schema.{Schema, Column, Kind, column_at, plain_of}
use Rattle.ghost_model.specs.core.Values.{Value, Row, Rows}
use Rattle.ghost_model.specs.core.Channel.{Catalog}
use Rattle.ghost_model.specs.laws.SchemaTrees.{IsTree}
use Rattle.ghost_model.specs.core.Database.{rows_of, row_numbered, is_of_kind}
use Rattle.ghost_model.specs.forms.Cells.{cell_width, encode_cell}
use Rattle.ghost_model.specs.core.Asks.{kind_or_none, kind_at}
use Rattle.ghost_model.specs.core.Split as split
use Rattle.ghost_model.specs.core.Split.{Hidden}
use Rattle.ghost_model.specs.core.Replies.{hidden_places}
use Rattle.ghost_model.specs.forms.Layout.{is_hidden}
use Rattle.ghost_model.specs.laws.LayoutLaws.{AreNarrow}
use Rattle.ghost_model.specs.forms.Flash.{hidden_cells, IsHidden}
use Rattle.ghost_model.specs.laws.FlashLaws.{GoesWith, hidden_before, CellsFit, HiddenValuesByPlace, HiddenValuesOfDatabases, HiddenPartsGoWithCatalogs, HiddenCellsFit}
use Rattle.ghost_model.proofs.LayoutLemmas.Columns.{hidden_or_none, width_or_none}
use Rattle.flash_layout.specs.Limits.{HasNarrowCells}
use Rattle.flash_build.specs.Cells.{AreOfKind, cell_at, cells_at, value_at}

abbrev pub cell_if_any : Kind → Option Value → List ℕ
cell_if_any kind value = option_map_or (encode_cell kind) value []

-- a hidden column is there
declared : (o : Option Column) → hidden_or_none o ≡ true → (held : Column) × (o ≡ Some held) × (held.kind ≡ kind_or_none o)
declared None h = absurd (cc (h))
declared (Some held) h = (held, refl, refl)

pub width_of_kind : (o : Option Column) → cell_width (kind_or_none o) ≡ width_or_none o
width_of_kind None = refl
width_of_kind (Some column) = refl

-- without the byte that tells NULL, its cells have at most 64 bytes
pub plain_cells_fit : (schema : Schema) → HasNarrowCells schema → (table column : ℕ) → is_hidden schema table column ≡ true
    → cell_width (plain_of (kind_at schema table column)) ≤ 64
plain_cells_fit schema cells table column h =
    let there = declared (column_at schema table column) h in
    subst (λ k. cell_width (plain_of k) ≤ 64) there.2 (cells table column there.0 there.1)

of_rows : (f g : Row → Option Value) (o : Option Row) → ((row : Row) → f row ≡ g row) → option_and_then f o ≡ option_and_then g o
of_rows f g None same = refl
of_rows f g (Some row) same = same row

pub of_kind :
    (cat : Catalog) (hidden : Hidden) → IsTree cat.schema → AreNarrow cat → HiddenValuesByPlace → HiddenValuesOfDatabases
    → IsHidden cat hidden → (table column : ℕ) → is_hidden cat.schema table column ≡ true
    → AreOfKind (kind_at cat.schema table column) (hidden_before cat.schema table column) (rows_of hidden.hidden table)
of_kind cat hidden tree narrow by_place of_databases is table column h =
    let there = declared (column_at cat.schema table column) h in
    record {
      narrow = subst (λ n. n ≤ 65) (sym (width_of_kind (column_at cat.schema table column))) (narrow.most table column);
      each = λ identifier value found.
          let rows = rows_of hidden.hidden table in
          let by_columns =
          of_rows (λ row. split.value_at (hidden_places cat.schema table) row column) (λ row. slice_get row (hidden_before cat.schema table column))
          (row_numbered rows identifier) (λ row. by_place cat.schema tree table column h row) in
          let parts : hidden.hidden ≡ (split.hidden_of cat.schema is.database).hidden = ap (λ (p : Hidden). p.hidden) is.part in
          let same =
          ap (λ tables. option_and_then (λ row. split.value_at (hidden_places cat.schema table) row column) (row_numbered (rows_of tables table) identifier)) parts in
          let field = sym (of_databases cat.schema is.database tree is.proper table identifier column h) ∙ (sym same ∙ (by_columns ∙ found)) in
          subst (λ k. IsTrue (is_of_kind k value)) there.2 (is.proper.kinds table identifier column value there.0 field there.1);
    }

pub same_cells :
    (schema : Schema) (hidden : Hidden) → IsTree schema → HiddenValuesByPlace → (table column : ℕ) → is_hidden schema table column ≡ true
    → cells_at (kind_at schema table column) (hidden_before schema table column) (rows_of hidden.hidden table)
    ≡ hidden_cells schema hidden table column
same_cells schema hidden tree by_place table column h =
    λ i. map (λ row. cell_if_any (kind_at schema table column) (sym (by_place schema tree table column h row) i)) (rows_of hidden.hidden table)

-- the cell of a row by its number
pub cell_of_row :
    (kind : Kind) (place : ℕ) (rows : Rows) (i : ℕ) → i < length (cells_at kind place rows)
    → get_or (cells_at kind place rows) i [] ≡ cell_if_any kind (value_at rows (i + 1) place)
cell_of_row kind place rows i within =
    let less : i < length rows = omega (arith, within, length-map rows (cell_at kind place)) in
    let e : i + 1 ≡ suc i = omega arith in
    get_or-map (cell_at kind place) rows i [] [] less
    ∙ sym (ap (λ n. cell_if_any kind (value_at rows n place)) e
    ∙ ap (λ o. cell_if_any kind (option_and_then (λ row. slice_get row place) o)) (slice_get-get_or rows i [] less))

-- a hidden part's cells fit its catalog
pub part_fits :
    (cat : Catalog) (hidden : Hidden) → IsTree cat.schema → HiddenPartsGoWithCatalogs → HiddenCellsFit → IsHidden cat hidden → CellsFit cat hidden
part_fits cat hidden tree parts fit is =
    fit cat hidden tree (subst (λ h. GoesWith cat h) (sym is.part) (parts cat is.database is.proper is.counted))

pub cell_widths :
    (cells kept : List (List ℕ)) (width : ℕ) → cells ≡ kept
    → ((i : ℕ) (cell : List ℕ) → slice_get kept i ≡ Some cell → length cell ≡ width)
    → (i : ℕ) → i < length cells → length (get_or cells i []) ≡ width
cell_widths cells kept width same each =
    subst (λ (cs : List (List ℕ)). (i : ℕ) → i < length cs → length (get_or cs i []) ≡ width) (sym same)
    (λ i within. each i (get_or kept i []) (slice_get-get_or kept i [] within))
