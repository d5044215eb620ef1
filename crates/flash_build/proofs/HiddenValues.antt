-- The cells of a hidden column are those of its values as they lie in memory.
use Rattle.std.proofs.Common.{◌≡◌, refl, ap, sym, ◌∙◌, subst, ℕ, zero, suc, ◌+◌, ◌<◌, ℤ, true, List, [], ◌∷◌, length, map, get_or, None, slice_get, arith}
use Rattle.std.specs.Option.{option_map}
use Rattle.std.proofs.lemmas.Option.{slice_get_within, slice_get-map, slice_get-get_or}
use Rattle.std.proofs.lemmas.List.{length-map}
use Rattle.ghost_model.specs.core.Schema.{Kind, Integer, Chars}
use Rattle.ghost_model.specs.core.Values.{Value, Number, Text, Rows}
use Rattle.ghost_model.specs.core.Channel.{Catalog}
use Rattle.ghost_model.specs.laws.SchemaTrees.{IsTree}
use Rattle.ghost_model.specs.core.Database.{rows_of}
use Rattle.ghost_model.specs.forms.Cells.{encode_cell, padded}
use Rattle.ghost_model.specs.core.Asks.{kind_at}
use Rattle.ghost_model.specs.core.Split.{Hidden}
use Rattle.ghost_model.specs.forms.Layout.{is_hidden, count_of}
use Rattle.ghost_model.specs.laws.LayoutLaws.{AreNarrow}
use Rattle.ghost_model.specs.forms.Flash.{IsHidden, hidden_cells}
use Rattle.ghost_model.specs.laws.FlashLaws.{hidden_before, CellsFit, HiddenValuesByPlace, HiddenValuesOfDatabases, HiddenPartsGoWithCatalogs, HiddenCellsFit}
use Rattle.csv_split.specs.Tables.{IsColumn}
use Rattle.index_lists.specs.Ranks.{number_cell, number_cells}
use Rattle.flash_build.specs.Cells.{AreHeld, AreOfKind, AreTexts, cell_at, cells_at, value_at}
use Rattle.flash_build.proofs.HiddenCells.{cell_if_any, of_kind, same_cells, cell_of_row, part_fits}

same_by_place : (xs ys : List (List ℕ)) → length xs ≡ length ys → ((k : ℕ) → k < length xs → get_or xs k [] ≡ get_or ys k []) → xs ≡ ys
same_by_place [] [] size h = refl
same_by_place [] (y ∷ ys) size h = absurd (omega (arith, size))
same_by_place (x ∷ xs) [] size h = absurd (omega (arith, size))
same_by_place (x ∷ xs) (y ∷ ys) size h =
    let first = h 0 (omega arith) in
    let later = same_by_place xs ys (omega (arith, size)) (λ k low. h (suc k) (omega (arith, low))) in
    λ i. first i ∷ later i

cell_of_value : (kind : Kind) (values : List Value) (k : ℕ) → k < length values → get_or (map (encode_cell kind) values) k [] ≡ cell_if_any kind (slice_get values k)
cell_of_value kind [] k low = absurd (omega (arith, low))
cell_of_value kind (v ∷ vs) zero low = refl
cell_of_value kind (v ∷ vs) (suc k) low = cell_of_value kind vs k (omega (arith, low))

cells_of_values : (kind : Kind) (place : ℕ) (rows : Rows) (values : List Value) → IsColumn rows place values → map (encode_cell kind) values ≡ cells_at kind place rows
cells_of_values kind place rows values stand =
    let many = length-map values (encode_cell kind) in
    let size = length-map rows (cell_at kind place) in
    same_by_place (map (encode_cell kind) values) (cells_at kind place rows) (many ∙ (stand.long ∙ sym size))
    (λ k low.
    let within : k < length values = omega (arith, low, many) in
    cell_of_value kind values k within
    ∙ (ap (cell_if_any kind) (stand.placed k (omega (arith, within, stand.long))) ∙ sym (cell_of_row kind place rows k (omega (arith, within, stand.long, size)))))

-- values are those of a hidden column, of its kind
pub record AreValuesOf (cat : Catalog) (hidden : Hidden) (table column : ℕ) (values : List Value) : Type 0 where
  pub cells : map (encode_cell (kind_at cat.schema table column)) values ≡ hidden_cells cat.schema hidden table column
  pub kinds : AreHeld (kind_at cat.schema table column) values
  pub long : length values ≡ count_of cat table

module _ (cat : Catalog) (hidden : Hidden) (tree : IsTree cat.schema) (narrow : AreNarrow cat) (by_place : HiddenValuesByPlace) (of_databases : HiddenValuesOfDatabases)
    (parts : HiddenPartsGoWithCatalogs) (fits : HiddenCellsFit) (part : IsHidden cat hidden) (table column : ℕ) (h : is_hidden cat.schema table column ≡ true) where
  abbrev pub kind : Kind
  kind = kind_at cat.schema table column

  abbrev pub rows : Rows
  rows = rows_of hidden.hidden table

  pub fit : CellsFit cat hidden
  fit = part_fits cat hidden tree parts fits part

  pub values_are : (place : ℕ) → place ≡ hidden_before cat.schema table column → (values : List Value) → IsColumn rows place values → AreValuesOf cat hidden table column values
  values_are place is values stand =
      let at : IsColumn rows (hidden_before cat.schema table column) values = subst (λ p. IsColumn rows p values) is stand in
      let are : AreOfKind kind (hidden_before cat.schema table column) rows = of_kind cat hidden tree narrow by_place of_databases part table column h in
      let cells = cells_of_values kind (hidden_before cat.schema table column) rows values at ∙ same_cells cat.schema hidden tree by_place table column h in
      record {
        cells = cells;
        kinds = λ k v found.
            let within : k < length rows = (let low = slice_get_within values k v found in omega (arith, low, at.long)) in
            are.each (k + 1) v (sym (at.placed k within) ∙ found);
        long = sym (length-map values (encode_cell kind)) ∙ (ap length cells ∙ fit.count table column h);
      }

  -- a column that is nowhere has no cells
  pub none_are : (place : ℕ) → place ≡ hidden_before cat.schema table column → ((identifier : ℕ) → value_at rows identifier place ≡ None) → hidden_cells cat.schema hidden table column ≡ []
  none_are place is none =
      let same : cells_at kind place rows ≡ hidden_cells cat.schema hidden table column =
      ap (λ p. cells_at kind p rows) is ∙ same_cells cat.schema hidden tree by_place table column h in
      no_cells (hidden_cells cat.schema hidden table column) (λ some.
      let size = ap length same in
      let first : get_or (hidden_cells cat.schema hidden table column) 0 [] ≡ [] =
      ap (λ cs. get_or cs 0 []) (sym same) ∙ (cell_of_row kind place rows 0 (omega (arith, some, size)) ∙ ap (cell_if_any kind) (none 1)) in
      let wide = fit.width table column 0 (get_or (hidden_cells cat.schema hidden table column) 0 []) h (slice_get-get_or (hidden_cells cat.schema hidden table column) 0 [] some) in
      let least = narrow.least table column h in
      let short = ap length first in
      omega (arith, wide, least, short))
    where
      no_cells : (cells : List (List ℕ)) → (0 < length cells → ⊥) → cells ≡ []
      no_cells [] never = refl
      no_cells (c ∷ cs) never = absurd (never (omega arith))

-- integers, and texts
pub numbers_are : (numbers : List ℤ) → number_cells numbers ≡ map (encode_cell Integer) (map Number numbers)
numbers_are [] = refl
numbers_are (n ∷ ns) = ap (λ later. number_cell n ∷ later) (numbers_are ns)

pub texts_are : (width : ℕ) (texts : List (List ℕ)) → map (padded width) texts ≡ map (encode_cell (Chars width)) (map Text texts)
texts_are width [] = refl
texts_are width (t ∷ ts) = ap (λ later. padded width t ∷ later) (texts_are width ts)

pub all_fit : (width : ℕ) (texts : List (List ℕ)) → AreHeld (Chars width) (map Text texts) → AreTexts width texts
all_fit width texts held place text at = held place (Text text) (slice_get-map Text texts place ∙ ap (option_map Text) at)
