-- How many bytes a visible image has where each row of it has a value for each visible column of its table.
use Rattle.std.specs.Prelude.{◌≡◌, ℕ, ◌+◌, ◌*◌, ◌-◌, ◌^◌, min, List, [], ◌∷◌, drop, length, if◌then◌else◌}
use Rattle.ghost_model.specs.forms.Catalog.{catalog_bytes}
use Rattle.ghost_model.specs.forms.Cells.{cell_width}
use Rattle.ghost_model.specs.core.Channel.{Catalog}
use Rattle.ghost_model.specs.core.Schema.{Schema, Column}
use Rattle.ghost_model.specs.core.Split.{Public, SpellsImage}
use Rattle.ghost_model.specs.core.Values.{Rows}

-- a number of bytes as it is counted, where more than the greatest count are that
abbrev pub counted : ℕ → ℕ
counted bytes = min bytes (2 ^ 64 - 1)

-- the bytes of a column in the image's rows
abbrev pub column_bytes : Column → ℕ
column_bytes column = if column.hidden then 0 else cell_width column.kind

-- the bytes of a row, of whose table these are the columns after the identifier
abbrev pub row_bytes : List Column → ℕ
row_bytes [] = 0
row_bytes (column ∷ columns) = column_bytes column + row_bytes columns

abbrev pub tables_bytes : Schema → (visible : List Rows) → ℕ
tables_bytes [] visible = 0
tables_bytes (_ ∷ _) [] = 0
tables_bytes (table ∷ tables) (rows ∷ visible) = row_bytes (drop 1 table.columns) * length rows + tables_bytes tables visible

-- the catalog, and the rows of all tables
abbrev pub image_bytes : Catalog → Public → ℕ
image_bytes cat public = length (catalog_bytes cat) + tables_bytes cat.schema public.visible

-- bytes that are a visible image are so many
abbrev pub ImagesHaveTheirBytes : Type 0
ImagesHaveTheirBytes =
    (cat : Catalog) (public : Public) (bytes : List ℕ) → SpellsImage cat public bytes → length bytes ≡ image_bytes cat public
