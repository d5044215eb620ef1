-- The rows of a reply, each by its bytes.
use Rattle.std.specs.Prelude.{ℕ, zero, suc, ◌/◌, List, [], ◌∷◌, length, take, drop}
use Rattle.ghost_model.specs.core.Schema.{Schema}
use Rattle.ghost_model.specs.core.Channel.{Ask}
use Rattle.ghost_model.specs.core.Asks.{RowCells, row_width, rows_from}

-- so many rows of a width at the front of some bytes
unfoldable pub cut : (width count : ℕ) → List ℕ → List (List ℕ)
cut width zero bytes = []
cut width (suc count) bytes = take width bytes ∷ cut width count (drop width bytes)

-- the whole rows of a width at the front of some bytes, and their identifiers and cells
abbrev pub rows_at : (width : ℕ) → List ℕ → List (List ℕ)
rows_at width bytes = cut width (length bytes / width) bytes

abbrev pub cells_at : (width : ℕ) → List ℕ → List RowCells
cells_at width bytes = rows_from width (length bytes / width) bytes

-- the rows of the reply to an ask
abbrev pub rows_cut : Schema → Ask → List ℕ → List (List ℕ)
rows_cut schema ask bytes = rows_at (row_width schema ask) bytes
