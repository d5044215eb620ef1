-- How long an image is.
use Rattle.std.proofs.Common.{◌≡◌, refl, ap, ◌∙◌, ℕ, suc, ◌+◌, ◌*◌, true, List, [], ◌∷◌, length, map, arith, length-append, Some, slice_get}
use Rattle.std.specs.Prelude.{flat_map, sum, sum_by}
use Rattle.std.specs.List.{zip}
use Rattle.std.proofs.lemmas.List.Sums.{sum_by-cons}
use Rattle.ghost_model.specs.core.Schema.{Schema, Table, Kind}
use Rattle.ghost_model.specs.core.Values.{Row, Rows}
use Rattle.ghost_model.specs.core.Channel.{Catalog}
use Rattle.ghost_model.specs.laws.ShortWords.{rows_or_none}
use Rattle.ghost_model.specs.forms.Cells.{cell_width}
use Rattle.ghost_model.specs.forms.Catalog.{catalog_bytes}
use Rattle.ghost_model.specs.core.Split.{Public, cells, visible_kinds, cells_of_tables, are_of_kinds, image, IsPublic}
use Rattle.ghost_model.proofs.SessionLemmas.Replied.{cells_length}

abbrev row_bytes : Table → ℕ
row_bytes table = sum (map cell_width (visible_kinds table))

rows_long : (kinds : List Kind) (rows : Rows) → ((place : ℕ) (row : Row) → slice_get rows place ≡ Some row → are_of_kinds kinds row ≡ true)
    → length (flat_map (cells kinds) rows) ≡ length rows * sum (map cell_width kinds)
rows_long kinds [] each = omega arith
rows_long kinds (row ∷ rows) each =
    let one = cells_length kinds row (each 0 row refl) in
    let others = rows_long kinds rows (λ place other h. each (suc place) other h) in
    let joined = length-append (cells kinds row) (flat_map (cells kinds) rows) in
    omega (arith, one, others, joined)

tables_long : (schema : Schema) (visible : List Rows)
    → ((table place : ℕ) (declared : Table) (row : Row) → slice_get schema table ≡ Some declared
    → slice_get (rows_or_none (slice_get visible table)) place ≡ Some row → are_of_kinds (visible_kinds declared) row ≡ true)
    → length (cells_of_tables schema visible) ≡ sum_by (λ held. held.1 * row_bytes held.0) (zip schema (map length visible))
tables_long [] visible each = refl
tables_long (table ∷ schema) [] each = refl
tables_long (table ∷ schema) (rows ∷ visible) each =
    let one = rows_long (visible_kinds table) rows (λ place row h. each 0 place table row refl h) in
    let others = tables_long schema visible (λ at. each (suc at)) in
    let joined = length-append (flat_map (cells (visible_kinds table)) rows) (cells_of_tables schema visible) in
    let more = sum_by-cons (λ held. held.1 * row_bytes held.0) (table, length rows) (zip schema (map length visible)) in
    omega (arith, one, others, joined, more)

pub images_are_long : (cat : Catalog) (public : Public) → IsPublic cat public
    → length (image cat public) ≡ length (catalog_bytes cat) + sum_by (λ held. held.1 * row_bytes held.0) (zip cat.schema cat.counts)
images_are_long cat public is =
    length-append (catalog_bytes cat) (cells_of_tables cat.schema public.visible)
    ∙ ap (λ n. length (catalog_bytes cat) + n)
    (tables_long cat.schema public.visible is.kinds ∙ ap (λ counts. sum_by (λ held. held.1 * row_bytes held.0) (zip cat.schema counts)) is.counted)
