-- How many bytes stand before a column, column by column.
use Rattle.std.proofs.Common.{◌≡◌, ℕ, zero, suc, ◌+◌, ◌-◌, ◌<◌, ◌≤◌, List, [], ◌∷◌, drop, map, sum, ap, sym, refl, ◌∙◌, arith}
use Rattle.std.specs.Prelude.{slice_get}
use Rattle.ghost_model.specs.core.Schema.{Schema, Column, columns_of, column_at}
use Rattle.ghost_model.specs.forms.Cells.{cell_width}
use Rattle.ghost_model.specs.core.Channel.{Ask}
use Rattle.ghost_model.specs.core.Asks.{kind_at}
use Rattle.ghost_model.specs.core.Asks as asks
use Rattle.host_exec.specs.RowBytes.{Span, span_of, reply_width, form_of, width_before, width_or_none, data_columns}

pub none_before : (columns : List Column) → width_before columns 0 ≡ 0
unfolding width_before
none_before [] = refl
none_before (column ∷ columns) = refl

one_more : (columns : List Column) (place : ℕ) → width_before columns (suc place) ≡ width_before columns place + width_or_none (slice_get columns place)
unfolding width_before
one_more [] place = refl
one_more (column ∷ columns) zero = let e = none_before columns in omega (arith, e)
one_more (column ∷ columns) (suc place) = let e = one_more columns place in omega (arith, e)

pub behind_first : (columns : List Column) (at : ℕ) → 0 < at → slice_get columns at ≡ slice_get (drop 1 columns) (at - 1)
behind_first columns zero h = absurd (omega (arith, h))
behind_first [] (suc at) h = refl
behind_first (column ∷ columns) (suc at) h = let e : suc at - 1 ≡ at = omega arith in ap (slice_get columns) (sym e)

pub more_before : (schema : Schema) (table at width more : ℕ) → 1 ≤ at → width ≡ width_before (data_columns schema table) (at - 1)
    → more ≡ width_or_none (column_at schema table at) → width + more ≡ width_before (data_columns schema table) (at + 1 - 1)
more_before schema table at width more h w m =
    let next : at + 1 - 1 ≡ suc (at - 1) = omega (arith, h) in
    let added : more ≡ width_or_none (slice_get (data_columns schema table) (at - 1)) = m ∙ ap width_or_none (behind_first (columns_of schema table) at h) in
    let step = one_more (data_columns schema table) (at - 1) in
    let grown : width + more ≡ width_before (data_columns schema table) (suc (at - 1)) = omega (arith, w, added, step) in
    grown ∙ ap (width_before (data_columns schema table)) (sym next)

sizes_of : (schema : Schema) (table : ℕ) (columns : List ℕ) → map (λ (span : Span). span.size) (map (span_of schema table) columns) ≡ map cell_width (map (kind_at schema table) columns)
sizes_of schema table [] = refl
sizes_of schema table (column ∷ columns) = ap (λ (ns : List ℕ). cell_width (kind_at schema table column) ∷ ns) (sizes_of schema table columns)

-- a row of the reply has the same width by the bytes and by the ask
pub same_width : (schema : Schema) (ask : Ask) → reply_width (form_of schema ask) ≡ asks.row_width schema ask
same_width schema ask = ap (λ (ns : List ℕ). 4 + sum ns) (sizes_of schema ask.table ask.columns)
