-- A table that has a visible column has more in its rows than an identifier.
use Rattle.std.proofs.Common.{◌≡◌, ap, refl, ℕ, zero, suc, ◌+◌, ◌-◌, ◌<◌, ◌≤◌, Bool, true, false, ◌&&◌, nat_lt, List, [], ◌∷◌, length, filter, sum_by, Option, None, Some, slice_get, arith}
use Rattle.std.specs.Prelude.{cond}
use Rattle.std.specs.Option.{option_map_or}
use Rattle.ghost_model.specs.core.Schema.{Kind, Integer, Chars, IntegerOrNull, CharsOrNull, Column, columns_of, column_at, is_shown, is_visible}
use Rattle.ghost_model.specs.core.Channel.{Catalog}
use Rattle.ghost_model.specs.forms.Cells.{cell_width}
use Rattle.ghost_model.specs.laws.ShortWords as short
use Rattle.ghost_model.specs.forms.Layout as layout
use Rattle.ghost_model.specs.laws.LayoutLaws.{LieInOrder}
use Rattle.visible_spool.specs.Laws.{VisibleTablesHaveRoom}

kind_least : (kind : Kind) → ((most : ℕ) → kind ≡ Chars most → 1 ≤ most) → 0 < cell_width kind
kind_least Integer h = omega arith
kind_least (Chars most) h = let least = h most refl in omega (arith, least)
kind_least IntegerOrNull h = omega arith
kind_least (CharsOrNull most) h = omega arith

width_least : (o : Option Column) → ((held : Column) → o ≡ Some held → 0 < cell_width held.kind) → is_shown o ≡ true
    → 0 < option_map_or (λ (held : Column). cell_width held.kind) o 0
width_least None h e = absurd (cc (e))
width_least (Some held) h e = h held refl

in_range : (columns : List Column) (place : ℕ) → is_shown (slice_get columns place) ≡ true → place < length columns
in_range [] place e = absurd (cc (e))
in_range (column ∷ columns) zero e = omega arith
in_range (column ∷ columns) (suc place) e = let h = in_range columns place e in omega (arith, h)

shown_of : (a b : Bool) → (a && b) ≡ true → b ≡ true
shown_of true b e = e
shown_of false b e = absurd (cc (e))

taken_if : (b : Bool) (n : ℕ) → b ≡ true → cond b n 0 ≡ n
taken_if true n e = refl
taken_if false n e = absurd (cc (e))

module _ (cat : Catalog) (table : ℕ) (order : LieInOrder cat) where
  abbrev up_to : ℕ → ℕ
  up_to count = sum_by (layout.width_at cat.schema table) (filter (is_visible cat.schema table) (layout.below count))

  climbs : (gap count : ℕ) → up_to count ≤ up_to (count + gap)
  climbs zero count = let e : count ≡ count + 0 = omega arith in let h = ap up_to e in omega (arith, h)
  climbs (suc gap) count =
      let before = climbs gap count in
      let step : up_to (count + gap + 1) ≡ up_to (count + gap) + cond (is_visible cat.schema table (count + gap)) (layout.width_at cat.schema table (count + gap)) 0 = order.next_visible table (count + gap) in
      let e : count + gap + 1 ≡ count + suc gap = omega arith in
      let h = ap up_to e in
      omega (arith, before, step, h)

pub visible_tables_have_room : VisibleTablesHaveRoom
visible_tables_have_room cat table column tree order visible =
    let shown = shown_of (nat_lt 0 column) (is_shown (column_at cat.schema table column)) visible in
    let there = in_range (columns_of cat.schema table) column shown in
    let some = width_least (column_at cat.schema table column) (λ held at. kind_least held.kind (λ most e. (tree.text_lengths table column most held at e).0)) shown in
    let step : up_to cat table order (column + 1) ≡ up_to cat table order column + cond (is_visible cat.schema table column) (layout.width_at cat.schema table column) 0 = order.next_visible table column in
    let all = taken_if (is_visible cat.schema table column) (layout.width_at cat.schema table column) visible in
    let gap = short.column_count cat.schema table - (column + 1) in
    let up = climbs cat table order gap (column + 1) in
    let e : column + 1 + gap ≡ short.column_count cat.schema table = omega (arith, there) in
    let h = ap (up_to cat table order) e in
    omega (arith, some, step, all, up, h)
