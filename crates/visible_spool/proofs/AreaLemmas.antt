-- Where the areas of the spool lie, and which rows have room there.
use Rattle.std.proofs.Common.{Bool, true, false, ◌≡◌, ◌∙◌, ap, sym, subst, refl, ℕ, zero, suc, ◌+◌, ◌-◌, ◌*◌, ◌/◌, ◌%◌, ◌<◌, ◌≤◌, inl, inr, List, [], ◌∷◌, ◌++◌, length, sum_by, get_or, if◌then◌else◌, arith}
use Rattle.std.proofs.lemmas.Bool.{cases_lt}
use Rattle.std.proofs.lemmas.List.{length-append, get_or_append_left}
use Rattle.std.proofs.Math.Seq.{get_or-append_seam}
use Rattle.std.proofs.lemmas.Nat.{le-div, div_below, div-add-mod'}
use Rattle.std.proofs.Math.Nat.{div-mul-le_self, mod-lt}
use Rattle.ghost_model.specs.core.Schema.{is_empty}
use Rattle.ghost_model.specs.core.Channel.{Catalog}
use Rattle.ghost_model.specs.forms.Layout as layout
use Rattle.ghost_model.specs.forms.Runs.{pages_of, per_page}
use Rattle.ghost_model.specs.laws.LayoutLaws.{SumsByPlace}
use Rattle.flash_layout.specs.Limits.{HasLayout}
use Rattle.edge_traits.specs.Devices.{Device}
use Rattle.visible_spool.specs.declared.area.Area.{Area}
use Rattle.visible_spool.specs.Areas.{IsAreaOf, IsArea, AreAreas, AreasLieApart, is_even, no_area}

-- where a row has more than an identifier, its table has pages
by_empty : (width : ℕ → ℕ) (columns : List ℕ) (pages : ℕ) → 4 < 4 + sum_by width columns → (if is_empty columns then 0 else pages) ≡ pages
by_empty width [] pages some = absurd (omega (arith, some))
by_empty width (column ∷ columns) pages some = refl

pub has_pages : (cat : Catalog) (table : ℕ) → 4 < layout.spool_width cat.schema table
    → layout.spool_pages cat table ≡ layout.in_blocks (pages_of (layout.row_room cat table) (layout.spool_width cat.schema table))
has_pages cat table some = by_empty (layout.width_at cat.schema table) (layout.visible_columns cat.schema table) (layout.in_blocks (pages_of (layout.row_room cat table) (layout.spool_width cat.schema table))) some

-- more rows need no fewer pages
more_by : (each rows room : ℕ) → rows ≤ room → (rows + (each - 1)) / each ≤ (room + (each - 1)) / each
more_by zero rows room low = omega arith
more_by (suc each) rows room low =
    let a : (rows + (suc each - 1)) / suc each * suc each ≤ rows + (suc each - 1) = div-mul-le_self (rows + (suc each - 1)) (suc each) in
    le-div ((rows + (suc each - 1)) / suc each) (room + (suc each - 1)) (suc each) (omega arith) (omega (arith, a, low))

more_pages : (rows room width : ℕ) → rows ≤ room → layout.in_blocks (pages_of rows width) ≤ layout.in_blocks (pages_of room width)
more_pages rows room width low = let h = more_by (per_page width) rows room low in omega (arith, h)

-- the area of a table has room for its rows
has_room : (cat : Catalog) (table : ℕ) (area : Area) → area.rows ≡ layout.count_of cat table → area.width ≡ layout.spool_width cat.schema table
    → 4 < area.width → layout.in_blocks (pages_of area.rows area.width) ≤ layout.spool_pages cat table
has_room cat table area rows_is width_is some =
    let has = has_pages cat table (omega (arith, some, width_is)) in
    let more = more_pages area.rows (layout.row_room cat table) area.width (omega (arith, rows_is)) in
    let wide = ap (λ w. layout.in_blocks (pages_of (layout.row_room cat table) w)) width_is in
    omega (arith, has, more, wide)

before_end : (cat : Catalog) (table : ℕ) → SumsByPlace → table < length cat.schema
    → sum_by (layout.spool_pages cat) (layout.below table) + layout.spool_pages cat table ≤ layout.half_pages cat
before_end cat table sums there =
    let step = sums.next (layout.spool_pages cat) table in
    let rise = sums.rise (layout.spool_pages cat) (table + 1) (length cat.schema) (omega (arith, there)) in
    omega (arith, step, rise)

module _ (cat : Catalog) (table : ℕ) (area : Area) (laid : HasLayout cat) (sums : SumsByPlace) (there : table < length cat.schema)
    (even_is : area.even ≡ (layout.spool_area cat 0 table).first) (odd_is : area.odd ≡ (layout.spool_area cat 1 table).first)
    (rows_is : area.rows ≡ layout.count_of cat table) (width_is : area.width ≡ layout.spool_width cat.schema table) where
  room : 4 < area.width → layout.in_blocks (pages_of area.rows area.width) ≤ layout.spool_pages cat table
  room = has_room cat table area rows_is width_is

  pub its_area : IsAreaOf cat table area
  its_area =
      let end = before_end cat table sums there in
      record {
        even_is = even_is;
        odd_is = odd_is;
        rows_is = rows_is;
        width_is = width_is;
        even_lies = λ some. let r = room some in record { from = omega (arith, even_is); to = omega (arith, even_is, end, r) };
        odd_lies = λ some. let r = room some in record { from = omega (arith, odd_is); to = omega (arith, odd_is, end, r) };
      }

  pub its_pages : (device : Device) → layout.need cat ≤ device.page_count → IsArea device area
  its_pages device need =
      let end = before_end cat table sums there in
      let even = laid.blocks.spool_area 0 table in
      let odd = laid.blocks.spool_area 1 table in
      let narrow = laid.narrow.spool table in
      let few = laid.few.rows table in
      let scratch = laid.order.scratch in
      let appended = laid.order.appended in
      record {
        even_block = omega (arith, even_is, even);
        odd_block = omega (arith, odd_is, odd);
        wide = omega (arith, width_is);
        narrow = omega (arith, width_is, narrow);
        most = omega (arith, rows_is, few);
        even_there = λ some. let r = room some in omega (arith, even_is, end, r, scratch, appended, need);
        odd_there = λ some. let r = room some in omega (arith, odd_is, end, r, scratch, appended, need);
      }

-- narrower rows need no more pages
times_rise : (a b n : ℕ) → a ≤ b → n * a ≤ n * b
times_rise a b zero low = omega arith
times_rise a b (suc n) low = let h = times_rise a b n low in omega (arith, h, low)

more_a_page : (width most : ℕ) → 0 < width → width ≤ most → per_page most ≤ per_page width
more_a_page width most some low =
    let a : 2048 / most * most ≤ 2048 = div-mul-le_self 2048 most in
    let b = times_rise width most (2048 / most) low in
    le-div (2048 / most) 2048 width some (omega (arith, a, b))

fewer_pages_by : (count n m : ℕ) → 0 < n → n ≤ m → (count + (m - 1)) / m ≤ (count + (n - 1)) / n
fewer_pages_by count n m some low =
    let p = (count + (n - 1)) / n in
    let a : p * n + (count + (n - 1)) % n ≡ count + (n - 1) = div-add-mod' (count + (n - 1)) n in
    let small = mod-lt (count + (n - 1)) some in
    let enough : count ≤ p * n = omega (arith, a, small) in
    let b = times_rise n m p low in
    let c = div_below (count + (m - 1)) m (p + 1) (omega (arith, some, low)) (omega (arith, enough, b, some, low)) in
    omega (arith, c)

pub fewer_pages : (count width most : ℕ) → 4 ≤ width → width ≤ most → most ≤ 1564 → layout.in_blocks (pages_of count width) ≤ layout.in_blocks (pages_of count most)
fewer_pages count width most wide low narrow =
    let each = more_a_page width most (omega (arith, wide)) low in
    let one = le-div 1 2048 most (omega (arith, wide, low)) (omega (arith, narrow)) in
    let h = fewer_pages_by count (per_page most) (per_page width) (omega (arith, one)) each in
    omega (arith, h)

-- one area more
pub record AreAreasBefore (cat : Catalog) (table : ℕ) (areas : List Area) : Type 0 where
  pub count : length areas ≡ table
  pub each : (at : ℕ) → at < length areas → IsAreaOf cat at (get_or areas at no_area)
  pub writable : (device : Device) → layout.need cat ≤ device.page_count → AreAreas device areas

by_place : (areas : List Area) (last : Area) (P : ℕ → Area → Type 0) → ((at : ℕ) → at < length areas → P at (get_or areas at no_area))
    → P (length areas) last → (at : ℕ) → at < length (areas ++ last ∷ []) → P at (get_or (areas ++ last ∷ []) at no_area)
by_place areas last P before here at within =
    let e = length-append areas (last ∷ []) in
    elim (cases_lt at (length areas)) [
      | inl under ↦ subst (P at) (sym (get_or_append_left areas (last ∷ []) no_area at under)) (before at under)
      | inr over ↦ (let same : at ≡ length areas = omega (arith, e, within, over) in
          subst (λ n. P n (get_or (areas ++ last ∷ []) n no_area)) (sym same) (subst (P (length areas)) (sym (get_or-append_seam areas last [] no_area)) here))
    ]

pub one_area_more : (cat : Catalog) (table : ℕ) (areas new : List Area) (last : Area) → new ≡ areas ++ last ∷ [] → AreAreasBefore cat table areas
    → IsAreaOf cat table last → ((device : Device) → layout.need cat ≤ device.page_count → IsArea device last) → AreAreasBefore cat (table + 1) new
one_area_more cat table areas new last grown before next writable =
    let here : IsAreaOf cat (length areas) last = subst (λ n. IsAreaOf cat n last) (sym before.count) next in
    subst (AreAreasBefore cat (table + 1)) (sym grown)
    (record {
      count = length-append areas (last ∷ []) ∙ ap (λ n. n + 1) before.count;
      each = by_place areas last (λ at area. IsAreaOf cat at area) before.each here;
      writable = λ device need. by_place areas last (λ at area. IsArea device area) (before.writable device need) (writable device need);
    })

-- the areas of two tables
apart_by : (even : Bool) (area behind : Area) (pages : ℕ) → area.even + pages ≤ behind.even → area.odd + pages ≤ behind.odd
    → (if even then area.even else area.odd) + pages ≤ (if even then behind.even else behind.odd)
apart_by true area behind pages e o = e
apart_by false area behind pages e o = o

pub lie_apart : SumsByPlace → AreasLieApart
lie_apart sums cat table other area behind text less some is later =
    let r = has_room cat table area is.rows_is is.width_is some in
    let step = sums.next (layout.spool_pages cat) table in
    let rise = sums.rise (layout.spool_pages cat) (table + 1) other (omega (arith, less)) in
    let a = is.even_is in
    let b = later.even_is in
    let c = is.odd_is in
    let d = later.odd_is in
    apart_by (is_even text) area behind (layout.in_blocks (pages_of area.rows area.width)) (omega (arith, a, b, r, step, rise)) (omega (arith, c, d, r, step, rise))
