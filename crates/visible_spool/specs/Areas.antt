-- Where the replies of a table lie, in each half.
use Rattle.std.specs.Prelude.{◌≡◌, ℕ, ◌+◌, ◌*◌, ◌%◌, ◌<◌, ◌≤◌, Bool, ◌==◌, List, length, get_or, if◌then◌else◌}
use Rattle.ghost_model.specs.core.Channel.{Catalog}
use Rattle.ghost_model.specs.forms.Layout as layout
use Rattle.ghost_model.specs.forms.Runs.{pages_of}
use Rattle.edge_traits.specs.Devices.{Device}
use Rattle.visible_spool.specs.declared.area.Area.{Area}

abbrev pub is_even : (text : ℕ) → Bool
is_even text = text % 2 == 0

abbrev pub no_area : Area
no_area = record { even = 0; odd = 0; rows = 0; width = 4 }

-- the first page of an area in the half of a text, and the page after it
abbrev pub first_of : Area → (text : ℕ) → ℕ
first_of area text = if is_even text then area.even else area.odd

abbrev pub end_of : Area → (text : ℕ) → ℕ
end_of area text = first_of area text + layout.in_blocks (pages_of area.rows area.width)

-- the first page of half 0 or 1, and the page after it
abbrev pub half_begin : Catalog → (half : ℕ) → ℕ
half_begin cat half = layout.static_end cat + half * layout.half_pages cat

abbrev pub half_end : Catalog → (half : ℕ) → ℕ
half_end cat half = layout.static_end cat + (half + 1) * layout.half_pages cat

-- a run of pages lies in a half
pub record LiesIn (cat : Catalog) (half first end : ℕ) : Type 0 where
  pub from : half_begin cat half ≤ first
  pub to : end ≤ half_end cat half

-- it is the area of that table; where a row may have more than an identifier, the table has pages in each half
pub record IsAreaOf (cat : Catalog) (table : ℕ) (area : Area) : Type 0 where
  pub even_is : area.even ≡ (layout.spool_area cat 0 table).first
  pub odd_is : area.odd ≡ (layout.spool_area cat 1 table).first
  pub rows_is : area.rows ≡ layout.count_of cat table
  pub width_is : area.width ≡ layout.spool_width cat.schema table
  pub even_lies : 4 < area.width → LiesIn cat 0 area.even (area.even + layout.in_blocks (pages_of area.rows area.width))
  pub odd_lies : 4 < area.width → LiesIn cat 1 area.odd (area.odd + layout.in_blocks (pages_of area.rows area.width))

-- rows may be written there: it begins at a block in each half, and the device has its pages
pub record IsArea (device : Device) (area : Area) : Type 0 where
  pub even_block : area.even % 64 ≡ 0
  pub odd_block : area.odd % 64 ≡ 0
  pub wide : 4 ≤ area.width
  pub narrow : area.width ≤ 1564
  pub most : area.rows ≤ 1000000
  pub even_there : 4 < area.width → area.even + layout.in_blocks (pages_of area.rows area.width) ≤ device.page_count
  pub odd_there : 4 < area.width → area.odd + layout.in_blocks (pages_of area.rows area.width) ≤ device.page_count

-- there is one for each table
pub record AreAreasOf (cat : Catalog) (areas : List Area) : Type 0 where
  pub count : length areas ≡ length cat.schema
  pub each : (table : ℕ) → table < length areas → IsAreaOf cat table (get_or areas table no_area)

abbrev pub AreAreas : Device → (areas : List Area) → Type 0
AreAreas device areas = (table : ℕ) → table < length areas → IsArea device (get_or areas table no_area)

-- the areas of two tables in one half share no page
abbrev pub AreasLieApart : Type 0
AreasLieApart =
    (cat : Catalog) (table other : ℕ) (area behind : Area) (text : ℕ) → table < other → 4 < area.width
    → IsAreaOf cat table area → IsAreaOf cat other behind → end_of area text ≤ first_of behind text
