-- What the numbers of a layout are, in the words of the definitions.
use Rattle.std.specs.Prelude.{◌≡◌, ℕ, ◌+◌, ◌<◌, ◌≤◌, List, length, map, Some, slice_get}
use Rattle.arrayvec.specs.ArrayVec.{ArrayVec}
use Rattle.ghost_model.specs.core.Schema.{Schema}
use Rattle.ghost_model.specs.core.Channel.{Catalog}
use Rattle.ghost_model.specs.laws.ShortWords as short
use Rattle.ghost_model.specs.forms.Layout as layout
use Rattle.ghost_model.specs.laws.LayoutSums as sums
use Rattle.flash_layout.specs.declared.places.TablePlaces.{TablePlaces}

-- for each table the table itself and those above it, nearest first
abbrev pub AreWays : Schema → (ways : List (ArrayVec ℕ)) → Type 0
AreWays schema ways = map (λ way. way.items) ways ≡ map (layout.levels_of schema) (layout.tables_of schema)

-- where the files and the area of a table lie
pub record ArePlaces (cat : Catalog) (table : ℕ) (places : TablePlaces) : Type 0 where
  pub below : places.below.items ≡ layout.descendants_of cat.schema table
  pub columns : places.columns.each.items ≡ map (sums.column_begin cat table) (layout.below (short.column_count cat.schema table))
  pub subtree : places.columns.after ≡ sums.subtree_begin cat table
  pub indexes : places.indexes.each.items ≡ map (sums.index_begin cat table) (layout.below (short.column_count cat.schema table))
  pub id_index : places.indexes.after ≡ sums.id_index_begin cat table
  pub after : places.after ≡ sums.table_begin cat (table + 1)
  pub spool : places.spool ≡ sums.spool_pages_before cat table
  pub few : places.spool ≤ 12049920
  pub spool_width : places.spool_width ≡ layout.spool_width cat.schema table

-- those of the tables before one, by table
pub record ArePlacesBefore (cat : Catalog) (before : ℕ) (tables : List TablePlaces) : Type 0 where
  pub count : length tables ≡ before
  pub each : (table : ℕ) (places : TablePlaces) → slice_get tables table ≡ Some places → ArePlaces cat table places

-- what a layout knows of its catalog
pub record IsLaidOut (cat : Catalog) (ways : List (ArrayVec ℕ)) (tables : List TablePlaces) (end half top most : ℕ) : Type 0 where
  pub levels : AreWays cat.schema ways
  pub places : ArePlacesBefore cat (length cat.schema) tables
  pub static : end ≡ layout.static_end cat
  pub spool : half ≡ layout.half_pages cat
  pub root : top ≡ layout.root_of cat.schema
  pub there : top < length cat.schema
  pub largest : most ≡ layout.largest_room cat
