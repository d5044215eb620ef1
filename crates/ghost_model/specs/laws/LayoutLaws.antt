-- Laws of the layout: files and areas follow one another without a gap but for rounding to blocks, so no two share a
-- page; a device has whole blocks; each page of a record lies within its run; and within the limits of schemas and rows
-- all widths fit a page and all page numbers fit 32 bits.
use Rattle.std.specs.Prelude.{◌≡◌, ℕ, ◌+◌, ◌*◌, ◌%◌, ◌^◌, ◌<◌, ◌≤◌, nat_le, true, cond, filter, sum_by, List, [], ◌∷◌, length, Some, slice_get}
use Rattle.std.specs.List.{list_all}
use Rattle.ghost_model.specs.core.Schema.{Schema, is_visible, ancestor}
use Rattle.ghost_model.specs.core.Channel.{Catalog}
use Rattle.ghost_model.specs.laws.SchemaTrees.{IsTree}
use Rattle.ghost_model.specs.refusals.LoadFaults.{most_rows}
use Rattle.ghost_model.specs.forms.Catalog.{IsCatalog}
use Rattle.ghost_model.specs.forms.Runs.{Run, per_page, run_pages, run_end, page_of, slot_of, page_bytes}
use Rattle.ghost_model.specs.laws.ShortWords as short
use Rattle.ghost_model.specs.forms.Layout
use Rattle.ghost_model.specs.laws.LayoutSums

-- things of which the first begins at a page and each later one where the one before ends, up to a page; `first` says
-- where each begins and `room` how many pages it takes
abbrev pub LieFrom : {X : Type 0} → (first room : X → ℕ) → (begin : ℕ) → List X → (after : ℕ) → Type 0
LieFrom first room begin [] after = begin ≡ after
LieFrom first room begin (x ∷ xs) after = (first x ≡ begin) × LieFrom first room (begin + room x) xs after

-- the same of runs
abbrev pub Follow : (room : Run → ℕ) → (begin : ℕ) → List Run → (after : ℕ) → Type 0
Follow room begin runs after = LieFrom (λ run. run.first) room begin runs after

abbrev pub block_room : Run → ℕ
block_room run = Layout.in_blocks (run_pages run)

pub record FollowOneAnother (cat : Catalog) : Type 0 where
  pub files : Follow run_pages (Layout.public_pages cat) (short.static_files cat) (Layout.files_end cat)
  pub rounded : Layout.files_end cat ≤ Layout.static_end cat
  pub first_half :
      Follow block_room (Layout.static_end cat) (short.spool_areas cat 0) (Layout.static_end cat + Layout.half_pages cat)
  pub second_half :
      Follow block_room (Layout.static_end cat + Layout.half_pages cat) (short.spool_areas cat 1) (Layout.spool_end cat)
  pub scratch : Follow block_room (Layout.spool_end cat) (short.scratch_areas cat) (Layout.scratch_end cat)
  pub appended : Follow block_room (Layout.scratch_end cat) (short.appended_areas cat) (Layout.need cat)

abbrev pub FilesFollow : Type 0
FilesFollow = (cat : Catalog) → FollowOneAnother cat

-- such runs lie between the two pages, and none reaches into a later one
pub record StandApart (room : Run → ℕ) (begin : ℕ) (runs : List Run) (after : ℕ) : Type 0 where
  pub order : begin ≤ after
  pub inside :
      (place : ℕ) (run : Run) → slice_get runs place ≡ Some run → (begin ≤ run.first) × (run.first + room run ≤ after)
  pub apart :
      (place later : ℕ) (run other : Run) → place < later
      → slice_get runs place ≡ Some run → slice_get runs later ≡ Some other → run.first + room run ≤ other.first

abbrev pub FollowingRunsStandApart : Type 0
FollowingRunsStandApart =
    (room : Run → ℕ) (begin : ℕ) (runs : List Run) (after : ℕ) → Follow room begin runs after
    → StandApart room begin runs after

-- the sums give the places of the layout
pub record LieAsSummed (cat : Catalog) : Type 0 where
  pub column_file :
      (table column : ℕ) → Layout.is_hidden cat.schema table column ≡ true
      → (Layout.column_file cat table column).first ≡ LayoutSums.column_begin cat table column
  pub subtree_table :
      (table : ℕ) → table < length cat.schema → (Layout.subtree_table cat table).first ≡ LayoutSums.subtree_begin cat table
  pub index_header :
      (table column : ℕ) → Layout.is_hidden cat.schema table column ≡ true
      → (short.index_header cat table column).first ≡ LayoutSums.index_begin cat table column
  pub index_directory :
      (table column : ℕ) → Layout.is_hidden cat.schema table column ≡ true
      → (short.index_directory cat table column).first ≡ LayoutSums.index_begin cat table column + 1
  pub index_level :
      (table column level : ℕ) → Layout.is_hidden cat.schema table column ≡ true
      → level < length (Layout.levels_of cat.schema table)
      → short.index_level cat table column level ≡ LayoutSums.summed_index_level cat table column level
  pub id_directory :
      (table : ℕ) → table < length cat.schema → (short.id_directory cat table).first ≡ LayoutSums.id_index_begin cat table
  pub id_level :
      (table level : ℕ) → table < length cat.schema → level < length (Layout.above_of cat.schema table)
      → short.id_level cat table level ≡ LayoutSums.summed_id_level cat table level
  pub files_end : Layout.files_end cat ≡ LayoutSums.table_begin cat (length cat.schema)

abbrev pub FilesLieAsSummed : Type 0
FilesLieAsSummed = (cat : Catalog) → LieAsSummed cat

-- where the files of tables and columns lie, one by one: the same facts for those who go by table and column
pub record LieInOrder (cat : Catalog) : Type 0 where
  -- only columns that there are, are hidden
  pub there_are :
      (table column : ℕ) → Layout.is_hidden cat.schema table column ≡ true
      → (table < length cat.schema) × (column < short.column_count cat.schema table)
  pub next_table : (table : ℕ) → LayoutSums.table_begin cat (table + 1) ≡ LayoutSums.table_begin cat table + LayoutSums.table_pages cat table
  pub tables : (table later : ℕ) → table ≤ later → LayoutSums.table_begin cat table ≤ LayoutSums.table_begin cat later
  pub next_column :
      (table column : ℕ)
      → LayoutSums.column_pages_before cat table (column + 1)
      ≡ LayoutSums.column_pages_before cat table column + LayoutSums.column_pages cat table column
  pub next_index :
      (table column : ℕ)
      → LayoutSums.index_pages_before cat table (column + 1)
      ≡ LayoutSums.index_pages_before cat table column + LayoutSums.index_pages cat table column
  pub next_spool :
      (table : ℕ) → LayoutSums.spool_pages_before cat (table + 1) ≡ LayoutSums.spool_pages_before cat table + Layout.spool_pages cat table
  -- one column more of those that a spool row has, and one table more of those below another
  pub next_visible :
      (table column : ℕ)
      → sum_by (Layout.width_at cat.schema table) (filter (is_visible cat.schema table) (Layout.below (column + 1)))
      ≡ sum_by (Layout.width_at cat.schema table) (filter (is_visible cat.schema table) (Layout.below column))
      + cond (is_visible cat.schema table column) (Layout.width_at cat.schema table column) 0
  pub next_descendant :
      (table other : ℕ)
      → length (filter (Layout.is_below cat.schema table) (Layout.below (other + 1)))
      ≡ length (filter (Layout.is_below cat.schema table) (Layout.below other))
      + cond (Layout.is_below cat.schema table other) 1 0
  -- the column files of one table
  pub column_files :
      (table column later : ℕ) → Layout.is_hidden cat.schema table column ≡ true → column < later
      → run_end (Layout.column_file cat table column) ≤ LayoutSums.column_begin cat table later
  -- those of a table before its other files
  pub within_table :
      (table column : ℕ) → Layout.is_hidden cat.schema table column ≡ true
      → run_end (Layout.column_file cat table column) ≤ LayoutSums.subtree_begin cat table
  -- those of a table before the files of a later one, and before the end
  pub before_tables :
      (table later column : ℕ) → Layout.is_hidden cat.schema table column ≡ true → table < later
      → run_end (Layout.column_file cat table column) ≤ LayoutSums.table_begin cat later
  pub after_public : (table column : ℕ) → Layout.public_pages cat ≤ (Layout.column_file cat table column).first
  pub within :
      (table column : ℕ) → Layout.is_hidden cat.schema table column ≡ true
      → run_end (Layout.column_file cat table column) ≤ Layout.files_end cat
  pub static : Layout.files_end cat ≤ Layout.static_end cat
  pub spool : Layout.static_end cat ≤ Layout.spool_end cat
  pub scratch : Layout.spool_end cat ≤ Layout.scratch_end cat
  pub appended : Layout.scratch_end cat ≤ Layout.need cat
  pub some : Layout.public_pages cat ≤ Layout.files_end cat
  pub catalog : Layout.catalog_pages ≤ Layout.public_pages cat
  -- there are six scratch areas at least, and each ends before the page after all of them
  pub six : 6 ≤ Layout.scratch_count cat
  pub areas :
      (area : ℕ) → area < Layout.scratch_count cat
      → Layout.spool_end cat + area * Layout.scratch_pages cat + Layout.scratch_pages cat ≤ Layout.scratch_end cat
  -- the areas of lists have room for the rows that there are
  pub rows : Layout.largest_count cat ≤ Layout.largest_room cat

abbrev pub FilesLieInOrder : Type 0
FilesLieInOrder = (cat : Catalog) → LieInOrder cat

-- areas begin at blocks, and a device has whole blocks
pub record AreWholeBlocks (cat : Catalog) : Type 0 where
  pub static : Layout.static_end cat % 64 ≡ 0
  pub spool_area : (half table : ℕ) → (Layout.spool_area cat half table).first % 64 ≡ 0
  pub spool : Layout.spool_end cat % 64 ≡ 0
  pub scratch_area : (area : ℕ) → (Layout.scratch_area cat area).first % 64 ≡ 0
  pub scratch : Layout.scratch_end cat % 64 ≡ 0
  pub appended_area : (which : ℕ) → (Layout.appended_area cat which).first % 64 ≡ 0
  pub need : Layout.need cat % 64 ≡ 0

abbrev pub AreasAreWholeBlocks : Type 0
AreasAreWholeBlocks = (cat : Catalog) → AreWholeBlocks cat

-- where records of a width that fits a page stand
pub record StandWithin (run : Run) : Type 0 where
  pub some : 0 < per_page run.width
  pub page : (place : ℕ) → place < run.count → page_of run place < run_end run
  pub slot : (place : ℕ) → slot_of run place < per_page run.width
  pub bytes : (slot : ℕ) → slot < per_page run.width → slot * run.width + run.width ≤ page_bytes
  pub few : run_pages run ≤ run.count

abbrev pub RecordsStandWithin : Type 0
RecordsStandWithin = (run : Run) → 0 < run.width → run.width ≤ page_bytes → StandWithin run

-- a catalog within the limits: its schema is a tree, and no table has more than a million rows
pub record IsLimited (cat : Catalog) : Type 0 where
  pub tree : IsTree cat.schema
  pub few_rows : list_all (λ count. nat_le count most_rows) cat.counts ≡ true

abbrev pub CatalogsAreLimited : Type 0
CatalogsAreLimited = (cat : Catalog) → IsCatalog cat → IsLimited cat

-- the widths of records
pub record AreNarrow (cat : Catalog) : Type 0 where
  pub columns : (table : ℕ) → short.column_count cat.schema table ≤ 24
  pub levels : (table : ℕ) → length (Layout.levels_of cat.schema table) ≤ 12
  pub above : (table : ℕ) → length (Layout.above_of cat.schema table) ≤ 12
  pub descendants : (table : ℕ) → length (Layout.descendants_of cat.schema table) ≤ 12
  pub most : (table column : ℕ) → Layout.width_at cat.schema table column ≤ 65
  pub least : (table column : ℕ) → Layout.is_hidden cat.schema table column ≡ true → 0 < Layout.width_at cat.schema table column
  pub subtree : (table : ℕ) → LayoutSums.subtree_width cat.schema table ≤ 48
  pub directory : (table column : ℕ) → LayoutSums.directory_width cat.schema table column ≤ 161
  pub id_directory : (table : ℕ) → LayoutSums.id_directory_width cat.schema table ≤ 96
  pub spool : (table : ℕ) → Layout.spool_width cat.schema table ≤ 1564
  pub appended : (table : ℕ) → Layout.appended_width cat.schema table ≤ 1608

-- the numbers of pages
pub record AreFew (cat : Catalog) : Type 0 where
  pub rows : (table : ℕ) → Layout.count_of cat table ≤ 1000000
  pub room : (table : ℕ) → Layout.row_room cat table ≤ 1004096
  pub largest : Layout.largest_count cat ≤ 1000000
  pub largest_room : Layout.largest_room cat ≤ 1004096
  pub column : (table column : ℕ) → LayoutSums.column_pages cat table column ≤ 1000000
  pub columns_before : (table column : ℕ) → column ≤ 24 → LayoutSums.column_pages_before cat table column ≤ 24000000
  pub columns : (table : ℕ) → LayoutSums.columns_pages cat table ≤ 24000000
  pub subtree : (table : ℕ) → LayoutSums.subtree_pages cat table ≤ 1000000
  pub level : (table : ℕ) → LayoutSums.level_pages cat table ≤ 1954
  pub levels : (tables : List ℕ) → length tables ≤ 12 → LayoutSums.levels_pages cat tables ≤ 23448
  pub index : (table column : ℕ) → LayoutSums.index_pages cat table column ≤ 1023449
  pub indexes_before : (table column : ℕ) → column ≤ 24 → LayoutSums.index_pages_before cat table column ≤ 24562776
  pub indexes : (table : ℕ) → LayoutSums.indexes_pages cat table ≤ 24562776
  pub id_index : (table : ℕ) → LayoutSums.id_index_pages cat table ≤ 1023448
  pub table : (table : ℕ) → LayoutSums.table_pages cat table ≤ 50586224
  pub table_begin : (table : ℕ) → table ≤ 12 → LayoutSums.table_begin cat table ≤ 607034944
  pub files : Layout.files_end cat ≤ 607034944
  pub static : Layout.static_end cat ≤ 607035007
  pub spool : (table : ℕ) → Layout.spool_pages cat table ≤ 1004160
  pub half : Layout.half_pages cat ≤ 12049920
  pub scratch : Layout.scratch_pages cat ≤ 1984
  pub appended : Layout.appended_pages cat ≤ 4096
  pub need : Layout.need cat < 2 ^ 30

pub record LayoutIsSmall : Type 0 where
  pub narrow : (cat : Catalog) → IsTree cat.schema → AreNarrow cat
  pub few : (cat : Catalog) → IsLimited cat → AreFew cat

-- the levels of a table, by their places, are the tables on its way up
abbrev pub LevelsAreAncestors : Type 0
LevelsAreAncestors =
    (schema : Schema) → IsTree schema → (table steps : ℕ) → table < length schema
    → slice_get (Layout.levels_of schema table) steps ≡ ancestor schema steps table

-- sums over places: one place more, and more places
pub record SumsByPlace : Type 0 where
  pub none : (pages : ℕ → ℕ) → sum_by pages (Layout.below 0) ≡ 0
  pub next : (pages : ℕ → ℕ) (place : ℕ) → sum_by pages (Layout.below (place + 1)) ≡ sum_by pages (Layout.below place) + pages place
  pub rise :
      (pages : ℕ → ℕ) (place later : ℕ) → place ≤ later → sum_by pages (Layout.below place) ≤ sum_by pages (Layout.below later)
