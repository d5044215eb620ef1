-- Where everything lies on the flash, by the version of the catalog. The first pages are public: 64 for the catalog's bytes, and at
-- version 2 a block for the gate and one for each of two headers. Behind them the static files
-- follow one another in the order of `structures`, each on pages of its own. The static part ends at a block. Then come
-- the two halves of the spool, in each an area for each table that has a visible column, and then the scratch areas, all of one
-- size: six at version 1 and eight at version 2. At version 2 two areas for appended rows of the root follow. Each of these areas is of
-- whole blocks. A file or an area is a run: a first page, and so many records of one width. A level
-- file has the pages that four bytes for each identifier take, and is a run of their single bytes.
use Rattle.std.specs.Prelude.{ℕ, ◌+◌, ◌-◌, ◌*◌, ◌/◌, ◌%◌, max, Bool, false, ◌&&◌, ◌||◌, ◌==◌, is_some, is_none, List, [], ◌∷◌, ◌++◌, length, take, drop, map, filter, filter_map, flat_map, fold, sum_by, get_or, if◌then◌else◌}
use Rattle.std.specs.List.{list_any, range_with_len, before_first}
use Rattle.std.specs.Option.{option_map_or}
use Rattle.ghost_model.specs.core.Schema.{Schema, Column, columns_of, column_at, is_empty, is_visible, ancestor, parent}
use Rattle.ghost_model.specs.core.Channel.{Catalog}
pub use Rattle.ghost_model.specs.core.Channel.{count_of}
use Rattle.ghost_model.specs.forms.Cells.{cell_width}
use Rattle.ghost_model.specs.forms.Runs.{Run, pages_of, block_pages}
use Rattle.ghost_model.specs.forms.Gaps.{room_of}

-- the numbers below a number, ascending: the places of the tables of a schema or of the columns of a table
abbrev pub below : ℕ → List ℕ
below count = range_with_len 0 count

abbrev pub tables_of : Schema → List ℕ
tables_of schema = below (length schema)

abbrev pub is_hidden : Schema → (table column : ℕ) → Bool
is_hidden schema table column = option_map_or (λ (held : Column). held.hidden) (column_at schema table column) false

abbrev pub hidden_columns : Schema → (table : ℕ) → List ℕ
hidden_columns schema table = filter (is_hidden schema table) (below (length (columns_of schema table)))

abbrev pub width_at : Schema → (table column : ℕ) → ℕ
width_at schema table column = option_map_or (λ (held : Column). cell_width held.kind) (column_at schema table column) 0

-- a table and those above it, nearest first: the levels of its indexes
abbrev pub levels_of : Schema → (table : ℕ) → List ℕ
levels_of schema table = filter_map (λ steps. ancestor schema steps table) (below (length schema))

abbrev pub above_of : Schema → (table : ℕ) → List ℕ
above_of schema table = drop 1 (levels_of schema table)

-- whether the second table lies below the first
abbrev pub is_below : Schema → (table other : ℕ) → Bool
is_below schema table other = list_any (λ above. above == table) (above_of schema other)

-- the tables below a table, in the order of the schema
abbrev pub descendants_of : Schema → (table : ℕ) → List ℕ
descendants_of schema table = filter (is_below schema table) (tables_of schema)

-- What stands on the flash for a table: the cells of a hidden column; where tables lie below it, the identifiers in these
-- that each row leads to; the climbing index of a hidden column; and, where a table lies above it, the id index.
pub data Structure : Type 0 where
  ColumnFile : (table column : ℕ) → Structure
  SubtreeTable : (table : ℕ) → Structure
  ClimbingIndex : (table column : ℕ) → Structure
  IdIndex : (table : ℕ) → Structure

abbrev pub structures : Schema → List Structure
structures schema =
    flat_map (λ table.
    map (ColumnFile table) (hidden_columns schema table)
    ++ (SubtreeTable table ∷ (map (ClimbingIndex table) (hidden_columns schema table) ++ IdIndex table ∷ []))) (tables_of schema)

-- level files: one for each of some tables, with room for four bytes for each of its rows
abbrev pub level_files : Catalog → (tables : List ℕ) → List (ℕ × ℕ)
level_files cat tables = map (λ table. (count_of cat table, 4)) tables

-- The files of a structure, each by the number and width of its records. An index has a header, a directory with room for
-- a record for each row, which has the cell and eight bytes for each level, and level files, nearest first. An id index has
-- no header, no cell, and no level for the table itself. Where no table lies below or above, the file has no page.
abbrev pub files_of : Catalog → Structure → List (ℕ × ℕ)
files_of cat (ColumnFile table column) = (count_of cat table, width_at cat.schema table column) ∷ []
files_of cat (SubtreeTable table) = (count_of cat table, 4 * length (descendants_of cat.schema table)) ∷ []
files_of cat (ClimbingIndex table column) =
    (1, 4) ∷ (count_of cat table, width_at cat.schema table column + 8 * length (levels_of cat.schema table))
    ∷ level_files cat (levels_of cat.schema table)
files_of cat (IdIndex table) =
    (count_of cat table, 8 * length (above_of cat.schema table)) ∷ level_files cat (above_of cat.schema table)

abbrev pub files_pages : (files : List (ℕ × ℕ)) → ℕ
files_pages files = sum_by (λ file. pages_of file.0 file.1) files

abbrev pub structure_pages : Catalog → Structure → ℕ
structure_pages cat structure = files_pages (files_of cat structure)

abbrev pub is_same : Structure → Structure → Bool
is_same (ColumnFile table column) (ColumnFile other at) = table == other && column == at
is_same (SubtreeTable table) (SubtreeTable other) = table == other
is_same (ClimbingIndex table column) (ClimbingIndex other at) = table == other && column == at
is_same (IdIndex table) (IdIndex other) = table == other
is_same _ _ = false

-- the pages of the catalog's bytes
abbrev pub catalog_pages : ℕ
catalog_pages = 64

-- all public pages: at version 2 those of the gate and of the two headers as well
abbrev pub public_pages : Catalog → ℕ
public_pages cat = if cat.version == 1 then catalog_pages else 256

-- the gate says which header counts; each stands on the first page of a block
abbrev pub gate_page : ℕ
gate_page = 64

abbrev pub header_page : (which : ℕ) → ℕ
header_page which = 128 + 64 * which

-- the half that counts on a fresh device
abbrev pub fresh_half : Catalog → ℕ
fresh_half cat = cat.generation % 2

-- the first page of the file at a place of a structure: so many pages are public or of files before it
unfoldable pub first_page : Catalog → Structure → (place : ℕ) → ℕ
first_page cat structure place =
    public_pages cat + sum_by (structure_pages cat) (before_first (is_same structure) (structures cat.schema))
    + files_pages (take place (files_of cat structure))

abbrev pub run_of : Catalog → Structure → (place : ℕ) → Run
run_of cat structure place = record {
  first = first_page cat structure place;
  count = (get_or (files_of cat structure) place (0, 0)).0;
  width = (get_or (files_of cat structure) place (0, 0)).1;
}

-- The static files by kind. The column is a hidden one, the table of a subtree key table has one below it, that of an id
-- index one above it; others are no file. Levels are numbered upwards from 0, in an id index from its table's parent.
pub data File : Type 0 where
  Cells : (table column : ℕ) → File
  Subtrees : (table : ℕ) → File
  IndexHeader IndexDirectory : (table column : ℕ) → File
  IndexLevel : (table column level : ℕ) → File
  IdDirectory : (table : ℕ) → File
  IdLevel : (table level : ℕ) → File

abbrev pub run_of_file : Catalog → File → Run
run_of_file cat (Cells table column) = run_of cat (ColumnFile table column) 0
run_of_file cat (Subtrees table) = run_of cat (SubtreeTable table) 0
run_of_file cat (IndexHeader table column) = run_of cat (ClimbingIndex table column) 0
run_of_file cat (IndexDirectory table column) = run_of cat (ClimbingIndex table column) 1
run_of_file cat (IndexLevel table column level) = room_of (run_of cat (ClimbingIndex table column) (2 + level))
run_of_file cat (IdDirectory table) = run_of cat (IdIndex table) 0
run_of_file cat (IdLevel table level) = room_of (run_of cat (IdIndex table) (1 + level))

abbrev pub column_file : Catalog → (table column : ℕ) → Run
column_file cat table column = run_of_file cat (Cells table column)

abbrev pub subtree_table : Catalog → (table : ℕ) → Run
subtree_table cat table = run_of_file cat (Subtrees table)

-- the page after the static files
unfoldable pub files_end : Catalog → ℕ
files_end cat = public_pages cat + sum_by (structure_pages cat) (structures cat.schema)

-- The spool and scratch. So many pages rounded up to whole blocks:
abbrev pub in_blocks : (pages : ℕ) → ℕ
in_blocks pages = block_pages * ((pages + (block_pages - 1)) / block_pages)

-- the first page after the static part
abbrev pub static_end : Catalog → ℕ
static_end cat = in_blocks (files_end cat)

abbrev pub visible_columns : Schema → (table : ℕ) → List ℕ
visible_columns schema table = filter (is_visible schema table) (below (length (columns_of schema table)))

-- a row of a reply: the identifier and at most all visible cells
abbrev pub spool_width : Schema → (table : ℕ) → ℕ
spool_width schema table = 4 + sum_by (width_at schema table) (visible_columns schema table)

-- Rows and room are two numbers. A table has so many rows; an area has room for more where rows may be appended, which are those
-- of the root, at version 2
abbrev pub appended_room : ℕ
appended_room = 4096

abbrev pub room_to_append : Catalog → (table : ℕ) → ℕ
room_to_append cat table = if cat.version == 1 || is_some (parent cat.schema table) then 0 else appended_room

abbrev pub row_room : Catalog → (table : ℕ) → ℕ
row_room cat table = count_of cat table + room_to_append cat table

abbrev pub spool_pages : Catalog → (table : ℕ) → ℕ
spool_pages cat table =
    if is_empty (visible_columns cat.schema table) then 0
    else in_blocks (pages_of (row_room cat table) (spool_width cat.schema table))

abbrev pub half_pages : Catalog → ℕ
half_pages cat = sum_by (spool_pages cat) (tables_of cat.schema)

-- the area of a table that has a visible column in half 0 or 1, with its room
abbrev pub spool_area : Catalog → (half table : ℕ) → Run
spool_area cat half table = record {
  first = static_end cat + (half * half_pages cat + sum_by (spool_pages cat) (below table));
  count = row_room cat table;
  width = spool_width cat.schema table;
}

abbrev pub spool_end : Catalog → ℕ
spool_end cat = static_end cat + 2 * half_pages cat

-- the rows of the table that has most
abbrev pub largest_count : Catalog → ℕ
largest_count cat = fold max 0 cat.counts

-- the root, the one table that no table lies above
abbrev pub root_of : Schema → ℕ
root_of schema = get_or (filter (λ table. is_none (parent schema table)) (tables_of schema)) 0 0

-- the most rows for which there is room in the areas of one table
abbrev pub largest_room : Catalog → ℕ
largest_room cat = max (largest_count cat) (row_room cat (root_of cat.schema))

abbrev pub scratch_pages : Catalog → ℕ
scratch_pages cat = in_blocks (pages_of (largest_room cat) 4)

abbrev pub scratch_count : Catalog → ℕ
scratch_count cat = if cat.version == 1 then 6 else 8

abbrev pub scratch_area : Catalog → (area : ℕ) → Run
scratch_area cat area =
    record { first = spool_end cat + area * scratch_pages cat; count = largest_room cat; width = 4 }

-- the page after the pages that a session may write
abbrev pub scratch_end : Catalog → ℕ
scratch_end cat = spool_end cat + scratch_count cat * scratch_pages cat

-- Areas for appended rows. A record has the hidden cells of a row of the root and four bytes for each table below it.
abbrev pub appended_width : Schema → (table : ℕ) → ℕ
appended_width schema table = sum_by (width_at schema table) (hidden_columns schema table) + 4 * length (descendants_of schema table)

abbrev pub appended_pages : Catalog → ℕ
appended_pages cat =
    in_blocks (pages_of (room_to_append cat (root_of cat.schema)) (appended_width cat.schema (root_of cat.schema)))

abbrev pub appended_area : Catalog → (which : ℕ) → Run
appended_area cat which = record {
  first = scratch_end cat + which * appended_pages cat;
  count = room_to_append cat (root_of cat.schema);
  width = appended_width cat.schema (root_of cat.schema);
}

-- the pages that a device must have
abbrev pub need : Catalog → ℕ
need cat = scratch_end cat + 2 * appended_pages cat
