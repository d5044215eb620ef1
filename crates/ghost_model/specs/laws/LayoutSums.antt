-- Where the static files lie, by sums: what a program adds up to find a file's first page. Nothing here need be believed:
-- a law says that the sums give the places of the layout.
use Rattle.std.specs.Prelude.{ℕ, ◌+◌, ◌*◌, List, length, take, sum_by, slice_index, if◌then◌else◌}
use Rattle.ghost_model.specs.core.Schema.{Schema, is_empty}
use Rattle.ghost_model.specs.core.Channel.{Catalog}
use Rattle.ghost_model.specs.forms.Runs.{Run, pages_of}
use Rattle.ghost_model.specs.forms.Gaps.{room_of}
use Rattle.ghost_model.specs.forms.Layout.{below, is_hidden, width_at, levels_of, above_of, descendants_of, count_of, public_pages, spool_pages}
use Rattle.ghost_model.specs.laws.ShortWords.{column_count}

-- the pages of the file of a column, none where it is not hidden, and those of the files of a table's columns
abbrev pub column_pages : Catalog → (table column : ℕ) → ℕ
column_pages cat table column =
    if is_hidden cat.schema table column then pages_of (count_of cat table) (width_at cat.schema table column) else 0

abbrev pub columns_pages : Catalog → (table : ℕ) → ℕ
columns_pages cat table = sum_by (column_pages cat table) (below (column_count cat.schema table))

-- the pages of the column files of the columns before one
abbrev pub column_pages_before : Catalog → (table column : ℕ) → ℕ
column_pages_before cat table column = sum_by (column_pages cat table) (below column)

-- subtree key tables
abbrev pub subtree_width : Schema → (table : ℕ) → ℕ
subtree_width schema table = 4 * length (descendants_of schema table)

abbrev pub subtree_pages : Catalog → (table : ℕ) → ℕ
subtree_pages cat table =
    if is_empty (descendants_of cat.schema table) then 0
    else pages_of (count_of cat table) (subtree_width cat.schema table)

-- climbing indexes
abbrev pub directory_width : Schema → (table column : ℕ) → ℕ
directory_width schema table column = width_at schema table column + 8 * length (levels_of schema table)

abbrev pub level_pages : Catalog → (table : ℕ) → ℕ
level_pages cat table = pages_of (count_of cat table) 4

-- the pages of the level files of some tables
abbrev pub levels_pages : Catalog → (tables : List ℕ) → ℕ
levels_pages cat tables = sum_by (level_pages cat) tables

abbrev pub directory_pages : Catalog → (table column : ℕ) → ℕ
directory_pages cat table column = pages_of (count_of cat table) (directory_width cat.schema table column)

abbrev pub index_pages : Catalog → (table column : ℕ) → ℕ
index_pages cat table column =
    if is_hidden cat.schema table column
    then 1 + (directory_pages cat table column + levels_pages cat (levels_of cat.schema table)) else 0

-- the pages of the indexes of the columns before one
abbrev pub index_pages_before : Catalog → (table column : ℕ) → ℕ
index_pages_before cat table column = sum_by (index_pages cat table) (below column)

abbrev pub indexes_pages : Catalog → (table : ℕ) → ℕ
indexes_pages cat table = index_pages_before cat table (column_count cat.schema table)

-- id indexes
abbrev pub id_directory_width : Schema → (table : ℕ) → ℕ
id_directory_width schema table = 8 * length (above_of schema table)

abbrev pub id_directory_pages : Catalog → (table : ℕ) → ℕ
id_directory_pages cat table = pages_of (count_of cat table) (id_directory_width cat.schema table)

abbrev pub id_index_pages : Catalog → (table : ℕ) → ℕ
id_index_pages cat table =
    if is_empty (above_of cat.schema table) then 0
    else id_directory_pages cat table + levels_pages cat (above_of cat.schema table)

-- where the files of a table begin, kind by kind
abbrev pub table_pages : Catalog → (table : ℕ) → ℕ
table_pages cat table =
    columns_pages cat table + (subtree_pages cat table + (indexes_pages cat table + id_index_pages cat table))

-- the first page of a table's files; also of those of the table after the last one, where the static files end
abbrev pub table_begin : Catalog → (table : ℕ) → ℕ
table_begin cat table = public_pages cat + sum_by (table_pages cat) (below table)

abbrev pub column_begin : Catalog → (table column : ℕ) → ℕ
column_begin cat table column = table_begin cat table + column_pages_before cat table column

abbrev pub subtree_begin : Catalog → (table : ℕ) → ℕ
subtree_begin cat table = table_begin cat table + columns_pages cat table

abbrev pub indexes_begin : Catalog → (table : ℕ) → ℕ
indexes_begin cat table = subtree_begin cat table + subtree_pages cat table

abbrev pub index_begin : Catalog → (table column : ℕ) → ℕ
index_begin cat table column = indexes_begin cat table + index_pages_before cat table column

abbrev pub id_index_begin : Catalog → (table : ℕ) → ℕ
id_index_begin cat table = indexes_begin cat table + indexes_pages cat table

-- the level file of the table at a place of a list of tables, the first of which has its level file at a page
abbrev pub level_file : Catalog → (begin : ℕ) → (tables : List ℕ) → (level : ℕ) → Run
level_file cat begin tables level = room_of (record {
  first = begin + levels_pages cat (take level tables);
  count = count_of cat (slice_index tables level);
  width = 4;
})

abbrev pub summed_index_level : Catalog → (table column level : ℕ) → Run
summed_index_level cat table column level =
    level_file cat (index_begin cat table column + 1 + directory_pages cat table column) (levels_of cat.schema table) level

abbrev pub summed_id_level : Catalog → (table level : ℕ) → Run
summed_id_level cat table level =
    level_file cat (id_index_begin cat table + id_directory_pages cat table) (above_of cat.schema table) level

-- the pages of the areas of the tables before one in one half of the spool
abbrev pub spool_pages_before : Catalog → (table : ℕ) → ℕ
spool_pages_before cat table = sum_by (spool_pages cat) (below table)
