-- Laws of what a loading writes: the distinct cells of a column are as many as its values, and the pages of all files add
-- up table by table, kind by kind.
use Rattle.std.specs.Prelude.{◌≡◌, ℕ, ◌+◌, ◌*◌, ◌≤◌, List, length, sum_by, if◌then◌else◌}
use Rattle.ghost_model.specs.core.Channel.{Catalog}
use Rattle.ghost_model.specs.core.Split.{Hidden}
use Rattle.ghost_model.specs.forms.Runs.{pages_of}
use Rattle.ghost_model.specs.forms.Layout.{below, is_hidden, count_of, levels_of, above_of, files_pages, tables_of}
use Rattle.ghost_model.specs.laws.ShortWords.{column_count}
use Rattle.ghost_model.specs.laws.LayoutSums.{columns_pages, directory_width, subtree_pages}
use Rattle.ghost_model.specs.forms.Flash.{hidden_cells, value_lists, id_lists, AreValues}
use Rattle.ghost_model.specs.forms.Work.{value_count, values_at, levels_written, file_pages}

-- the pages of the index of a column, none where it is not hidden
abbrev pub index_written : Catalog → Hidden → (table column : ℕ) → ℕ
index_written cat hidden table column =
    if is_hidden cat.schema table column
    then 1
    + (pages_of (value_count cat hidden table column) (directory_width cat.schema table column)
    + files_pages (levels_written (value_lists cat hidden table column (values_at cat hidden table column)) (levels_of cat.schema table)))
    else 0

-- the pages of the id index of a table
abbrev pub id_index_written : Catalog → Hidden → (table : ℕ) → ℕ
id_index_written cat hidden table =
    pages_of (count_of cat table) (8 * length (above_of cat.schema table))
    + files_pages (levels_written (id_lists cat hidden table) (above_of cat.schema table))

-- those of the columns before one
abbrev pub indexes_written : Catalog → Hidden → (table column : ℕ) → ℕ
indexes_written cat hidden table column = sum_by (index_written cat hidden table) (below column)

-- the pages of the files of a table
abbrev pub table_written : Catalog → Hidden → (table : ℕ) → ℕ
table_written cat hidden table =
    columns_pages cat table
    + (subtree_pages cat table + (indexes_written cat hidden table (column_count cat.schema table) + id_index_written cat hidden table))

abbrev pub PagesAddUp : Type 0
PagesAddUp =
    (cat : Catalog) (hidden : Hidden) → file_pages cat hidden ≡ sum_by (table_written cat hidden) (tables_of cat.schema)

pub record ValuesAreCounted : Type 0 where
  pub count :
      (cat : Catalog) (hidden : Hidden) (table column : ℕ) (values : List (List ℕ))
      → AreValues (hidden_cells cat.schema hidden table column) values
      → value_count cat hidden table column ≡ length values
  pub are :
      (cat : Catalog) (hidden : Hidden) (table column : ℕ) (values : List (List ℕ))
      → AreValues (hidden_cells cat.schema hidden table column) values → values_at cat hidden table column ≡ values
  pub few :
      (cat : Catalog) (hidden : Hidden) (table column : ℕ)
      → value_count cat hidden table column ≤ length (hidden_cells cat.schema hidden table column)
