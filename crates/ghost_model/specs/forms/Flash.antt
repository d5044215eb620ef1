-- What the flash holds once it is loaded: on its public pages the catalog, at version 2 also the gate and the headers of a fresh
-- device, and in each static file what follows from the
-- hidden part of a database. A column file has the column's cells, row by row. A subtree key table has, for each row, the
-- identifiers of the rows that it leads to in the tables below. A climbing index has, for each value of its column, the
-- rows that have it and the rows of each table above that lead to such a row; an id index has the same for each
-- identifier. At one level the lists of all entries stand one after another as gaps, and an entry of the directory says at which
-- byte its own begins and how many identifiers it has. The part that each file kind has is a word of its own; `Holds` is all of them.
use Rattle.std.specs.Prelude.{◌≡◌, ℕ, ◌-◌, ◌*◌, ◌<◌, ◌≤◌, ◌||◌, ◌==◌, pos, true, false, List, [], ◌∷◌, ◌++◌, length, take, drop, map, filter, flat_map, replicate, get_or, slice_index, Contains, bytes_eq, Option, slice_get, unwrap_or}
use Rattle.std.specs.List.Sorted.{IsStrictlySortedBy}
use Rattle.std.specs.List.{range_with_len}
use Rattle.std.specs.Option.{option_map_or}
use Rattle.std.specs.Cmp.Lexicographic.{slice_cmp}
use Rattle.std.specs.Ordering.{nat_cmp}
use Rattle.ghost_model.specs.core.Schema.{Schema, is_empty, is_table}
use Rattle.ghost_model.specs.core.Values.{Number, Row, Rows, Database}
use Rattle.ghost_model.specs.core.Channel.{Catalog}
use Rattle.ghost_model.specs.core.Database.{IsDatabase, row_counts, leads}
use Rattle.ghost_model.specs.forms.Cells.{encode_cell}
use Rattle.ghost_model.specs.forms.Catalog.{catalog_bytes, current_version}
use Rattle.ghost_model.specs.core.Asks.{kind_at}
use Rattle.ghost_model.specs.core.Split.{Hidden, hidden_of, rejoined, value_at}
use Rattle.ghost_model.specs.core.Replies.{hidden_places}
use Rattle.ghost_model.specs.forms.Runs.{Run, page_bytes, number_cell, Stores}
use Rattle.ghost_model.specs.forms.Gaps.{StoresBytes, level_bytes, list_begin}
use Rattle.ghost_model.specs.forms.Layout.{below, is_hidden, count_of, levels_of, above_of, descendants_of, catalog_pages, public_pages, gate_page, header_page, fresh_half, Cells, Subtrees, IndexHeader, IndexDirectory, IndexLevel, IdDirectory, IdLevel, run_of_file}

-- The public pages: pages of the catalog's bytes, and 0xFF where there are none.
abbrev pub catalog_part : Catalog → (place : ℕ) → List ℕ
catalog_part cat place = take page_bytes (drop (place * page_bytes) (catalog_bytes cat))

abbrev pub catalog_page : Catalog → (place : ℕ) → List ℕ
catalog_page cat place = catalog_part cat place ++ replicate (page_bytes - length (catalog_part cat place)) 0xff

abbrev pub HoldsCatalog : (ℕ → List ℕ) → Catalog → Type 0
HoldsCatalog page cat = (place : ℕ) → place < catalog_pages → page place ≡ catalog_page cat place

-- The gate names the header that counts, and that header has the generation and the number of appended rows.
abbrev pub gate_bytes : (which : ℕ) → List ℕ
gate_bytes which = which ∷ replicate (page_bytes - 1) 0xff

abbrev pub header_bytes : (generation rows : ℕ) → List ℕ
header_bytes generation rows = number_cell generation ++ (number_cell rows ++ replicate (page_bytes - 8) 0xff)

pub record HoldsGate (page : ℕ → List ℕ) (which generation rows : ℕ) : Type 0 where
  pub gate : page gate_page ≡ gate_bytes which
  pub header : page (header_page which) ≡ header_bytes generation rows

-- those of a device that was just loaded: no row is appended, and all other bytes behind the catalog's pages are 0xFF
pub record HoldsFresh (page : ℕ → List ℕ) (cat : Catalog) : Type 0 where
  pub counts : HoldsGate page (fresh_half cat) cat.generation 0
  pub blank :
      (place : ℕ) → catalog_pages ≤ place → place < public_pages cat
      → (place == gate_page || place == header_page (fresh_half cat)) ≡ false → page place ≡ replicate page_bytes 0xff

-- Column files. A row of the hidden part has a value for each hidden column in order.
abbrev pub hidden_rows : Hidden → (table : ℕ) → Rows
hidden_rows hidden table = unwrap_or (slice_get hidden.hidden table) []

-- the hidden part of a database that a catalog tells of
pub record IsHidden (cat : Catalog) (hidden : Hidden) : Type 0 where
  pub database : Database
  pub proper : IsDatabase cat.schema database
  pub counted : row_counts database ≡ cat.counts
  pub part : hidden ≡ hidden_of cat.schema database

-- the cell of a hidden column for a row of the hidden part
abbrev pub hidden_cell : Schema → (table column : ℕ) → Row → List ℕ
hidden_cell schema table column row =
    option_map_or (encode_cell (kind_at schema table column)) (value_at (hidden_places schema table) row column) []

-- the cells of a hidden column, row by row
abbrev pub hidden_cells : Schema → Hidden → (table column : ℕ) → List (List ℕ)
hidden_cells schema hidden table column = map (hidden_cell schema table column) (hidden_rows hidden table)

abbrev pub HoldsColumns : (ℕ → List ℕ) → Catalog → Hidden → Type 0
HoldsColumns page cat hidden =
    (table column : ℕ) → is_hidden cat.schema table column ≡ true
    → Stores page (run_of_file cat (Cells table column)) (hidden_cells cat.schema hidden table column)

-- Rows lead to rows along hidden columns, whatever the visible values are: here 0 stands for each, at most 24 in a row.
abbrev pub zeros : Row
zeros = replicate 24 (Number (pos 0))

abbrev pub hidden_database : Schema → Hidden → Database
hidden_database schema hidden = rejoined schema (record { visible = map (λ rows. map (λ _. zeros) rows) hidden.hidden }) hidden

abbrev pub leads_to : Schema → Hidden → (from identifier to : ℕ) → Option ℕ
leads_to schema hidden from identifier to = leads schema (hidden_database schema hidden) from identifier to

-- the identifiers of so many rows
abbrev pub ids : (count : ℕ) → List ℕ
ids count = range_with_len 1 count

-- Subtree key tables.
abbrev pub subtree_record : Schema → Hidden → (table identifier : ℕ) → List ℕ
subtree_record schema hidden table identifier =
    flat_map (λ to. number_cell (unwrap_or (leads_to schema hidden table identifier to) 0)) (descendants_of schema table)

abbrev pub HoldsSubtrees : (ℕ → List ℕ) → Catalog → Hidden → Type 0
HoldsSubtrees page cat hidden =
    (table : ℕ) → table < length cat.schema → is_empty (descendants_of cat.schema table) ≡ false
    → Stores page (run_of_file cat (Subtrees table)) (map (subtree_record cat.schema hidden table) (ids (count_of cat table)))

-- Indexes: at each level a list of identifiers for each entry. Where the list of an entry stands: the place of its first code, and
-- how many identifiers it has
abbrev pub list_place : (lists : List (List ℕ)) → (entry : ℕ) → List ℕ
list_place lists entry = number_cell (list_begin lists entry) ++ number_cell (length (get_or lists entry []))

-- the record of an entry in the directory: its own bytes, and at the level of each table the place of its list
abbrev pub directory_record : (heads : List (List ℕ)) → (tables : List ℕ) → (lists : ℕ → List (List ℕ)) → (entry : ℕ) → List ℕ
directory_record heads tables lists entry = get_or heads entry [] ++ flat_map (λ table. list_place (lists table) entry) tables

abbrev pub directory_records : (heads : List (List ℕ)) → (tables : List ℕ) → (lists : ℕ → List (List ℕ)) → List (List ℕ)
directory_records heads tables lists = map (directory_record heads tables lists) (below (length heads))

-- a directory and level files have these entries, with these lists at the levels of these tables
pub record HoldsLists (page : ℕ → List ℕ) (directory : Run) (level_file : ℕ → Run) (heads : List (List ℕ)) (tables : List ℕ) (lists : ℕ → List (List ℕ)) : Type 0 where
  pub places : Stores page directory (directory_records heads tables lists)
  pub levels :
      (level : ℕ) → level < length tables
      → StoresBytes page (level_file level) (level_bytes (lists (slice_index tables level)))

-- Climbing indexes. The cell of a hidden column in the row of its table that a row leads to
abbrev pub cell_led_to : Schema → Hidden → (table column from identifier : ℕ) → List ℕ
cell_led_to schema hidden table column from identifier =
    option_map_or (λ row. get_or (hidden_cells schema hidden table column) (row - 1) [])
    (leads_to schema hidden from identifier table) []

-- the lists of values at the level of a table: that table's rows which lead to a row that has the value, ascending
abbrev pub value_lists : Catalog → Hidden → (table column : ℕ) → (values : List (List ℕ)) → (from : ℕ) → List (List ℕ)
value_lists cat hidden table column values from =
    map (λ value.
    filter (λ identifier. bytes_eq (cell_led_to cat.schema hidden table column from identifier) value) (ids (count_of cat from)))
    values

-- the values of a column: each of its cells once, ascending
pub record AreValues (cells values : List (List ℕ)) : Type 0 where
  pub ascending : IsStrictlySortedBy (slice_cmp nat_cmp) values
  pub only : (value : List ℕ) → Contains values value → Contains cells value
  pub all : (cell : List ℕ) → Contains cells cell → Contains values cell

pub record HoldsIndex (page : ℕ → List ℕ) (cat : Catalog) (hidden : Hidden) (table column : ℕ) : Type 0 where
  pub values : List (List ℕ)
  pub are_values : AreValues (hidden_cells cat.schema hidden table column) values
  pub header : Stores page (run_of_file cat (IndexHeader table column)) (number_cell (length values) ∷ [])
  -- an entry for each value, at most as many as the directory has room for
  pub fits : length values ≤ count_of cat table
  pub entries :
      HoldsLists page (record (run_of_file cat (IndexDirectory table column)) { count = length values }) (λ level. run_of_file cat (IndexLevel table column level))
      values (levels_of cat.schema table) (value_lists cat hidden table column values)

-- Id indexes: an entry for each identifier. The lists at the level of a table: its rows which lead to one, ascending
abbrev pub id_lists : Catalog → Hidden → (table from : ℕ) → List (List ℕ)
id_lists cat hidden table from =
    map (λ identifier.
    filter (λ other. is_table identifier (leads_to cat.schema hidden from other table)) (ids (count_of cat from)))
    (ids (count_of cat table))

abbrev pub HoldsIdIndexes : (ℕ → List ℕ) → Catalog → Hidden → Type 0
HoldsIdIndexes page cat hidden =
    (table : ℕ) → table < length cat.schema → is_empty (above_of cat.schema table) ≡ false
    → HoldsLists page (run_of_file cat (IdDirectory table)) (λ level. run_of_file cat (IdLevel table level)) (replicate (count_of cat table) [])
    (above_of cat.schema table) (id_lists cat hidden table)

-- the static pages hold the hidden part
pub record HoldsFiles (page : ℕ → List ℕ) (cat : Catalog) (hidden : Hidden) : Type 0 where
  pub columns : HoldsColumns page cat hidden
  pub subtrees : HoldsSubtrees page cat hidden
  pub indexes : (table column : ℕ) → is_hidden cat.schema table column ≡ true → HoldsIndex page cat hidden table column
  pub id_indexes : HoldsIdIndexes page cat hidden

-- the pages hold the catalog and the hidden part
pub record Holds (page : ℕ → List ℕ) (cat : Catalog) (hidden : Hidden) : Type 0 where
  pub catalog : HoldsCatalog page cat
  pub fresh : cat.version ≡ current_version → HoldsFresh page cat
  pub files : HoldsFiles page cat hidden
