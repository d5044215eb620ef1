-- Laws of the hidden part as the flash holds it: the hidden part of a database goes with its catalog, its cells are as
-- wide as their columns and read as its values, and rows lead to the same rows by it as by the whole database.
use Rattle.std.specs.Prelude.{◌≡◌, ℕ, suc, ◌<◌, true, List, [], length, get_or, map, count_by, replicate, Some, slice_get, drop, filter, IsTrue}
use Rattle.std.specs.Option.{option_map_or}
use Rattle.ghost_model.specs.core.Schema.{Schema, Table, Kind}
use Rattle.ghost_model.specs.core.Values.{Row, Database}
use Rattle.ghost_model.specs.core.Channel.{Catalog}
use Rattle.ghost_model.specs.laws.SchemaTrees.{IsTree}
use Rattle.ghost_model.specs.core.Database.{IsDatabase, rows_of, row_counts, value_at_row, leads}
use Rattle.ghost_model.specs.readings.CellReading.{decode_cell}
use Rattle.ghost_model.specs.forms.Cells.{encode_cell}
use Rattle.ghost_model.specs.forms.Catalog.{current_version}
use Rattle.ghost_model.specs.core.Asks.{kind_at}
use Rattle.ghost_model.specs.core.Split.{Hidden, hidden_of, value_at, kind_of_column, are_of_kinds}
use Rattle.ghost_model.specs.core.Replies.{hidden_places, hidden_value}
use Rattle.ghost_model.specs.forms.Runs.{number_cell, record_at}
use Rattle.ghost_model.specs.laws.RunLaws.{AgreeOn}
use Rattle.ghost_model.specs.forms.Layout.{below, is_hidden, width_at, count_of, levels_of, above_of, catalog_pages, public_pages, files_end, column_file, subtree_table}
use Rattle.ghost_model.specs.laws.ShortWords.{index_directory, id_directory}
use Rattle.ghost_model.specs.forms.Flash.{HoldsCatalog, HoldsFresh, HoldsColumns, HoldsFiles, hidden_cells, leads_to, subtree_record, directory_record, value_lists, id_lists, hidden_rows}

-- how many hidden columns a table has before a column
abbrev pub hidden_before : Schema → (table column : ℕ) → ℕ
hidden_before schema table column = count_by (is_hidden schema table) (below column)

-- a row of the hidden part has the value of a hidden column after those of the hidden columns before it
abbrev pub HiddenValuesByPlace : Type 0
HiddenValuesByPlace =
    (schema : Schema) → IsTree schema → (table column : ℕ) → is_hidden schema table column ≡ true → (row : Row)
    → value_at (hidden_places schema table) row column ≡ slice_get row (hidden_before schema table column)

abbrev pub hidden_kinds : Table → List Kind
hidden_kinds table = map kind_of_column (filter (λ column. column.hidden) (drop 1 table.columns))

-- each table has as many rows as the catalog says, and a row one value for each hidden column, of its kind
pub record GoesWith (cat : Catalog) (hidden : Hidden) : Type 0 where
  pub counted : map length hidden.hidden ≡ cat.counts
  pub kinds : (table place : ℕ) (declared : Table) (row : Row) → slice_get cat.schema table ≡ Some declared
      → slice_get (hidden_rows hidden table) place ≡ Some row → IsTrue (are_of_kinds (hidden_kinds declared) row)

abbrev pub HiddenPartsGoWithCatalogs : Type 0
HiddenPartsGoWithCatalogs =
    (cat : Catalog) (database : Database) → IsDatabase cat.schema database → row_counts database ≡ cat.counts
    → GoesWith cat (hidden_of cat.schema database)

-- the cells of a hidden part that goes with a catalog: one for each row, each as wide as its column, and each reads as
-- the value of its row
pub record CellsFit (cat : Catalog) (hidden : Hidden) : Type 0 where
  pub count :
      (table column : ℕ) → is_hidden cat.schema table column ≡ true
      → length (hidden_cells cat.schema hidden table column) ≡ count_of cat table
  pub width :
      (table column place : ℕ) (cell : List ℕ) → is_hidden cat.schema table column ≡ true
      → slice_get (hidden_cells cat.schema hidden table column) place ≡ Some cell
      → length cell ≡ width_at cat.schema table column
  pub value :
      (table column place : ℕ) (cell : List ℕ) → is_hidden cat.schema table column ≡ true
      → slice_get (hidden_cells cat.schema hidden table column) place ≡ Some cell
      → decode_cell (kind_at cat.schema table column) cell ≡ hidden_value cat.schema hidden table (suc place) column

abbrev pub HiddenCellsFit : Type 0
HiddenCellsFit = (cat : Catalog) (hidden : Hidden) → IsTree cat.schema → GoesWith cat hidden → CellsFit cat hidden

-- the cells of the hidden part of a database are those of its values
abbrev pub HiddenCellsOfDatabases : Type 0
HiddenCellsOfDatabases =
    (schema : Schema) (database : Database) → IsTree schema → IsDatabase schema database
    → (table column : ℕ) → is_hidden schema table column ≡ true
    → hidden_cells schema (hidden_of schema database) table column
    ≡ map (λ row. option_map_or (encode_cell (kind_at schema table column)) (slice_get row column) []) (rows_of database table)

-- what rows lead to is told by the hidden part of the database
abbrev pub RowsLeadByHiddenValues : Type 0
RowsLeadByHiddenValues =
    (schema : Schema) (database : Database) → IsTree schema → IsDatabase schema database → (from identifier to : ℕ)
    → leads_to schema (hidden_of schema database) from identifier to ≡ leads schema database from identifier to

-- the values of the hidden part of a database are the database's
abbrev pub HiddenValuesOfDatabases : Type 0
HiddenValuesOfDatabases =
    (schema : Schema) (database : Database) → IsTree schema → IsDatabase schema database
    → (table identifier column : ℕ) → is_hidden schema table column ≡ true
    → hidden_value schema (hidden_of schema database) table identifier column ≡ value_at_row database table identifier column

-- what column files give: the record of each row reads as the row's value
abbrev pub ColumnFilesGiveValues : Type 0
ColumnFilesGiveValues =
    (page : ℕ → List ℕ) (cat : Catalog) (hidden : Hidden) → IsTree cat.schema → GoesWith cat hidden
    → HoldsColumns page cat hidden → (table column : ℕ) → is_hidden cat.schema table column ≡ true
    → (place : ℕ) → place < count_of cat table
    → decode_cell (kind_at cat.schema table column) (record_at page (column_file cat table column) place)
    ≡ hidden_value cat.schema hidden table (suc place) column

-- files are held as long as the static pages stay, the catalog as long as its pages do, and the gate and the headers, which there are
-- at version 2, as long as the other public ones do
pub record HoldingsAreKept : Type 0 where
  pub files :
      (page other : ℕ → List ℕ) (cat : Catalog) (hidden : Hidden) → IsTree cat.schema
      → AgreeOn page other (public_pages cat) (files_end cat) → HoldsFiles page cat hidden → HoldsFiles other cat hidden
  pub catalog :
      (page other : ℕ → List ℕ) (cat : Catalog) → AgreeOn page other 0 catalog_pages
      → HoldsCatalog page cat → HoldsCatalog other cat
  pub fresh :
      (page other : ℕ → List ℕ) (cat : Catalog) → cat.version ≡ current_version
      → AgreeOn page other catalog_pages (public_pages cat) → HoldsFresh page cat → HoldsFresh other cat

-- records are as wide as the layout says
pub record RecordsAreAsWide : Type 0 where
  pub subtree :
      (cat : Catalog) (hidden : Hidden) (table identifier : ℕ)
      → length (subtree_record cat.schema hidden table identifier) ≡ (subtree_table cat table).width
  pub directory :
      (cat : Catalog) (hidden : Hidden) (table column : ℕ) (values : List (List ℕ)) (entry : ℕ)
      → length (get_or values entry []) ≡ width_at cat.schema table column
      → length (directory_record values (levels_of cat.schema table) (value_lists cat hidden table column values) entry)
      ≡ (index_directory cat table column).width
  pub id_directory :
      (cat : Catalog) (hidden : Hidden) (table entry : ℕ)
      → length (directory_record (replicate (count_of cat table) []) (above_of cat.schema table) (id_lists cat hidden table) entry)
      ≡ (id_directory cat table).width
  pub number : (number : ℕ) → length (number_cell number) ≡ 4
