-- Short names for what words of the rooms say together. Contracts and proofs of single crates use them; nothing here need be
-- believed: each is written out where a promise stands on it.
use Rattle.std.specs.Prelude.{ℕ, ◌+◌, ◌*◌, ◌==◌, ◌&&◌, not, nat_lt, Bool, List, [], length, map, filter, flat_map, take, Option, Some, bytes_eq, slice_get, unwrap_or, if◌then◌else◌, ◌∷◌, ◌++◌}
use Rattle.std.specs.Int.{from_be_bytes, w32}
use Rattle.std.specs.List.{list_any, zip, enumerate_from}
use Rattle.ghost_model.specs.refusals.QueryMeaning.{literal_fails, is_other_kind, is_too_large, resolved, table_names, column_name, columns_in}
use Rattle.ghost_model.specs.refusals.QueryGrammar.{QueryText}
use Rattle.ghost_model.specs.core.Schema.{Schema, Column, columns_of, places_where, first_of, is_empty}
use Rattle.ghost_model.specs.core.Values.{Value, Row, Rows, Database}
use Rattle.ghost_model.specs.core.Query.{Query, Field, Operator, Condition, is_among}
use Rattle.ghost_model.specs.core.Channel.{Catalog, ColumnTest, Frame, Move, Answer, Entry, Journal, Ask}
use Rattle.ghost_model.specs.core.Database.{value_at_row, holds, integer_of}
use Rattle.ghost_model.specs.core.Meaning.{compares}
use Rattle.ghost_model.specs.core.Asks.{NumberedAsk, test_of, RowCells, kinds_of}
use Rattle.ghost_model.specs.core.Moves.{taken}
use Rattle.ghost_model.specs.core.NextMove.{EndedAsk, InvalidFrame, heard}
use Rattle.ghost_model.specs.core.Split.{Hidden, RowValues, cells, rejoined_row}
use Rattle.ghost_model.specs.core.Host.{Holding, Stand, said_with_refusals, bad_with_refusals}
use Rattle.ghost_model.specs.core.Replies.{replies, answer_from}
use Rattle.ghost_model.specs.forms.Runs.{Run, pages_of, number_in}
use Rattle.ghost_model.specs.forms.Catalog.{catalog_bytes}
use Rattle.ghost_model.specs.forms.Layout.{Cells, Subtrees, IndexHeader, IndexDirectory, IndexLevel, IdDirectory, IdLevel, run_of_file, Structure, ColumnFile, SubtreeTable, ClimbingIndex, IdIndex, hidden_columns, below, tables_of, visible_columns, files_of, run_of, structures, spool_area, scratch_area, scratch_count, appended_area}
use Rattle.ghost_model.specs.forms.QueryWork.{bits, values_of, count_values, rows_leading}
use Rattle.ghost_model.specs.refusals.Rules.{broken_if}
use Rattle.ghost_model.specs.refusals.SchemaGrammar.{TableText, SchemaText}
use Rattle.ghost_model.specs.refusals.SchemaMeaning.{schema_of}
use Rattle.ghost_model.specs.refusals.SchemaFaults.{SchemaFault, DuplicateName, UnknownChild, NotOneRoot, declared_name, repeats, columns_at, table_lacks_id, references_naming, refers_nowhere}
use Rattle.ghost_model.specs.refusals.LoadFaults.{LoadFault, BadId, place, unless, is_number, references_from}

abbrev pub is_from : Query → (table : ℕ) → Bool
is_from query table = is_among query.from table

abbrev pub answer_of : Entry → Answer
answer_of entry = entry.answer

abbrev pub moves : Journal → List Move
moves journal = map (λ entry. entry.move) journal

-- the frames of the key that received bytes call for
abbrev pub due : Catalog → (asks : List NumberedAsk) → (received : List ℕ) → List Frame
due catalog asks received = (heard catalog asks received).due

-- the rows that answer an accepted text from its replies
abbrev pub rows_from_replies : Catalog → Hidden → (asks : List NumberedAsk) → Journal → (text : ℕ) → Query → List Row
rows_from_replies catalog kept asks journal text query =
    answer_from catalog.schema kept query (replies catalog asks journal text)

-- what a host whose file can be read says
abbrev pub said_to : Holding → List Frame → Stand → List Frame
said_to held frames stand = said_with_refusals held [] frames stand

abbrev pub bad_from : Holding → (rest : List ℕ) → List Frame → (at : ℕ) → Stand → Option InvalidFrame
bad_from held rest frames at stand = bad_with_refusals held rest [] frames at stand

-- the number that four bytes spell
abbrev pub payload_number : List ℕ → ℕ
payload_number bytes = from_be_bytes w32 (take 4 bytes)

-- the static files by name, but for those that Layout names
abbrev pub index_header : Catalog → (table column : ℕ) → Run
index_header cat table column = run_of_file cat (IndexHeader table column)

abbrev pub index_directory : Catalog → (table column : ℕ) → Run
index_directory cat table column = run_of_file cat (IndexDirectory table column)

abbrev pub index_level : Catalog → (table column level : ℕ) → Run
index_level cat table column level = run_of_file cat (IndexLevel table column level)

abbrev pub id_directory : Catalog → (table : ℕ) → Run
id_directory cat table = run_of_file cat (IdDirectory table)

abbrev pub id_level : Catalog → (table level : ℕ) → Run
id_level cat table level = run_of_file cat (IdLevel table level)

-- how many values of a column meet a condition, and how many rows of the top table lead to one
abbrev pub values_met : Database → Field → Operator → Value → ℕ
values_met database column operator literal =
    count_values (filter (λ value. holds operator value literal) (values_of database column))

abbrev pub rows_met : Schema → Database → (top : ℕ) → Field → Operator → Value → ℕ
rows_met schema database top column operator literal =
    rows_leading schema database top column.table
    (λ row. compares operator (value_at_row database column.table row column.column) (Some literal))

abbrev pub rows_or_none : Option Rows → Rows
rows_or_none found = unwrap_or found []

-- how many columns a table has, its identifier among them
abbrev pub column_count : Schema → (table : ℕ) → ℕ
column_count schema table = length (columns_of schema table)

abbrev pub name_of : Column → List ℕ
name_of column = column.name

abbrev pub is_field : (table column : ℕ) → Field → Bool
is_field table column field = field.table == table && field.column == column

abbrev pub tests_of : Schema → (table : ℕ) → List Condition → List ColumnTest
tests_of schema table conditions = flat_map (test_of schema table) conditions

abbrev pub most_tests : ℕ
most_tests = 16

-- the tables but the top one
abbrev pub others_of : (top : ℕ) → (from : List ℕ) → List ℕ
others_of top from = filter (λ table. not (table == top)) from

-- the last WELCOME frame, which alone begins with 1, is the one that ends the catalog
abbrev pub welcome_fits : (missing : List ℕ) (last : ℕ) (part : List ℕ) → Bool
welcome_fits missing last part =
    bytes_eq part (take (length part) missing) && last == (if length part == length missing then 1 else 0)

-- the first field is the row's number
abbrev pub id_faults : (table row : ℕ) → List ℕ → List LoadFault
id_faults table row text = unless (is_number row (integer_of text)) (BadId (place table (row + 1) 0))

-- at which byte a list begins and how long it is, and the first byte that the list after it may begin at, by eight bytes of a directory
abbrev pub first_listed : List ℕ → ℕ
first_listed bytes = number_in bytes 0

-- the pages that hold a byte of the catalog: its bytes are a run of width 1
abbrev pub catalog_pages : Catalog → ℕ
catalog_pages cat = pages_of (length (catalog_bytes cat)) 1

-- the calls for finding a value among so many
abbrev pub search_work : (values : ℕ) → ℕ
search_work values = 4 * (bits values + 3)

-- the faults of a place
abbrev pub duplicate_at : Field → SchemaFault
duplicate_at field = DuplicateName field.table field.column

abbrev pub unknown_at : Field → SchemaFault
unknown_at field = UnknownChild field.table field.column

abbrev pub wrong_roots : ℕ → Option SchemaFault
wrong_roots roots = broken_if (not (roots == 1)) (NotOneRoot roots)

abbrev pub table_repeats : SchemaText → ℕ → Bool
table_repeats tables place = repeats (map (λ (table : TableText). table.name) tables) place

abbrev pub column_repeats : SchemaText → Field → Bool
column_repeats tables field = repeats (map declared_name (columns_at (slice_get tables field.table))) field.column

abbrev pub lacks_id : SchemaText → ℕ → Bool
lacks_id tables place = table_lacks_id (slice_get tables place)

abbrev pub is_shared : SchemaText → ℕ → Bool
is_shared tables child = nat_lt 1 (references_naming (schema_of tables) child)

abbrev pub structures_of : Schema → (table : ℕ) → List Structure
structures_of schema table =
    map (ColumnFile table) (hidden_columns schema table)
    ++ (SubtreeTable table ∷ (map (ClimbingIndex table) (hidden_columns schema table) ++ IdIndex table ∷ []))

abbrev pub reply_row : Schema → Ask → RowValues → RowCells
reply_row schema ask row = record { identifier = row.identifier; cells = cells (kinds_of schema ask) row.values }

abbrev pub rejoined_table : List Column → (visible kept : Rows) → Rows
rejoined_table columns visible kept =
    map (λ row. rejoined_row columns row.0 row.1.0 row.1.1) (enumerate_from 1 (zip visible kept))

abbrev pub has_kind_mismatch : Schema → QueryText → Bool
has_kind_mismatch schema tree = list_any (literal_fails schema is_other_kind) (resolved schema tree).conditions

abbrev pub has_bad_literal : Schema → QueryText → Bool
has_bad_literal schema tree = list_any (literal_fails schema is_too_large) (resolved schema tree).conditions

abbrev pub names_in : QueryText → List (List ℕ)
names_in tree = table_names tree ++ map column_name (columns_in tree)

abbrev pub is_unknown : SchemaText → Field → Bool
is_unknown tables field =
    refers_nowhere tables (slice_get (columns_at (slice_get tables field.table)) field.column)

-- all static files in the order of their pages, and the areas of the spool and of scratch
abbrev pub static_files : Catalog → List Run
static_files cat =
    flat_map (λ structure. map (run_of cat structure) (below (length (files_of cat structure)))) (structures cat.schema)

abbrev pub has_spool : Schema → (table : ℕ) → Bool
has_spool schema table = not (is_empty (visible_columns schema table))

abbrev pub spool_areas : Catalog → (half : ℕ) → List Run
spool_areas cat half = map (spool_area cat half) (filter (has_spool cat.schema) (tables_of cat.schema))

abbrev pub scratch_areas : Catalog → List Run
scratch_areas cat = map (scratch_area cat) (below (scratch_count cat))

abbrev pub appended_areas : Catalog → List Run
appended_areas cat = map (appended_area cat) (below 2)
