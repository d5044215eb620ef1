-- The two parts of a database: the public part has its visible columns and the hidden part its hidden ones, foreign
-- keys among them; the identifier stands in neither, since both sides know it. Each part has all rows of each table in
-- order, so it tells their number. From the public part follow the visible image, which is the host's file, and the
-- rows that an ask is to be replied with.
use Rattle.std.specs.Prelude.{◌≡◌, ℕ, ◌+◌, pos, Bool, true, not, ◌==◌, List, [], ◌∷◌, ◌++◌, length, map, drop, filter, flat_map, Option, Some, None, slice_get, unwrap_or, IsTrue, if◌then◌else◌}
use Rattle.std.specs.List.{zip, enumerate_from}
use Rattle.std.specs.Option.{option_or, some_prefix}
use Rattle.std.specs.Cmp.Lexicographic.{pointwise}
use Rattle.ghost_model.specs.core.Schema.{Schema, Table, Column, Kind, columns_of, places_from}
use Rattle.ghost_model.specs.core.Values.{Value, Number, Text, Row, Rows, Database}
use Rattle.ghost_model.specs.core.Database.{is_of_kind}
use Rattle.ghost_model.specs.core.Groups.{each_group}
use Rattle.ghost_model.specs.core.Meaning.{meets_test}
use Rattle.ghost_model.specs.forms.Cells.{encode_cell}
use Rattle.ghost_model.specs.forms.Catalog.{catalog_bytes, IsCatalog}
use Rattle.ghost_model.specs.core.Channel.{Catalog, Ask, ColumnTest}
use Rattle.ghost_model.specs.core.Asks.{RowCells, kinds_of}

-- for each table its rows, of which each has the values of the visible columns in order
pub record Public : Type 0 where
  pub visible : List Rows

-- the same of the hidden columns
pub record Hidden : Type 0 where
  pub hidden : List Rows

-- whether a column stands in the public part, and whether in the hidden one
abbrev pub is_open : Column → Bool
is_open column = not column.hidden

abbrev pub is_closed : Column → Bool
is_closed column = column.hidden

-- of a row, each value of which stands beside its column, the values of the columns that pass a test
abbrev pub part_of : (Column → Bool) → List Column → Row → Row
part_of test columns row = map (λ held. held.1) (filter (λ held. test held.0) (zip (drop 1 columns) (drop 1 row)))

abbrev pub table_parts : (Column → Bool) → Schema → Database → List Rows
table_parts test schema database = map (λ held. map (part_of test held.0.columns) held.1) (zip schema database)

abbrev pub public_of : Schema → Database → Public
public_of schema database = record { visible = table_parts is_open schema database }

abbrev pub hidden_of : Schema → Database → Hidden
hidden_of schema database = record { hidden = table_parts is_closed schema database }

-- the columns that pass a test, by place, the identifier being no one of them
abbrev pub column_places : (Column → Bool) → List Column → List ℕ
column_places test columns = places_from test 1 (drop 1 columns)

abbrev pub visible_places : Schema → (table : ℕ) → List ℕ
visible_places schema table = column_places is_open (columns_of schema table)

-- the value of a column in a list of values that stand for columns by place
abbrev pub value_at : (places : List ℕ) → Row → (column : ℕ) → Option Value
value_at [] values column = None
value_at (_ ∷ _) [] column = None
value_at (place ∷ places) (value ∷ values) column =
    if place == column then Some value else value_at places values column

-- the value of a column in the part that it stands in
abbrev pub value_in_part : List Column → (visible kept : Row) → (column : ℕ) → Option Value
value_in_part columns visible kept column =
    option_or (value_at (column_places is_open columns) visible column) (value_at (column_places is_closed columns) kept column)

-- the row whose two parts these are, up to a column whose value its part lacks
abbrev pub rejoined_row : List Column → (identifier : ℕ) → (visible kept : Row) → Row
rejoined_row columns identifier visible kept =
    Number (pos identifier) ∷ some_prefix (map (value_in_part columns visible kept) (column_places (λ _. true) columns))

abbrev pub rejoined : Schema → Public → Hidden → Database
rejoined schema public kept =
    map (λ table.
    map (λ row. rejoined_row table.0.columns row.0 row.1.0 row.1.1) (enumerate_from 1 (zip table.1.0 table.1.1)))
    (zip schema (zip public.visible kept.hidden))

abbrev pub public_rows : Public → (table : ℕ) → Rows
public_rows public table = unwrap_or (slice_get public.visible table) []

-- whether a visible row meets one condition of each group of an ask
abbrev pub meets_tests : (places : List ℕ) → List ColumnTest → Row → Bool
meets_tests places tests row =
    each_group (λ one. one.more) (λ one. meets_test one.test (value_at places row one.column)) tests

-- a row of a reply: its identifier and the values of the asked columns
pub record RowValues : Type 0 where
  pub identifier : ℕ
  pub values : Row

-- the value of an asked column. A row has one of each visible column, and a key may ask for no others
abbrev pub asked_value : (places : List ℕ) → Row → (column : ℕ) → Value
asked_value places row column = unwrap_or (value_at places row column) (Text [])

abbrev pub replied : (places : List ℕ) → Ask → (identifier : ℕ) → Row → RowValues
replied places ask identifier row =
    record { identifier = identifier; values = map (asked_value places row) ask.columns }

-- the rows that meet an ask's conditions, ascending, the first row having identifier `identifier`
unfoldable pub replies_from : (identifier : ℕ) → (places : List ℕ) → Ask → Rows → List RowValues
replies_from identifier places ask [] = []
replies_from identifier places ask (row ∷ rows) =
    if meets_tests places ask.tests row
    then replied places ask identifier row ∷ replies_from (identifier + 1) places ask rows
    else replies_from (identifier + 1) places ask rows

-- the reply to an ask: the rows of its table that meet its conditions
abbrev pub visible_rows : Schema → Public → Ask → List RowValues
visible_rows schema public ask = replies_from 1 (visible_places schema ask.table) ask (public_rows public ask.table)

abbrev pub kind_of_column : Column → Kind
kind_of_column column = column.kind

-- the cells of values in columns of these kinds
abbrev pub cells : List Kind → Row → List ℕ
cells kinds row = flat_map (λ held. encode_cell held.0 held.1) (zip kinds row)

abbrev pub visible_kinds : Table → List Kind
visible_kinds table = map kind_of_column (filter is_open (drop 1 table.columns))

-- those of all rows of all tables
abbrev pub cells_of_tables : Schema → List Rows → List ℕ
cells_of_tables schema visible = flat_map (λ held. flat_map (cells (visible_kinds held.0)) held.1) (zip schema visible)

-- the visible image: the catalog, then for each table and each row the cells of the visible columns
abbrev pub image : Catalog → Public → List ℕ
image cat public = catalog_bytes cat ++ cells_of_tables cat.schema public.visible

abbrev pub reply_rows : Schema → Public → Ask → List RowCells
reply_rows schema public ask =
    map (λ row. record { identifier = row.identifier; cells = cells (kinds_of schema ask) row.values }) (visible_rows schema public ask)

abbrev pub are_of_kinds : List Kind → Row → Bool
are_of_kinds kinds row = pointwise is_of_kind kinds row

-- a public part that goes with a catalog
pub record IsPublic (cat : Catalog) (public : Public) : Type 0 where
  -- the rows of each table are as many as the catalog says
  pub counted : map length public.visible ≡ cat.counts
  -- a row has one value for each visible column, of its kind
  pub kinds : (table place : ℕ) (declared : Table) (row : Row) → slice_get cat.schema table ≡ Some declared
      → slice_get (public_rows public table) place ≡ Some row → IsTrue (are_of_kinds (visible_kinds declared) row)

-- the bytes are the visible image of such a public part
pub record SpellsImage (cat : Catalog) (public : Public) (bytes : List ℕ) : Type 0 where
  pub catalog : IsCatalog cat
  pub goes_with : IsPublic cat public
  pub spelled : bytes ≡ image cat public
