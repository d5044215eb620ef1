-- What the key asks the host for. A group is visible where all its columns are, the key's where none is, and else mixed. For
-- each FROM table in the schema's order that has a visible or a mixed group or a selected visible column there is one ask, with
-- the members of its visible groups in the order of the text, and the visible columns that are selected or in its mixed groups in
-- their own order, each once. Nothing of a hidden column or of an identifier is in it. An ask is sent as bytes: the table, the
-- number of its columns and each of them, the number of its conditions, and for each of these the column, a code (the operators
-- from 1 to 6, then IS NULL and IS NOT NULL, with 128 added where the next condition is of its group) and after an operator the
-- literal's cell, without the flag that a cell of a column has that may be NULL. A reply to it has rows of one width: an
-- identifier in 4 bytes and the asked cells.
use Rattle.std.specs.Prelude.{ℕ, zero, suc, ◌+◌, ◌/◌, Bool, true, false, not, ◌&&◌, ◌||◌, ◌==◌, nat_lt, nat_le, List, [], ◌∷◌, ◌++◌, length, take, drop, map, filter, flat_map, sum, if◌then◌else◌, Option, Some, None, Result, Ok, Err}
use Rattle.std.specs.List.{list_any, list_all}
use Rattle.std.specs.Int.{to_be_bytes, from_be_bytes, w32}
use Rattle.ghost_model.specs.core.Schema.{Schema, Column, Kind, Chars, plain_of, columns_of, column_at, places_of, is_empty, is_visible}
use Rattle.ghost_model.specs.core.Database.{is_of_kind}
use Rattle.ghost_model.specs.forms.Cells.{cell_width, encode_cell}
use Rattle.ghost_model.specs.core.Query.{Query, is_among, Field, Test, Compared, IsNull, IsNotNull, Member, GroupMember, members_of_group, Condition, OneOf, Join, Operator, Equal, Unequal, Less, AtMost, More, AtLeast}
use Rattle.ghost_model.specs.core.Groups.{each_of, some_of, ends}
use Rattle.ghost_model.specs.readings.QueryReading.{reading}
use Rattle.ghost_model.specs.core.Channel.{ColumnTest, Ask}

-- whether a member is of a visible column of this table
abbrev pub is_shown : Schema → (table : ℕ) → Member → Bool
is_shown schema table one = one.field.table == table && is_visible schema table one.field.column

abbrev pub column_test : GroupMember → ColumnTest
column_test one = record { column = one.member.field.column; test = one.member.test; more = one.more }

-- the conditions of an ask for this table that a condition of a query is, if it is a visible group
abbrev pub test_of : Schema → (table : ℕ) → Condition → List ColumnTest
test_of schema table (OneOf first others) =
    if each_of (is_shown schema table) first others then map column_test (members_of_group first others) else []
test_of schema table (Join _ _) = []

-- whether a condition is a mixed group, one with visible columns of this table and others
abbrev pub is_mixed : Schema → (table : ℕ) → Condition → Bool
is_mixed schema table (OneOf first others) =
    some_of (is_shown schema table) first others && not (each_of (is_shown schema table) first others)
is_mixed schema table (Join _ _) = false

abbrev pub is_column : (table column : ℕ) → Field → Bool
is_column table column field = field.table == table && field.column == column

abbrev pub names_column : (table column : ℕ) → Condition → Bool
names_column table column (OneOf first others) = some_of (λ one. is_column table column one.field) first others
names_column table column (Join _ _) = false

-- whether a visible column is selected or stands in a mixed group
abbrev pub is_wanted : Schema → Query → (table column : ℕ) → Bool
is_wanted schema query table column =
    is_visible schema table column
    && (list_any (is_column table column) query.select
    || list_any (λ condition. is_mixed schema table condition && names_column table column condition) query.conditions)

abbrev pub ask_for : Schema → Query → (table : ℕ) → Ask
ask_for schema query table = record {
  table = table;
  columns = filter (is_wanted schema query table) (places_of (columns_of schema table));
  tests = flat_map (test_of schema table) query.conditions;
}

abbrev pub is_needed : Ask → Bool
is_needed ask = not (is_empty ask.columns && is_empty ask.tests)

abbrev pub asks_of : Schema → Query → List Ask
asks_of schema query = filter is_needed (map (ask_for schema query) (filter (is_among query.from) (places_of schema)))

abbrev pub operator_code : Operator → ℕ
operator_code Equal = 1
operator_code Unequal = 2
operator_code Less = 3
operator_code AtMost = 4
operator_code More = 5
operator_code AtLeast = 6

-- the kind of a column; where there is no such column its cells have no bytes
abbrev pub kind_or_none : Option Column → Kind
kind_or_none None = Chars 0
kind_or_none (Some column) = column.kind

abbrev pub kind_at : Schema → (table column : ℕ) → Kind
kind_at schema table column = kind_or_none (column_at schema table column)

abbrev pub test_code : Test → ℕ
test_code (Compared operator literal) = operator_code operator
test_code IsNull = 7
test_code IsNotNull = 8

-- the cell of the literal that a column is compared with
abbrev pub literal_cell : Kind → Test → List ℕ
literal_cell kind (Compared operator literal) = encode_cell (plain_of kind) literal
literal_cell kind IsNull = []
literal_cell kind IsNotNull = []

-- the code of a condition, with 128 added where the next one is of its group
abbrev pub code_byte : ColumnTest → ℕ
code_byte one = test_code one.test + (if one.more then 128 else 0)

abbrev pub test_bytes : Schema → (table : ℕ) → ColumnTest → List ℕ
test_bytes schema table one = one.column ∷ code_byte one ∷ literal_cell (kind_at schema table one.column) one.test

abbrev pub ask_payload : Schema → Ask → List ℕ
ask_payload schema ask =
    ask.table ∷ length ask.columns
    ∷ (ask.columns ++ length ask.tests ∷ flat_map (test_bytes schema ask.table) ask.tests)

-- whether each number is below the next
abbrev pub ascend_from : ℕ → List ℕ → Bool
ascend_from before [] = true
ascend_from before (x ∷ xs) = nat_lt before x && ascend_from x xs

-- whether a literal, where there is one, is of the kind of a column but for NULL
abbrev pub fits_kind : Kind → Test → Bool
fits_kind kind (Compared operator literal) = is_of_kind (plain_of kind) literal
fits_kind kind IsNull = true
fits_kind kind IsNotNull = true

-- whether an ask is one that a key may send
abbrev pub is_proper_ask : Schema → Ask → Bool
is_proper_ask schema ask =
    nat_lt ask.table (length schema) && list_all (is_visible schema ask.table) ask.columns
    && ascend_from 0 ask.columns && nat_le (length ask.tests) 16
    && list_all (λ one. is_visible schema ask.table one.column) ask.tests
    && list_all (λ one. fits_kind (kind_at schema ask.table one.column) one.test) ask.tests
    && ends (λ one. one.more) ask.tests

abbrev pub kinds_of : Schema → Ask → List Kind
kinds_of schema ask = map (kind_at schema ask.table) ask.columns

-- the width of a row of the reply: the identifier and the asked cells
abbrev pub row_width : Schema → Ask → ℕ
row_width schema ask = 4 + sum (map cell_width (kinds_of schema ask))

-- a row of a reply: its identifier, and the bytes of the asked cells
pub record RowCells : Type 0 where
  pub identifier : ℕ
  pub cells : List ℕ

abbrev pub row_bytes : RowCells → List ℕ
row_bytes row = to_be_bytes w32 row.identifier ++ row.cells

abbrev pub row_in : List ℕ → RowCells
row_in bytes = record { identifier = from_be_bytes w32 (take 4 bytes); cells = drop 4 bytes }

-- so many rows of a width at the front of some bytes
unfoldable pub rows_from : (width count : ℕ) → List ℕ → List RowCells
rows_from width zero bytes = []
rows_from width (suc count) bytes = row_in (take width bytes) ∷ rows_from width count (drop width bytes)

-- the rows of a payload of ROWS
abbrev pub rows_in : Schema → Ask → List ℕ → List RowCells
rows_in schema ask payload = rows_from (row_width schema ask) (length payload / row_width schema ask) payload

pub record NumberedAsk : Type 0 where
  pub text : ℕ
  pub ask : Ask

abbrev pub asked : (text : ℕ) → Ask → NumberedAsk
asked text ask = record { text = text; ask = ask }

abbrev pub asks_of_reading : {Refusal : Type 0} → Schema → Result Query Refusal → List Ask
asks_of_reading schema (Ok query) = asks_of schema query
asks_of_reading schema (Err _) = []

-- the asks of the accepted texts in order, the first of these texts having this number
abbrev pub asked_from : {Refusal : Type 0} → Schema → (number : ℕ) → List (Result Query Refusal) → List NumberedAsk
asked_from schema number [] = []
asked_from schema number (reading ∷ later) =
    map (asked number) (asks_of_reading schema reading) ++ asked_from schema (number + 1) later

-- the asks of the accepted texts in order, with the numbers of their texts
abbrev pub asked_of : Schema → (texts : List (List ℕ)) → List NumberedAsk
asked_of schema texts = asked_from schema 1 (map (reading schema) texts)
