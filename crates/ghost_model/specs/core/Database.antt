-- The databases of a schema. A table's rows are numbered from 1 in the order in which they stand, and that number is
-- the identifier, the first value of a row. Each value is of its column's kind, and each foreign key is the
-- identifier of a row of the table that it names. Files spell a database by their CSV records: those after the first
-- are the rows, field by field.
use Rattle.std.specs.Prelude.{◌≡◌, ℕ, zero, suc, ◌-◌, ◌^◌, ℤ, pos, neg_ℤ, int_le, Bool, false, true, not, ◌&&◌, ◌||◌, ◌==◌, nat_le, List, [], ◌∷◌, length, map, drop, Option, Some, None, slice_get, option_and_then, unwrap_or, IsTrue, if◌then◌else◌}
use Rattle.std.specs.List.{list_all, zip}
use Rattle.std.specs.Cmp.Lexicographic.{slice_cmp}
use Rattle.std.specs.Ordering.{nat_cmp, int_cmp, is_eq, is_ne, is_lt, is_le, is_gt, is_ge}
use Rattle.std.specs.declared.cmp.Ordering.{Ordering}
use Rattle.std.specs.declared.cmp.Ordering.TheVariants as order
use Rattle.csv.specs.Reading.{records, default_config, strip_bom}
use Rattle.ghost_model.specs.core.Schema.{Schema, Column, Kind, Integer, Chars, IntegerOrNull, CharsOrNull, columns_of, column_at, parent, references_to, first_of}
use Rattle.ghost_model.specs.refusals.Tokens.{is_printable}
pub use Rattle.ghost_model.specs.refusals.Tokens.{number_of, is_numeral}
pub use Rattle.ghost_model.specs.core.Values.{fits_integer}
use Rattle.ghost_model.specs.core.Values.{Value, Null, Number, Text, is_null, Row, Rows, Database}
use Rattle.ghost_model.specs.core.Query.{Operator}
use Rattle.ghost_model.specs.core.Query as query

-- whether bytes are a text of at most so many characters
abbrev pub is_text : ℕ → List ℕ → Bool
is_text most bytes = nat_le (length bytes) most && list_all is_printable bytes

abbrev pub is_of_kind : Kind → Value → Bool
is_of_kind Integer (Number number) = fits_integer number
is_of_kind (Chars most) (Text bytes) = is_text most bytes
is_of_kind IntegerOrNull Null = true
is_of_kind IntegerOrNull (Number number) = fits_integer number
is_of_kind (CharsOrNull most) Null = true
is_of_kind (CharsOrNull most) (Text bytes) = is_text most bytes
is_of_kind _ _ = false

-- the rows of a table, none where there is no such table
abbrev pub rows_of : Database → ℕ → Rows
rows_of database table = unwrap_or (slice_get database table) []

abbrev pub row_count : Database → ℕ → ℕ
row_count database table = length (rows_of database table)

abbrev pub row_counts : Database → List ℕ
row_counts database = map length database

abbrev pub row_numbered : Rows → ℕ → Option Row
row_numbered rows zero = None
row_numbered rows (suc place) = slice_get rows place

abbrev pub row_of : Database → (table identifier : ℕ) → Option Row
row_of database table identifier = row_numbered (rows_of database table) identifier

abbrev pub value_at_row : Database → (table identifier column : ℕ) → Option Value
value_at_row database table identifier column =
    option_and_then (λ row. slice_get row column) (row_of database table identifier)

-- whether a value is the identifier of one of so many rows
abbrev pub is_row_among : ℕ → Value → Bool
is_row_among count (Number number) = int_le (pos 1) number && int_le number (pos count)
is_row_among count (Text _) = false
is_row_among count Null = false

pub record IsDatabase (schema : Schema) (database : Database) : Type 0 where
  -- a list of rows for each table
  pub tables : length database ≡ length schema
  -- a value for each column
  pub widths : (table identifier : ℕ) (row : Row) → row_of database table identifier ≡ Some row
      → length row ≡ length (columns_of schema table)
  -- the rows are numbered from 1
  pub identifiers : (table identifier : ℕ) (row : Row) → row_of database table identifier ≡ Some row
      → slice_get row 0 ≡ Some (Number (pos identifier))
  -- each value is of its column's kind
  pub kinds : (table identifier column : ℕ) (value : Value) (declared : Column)
      → value_at_row database table identifier column ≡ Some value → column_at schema table column ≡ Some declared
      → IsTrue (is_of_kind declared.kind value)
  -- each foreign key is the identifier of a row
  pub references : (table identifier column child : ℕ) (value : Value) (declared : Column)
      → value_at_row database table identifier column ≡ Some value → column_at schema table column ≡ Some declared
      → declared.child ≡ Some child → IsTrue (is_row_among (row_count database child) value)

-- the identifier that a value of a foreign key is
abbrev pub identifier_in : Option Value → Option ℕ
identifier_in (Some (Number (pos identifier))) = Some identifier
identifier_in _ = None

-- the column of a table that is the foreign key to another
abbrev pub reference_column : Schema → (table child : ℕ) → Option ℕ
reference_column schema table child = option_and_then (λ held. first_of (references_to child held)) (slice_get schema table)

-- the identifier of the row of a child table to which a row's foreign key points
abbrev pub points_to : Schema → Database → (table identifier child : ℕ) → Option ℕ
points_to schema database table identifier child =
    option_and_then (λ column. identifier_in (value_at_row database table identifier column)) (reference_column schema table child)

-- the identifier that a row leads to along at most as many foreign keys as the first list is long
unfoldable pub leads_within : Schema → Schema → Database → (from identifier to : ℕ) → Option ℕ
leads_within [] schema database from identifier to = if from == to then Some identifier else None
leads_within (_ ∷ steps) schema database from identifier to =
    if from == to then Some identifier
    else option_and_then (λ above.
    option_and_then (λ reached. points_to schema database above reached to)
    (leads_within steps schema database from identifier above)) (parent schema to)

-- the row of a table to which a row leads along the foreign keys; no path has more of them than there are tables
abbrev pub leads : Schema → Database → (from identifier to : ℕ) → Option ℕ
leads schema database from identifier to = leads_within schema schema database from identifier to

-- the order of values of one kind: NULL first, integers by number, texts by bytes, a prefix before the longer text
abbrev pub order_of : Value → Value → Ordering
order_of Null Null = order.Equal
order_of Null (Number _) = order.Less
order_of Null (Text _) = order.Less
order_of (Number _) Null = order.Greater
order_of (Text _) Null = order.Greater
order_of (Number a) (Number b) = int_cmp a b
order_of (Text a) (Text b) = slice_cmp nat_cmp a b
order_of (Number _) (Text _) = order.Less
order_of (Text _) (Number _) = order.Greater

-- whether two values that stand in this order meet an operator
abbrev pub meets : Operator → Ordering → Bool
meets query.Equal order = is_eq order
meets query.Unequal order = is_ne order
meets query.Less order = is_lt order
meets query.AtMost order = is_le order
meets query.More order = is_gt order
meets query.AtLeast order = is_ge order

-- whether a comparison is true; one with NULL is not
abbrev pub holds : Operator → Value → Value → Bool
holds operator a b = not (is_null a || is_null b) && meets operator (order_of a b)

-- the records of a file: those of comma-separated values, after a byte order mark. A blank line is none
abbrev pub records_of : List ℕ → List (List (List ℕ))
records_of file = records default_config (strip_bom file)

-- the number with these digits and this sign, where it is not above the greatest
abbrev pub signed_within : ℕ → (ℕ → ℤ) → List ℕ → Option ℤ
signed_within greatest sign digits =
    if is_numeral digits && nat_le (number_of digits) greatest then Some (sign (number_of digits)) else None

-- the integer that a field spells: an optional sign and one or more digits, in 64 bits
abbrev pub integer_of : List ℕ → Option ℤ
integer_of [] = None
integer_of (byte ∷ bytes) =
    if byte == 45 then signed_within (2 ^ 63) (λ number. neg_ℤ (pos number)) bytes
    else if byte == 43 then signed_within (2 ^ 63 - 1) pos bytes
    else signed_within (2 ^ 63 - 1) pos (byte ∷ bytes)

-- the value that a field spells; 0 stands where it spells no integer. In a column that may be NULL an empty field is NULL
abbrev pub value_of_field : Kind → List ℕ → Value
value_of_field Integer text = Number (unwrap_or (integer_of text) (pos 0))
value_of_field (Chars _) text = Text text
value_of_field IntegerOrNull [] = Null
value_of_field IntegerOrNull (byte ∷ bytes) = Number (unwrap_or (integer_of (byte ∷ bytes)) (pos 0))
value_of_field (CharsOrNull _) [] = Null
value_of_field (CharsOrNull _) (byte ∷ bytes) = Text (byte ∷ bytes)

abbrev pub row_spelled : List Column → List (List ℕ) → Row
row_spelled columns fields = map (λ held. value_of_field held.0.kind held.1) (zip columns fields)

-- the rows of a file are its records after the header
abbrev pub rows_spelled : List Column → List ℕ → Rows
rows_spelled columns file = map (row_spelled columns) (drop 1 (records_of file))

abbrev pub database_of : Schema → (files : List (List ℕ)) → Database
database_of schema files = map (λ held. rows_spelled held.0.columns held.1) (zip schema files)
