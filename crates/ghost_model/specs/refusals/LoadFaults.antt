-- The rules that the files of a database are to keep, and where each one is broken. The faults stand in the order in
-- which the files are read: file by file, in a file record by record, in a record first whether the table may have so
-- many rows, then the number of its fields, then field by field with the identifier first; the foreign keys come after
-- all files, by table, record and column. `load_fault` is the first of them. No other is ever answered, so what the list
-- says after it is of no account: rows that break a rule are still looked at by the rules that come later.
use Rattle.std.specs.Prelude.{ℕ, ◌+◌, ℤ, pos, Bool, true, false, ◌||◌, ◌==◌, nat_le, List, [], ◌∷◌, ◌++◌, length, map, flat_map, Option, Some, None, bytes_eq, is_some}
use Rattle.std.specs.List.{zip, enumerate_from}
use Rattle.std.specs.Option.{option_map_or}
use Rattle.std.specs.Cmp.Lexicographic.{pointwise}
use Rattle.std.specs.Ordering.{int_eq}
use Rattle.ghost_model.specs.core.Schema.{Schema, Column, Kind, Integer, Chars, IntegerOrNull, CharsOrNull, first_of, is_empty}
use Rattle.ghost_model.specs.refusals.Tokens.{in_lower_case}
use Rattle.ghost_model.specs.core.Values.{Value, Row, Rows, Database}
use Rattle.ghost_model.specs.core.Database.{is_text, is_row_among, row_count, records_of, integer_of, database_of}

-- a table by its place, a record by its number in the file from 1, and a column; 0 where none applies
pub record Place : Type 0 where
  pub table : ℕ
  pub rec : ℕ
  pub column : ℕ

abbrev pub place : (table rec column : ℕ) → Place
place table rec column = record { table = table; rec = rec; column = column }

pub data LoadFault : Type 0 where
  FileLimit Header RowLimit FieldCount BadId BadInt BadChars BadReference : Place → LoadFault

-- the bytes of a file, at most
abbrev pub most_bytes : ℕ
most_bytes = 67108864

-- the rows of a table, at most
abbrev pub most_rows : ℕ
most_rows = 1000000

-- a rule at a place: its fault, where it is broken
abbrev pub unless : Bool → LoadFault → List LoadFault
unless true fault = []
unless false fault = fault ∷ []

-- an INTEGER field spells an integer in range, or is empty where the column may be NULL; a CHAR field is not too long and has
-- characters alone
abbrev pub value_faults : Place → Kind → List ℕ → List LoadFault
value_faults at Integer text = unless (is_some (integer_of text)) (BadInt at)
value_faults at (Chars most) text = unless (is_text most text) (BadChars at)
value_faults at IntegerOrNull text = unless (is_empty text || is_some (integer_of text)) (BadInt at)
value_faults at (CharsOrNull most) text = unless (is_text most text) (BadChars at)

-- the faults of fields, of which the first is that of column `column`
unfoldable pub field_faults : (table rec column : ℕ) → List Column → List (List ℕ) → List LoadFault
field_faults table rec column columns fields =
    flat_map (λ held. value_faults (place table rec held.0) held.1.0.kind held.1.1) (enumerate_from column (zip columns fields))

abbrev pub is_number : ℕ → Option ℤ → Bool
is_number number found = option_map_or (λ other. int_eq other (pos number)) found false

-- the first field is the row's number
abbrev pub fields_faults : (table row : ℕ) → List Column → List (List ℕ) → List LoadFault
fields_faults table row [] fields = []
fields_faults table row (_ ∷ _) [] = []
fields_faults table row (_ ∷ columns) (text ∷ fields) =
    unless (is_number row (integer_of text)) (BadId (place table (row + 1) 0)) ++ field_faults table (row + 1) 1 columns fields

-- row number `row` is the record after it, since the header is the first
abbrev pub row_faults : (table row : ℕ) → List Column → List (List ℕ) → List LoadFault
row_faults table row columns fields =
    unless (nat_le row most_rows) (RowLimit (place table (row + 1) 0))
    ++ (unless (length fields == length columns) (FieldCount (place table (row + 1) 0))
    ++ fields_faults table row columns fields)

-- the first of these records is row number `row`
unfoldable pub rows_faults : (table row : ℕ) → List Column → List (List (List ℕ)) → List LoadFault
rows_faults table row columns records =
    flat_map (λ held. row_faults table held.0 columns held.1) (enumerate_from row records)

-- the names of the columns in order, without regard to case
abbrev pub is_header : List Column → List (List ℕ) → Bool
is_header columns fields = pointwise bytes_eq (map in_lower_case fields) (map (λ column. column.name) columns)

-- the first record is the header
abbrev pub record_faults : (table : ℕ) → List Column → List (List (List ℕ)) → List LoadFault
record_faults table columns [] = Header (place table 1 0) ∷ []
record_faults table columns (header ∷ rows) =
    unless (is_header columns header) (Header (place table 1 0)) ++ rows_faults table 1 columns rows

-- the faults of one file, apart from its foreign keys
abbrev pub file_faults : (table : ℕ) → List Column → (file : List ℕ) → List LoadFault
file_faults table columns file =
    unless (nat_le (length file) most_bytes) (FileLimit (place table 0 0))
    ++ record_faults table columns (records_of file)

-- the first of these files is that of table number `table`
unfoldable pub files_faults : (table : ℕ) → Schema → (files : List (List ℕ)) → List LoadFault
files_faults table schema files =
    flat_map (λ held. file_faults held.0 held.1.0.columns held.1.1) (enumerate_from table (zip schema files))

-- a foreign key is the identifier of a row of its child table
abbrev pub reference_fault_in : Database → Place → (child : Option ℕ) → Value → List LoadFault
reference_fault_in database at None value = []
reference_fault_in database at (Some child) value = unless (is_row_among (row_count database child) value) (BadReference at)

unfoldable pub row_reference_faults : Database → (table rec column : ℕ) → List Column → Row → List LoadFault
row_reference_faults database table rec column columns values =
    flat_map (λ held. reference_fault_in database (place table rec held.0) held.1.0.child held.1.1) (enumerate_from column (zip columns values))

unfoldable pub table_references : Database → (table rec : ℕ) → List Column → Rows → List LoadFault
table_references database table rec columns rows =
    flat_map (λ held. row_reference_faults database table held.0 0 columns held.1) (enumerate_from rec rows)

-- the faults of foreign keys in the tables from `table` on, whose rows are those of the last list; row 1 is record 2
unfoldable pub references_from : Database → (table : ℕ) → Schema → List Rows → List LoadFault
references_from database table schema later =
    flat_map (λ held. table_references database held.0 2 held.1.0.columns held.1.1) (enumerate_from table (zip schema later))

abbrev pub reference_faults : Schema → Database → List LoadFault
reference_faults schema database = references_from database 0 schema database

abbrev pub load_faults : Schema → (files : List (List ℕ)) → List LoadFault
load_faults schema files = files_faults 0 schema files ++ reference_faults schema (database_of schema files)

-- the fault that is answered; none where the files keep every rule
abbrev pub load_fault : Schema → (files : List (List ℕ)) → Option LoadFault
load_fault schema files = first_of (load_faults schema files)
