-- Where the faults of files and of foreign keys stand: those of a file in its table, and at no key; the others at keys.
use Rattle.std.proofs.Common.{◌≡◌, ℕ, ◌+◌, Bool, true, false, List, [], ◌∷◌, ◌++◌, length, ◌==◌, nat_le, is_some, Option, Some, None, refl, subst}
use Rattle.std.specs.Prelude.{⊤, ◌||◌}
use Rattle.ghost_model.specs.core.Schema.{Schema, Column, Kind, Integer, Chars, IntegerOrNull, CharsOrNull, is_empty}
use Rattle.ghost_model.specs.core.Values.{Value, Row, Rows, Database}
use Rattle.ghost_model.specs.core.Database.{integer_of, is_text, is_row_among, row_count, records_of}
use Rattle.ghost_model.specs.refusals.LoadFaults.{LoadFault, FileLimit, Header, RowLimit, FieldCount, BadId, BadInt, BadChars, BadReference, Place, place, unless, value_faults, field_faults, is_number, fields_faults, row_faults, rows_faults, is_header, record_faults, file_faults, reference_fault_in, row_reference_faults, table_references, references_from, most_rows, most_bytes, reference_faults}
use Rattle.ghost_model.specs.laws.LoadLaws.{IsFirst}

-- a fault of the file of a table
abbrev pub IsOfFile : ℕ → LoadFault → Type 0
IsOfFile table (FileLimit at) = at.table ≡ table
IsOfFile table (Header at) = at.table ≡ table
IsOfFile table (RowLimit at) = at.table ≡ table
IsOfFile table (FieldCount at) = at.table ≡ table
IsOfFile table (BadId at) = at.table ≡ table
IsOfFile table (BadInt at) = at.table ≡ table
IsOfFile table (BadChars at) = at.table ≡ table
IsOfFile table (BadReference at) = ⊥

abbrev pub IsOfKey : LoadFault → Type 0
IsOfKey (BadReference at) = ⊤
IsOfKey _ = ⊥

unfoldable Each : {X : Type 0} → (X → Type 0) → List X → Type 0
Each P [] = ⊤
Each P (x ∷ xs) = P x × Each P xs

each_of_both : {X : Type 0} (P : X → Type 0) (xs ys : List X) → Each P xs → Each P ys → Each P (xs ++ ys)
unfolding Each
each_of_both P [] ys h k = k
each_of_both P (x ∷ xs) ys h k = (h.0, each_of_both P xs ys h.1 k)

each_unless : (P : LoadFault → Type 0) (good : Bool) (fault : LoadFault) → P fault → Each P (unless good fault)
unfolding Each
each_unless P true fault h = tt
each_unless P false fault h = (h, tt)

each_first : (P : LoadFault → Type 0) (fault : LoadFault) (faults : List LoadFault) → Each P faults → IsFirst fault faults → P fault
unfolding Each
each_first P fault faults h first = (subst (Each P) first.first h).0

of_value : (table rec column : ℕ) (kind : Kind) (text : List ℕ) → Each (IsOfFile table) (value_faults (place table rec column) kind text)
of_value table rec column Integer text = each_unless (IsOfFile table) (is_some (integer_of text)) (BadInt (place table rec column)) refl
of_value table rec column (Chars most) text = each_unless (IsOfFile table) (is_text most text) (BadChars (place table rec column)) refl
of_value table rec column IntegerOrNull text = each_unless (IsOfFile table) (is_empty text || is_some (integer_of text)) (BadInt (place table rec column)) refl
of_value table rec column (CharsOrNull most) text = each_unless (IsOfFile table) (is_text most text) (BadChars (place table rec column)) refl

of_fields : (table rec column : ℕ) (columns : List Column) (fields : List (List ℕ)) → Each (IsOfFile table) (field_faults table rec column columns fields)
unfolding field_faults Each
of_fields table rec column [] fields = tt
of_fields table rec column (_ ∷ _) [] = tt
of_fields table rec column (declared ∷ columns) (text ∷ fields) =
    each_of_both (IsOfFile table) (value_faults (place table rec column) declared.kind text) (field_faults table rec (column + 1) columns fields)
    (of_value table rec column declared.kind text) (of_fields table rec (column + 1) columns fields)

of_record : (table row : ℕ) (columns : List Column) (fields : List (List ℕ)) → Each (IsOfFile table) (fields_faults table row columns fields)
unfolding Each
of_record table row [] fields = tt
of_record table row (_ ∷ _) [] = tt
of_record table row (_ ∷ columns) (text ∷ fields) =
    each_of_both (IsOfFile table) (unless (is_number row (integer_of text)) (BadId (place table (row + 1) 0))) (field_faults table (row + 1) 1 columns fields)
    (each_unless (IsOfFile table) (is_number row (integer_of text)) (BadId (place table (row + 1) 0)) refl)
    (of_fields table (row + 1) 1 columns fields)

of_row : (table row : ℕ) (columns : List Column) (fields : List (List ℕ)) → Each (IsOfFile table) (row_faults table row columns fields)
of_row table row columns fields =
    each_of_both (IsOfFile table) (unless (nat_le row most_rows) (RowLimit (place table (row + 1) 0)))
    (unless (length fields == length columns) (FieldCount (place table (row + 1) 0)) ++ fields_faults table row columns fields)
    (each_unless (IsOfFile table) (nat_le row most_rows) (RowLimit (place table (row + 1) 0)) refl)
    (each_of_both (IsOfFile table) (unless (length fields == length columns) (FieldCount (place table (row + 1) 0))) (fields_faults table row columns fields)
    (each_unless (IsOfFile table) (length fields == length columns) (FieldCount (place table (row + 1) 0)) refl)
    (of_record table row columns fields))

of_rows : (table row : ℕ) (columns : List Column) (rows : List (List (List ℕ))) → Each (IsOfFile table) (rows_faults table row columns rows)
unfolding rows_faults Each
of_rows table row columns [] = tt
of_rows table row columns (fields ∷ later) =
    each_of_both (IsOfFile table) (row_faults table row columns fields) (rows_faults table (row + 1) columns later)
    (of_row table row columns fields) (of_rows table (row + 1) columns later)

of_records : (table : ℕ) (columns : List Column) (records : List (List (List ℕ))) → Each (IsOfFile table) (record_faults table columns records)
unfolding Each
of_records table columns [] = (refl, tt)
of_records table columns (header ∷ rows) =
    each_of_both (IsOfFile table) (unless (is_header columns header) (Header (place table 1 0))) (rows_faults table 1 columns rows)
    (each_unless (IsOfFile table) (is_header columns header) (Header (place table 1 0)) refl)
    (of_rows table 1 columns rows)

-- the fault that a file has first is in its table, and at no key
pub of_file : (table : ℕ) (columns : List Column) (file : List ℕ) (fault : LoadFault) → IsFirst fault (file_faults table columns file) → IsOfFile table fault
of_file table columns file fault first =
    each_first (IsOfFile table) fault (file_faults table columns file)
    (each_of_both (IsOfFile table) (unless (nat_le (length file) most_bytes) (FileLimit (place table 0 0))) (record_faults table columns (records_of file))
    (each_unless (IsOfFile table) (nat_le (length file) most_bytes) (FileLimit (place table 0 0)) refl)
    (of_records table columns (records_of file)))
    first

of_key : (database : Database) (at : Place) (child : Option ℕ) (value : Value) → Each IsOfKey (reference_fault_in database at child value)
unfolding Each
of_key database at None value = tt
of_key database at (Some child) value = each_unless IsOfKey (is_row_among (row_count database child) value) (BadReference at) tt

of_row_keys : (database : Database) (table rec column : ℕ) (columns : List Column) (values : Row) → Each IsOfKey (row_reference_faults database table rec column columns values)
unfolding row_reference_faults Each
of_row_keys database table rec column [] values = tt
of_row_keys database table rec column (_ ∷ _) [] = tt
of_row_keys database table rec column (declared ∷ columns) (value ∷ values) =
    each_of_both IsOfKey (reference_fault_in database (place table rec column) declared.child value) (row_reference_faults database table rec (column + 1) columns values)
    (of_key database (place table rec column) declared.child value) (of_row_keys database table rec (column + 1) columns values)

of_table_keys : (database : Database) (table rec : ℕ) (columns : List Column) (rows : Rows) → Each IsOfKey (table_references database table rec columns rows)
unfolding table_references Each
of_table_keys database table rec columns [] = tt
of_table_keys database table rec columns (row ∷ rows) =
    each_of_both IsOfKey (row_reference_faults database table rec 0 columns row) (table_references database table (rec + 1) columns rows)
    (of_row_keys database table rec 0 columns row) (of_table_keys database table (rec + 1) columns rows)

of_all_keys : (database : Database) (table : ℕ) (schema : Schema) (later : List Rows) → Each IsOfKey (references_from database table schema later)
unfolding references_from Each
of_all_keys database table [] later = tt
of_all_keys database table (_ ∷ _) [] = tt
of_all_keys database table (declared ∷ tables) (rows ∷ later) =
    each_of_both IsOfKey (table_references database table 2 declared.columns rows) (references_from database (table + 1) tables later)
    (of_table_keys database table 2 declared.columns rows) (of_all_keys database (table + 1) tables later)

-- the fault that foreign keys have first is at a key
pub of_keys : (schema : Schema) (database : Database) (fault : LoadFault) → IsFirst fault (reference_faults schema database) → IsOfKey fault
of_keys schema database fault first =
    each_first IsOfKey fault (reference_faults schema database) (of_all_keys database 0 schema database) first
