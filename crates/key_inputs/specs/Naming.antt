-- The names and the value that a fault shows: those of the schema and of the file at the place where the rule is broken.
use Rattle.std.specs.Prelude.{◌≡◌, ◌≢◌, ℕ, ◌-◌, nat_le, Bool, true, false, List, [], length, take, slice_get, Option, Some, None, IfSome, option_map, option_and_then, Ok, if◌then◌else◌, ⊤}
use Rattle.std.specs.FinMap as map
use Rattle.ghost_model.specs.core.Schema.{Schema, Column, column_at}
use Rattle.ghost_model.specs.readings.SchemaReading.{schema_reading}
use Rattle.ghost_model.specs.core.Database.{value_at_row, records_of, database_of}
use Rattle.ghost_model.specs.forms.Cells.{padded}
use Rattle.ghost_model.specs.core.Printed.{field_text}
use Rattle.ghost_model.specs.core.Values.{Value, Database}
use Rattle.csv_split.specs.declared.faults.Place.{Place}
use Rattle.csv_split.specs.declared.faults.LoadFault.{LoadFault}
use Rattle.csv_split.specs.declared.faults.LoadFault.TheVariants as load_fault
use Rattle.edge_traits.specs.Files.{Files}
use Rattle.key_inputs.specs.FileLines.{BeginsOn}
use Rattle.key_inputs.specs.Openings.{table_file}
use Rattle.key_inputs.specs.Views.{AreFiles, name_at}
use Rattle.key_inputs.specs.declared.shown.Front.{Front}
use Rattle.key_inputs.specs.declared.shown.Shown.{Shown}
use Rattle.key_inputs.specs.declared.shown.Shown.TheVariants.{Whole, Cut, Unread}
use Rattle.key_inputs.specs.declared.broken_table.BrokenTable.{BrokenTable}
use Rattle.key_inputs.specs.declared.broken_table.BrokenTable.TheVariants as broken
use Rattle.key_inputs.specs.declared.broken_table.RecordNamed.{RecordNamed}
use Rattle.key_inputs.specs.declared.broken_table.FieldNamed.{FieldNamed}
use Rattle.key_inputs.specs.declared.faults.InputFault.{InputFault}
use Rattle.key_inputs.specs.declared.faults.InputFault.TheVariants as fault
use Rattle.key_inputs.specs.declared.faults.OpenFault.{OpenFault}
use Rattle.key_inputs.specs.declared.faults.OpenFault.TheVariants as open_fault

-- what is shown of a name or a value: all its bytes, or the first 100 of more
abbrev pub most_shown : ℕ
most_shown = 100

abbrev pub front_of : List ℕ → Front
front_of bytes = record { places = padded most_shown bytes; len = length bytes }

abbrev pub shown : List ℕ → Shown
shown bytes =
    if nat_le (length bytes) most_shown then Whole (front_of bytes) else Cut (front_of (take most_shown bytes))

-- the name of a schema's column, by its places
abbrev pub column_name_or_none : Option Column → List ℕ
column_name_or_none None = []
column_name_or_none (Some declared) = declared.name

abbrev pub column_name_at : Schema → (table column : ℕ) → List ℕ
column_name_at schema table column = column_name_or_none (column_at schema table column)

-- the table that a foreign key names
abbrev pub child_or_none : Option Column → Option ℕ
child_or_none None = None
child_or_none (Some declared) = declared.child

abbrev pub child_at : Schema → (table column : ℕ) → Option ℕ
child_at schema table column = child_or_none (column_at schema table column)

abbrev pub name_of_child : Schema → Option ℕ → List ℕ
name_of_child schema None = []
name_of_child schema (Some child) = name_at schema child

abbrev pub child_name_at : Schema → (table column : ℕ) → List ℕ
child_name_at schema table column = name_of_child schema (child_at schema table column)

-- a record is named after its table
abbrev pub IsRecordNamedBy : Schema → RecordNamed → Type 0
IsRecordNamedBy schema record_named = record_named.table ≡ shown (name_at schema record_named.at.table)

-- a field is named after its table and its column
pub record IsFieldNamedBy (schema : Schema) (field : FieldNamed) : Type 0 where
  pub table : field.table ≡ shown (name_at schema field.at.table)
  pub column : field.column ≡ shown (column_name_at schema field.at.table field.at.column)

-- the names that a broken rule shows are those of the schema at its place, and of a foreign key's child table
abbrev pub IsNamedBy : Schema → BrokenTable → Type 0
IsNamedBy schema (broken.FileLimit named) = IsRecordNamedBy schema named
IsNamedBy schema (broken.Header named) = IsRecordNamedBy schema named
IsNamedBy schema (broken.Empty named) = IsRecordNamedBy schema named
IsNamedBy schema (broken.RowLimit named) = IsRecordNamedBy schema named
IsNamedBy schema (broken.FieldCount named) = IsRecordNamedBy schema named
IsNamedBy schema (broken.BadId field value) = IsFieldNamedBy schema field
IsNamedBy schema (broken.BadInt field value) = IsFieldNamedBy schema field
IsNamedBy schema (broken.BadChars field value) = IsFieldNamedBy schema field
IsNamedBy schema (broken.BadReference field child value) =
    IsFieldNamedBy schema field × (child ≡ shown (child_name_at schema field.at.table field.at.column))

-- what is said of a broken rule of a table's file, where an error tells one
abbrev pub OfTable : (BrokenTable → Type 0) → OpenFault → Type 0
OfTable says (open_fault.Input (fault.Table told)) = says told
OfTable says _ = ⊤

-- what is said of a field's place and of the value that is shown, where one field breaks a rule of its column
abbrev pub OfField : (Place → Shown → Type 0) → BrokenTable → Type 0
OfField says (broken.BadId field value) = says field.at value
OfField says (broken.BadInt field value) = says field.at value
OfField says (broken.BadChars field value) = says field.at value
OfField says _ = ⊤

-- what is said of a record's place and of the line that is told, where a record breaks a rule
abbrev pub OfRecord : (Place → Option ℕ → Type 0) → BrokenTable → Type 0
OfRecord says (broken.FileLimit named) = ⊤
OfRecord says (broken.Header named) = says named.at named.line
OfRecord says (broken.Empty named) = ⊤
OfRecord says (broken.RowLimit named) = says named.at named.line
OfRecord says (broken.FieldCount named) = says named.at named.line
OfRecord says (broken.BadId field value) = says field.at field.line
OfRecord says (broken.BadInt field value) = says field.at field.line
OfRecord says (broken.BadChars field value) = says field.at field.line
OfRecord says (broken.BadReference field child value) = says field.at field.line

-- what is said of a foreign key's place and of the value that is shown
abbrev pub OfKey : (Place → Shown → Type 0) → BrokenTable → Type 0
OfKey says (broken.BadReference field child value) = says field.at value
OfKey says _ = ⊤

-- what is said of the place of a file that is told as empty
abbrev pub OfEmpty : (Place → Type 0) → BrokenTable → Type 0
OfEmpty says (broken.Empty named) = says named.at
OfEmpty says _ = ⊤

-- whether an error tells a table's file as empty
abbrev pub tells_empty : OpenFault → Bool
tells_empty (open_fault.Input (fault.Table (broken.Empty named))) = true
tells_empty _ = false

-- the field of a file at a place
abbrev pub field_at : (file : List ℕ) → Place → Option (List ℕ)
field_at file at = option_and_then (λ fields. slice_get fields at.column) (slice_get (records_of file) (at.rec - 1))

-- the value is that of the file's field at a place, unless it was not read for want of memory
abbrev pub ShowsField : (file : List ℕ) → Place → Shown → Type 0
ShowsField file at value = value ≢ Unread → option_map shown (field_at file at) ≡ Some value

-- a line that is told is the one on which the record begins
abbrev pub TellsLine : (file : List ℕ) → Place → Option ℕ → Type 0
TellsLine file at line = IfSome line (BeginsOn file at.rec)

-- a line that is told is that of the record in its table's file, which lies in a folder
abbrev pub IsLineOf : Files → (folder : List ℕ) → Schema → Place → Option ℕ → Type 0
IsLineOf files folder schema at line =
    (file : List ℕ) → map.get files (table_file folder (name_at schema at.table)) ≡ Some file → TellsLine file at line

-- the value is that of a row of the tables, a number in decimal
abbrev pub ShowsKey : Database → Place → Shown → Type 0
ShowsKey tables at value =
    (held : Value) → value_at_row tables at.table (at.rec - 1) at.column ≡ Some held → value ≡ shown (field_text held)

-- where the record of a fault stands
abbrev pub record_place : LoadFault → Option Place
record_place (load_fault.Header at) = Some at
record_place (load_fault.RowLimit at) = Some at
record_place (load_fault.FieldCount at) = Some at
record_place (load_fault.BadId at) = Some at
record_place (load_fault.BadInt at) = Some at
record_place (load_fault.BadChars at) = Some at
record_place (load_fault.BadReference at) = Some at
record_place _ = None

-- where one field breaks the rule of its column
abbrev pub field_place : LoadFault → Option Place
field_place (load_fault.BadId at) = Some at
field_place (load_fault.BadInt at) = Some at
field_place (load_fault.BadChars at) = Some at
field_place (load_fault.BadReference at) = Some at
field_place _ = None

-- a field breaks a rule, and this value is shown
pub record IsAt (told : LoadFault) (given : Shown) (at : Place) (value : Shown) : Type 0 where
  pub place : field_place told ≡ Some at
  pub value_given : value ≡ given

-- a fault stands in a record, and this line is told
pub record IsIn (told : LoadFault) (given : Option ℕ) (at : Place) (line : Option ℕ) : Type 0 where
  pub place : record_place told ≡ Some at
  pub line_given : line ≡ given

-- a broken rule of a table's file shows the names of a schema, and the line and the value of the file, which lies in a
-- folder, or the value of the rows that the files spell; a file that is told as empty spells no record
pub record IsShownBy (files : Files) (folder : List ℕ) (schema : Schema) (told : BrokenTable) : Type 0 where
  pub names : IsNamedBy schema told
  pub value : OfField (λ at value. (file : List ℕ) → map.get files (table_file folder (name_at schema at.table)) ≡ Some file
      → ShowsField file at value) told
  pub line : OfRecord (IsLineOf files folder schema) told
  pub empty : OfEmpty (λ at. (file : List ℕ) → map.get files (table_file folder (name_at schema at.table)) ≡ Some file
      → records_of file ≡ []) told
  pub key : OfKey (λ at value. (read : List (List ℕ)) → AreFiles files folder schema read
      → ShowsKey (database_of schema read) at value) told

-- the file of a schema spells it
pub record IsSpelledIn (files : Files) (name : List ℕ) (schema : Schema) : Type 0 where
  pub text : List ℕ
  pub file : map.get files name ≡ Some text
  pub spelled : schema_reading text ≡ Ok schema

-- an error shows the names of the schema that the schema's file spells, and the value of the table's file
abbrev pub IsNamedIn : Files → (name folder : List ℕ) → OpenFault → Type 0
IsNamedIn files name folder error =
    (schema : Schema) → IsSpelledIn files name schema → OfTable (IsShownBy files folder schema) error

-- and so does a broken rule that a command tells
abbrev pub IsShownIn : Files → (name folder : List ℕ) → InputFault → Type 0
IsShownIn files name folder broken = IsNamedIn files name folder (open_fault.Input broken)

-- no line is told of a record
abbrev pub HasNoLine : BrokenTable → Type 0
HasNoLine told = OfRecord (λ at line. line ≡ None) told
