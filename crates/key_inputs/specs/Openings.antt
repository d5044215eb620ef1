-- What the files that a command names spell: a schema and the files of its tables, or the first rule that is broken in
-- reading order. The schema's file comes first, then the tables' files in the order of the schema, each judged before
-- the next one is read, then the foreign keys. Reading stops at the first file that is not there.
use Rattle.std.specs.Prelude.{ℕ, ◌+◌, nat_le, List, [], ◌∷◌, ◌++◌, length, codes, Option, Some, None, Result, Ok, Err, if◌then◌else◌}
use Rattle.std.specs.FinMap as map
use Rattle.ghost_model.specs.core.Schema.{Schema, Table}
use Rattle.ghost_model.specs.refusals.SchemaFaults.{SchemaFault, most_schema_bytes}
use Rattle.ghost_model.specs.readings.SchemaReading.{schema_reading}
use Rattle.ghost_model.specs.refusals.LoadFaults.{LoadFault, file_faults, reference_faults}
use Rattle.ghost_model.specs.core.Database.{database_of}
use Rattle.edge_traits.specs.Files.{Files}

-- a broken rule of an input
pub data InputFault : Type 0 where
  SchemaBytes : InputFault
  SchemaRule : SchemaFault → InputFault
  TableRule : LoadFault → InputFault
  ScriptBytes : InputFault
  ScriptTexts : InputFault

-- the files spell this, or break this rule first, or one of them is not there
pub data Opening (X : Type 0) : Type 0 where
  Spelled : X → Opening X
  Broken : InputFault → Opening X
  Missing : Opening X

-- a schema, and for each of its tables the bytes of its file
pub record TablesInput : Type 0 where
  pub schema : Schema
  pub files : List (List ℕ)

-- the file of a table's rows, in the folder of the tables
abbrev pub table_file : (folder table : List ℕ) → List ℕ
table_file folder table = folder ++ (codes "/" ++ (table ++ codes ".csv"))

module _ {X : Type 0} where
  -- a file that may have so many bytes at most
  abbrev pub on_text : (most : ℕ) → InputFault → (List ℕ → Opening X) → Option (List ℕ) → Opening X
  on_text most too_long next None = Missing
  on_text most too_long next (Some bytes) = if nat_le (length bytes) most then next bytes else Broken too_long

  abbrev pub unless_broken : Opening X → List LoadFault → Opening X
  unless_broken next [] = next
  unless_broken next (fault ∷ _) = Broken (TableRule fault)

-- all files were read
abbrev pub after_tables : Schema → (read : List (List ℕ)) → Opening TablesInput
after_tables schema read =
    unless_broken (Spelled (record { schema = schema; files = read })) (reference_faults schema (database_of schema read))

abbrev pub on_table : (List ℕ → Opening TablesInput) → (List ℕ → List LoadFault) → Option (List ℕ) → Opening TablesInput
on_table next faults None = Missing
on_table next faults (Some bytes) = unless_broken (next bytes) (faults bytes)

-- the tables from one on, of which these are left, after these files
unfoldable pub tables_from : Files → (folder : List ℕ) → Schema → (table : ℕ) → (left : List Table) → (read : List (List ℕ)) → Opening TablesInput
tables_from files folder schema table [] read = after_tables schema read
tables_from files folder schema table (declared ∷ left) read =
    on_table (λ bytes. tables_from files folder schema (table + 1) left (read ++ bytes ∷ []))
    (file_faults table declared.columns) (map.get files (table_file folder declared.name))

abbrev pub on_schema : Files → (folder : List ℕ) → Result Schema SchemaFault → Opening TablesInput
on_schema files folder (Err fault) = Broken (SchemaRule fault)
on_schema files folder (Ok schema) = tables_from files folder schema 0 schema []

-- what the file of a schema and the files of its tables spell
abbrev pub tables_opening : Files → (schema folder : List ℕ) → Opening TablesInput
tables_opening files schema folder =
    on_text most_schema_bytes SchemaBytes (λ text. on_schema files folder (schema_reading text)) (map.get files schema)
