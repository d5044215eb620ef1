-- What the results of an opening tell.
use Rattle.std.specs.Prelude.{◌≡◌, ℕ, List, [], length, slice_get, map as each, Option, Some, None, Result, Ok, Err, ⊤}
use Rattle.std.specs.FinMap as map
use Rattle.ghost_model.specs.laws.LoadLaws as load_laws
use Rattle.ghost_model.specs.refusals.LoadFaults as load
use Rattle.ghost_model.specs.core.Database.{database_of, rows_spelled}
use Rattle.ghost_model.specs.core.Schema.{Schema, Table, Column, columns_of}
use Rattle.ghost_model.specs.core.Values.{Rows, Database}
use Rattle.edge_traits.specs.Files.{Files, HasFile}
use Rattle.key_inputs.specs.Openings.{InputFault, SchemaBytes, SchemaRule, TableRule, ScriptBytes, ScriptTexts, Opening, Spelled, Broken, TablesInput, on_table, table_file, after_tables, tables_from, tables_opening}
use Rattle.key_inputs.specs.Rules.{schema_rule, table_rule}
use Rattle.key_inputs.specs.declared.faults.InputFault.{InputFault as Fault}
use Rattle.key_inputs.specs.declared.faults.InputFault.TheVariants as fault
use Rattle.key_inputs.specs.declared.faults.OpenFault.{OpenFault}
use Rattle.key_inputs.specs.declared.faults.OpenFault.TheVariants as open_fault
use Rattle.key_inputs.specs.declared.opening.Input.{Input}

-- the rule of a table's file that is broken, where one is
abbrev pub rule_or : Option load.LoadFault → Option InputFault
rule_or None = None
rule_or (Some rule) = Some (TableRule rule)

-- the broken rule that a fault tells: its numbers, whatever names it shows
abbrev pub rule_of : Fault → InputFault
rule_of fault.SchemaBytes = SchemaBytes
rule_of (fault.Schema other) = SchemaRule (schema_rule other)
rule_of (fault.Table other) = TableRule (table_rule other)
rule_of fault.ScriptBytes = ScriptBytes
rule_of fault.ScriptTexts = ScriptTexts

abbrev pub rule_in : OpenFault → Option InputFault
rule_in (open_fault.Input fault) = Some (rule_of fault)
rule_in _ = None

-- a rule that is told is that of the first of some faults
abbrev pub TellsRule : Option InputFault → List load.LoadFault → Type 0
TellsRule None faults = ⊤
TellsRule (Some rule) faults = (fault : load.LoadFault) × (rule ≡ TableRule fault) × load_laws.IsFirst fault faults

abbrev pub IsBroken : {X : Type 0} → Opening X → Option InputFault → Type 0
IsBroken opening None = ⊤
IsBroken opening (Some rule) = opening ≡ Broken rule

-- an error that tells a broken rule tells the one that is broken first; the others say nothing of the files
abbrev pub Tells : {X : Type 0} → Opening X → OpenFault → Type 0
Tells opening fault = IsBroken opening (rule_in fault)

-- the tables that were read are those that the files spell
pub record AreSpelled (opening : Opening TablesInput) (input : Input) : Type 0 where
  pub files : List (List ℕ)
  pub spelled : opening ≡ Spelled (record { schema = input.schema; files = files })
  pub tables : input.tables ≡ database_of input.schema files

abbrev pub OpensTables : Opening TablesInput → Result Input OpenFault → Type 0
OpensTables opening (Ok input) = AreSpelled opening input
OpensTables opening (Err fault) = Tells opening fault

-- a table's rows were read from its file, which keeps every rule
pub record ReadsTable (contents : Option Files) (name : List ℕ) (columns : List Column) (table : ℕ) (rows : Rows) : Type 0 where
  pub file : List ℕ
  pub read : HasFile contents name file
  pub clean : load.file_faults table columns file ≡ []
  pub spelled : rows ≡ rows_spelled columns file

-- the file of a table
abbrev pub file_for : Files → (folder : List ℕ) → Table → Option (List ℕ)
file_for files folder declared = map.get files (table_file folder declared.name)

-- these are the files of a schema's tables, in their order
abbrev pub AreFiles : Files → (folder : List ℕ) → Schema → (read : List (List ℕ)) → Type 0
AreFiles files folder schema read = each (file_for files folder) schema ≡ each Some read

-- the files of all tables were read, and keep every rule but, perhaps, that of foreign keys
pub record ReadsFiles (contents : Option Files) (folder : List ℕ) (schema : Schema) (tables : Database) : Type 0 where
  pub read : List (List ℕ)
  pub many : length read ≡ length schema
  pub clean : load.files_faults 0 schema read ≡ []
  pub spelled : tables ≡ database_of schema read
  pub told : (files : Files) → contents ≡ Some files → tables_from files folder schema 0 schema [] ≡ after_tables schema read
  pub files_read : (files : Files) → contents ≡ Some files → AreFiles files folder schema read

-- after a schema was read the tables' files are left
abbrev pub OpensSchema : Files → (name folder : List ℕ) → Result Schema OpenFault → Type 0
OpensSchema files name folder (Ok schema) = tables_opening files name folder ≡ tables_from files folder schema 0 schema []
OpensSchema files name folder (Err fault) = Tells (tables_opening files name folder) fault

abbrev pub name_or_none : Option Table → List ℕ
name_or_none None = []
name_or_none (Some declared) = declared.name

-- the name of a table
abbrev pub name_at : Schema → (table : ℕ) → List ℕ
name_at schema table = name_or_none (slice_get schema table)

-- the opening at a table, whatever comes after it
abbrev pub opening_at : Files → (folder : List ℕ) → Schema → (table : ℕ) → (List ℕ → Opening TablesInput) → Opening TablesInput
opening_at files folder schema table next =
    on_table next (load.file_faults table (columns_of schema table)) (map.get files (table_file folder (name_at schema table)))
