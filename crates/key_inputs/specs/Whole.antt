-- What the files spell that a command names with a script: a schema, the files of its tables and the script, or the first rule that
-- is broken in reading order. The schema's file and the tables' files come before the script's.
use Rattle.std.specs.Prelude.{◌≡◌, ℕ, List}
use Rattle.ghost_model.specs.core.Schema.{Schema}
use Rattle.ghost_model.specs.core.Database.{database_of}
use Rattle.edge_traits.specs.Files.{Files}
use Rattle.key_inputs.specs.Openings.{Opening, Spelled, Broken, Missing, TablesInput, tables_opening}
use Rattle.key_inputs.specs.Scripts.{script_opening}
use Rattle.key_inputs.specs.declared.whole.Opened.{Opened}

-- a schema, for each of its tables the bytes of its file, and the bytes of a script
pub record WholeInput : Type 0 where
  pub schema : Schema
  pub files : List (List ℕ)
  pub script : List ℕ

abbrev pub with_script : TablesInput → Opening (List ℕ) → Opening WholeInput
with_script tables (Spelled script) =
    Spelled (record { schema = tables.schema; files = tables.files; script = script })
with_script tables (Broken rule) = Broken rule
with_script tables Missing = Missing

abbrev pub before_script : Opening TablesInput → Opening (List ℕ) → Opening WholeInput
before_script (Spelled tables) script = with_script tables script
before_script (Broken rule) script = Broken rule
before_script Missing script = Missing

-- what the named files spell
abbrev pub whole_opening : Files → (schema folder script : List ℕ) → Opening WholeInput
whole_opening files schema folder script = before_script (tables_opening files schema folder) (script_opening files script)

-- what was read is what the files spell
pub record IsSpelled (opening : Opening WholeInput) (opened : Opened) : Type 0 where
  pub files : List (List ℕ)
  pub spelled : opening ≡ Spelled (record { schema = opened.tables.schema; files = files; script = opened.script.items })
  pub tables : opened.tables.tables ≡ database_of opened.tables.schema files
