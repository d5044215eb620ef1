-- Files that are read one after another, each judged before the next one, are answered by the first load fault of all of
-- them: where the files of a schema's tables are all there, they spell tables exactly where there is no such fault.
use Rattle.std.specs.Prelude.{◌≡◌, ℕ, List, [], Option, Some, None}
use Rattle.ghost_model.specs.core.Schema.{Schema}
use Rattle.ghost_model.specs.refusals.LoadFaults.{LoadFault, load_fault}
use Rattle.edge_traits.specs.Files.{Files}
use Rattle.key_inputs.specs.Openings.{Opening, Spelled, Broken, TableRule, TablesInput, tables_from}
use Rattle.key_inputs.specs.Views.{AreFiles}

-- what files are opened to by the fault that is answered
abbrev pub opening_by : Schema → (read : List (List ℕ)) → Option LoadFault → Opening TablesInput
opening_by schema read None = Spelled (record { schema = schema; files = read })
opening_by schema read (Some fault) = Broken (TableRule fault)

abbrev pub OpeningsTellLoadFaults : Type 0
OpeningsTellLoadFaults =
    (files : Files) (folder : List ℕ) (schema : Schema) (read : List (List ℕ)) → AreFiles files folder schema read
    → tables_from files folder schema 0 schema [] ≡ opening_by schema read (load_fault schema read)
