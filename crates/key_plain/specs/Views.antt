-- What a call of `plain` did, by its result.
use Rattle.std.specs.Prelude.{◌≡◌, ℕ, ◌≤◌, ◌+◌, Bool, true, false, List, [], length, slice_get, Option, Some, Result, Ok, Err, ⊤}
use Rattle.ghost_model.specs.core.Schema.{Schema}
use Rattle.ghost_model.specs.core.Values.{Database}
use Rattle.ghost_model.specs.core.Database.{IsDatabase, database_of}
use Rattle.ghost_model.specs.core.Printed.{lines_of_text, printed}
use Rattle.ghost_model.specs.core.Texts.{most_script_bytes, most_texts, texts_of}
use Rattle.edge_traits.specs.Files.{Files}
use Rattle.edge_traits.specs.Written.{grown, GrowsByFront}
use Rattle.key_inputs.specs.Naming.{IsShownIn}
use Rattle.key_inputs.specs.Openings.{Opening, Spelled, Broken}
use Rattle.key_inputs.specs.Outside.{Verdicts, Risen, Same, verdicts}
use Rattle.key_inputs.specs.Views.{rule_of}
use Rattle.key_inputs.specs.Whole.{WholeInput}
use Rattle.key_lines.specs.Told.{AreRuled, IsTold}
use Rattle.key_lines.specs.declared.told.ToldText.{ToldText}
use Rattle.key_plain.specs.Openings.{printed_by}
use Rattle.key_plain.specs.declared.faults.PlainFault.{PlainFault}
use Rattle.key_plain.specs.declared.faults.PlainFault.TheVariants as fault

-- each text is told by its lines over a database, the text at place 0 having number 1
pub record AreAllTold (schema : Schema) (database : Database) (texts : List (List ℕ)) (told : List ToldText) : Type 0 where
  pub as_many : length told ≡ length texts
  pub each : (place : ℕ) (written : List ℕ) (one : ToldText) → slice_get texts place ≡ Some written → slice_get told place ≡ Some one
      → IsTold schema written (lines_of_text schema database (place + 1) written) one

-- the sink took all lines of what the files spell
pub record Prints (opening : Opening WholeInput) (before after : Option (List ℕ)) (told : List ToldText) : Type 0 where
  pub input : WholeInput
  pub spelled : opening ≡ Spelled input
  pub printed : after ≡ grown before (printed_by input)
  pub are_told : AreAllTold input.schema (database_of input.schema input.files) (texts_of input.script) told

-- the sink took a front of the lines of what the files spell
pub record PrintsFront (opening : Opening WholeInput) (before after : Option (List ℕ)) (told : List ToldText) : Type 0 where
  pub input : WholeInput
  pub spelled : opening ≡ Spelled input
  pub front : GrowsByFront before (printed_by input) after
  pub are_told : AreRuled input.schema (texts_of input.script) told

-- how a call ended of which the depot tells its files
abbrev pub EndsPlainCall : {T : Type 0} → Opening WholeInput → Result T PlainFault → (before after : Option (List ℕ)) → (told : List ToldText) → Type 0
EndsPlainCall opening (Ok _) before after told = Prints opening before after told
EndsPlainCall opening (Err (fault.Input broken)) before after told = opening ≡ Broken (rule_of broken)
EndsPlainCall opening (Err fault.Sink) before after told = PrintsFront opening before after told
EndsPlainCall opening _ before after told = ⊤

-- the names and the value that a broken rule of a table's file shows are those of the files
abbrev pub ShowsNames : {T : Type 0} → Files → (schema folder : List ℕ) → Result T PlainFault → Type 0
ShowsNames files schema folder (Err (fault.Input broken)) = IsShownIn files schema folder broken
ShowsNames files schema folder _ = ⊤

-- a database of a schema, and a script within its limits
pub record PlainRead : Type 0 where
  pub schema : Schema
  pub database : Database
  pub script : List ℕ
  pub are : IsDatabase schema database
  pub short : length script ≤ most_script_bytes
  pub few : length (texts_of script) ≤ most_texts

abbrev pub printed_of : PlainRead → List ℕ
printed_of read = printed read.schema (texts_of read.script) read.database

-- the sink took all lines of something that was read, and each text is told by its lines
pub record PrintsRead (before after : Option (List ℕ)) (told : List ToldText) : Type 0 where
  pub read : PlainRead
  pub printed : after ≡ grown before (printed_of read)
  pub are_told : AreAllTold read.schema read.database (texts_of read.script) told

-- the sink took a front of the lines of something that was read, and some texts from the front are told by their rules
pub record PrintsReadFront (before after : Option (List ℕ)) (told : List ToldText) : Type 0 where
  pub read : PlainRead
  pub front : GrowsByFront before (printed_of read) after
  pub are_told : AreRuled read.schema (texts_of read.script) told

-- what a call printed and told, whether or not the depot tells its files
abbrev pub PrintsSomeRead : {T : Type 0} → Result T PlainFault → (before after : Option (List ℕ)) → (told : List ToldText) → Type 0
PrintsSomeRead (Ok _) before after told = PrintsRead before after told
PrintsSomeRead (Err fault.Sink) before after told = PrintsReadFront before after told
PrintsSomeRead _ before after told = told ≡ []

-- whether a call ends so without a write
abbrev pub writes_nothing : {T : Type 0} → Result T PlainFault → Bool
writes_nothing (Ok _) = false
writes_nothing (Err fault.Sink) = false
writes_nothing _ = true

-- what an outcome tells of the counts of faults of the sink, the depot, its appends and the flash
abbrev pub told_by : {T : Type 0} → Result T PlainFault → Verdicts
told_by (Ok _) = verdicts Same Same Same Same
told_by (Err fault.NoMemory) = verdicts Same Same Same Same
told_by (Err fault.Depot) = verdicts Same Risen Same Same
told_by (Err (fault.Input broken)) = verdicts Same Same Same Same
told_by (Err fault.Sink) = verdicts Risen Same Same Same
