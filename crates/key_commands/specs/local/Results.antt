-- What a call of `local` did, by its result.
use Rattle.std.specs.Prelude.{◌≡◌, ◌⊎◌, ℕ, ◌+◌, ◌≤◌, Bool, true, false, not, List, Some, Result, Ok, Err, ⊤}
use Rattle.ghost_model.specs.core.Database.{IsDatabase, database_of}
use Rattle.ghost_model.specs.forms.Flash.{Holds}
use Rattle.ghost_model.specs.forms.Layout.{need}
use Rattle.ghost_model.specs.core.Schema.{Schema}
use Rattle.ghost_model.specs.core.Split.{hidden_of}
use Rattle.ghost_model.specs.core.Texts.{texts_of}
use Rattle.ghost_model.specs.core.Values.{Database}
use Rattle.flash_build.specs.Building.{load_calls}
use Rattle.edge_traits.specs.Files.{Files}
use Rattle.key_inputs.specs.Naming.{IsShownIn}
use Rattle.key_inputs.specs.Openings.{Opening, Spelled, Broken}
use Rattle.key_inputs.specs.Outside.{Outside, Verdicts, Risen, Same, verdicts}
use Rattle.key_inputs.specs.Views.{rule_of}
use Rattle.key_words.specs.Words.{Local}
use Rattle.key_inputs.specs.Whole.{WholeInput}
use Rattle.key_lines.specs.Told.{told_in}
use Rattle.key_commands.specs.local.Sessions.{Subject, subject, catalog_in, Ran, told_by_end}
use Rattle.key_commands.specs.declared.local.ends.LocalEnd.{LocalEnd}
use Rattle.key_commands.specs.declared.local.ends.LocalRun.{LocalRun}
use Rattle.key_commands.specs.declared.local.ends.LocalEnd.TheVariants as ends
use Rattle.key_commands.specs.declared.local.ends.LocalFailure.{LocalFailure}
use Rattle.key_commands.specs.declared.local.ends.LocalFailure.TheVariants as failure

-- where the flash failed while it was made: its calls have risen by no more than those of a whole making, one for the
-- device and one for each page that is written
pub record IsUnmade (one : Subject) (before after : Outside) : Type 0 where
  pub few_calls : after.device.calls ≤ before.device.calls + load_calls (catalog_in one) (hidden_of one.schema one.database)

-- the flash was made, and holds the hidden part
pub record IsMade (told : Bool) (one : Subject) (after : Outside) : Type 0 where
  pub name : after.device.name ≡ Some one.words.flash
  pub holds : told ≡ true → Holds after.device.page (catalog_in one) (hidden_of one.schema one.database)
  pub pages : after.device.page_count ≡ need (catalog_in one)

-- flash and files are as before
pub record LeavesBoth (before after : Outside) : Type 0 where
  pub device : after.device ≡ before.device
  pub files : after.files ≡ before.files

-- how a call ended whose inputs were read
abbrev pub EndsLocal : (told : Bool) → Subject → Result LocalRun LocalFailure → (before after : Outside) → Type 0
EndsLocal told one (Ok run) before after = Ran told one run.end before after (told_in run.told)
EndsLocal told one (Err failure.NoMemory) before after = ⊤
EndsLocal told one (Err failure.Depot) before after = IsMade told one after
EndsLocal told one (Err (failure.Input broken)) before after = ⊥
EndsLocal told one (Err failure.Flash) before after = IsUnmade one before after

-- the inputs that the files spell, and the words
abbrev pub subject_of : WholeInput → Local → Subject
subject_of input words =
    subject input.schema (database_of input.schema input.files) (texts_of input.script) words

-- the files spell inputs, and over these the call ended so
pub record EndsSpelledLocal (told : Bool) (opening : Opening WholeInput) (words : Local) (result : Result LocalRun LocalFailure) (before after : Outside) : Type 0 where
  pub input : WholeInput
  pub spelled : opening ≡ Spelled input
  pub ended : EndsLocal told (subject_of input words) result before after

-- how a call ended of which the depot tells its files
abbrev pub EndsLocalCall : (told : Bool) → Opening WholeInput → Local → Result LocalRun LocalFailure → (before after : Outside) → Type 0
EndsLocalCall told opening words (Ok run) before after = EndsSpelledLocal told opening words (Ok run) before after
EndsLocalCall told opening words (Err failure.NoMemory) before after =
    LeavesBoth before after ⊎ EndsSpelledLocal told opening words (Err failure.NoMemory) before after
EndsLocalCall told opening words (Err failure.Depot) before after =
    LeavesBoth before after ⊎ EndsSpelledLocal told opening words (Err failure.Depot) before after
EndsLocalCall told opening words (Err (failure.Input broken)) before after = opening ≡ Broken (rule_of broken)
EndsLocalCall told opening words (Err failure.Flash) before after = EndsSpelledLocal told opening words (Err failure.Flash) before after

-- the names and the value that a broken rule of a table's file shows are those of the files
abbrev pub ShowsNames : Files → (schema folder : List ℕ) → Result LocalRun LocalFailure → Type 0
ShowsNames files schema folder (Err (failure.Input broken)) = IsShownIn files schema folder broken
ShowsNames files schema folder _ = ⊤

-- some inputs were read, and over these the call ended so
pub record EndsReadLocal (told : Bool) (words : Local) (result : Result LocalRun LocalFailure) (before after : Outside) : Type 0 where
  pub schema : Schema
  pub database : Database
  pub texts : List (List ℕ)
  pub are : IsDatabase schema database
  pub ended : EndsLocal told (subject schema database texts words) result before after

-- how a call ended, whether or not the depot tells its files
abbrev pub EndsSomeLocal : (told : Bool) → Local → Result LocalRun LocalFailure → (before after : Outside) → Type 0
EndsSomeLocal told words (Ok run) before after = EndsReadLocal told words (Ok run) before after
EndsSomeLocal told words (Err failure.NoMemory) before after =
    LeavesBoth before after ⊎ EndsReadLocal told words (Err failure.NoMemory) before after
EndsSomeLocal told words (Err failure.Depot) before after =
    LeavesBoth before after ⊎ EndsReadLocal told words (Err failure.Depot) before after
EndsSomeLocal told words (Err (failure.Input broken)) before after = ⊤
EndsSomeLocal told words (Err failure.Flash) before after = EndsReadLocal told words (Err failure.Flash) before after

-- whether a call ends so before the session, and so without a write to the sink and without an append
abbrev pub is_failure : Result LocalRun LocalFailure → Bool
is_failure (Ok run) = false
is_failure (Err _) = true

-- whether a call ends so before the journal's file is begun
abbrev pub leaves_files : Result LocalRun LocalFailure → Bool
leaves_files (Ok run) = false
leaves_files (Err failure.Depot) = false
leaves_files _ = true

-- whether a call ends so before the flash is made
abbrev pub leaves_flash : Result LocalRun LocalFailure → Bool
leaves_flash (Err (failure.Input broken)) = true
leaves_flash _ = false

-- what an outcome tells of the counts of faults of the sink, the depot, its appends and the flash. Before the session it is the
-- depot where a file could not be read, or the journal's not be begun, and the flash where it could not be made or written.
abbrev pub told_by : Result LocalRun LocalFailure → Verdicts
told_by (Ok run) = told_by_end run.end
told_by (Err failure.NoMemory) = verdicts Same Same Same Same
told_by (Err failure.Depot) = verdicts Same Risen Same Same
told_by (Err (failure.Input broken)) = verdicts Same Same Same Same
told_by (Err failure.Flash) = verdicts Same Same Same Risen

-- whether unbroken inputs and no fault can end so: damage only where the flash does not tell its pages
abbrev pub is_faultless_end : (told : Bool) → LocalEnd → Bool
is_faultless_end told ends.Ok = true
is_faultless_end told (ends.Damaged damage) = not told
is_faultless_end told _ = false

abbrev pub is_faultless : (told : Bool) → Result LocalRun LocalFailure → Bool
is_faultless told (Ok run) = is_faultless_end told run.end
is_faultless told (Err failure.NoMemory) = true
is_faultless told _ = false
