-- What a call of `load` did, by its result.
use Rattle.std.specs.Prelude.{◌≡◌, ◌⊎◌, ℕ, ◌≤◌, ◌<◌, Bool, true, false, List, Option, Some, Result, Ok, Err, ⊤}
use Rattle.ghost_model.specs.core.Channel.{Catalog}
use Rattle.ghost_model.specs.core.Database.{IsDatabase, database_of}
use Rattle.ghost_model.specs.forms.Flash.{HoldsFiles, Holds}
use Rattle.ghost_model.specs.forms.Layout.{need}
use Rattle.ghost_model.specs.core.Schema.{Schema}
use Rattle.ghost_model.specs.core.Split.{public_of, hidden_of, image}
use Rattle.ghost_model.specs.core.Values.{Database}
use Rattle.edge_traits.specs.Devices.{Device}
use Rattle.edge_traits.specs.Files.{Files, with_file}
use Rattle.key_inputs.specs.Naming.{IsShownIn}
use Rattle.edge_traits.specs.Written.{grown, GrowsByFront}
use Rattle.flash_build.specs.Sealing.{SpellsNoCatalog}
use Rattle.key_inputs.specs.Openings.{Opening, Spelled, Broken, TablesInput}
use Rattle.key_inputs.specs.Outside.{Outside, Verdicts, Risen, Same, verdicts}
use Rattle.key_inputs.specs.Views.{rule_of}
use Rattle.key_words.specs.Words.{Load}
use Rattle.key_load.specs.Loadings.{catalog_for, pages_for, loaded_line}
use Rattle.key_load.specs.declared.failures.LoadFailure.{LoadFailure}
use Rattle.key_load.specs.declared.failures.LoadFailure.TheVariants as failure

-- what is to be loaded, and where to
pub record Loading : Type 0 where
  pub schema : Schema
  pub database : Database
  pub words : Load

abbrev pub loading : Schema → Database → Load → Loading
loading schema database words = record { schema = schema; database = database; words = words }

abbrev pub catalog_in : Loading → Catalog
catalog_in one = catalog_for one.schema one.database

abbrev pub pages_in : Loading → ℕ
pages_in one = pages_for (catalog_in one) one.words.blocks

-- the host's file is the image of the public part
abbrev pub HasHostFile : Loading → (before after : Outside) → Type 0
HasHostFile one before after =
    after.files
    ≡ with_file before.files one.words.visible (image (catalog_in one) (public_of one.schema one.database))

-- the flash was to have fewer pages than are needed
pub record IsTooSmall (cat : Catalog) (pages : ℕ) (needed had : ℕ) : Type 0 where
  pub needs : needed ≡ need cat
  pub has : had ≡ pages
  pub less : had < needed

-- the names and the value that a broken rule of a table's file shows are those of the files
abbrev pub ShowsNames : {T : Type 0} → Files → (schema folder : List ℕ) → Result T LoadFailure → Type 0
ShowsNames files schema folder (Err (failure.Input broken)) = IsShownIn files schema folder broken
ShowsNames files schema folder _ = ⊤

-- flash and files are as before
pub record LeavesBoth (before after : Outside) : Type 0 where
  pub device : after.device ≡ before.device
  pub files : after.files ≡ before.files

-- the flash was to be large enough, and the files of the hidden part stand on it
pub record Builds (told : Bool) (one : Loading) (after : Outside) : Type 0 where
  pub enough : need (catalog_in one) ≤ pages_in one
  pub name : after.device.name ≡ Some one.words.flash
  pub pages : after.device.page_count ≡ pages_in one
  pub holds : told ≡ true → HoldsFiles after.device.page (catalog_in one) (hidden_of one.schema one.database)

-- both ends' files stand
pub record Stands (told : Bool) (one : Loading) (before after : Outside) : Type 0 where
  pub name : after.device.name ≡ Some one.words.flash
  pub holds : told ≡ true → Holds after.device.page (catalog_in one) (hidden_of one.schema one.database)
  pub pages : after.device.page_count ≡ pages_in one
  pub enough : need (catalog_in one) ≤ pages_in one
  pub file : HasHostFile one before after

-- they stand, and the line was printed
pub record Loads (told : Bool) (one : Loading) (before after : Outside) : Type 0 where
  pub stands : Stands told one before after
  pub printed : after.written ≡ grown before.written (loaded_line (catalog_in one) (pages_in one))

-- they stand, and no more than a front of the line was printed
pub record LoadsUnprinted (told : Bool) (one : Loading) (before after : Outside) : Type 0 where
  pub stands : Stands told one before after
  pub front : GrowsByFront before.written (loaded_line (catalog_in one) (pages_in one)) after.written

-- the host's file is written where the files of the hidden part stand
pub record WritesFile (told : Bool) (one : Loading) (before after : Outside) : Type 0 where
  pub builds : Builds told one after
  pub file : HasHostFile one before after

-- the flash failed: it was to be large enough, the files are as before or have the host's file, and where page 0 was begun
-- the files of both ends stand
pub record LeavesUnsealed (told : Bool) (one : Loading) (before after : Outside) : Type 0 where
  pub enough : need (catalog_in one) ≤ pages_in one
  pub files : (after.files ≡ before.files) ⊎ WritesFile told one before after
  pub file : 0 < after.device.page_count → after.device.blank 0 ≡ false → HasHostFile one before after
  pub holds :
      0 < after.device.page_count → after.device.blank 0 ≡ false → told ≡ true
      → HoldsFiles after.device.page (catalog_in one) (hidden_of one.schema one.database)

-- how a loading of tables that were read ended
abbrev pub EndsLoading : {T : Type 0} → (told : Bool) → Loading → Result T LoadFailure → (before after : Outside) → Type 0
EndsLoading told one (Ok _) before after = Loads told one before after
EndsLoading told one (Err failure.NoMemory) before after =
    LeavesBoth before after ⊎ (need (catalog_in one) ≤ pages_in one)
EndsLoading told one (Err failure.Depot) before after = Builds told one after
EndsLoading told one (Err (failure.Input broken)) before after = ⊥
EndsLoading told one (Err (failure.TooSmall needed had)) before after =
    IsTooSmall (catalog_in one) (pages_in one) needed had
EndsLoading told one (Err failure.Flash) before after = LeavesUnsealed told one before after
EndsLoading told one (Err failure.Sink) before after = LoadsUnprinted told one before after

-- the files spell tables, whose loading ended so
pub record EndsSpelledLoad {T : Type 0} (told : Bool) (opening : Opening TablesInput) (words : Load) (result : Result T LoadFailure) (before after : Outside) : Type 0 where
  pub input : TablesInput
  pub spelled : opening ≡ Spelled input
  pub ended :
      EndsLoading told (loading input.schema (database_of input.schema input.files) words) result before after

-- how a call ended of which the depot tells its files
abbrev pub EndsLoadCall : {T : Type 0} → (told : Bool) → Opening TablesInput → Load → Result T LoadFailure → (before after : Outside) → Type 0
EndsLoadCall told opening words (Ok done) before after = EndsSpelledLoad told opening words (Ok done) before after
EndsLoadCall {T = T} told opening words (Err failure.NoMemory) before after =
    LeavesBoth before after ⊎ EndsSpelledLoad {T = T} told opening words (Err failure.NoMemory) before after
EndsLoadCall {T = T} told opening words (Err failure.Depot) before after =
    LeavesBoth before after ⊎ EndsSpelledLoad {T = T} told opening words (Err failure.Depot) before after
EndsLoadCall told opening words (Err (failure.Input broken)) before after = opening ≡ Broken (rule_of broken)
EndsLoadCall {T = T} told opening words (Err (failure.TooSmall needed had)) before after =
    EndsSpelledLoad {T = T} told opening words (Err (failure.TooSmall needed had)) before after
EndsLoadCall {T = T} told opening words (Err failure.Flash) before after = EndsSpelledLoad {T = T} told opening words (Err failure.Flash) before after
EndsLoadCall {T = T} told opening words (Err failure.Sink) before after = EndsSpelledLoad {T = T} told opening words (Err failure.Sink) before after

-- some database was read, whose loading ended so
pub record EndsReadLoad {T : Type 0} (told : Bool) (words : Load) (result : Result T LoadFailure) (before after : Outside) : Type 0 where
  pub schema : Schema
  pub database : Database
  pub are : IsDatabase schema database
  pub ended : EndsLoading told (loading schema database words) result before after

-- how a call ended, whether or not the depot tells its files
abbrev pub EndsSomeLoad : {T : Type 0} → (told : Bool) → Load → Result T LoadFailure → (before after : Outside) → Type 0
EndsSomeLoad told words (Ok done) before after = EndsReadLoad told words (Ok done) before after
EndsSomeLoad {T = T} told words (Err failure.NoMemory) before after =
    LeavesBoth before after ⊎ EndsReadLoad {T = T} told words (Err failure.NoMemory) before after
EndsSomeLoad {T = T} told words (Err failure.Depot) before after =
    LeavesBoth before after ⊎ EndsReadLoad {T = T} told words (Err failure.Depot) before after
EndsSomeLoad told words (Err (failure.Input broken)) before after = ⊤
EndsSomeLoad {T = T} told words (Err (failure.TooSmall needed had)) before after =
    EndsReadLoad {T = T} told words (Err (failure.TooSmall needed had)) before after
EndsSomeLoad {T = T} told words (Err failure.Flash) before after = EndsReadLoad {T = T} told words (Err failure.Flash) before after
EndsSomeLoad {T = T} told words (Err failure.Sink) before after = EndsReadLoad {T = T} told words (Err failure.Sink) before after

-- what an outcome tells of the counts of faults of the sink, the depot, its appends and the flash
abbrev pub told_by : {T : Type 0} → Result T LoadFailure → Verdicts
told_by (Ok _) = verdicts Same Same Same Same
told_by (Err failure.NoMemory) = verdicts Same Same Same Same
told_by (Err failure.Depot) = verdicts Same Risen Same Same
told_by (Err (failure.Input broken)) = verdicts Same Same Same Same
told_by (Err (failure.TooSmall needed had)) = verdicts Same Same Same Same
told_by (Err failure.Flash) = verdicts Same Same Same Risen
told_by (Err failure.Sink) = verdicts Risen Same Same Same

-- whether a call ends so without a write to the sink
abbrev pub writes_nothing : {T : Type 0} → Result T LoadFailure → Bool
writes_nothing (Ok _) = false
writes_nothing (Err failure.Sink) = false
writes_nothing _ = true

-- whether a call ends so before the flash is made
abbrev pub makes_nothing : {T : Type 0} → Result T LoadFailure → Bool
makes_nothing (Err (failure.Input broken)) = true
makes_nothing (Err (failure.TooSmall needed had)) = true
makes_nothing _ = false

-- whether a call ends so before the host's file is written
abbrev pub leaves_file : {T : Type 0} → Result T LoadFailure → Bool
leaves_file (Err failure.NoMemory) = true
leaves_file (Err (failure.Input broken)) = true
leaves_file (Err (failure.TooSmall needed had)) = true
leaves_file _ = false

-- whether a call ends so before page 0 of the flash is written
abbrev pub leaves_page_0 : {T : Type 0} → Result T LoadFailure → Bool
leaves_page_0 (Ok _) = false
leaves_page_0 (Err failure.Flash) = false
leaves_page_0 (Err failure.Sink) = false
leaves_page_0 _ = true

-- page 0 of a device that was made is blank
abbrev pub HasBlankPage0 : Device → Type 0
HasBlankPage0 device = 0 < device.page_count → device.blank 0 ≡ true

-- whether words that are accepted, an unbroken input and no fault can end so
abbrev pub is_faultless : {T : Type 0} → Result T LoadFailure → Bool
is_faultless (Ok _) = true
is_faultless (Err failure.NoMemory) = true
is_faultless (Err (failure.TooSmall needed had)) = true
is_faultless _ = false

-- as long as page 0 is blank, the pages of a device that was made spell no catalog
abbrev pub IsUnsealed : (told : Bool) → Device → Type 0
IsUnsealed told device = 0 < device.page_count → told ≡ true → device.blank 0 ≡ true → SpellsNoCatalog device.page

-- the parts of a loading end so

abbrev pub TellsBlocks : Catalog → (asked : Option ℕ) → LoadFailure → Type 0
TellsBlocks cat asked (failure.TooSmall needed had) = IsTooSmall cat (pages_for cat asked) needed had
TellsBlocks cat asked _ = ⊥

abbrev pub TellsPreparing : Catalog → (asked : Option ℕ) → LoadFailure → Type 0
TellsPreparing cat asked failure.NoMemory = ⊤
TellsPreparing cat asked (failure.TooSmall needed had) = IsTooSmall cat (pages_for cat asked) needed had
TellsPreparing cat asked _ = ⊥

abbrev pub IsOfMaking : {T : Type 0} → Result T LoadFailure → Type 0
IsOfMaking (Err (failure.Input broken)) = ⊥
IsOfMaking (Err (failure.TooSmall needed had)) = ⊥
IsOfMaking (Err failure.Sink) = ⊥
IsOfMaking _ = ⊤

abbrev pub IsOfWriting : {T : Type 0} → Result T LoadFailure → Type 0
IsOfWriting (Ok _) = ⊤
IsOfWriting (Err failure.Depot) = ⊤
IsOfWriting (Err failure.Flash) = ⊤
IsOfWriting _ = ⊥
