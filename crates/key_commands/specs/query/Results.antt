-- What a call of `query` did, by its result.
use Rattle.std.specs.Prelude.{◌≡◌, ℕ, ◌≤◌, ◌<◌, Bool, true, false, List, [], length, Option, Some, Result, Ok, Err, ⊤}
use Rattle.ghost_model.specs.core.Causes.{Rose}
use Rattle.ghost_model.specs.core.Channel.{Catalog, Journal}
use Rattle.ghost_model.specs.forms.Catalog.{IsCurrent}
use Rattle.ghost_model.specs.forms.Layout.{static_end, scratch_end, need}
use Rattle.ghost_model.specs.core.Texts.{texts_of}
use Rattle.edge_traits.specs.Devices.{Device, pages_under, ChangesOnly}
use Rattle.edge_traits.specs.Files.{Files}
use Rattle.key_words.specs.Words.{Query}
use Rattle.key_inputs.specs.Openings.{Spelled, Broken}
use Rattle.key_inputs.specs.Outside.{Outside, Verdicts, Risen, Same, Untold, verdicts}
use Rattle.key_inputs.specs.Scripts.{script_opening}
use Rattle.key_inputs.specs.Views.{rule_of}
use Rattle.key_session.specs.Answering.{AnswersWhereSound}
use Rattle.key_exec.specs.Rows.{PrintsSome}
use Rattle.key_session.specs.Running.{HasRun, is_sink, blames_flash, is_damaged}
use Rattle.key_session.specs.Telling.{SessionSide, session_side}
use Rattle.key_session.specs.declared.tally.SessionStatus.{SessionStatus}
use Rattle.key_session.specs.declared.tally.SessionStatus.TheVariants as status
use Rattle.key_session.specs.declared.tally.Tally.{Tally}
use Rattle.key_migrate.specs.Devices.{KeepsNamed}
use Rattle.key_commands.specs.query.Openings.{IsScript}
use Rattle.key_commands.specs.query.PublicPages.{HasCatalog, HasNoCatalog}
use Rattle.key_commands.specs.declared.query.failures.QueryFailure.{QueryFailure}
use Rattle.key_commands.specs.declared.query.failures.QueryFailure.TheVariants as failure

-- the flash as it was opened under that name, before the first move: its pages are those that were under the name, and the devices of
-- all other names have theirs; no fault was met, and no deep page was read
pub record Opens (told : Bool) (flash : List ℕ) (before opened : Device) : Type 0 where
  pub name : opened.name ≡ Some flash
  pub page : told ≡ true → opened.page ≡ pages_under before flash
  pub kept : KeepsNamed told before opened
  pub faults : opened.faults ≡ before.faults
  pub deep_reads : opened.deep_reads ≡ before.deep_reads

-- what a session changes, before it and after it: the sink, and the flash, which is opened for it
abbrev pub side_since : Outside → (opened : Device) → SessionSide
side_since before opened = session_side false before.sink_faults before.written opened

abbrev pub side_now : Tally → Outside → SessionSide
side_now tally after = session_side (is_sink tally.status) after.sink_faults after.written after.device

-- a session ran, over the script and over the catalog of the flash; the link counted so many failed calls before it and
-- after it
pub record Runs (goes : Journal → Type 0) (link_before link_now : ℕ) (told : Bool) (words : Query) (before after : Outside) (tally : Tally) : Type 0 where
  pub opened : Device
  pub opens : Opens told words.flash before.device opened
  pub cat : Catalog
  pub current : IsCurrent cat
  pub catalog : told ≡ true → HasCatalog opened cat
  pub enough : need cat ≤ opened.page_count
  pub script : List ℕ
  pub is_script : IsScript before.files words.script script
  -- a slot that the status names as damaged is that of the first text that damage ended; for each text that damage ended the session read
  -- one that is read for it (`reasons`, `damage_read`)
  pub ran : HasRun goes link_before link_now words.plan told cat words.to (texts_of script) (side_since before opened) (side_now tally after) tally
  pub answered : AnswersWhereSound words.plan told cat (texts_of script) ran.journal (side_since before opened) (side_now tally after) tally
  pub texts : tally.texts ≡ length (texts_of script)
  pub prints : PrintsSome (side_since before opened).sink (side_now tally after).sink
  -- only pages of the spool and of scratch changed, behind the static ones
  pub kept : ChangesOnly (static_end cat) (scratch_end cat) opened after.device
  -- the flash is blamed only for a call of the session, and so is a slot of it
  pub called : blames_flash tally.status ≡ true → Rose opened.calls after.device.calls
  pub damage_called : is_damaged tally.status ≡ true → Rose opened.calls after.device.calls

-- no session ran: no move was made, nothing was printed, no page changed, and no deep one was read
pub record IsUnbegun (goes : Journal → Type 0) (link_before link_now : ℕ) (told : Bool) (before after : Outside) : Type 0 where
  pub no_move : goes []
  pub link_left : link_now ≡ link_before
  pub nothing_written : after.written ≡ before.written
  pub no_deep_read : after.device.deep_reads ≡ before.device.deep_reads
  pub kept : KeepsNamed told before.device after.device

-- what the flash was opened for changed no page, and read no deep one; its count of faults did not fall
pub record KeepsDeep (told : Bool) (before after : Device) : Type 0 where
  pub kept : KeepsNamed told before after
  pub deep_reads : after.deep_reads ≡ before.deep_reads
  pub never_falls : before.faults ≤ after.faults

-- what an outcome tells of the counts of faults of the sink, the depot, its appends and the flash: of a session, where another
-- status comes first the flash may have failed too
abbrev pub told_by_status : SessionStatus → Verdicts
told_by_status status.Ok = verdicts Same Same Same Same
told_by_status status.Sink = verdicts Risen Same Same Untold
told_by_status status.Link = verdicts Same Same Same Untold
told_by_status (status.Protocol kind at) = verdicts Same Same Same Untold
told_by_status (status.Host code) = verdicts Same Same Same Untold
told_by_status status.Flash = verdicts Same Same Same Risen
told_by_status (status.Damaged damage) = verdicts Same Same Same Same

-- of an opening that failed
abbrev pub told_by_failure : QueryFailure → Verdicts
told_by_failure failure.NoMemory = verdicts Same Same Same Same
told_by_failure failure.Depot = verdicts Same Risen Same Same
told_by_failure (failure.Input broken) = verdicts Same Same Same Same
told_by_failure failure.Flash = verdicts Same Same Same Risen
told_by_failure failure.NotAKey = verdicts Same Same Same Same
told_by_failure (failure.TooSmall needed had) = verdicts Same Same Same Same

abbrev pub told_by_opening : {T : Type 0} → Result T QueryFailure → Verdicts
told_by_opening (Ok _) = verdicts Same Same Same Same
told_by_opening (Err fault) = told_by_failure fault

abbrev pub told_by : Result Tally QueryFailure → Verdicts
told_by (Ok tally) = told_by_status tally.status
told_by (Err fault) = told_by_failure fault

-- the script's file keeps every rule
abbrev pub HasScript : Option Files → (name : List ℕ) → Type 0
HasScript contents name =
    (files : Files) → contents ≡ Some files → (script : List ℕ) × (script_opening files name ≡ Spelled script)

-- what a failure tells of the script: it comes before the flash
abbrev pub TellsScript : Option Files → (name : List ℕ) → QueryFailure → Type 0
TellsScript contents name failure.NoMemory = ⊤
TellsScript contents name failure.Depot = ⊤
TellsScript contents name (failure.Input broken) =
    (files : Files) → contents ≡ Some files → script_opening files name ≡ Broken (rule_of broken)
TellsScript contents name failure.Flash = HasScript contents name
TellsScript contents name failure.NotAKey = HasScript contents name
TellsScript contents name (failure.TooSmall needed had) = HasScript contents name

-- the flash was opened under that name, and its pages begin with no catalog of the version that is made
pub record IsNoKey (told : Bool) (flash : List ℕ) (device : Device) : Type 0 where
  pub name : device.name ≡ Some flash
  pub none : told ≡ true → HasNoCatalog device

-- the flash was opened under that name, and has fewer pages than its catalog needs
pub record IsTooSmall (told : Bool) (flash : List ℕ) (device : Device) (needed had : ℕ) : Type 0 where
  pub name : device.name ≡ Some flash
  pub cat : Catalog
  pub current : IsCurrent cat
  pub catalog : told ≡ true → HasCatalog device cat
  pub needs : needed ≡ need cat
  pub has : had ≡ device.page_count
  pub less : had < needed

-- what a failure tells of the flash, which was to be opened under that name
abbrev pub TellsFlash : (told : Bool) → (flash : List ℕ) → Device → QueryFailure → Type 0
TellsFlash told flash device failure.NotAKey = IsNoKey told flash device
TellsFlash told flash device (failure.TooSmall needed had) = IsTooSmall told flash device needed had
TellsFlash told flash device _ = ⊤

-- whether words that are accepted, a script that keeps every rule, pages that begin with a catalog and no fault can end so
abbrev pub is_faultless : {T : Type 0} → Result T QueryFailure → Bool
is_faultless (Ok _) = true
is_faultless (Err failure.NoMemory) = true
is_faultless (Err (failure.TooSmall needed had)) = true
is_faultless _ = false

-- the failures of the flash's part of an opening
abbrev pub IsOfFlash : QueryFailure → Type 0
IsOfFlash failure.Depot = ⊥
IsOfFlash (failure.Input broken) = ⊥
IsOfFlash _ = ⊤

-- whether a failure is of a flash that was opened, and so comes only once it was called
abbrev pub is_of_opened_flash : QueryFailure → Bool
is_of_opened_flash failure.Flash = true
is_of_opened_flash failure.NotAKey = true
is_of_opened_flash (failure.TooSmall needed had) = true
is_of_opened_flash _ = false

-- whether a failure is of the script, which comes before the flash
abbrev pub is_of_script : QueryFailure → Bool
is_of_script failure.Depot = true
is_of_script (failure.Input broken) = true
is_of_script _ = false
