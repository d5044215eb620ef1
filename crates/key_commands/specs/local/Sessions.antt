-- What a session with a host in the key's own process does: it goes by the one journal of its database and its texts, keeps
-- that journal where a file is named for it, and gives each text's lines.
use Rattle.std.specs.Prelude.{◌≡◌, ℕ, ◌+◌, ◌≤◌, Bool, true, false, List, [], length, slice_get, Option, None, Some, ⊤}
use Rattle.std.specs.List.{list_any}
use Rattle.ghost_model.specs.core.Causes.{Rose}
use Rattle.ghost_model.specs.core.Channel.{Catalog, Journal}
use Rattle.ghost_model.specs.core.Database.{row_counts}
use Rattle.ghost_model.specs.forms.Catalog.{current_version}
use Rattle.ghost_model.specs.forms.Flash.{Holds}
use Rattle.ghost_model.specs.forms.Layout.{need}
use Rattle.ghost_model.specs.core.Moves.{lines}
use Rattle.ghost_model.specs.core.NextMove.{IsFinished}
use Rattle.ghost_model.specs.core.Printed.{printed}
use Rattle.ghost_model.specs.core.Schema.{Schema}
use Rattle.ghost_model.specs.core.Split.{hidden_of}
use Rattle.ghost_model.specs.core.Values.{Database}
use Rattle.flash_build.specs.Building.{load_calls}
use Rattle.session_laws.specs.Local.{IsLocal}
use Rattle.edge_traits.specs.Devices.{Device, Counts}
use Rattle.edge_traits.specs.Files.{Files, HasFile, SameBut}
use Rattle.edge_traits.specs.Written.{grown}
use Rattle.leakless_plan.specs.declared.plan.Plan.{Plan}
use Rattle.key_exec.specs.Plans.{by_pre}
use Rattle.key_session.specs.Calls.{session_calls}
use Rattle.key_session.specs.Damages.{IsFirstDamaged, IsSlotOf, WasRead}
use Rattle.key_exec.specs.declared.damage.Damage.{Damage}
use Rattle.ghost_model.specs.core.Lines.{Reason}
use Rattle.key_lines.specs.Handing.{handed}
use Rattle.key_lines.specs.Told.{AreTold}
use Rattle.key_lines.specs.declared.told.ToldText.{ToldText}
use Rattle.key_session.specs.Counting.{is_flash, is_damage}
use Rattle.key_session.specs.Reasons.{HaveReasons, HaveLines}
use Rattle.key_session.specs.Telling.{SessionSide, session_side}
use Rattle.key_inputs.specs.Outside.{Outside, Verdicts, Risen, Same, Untold, verdicts}
use Rattle.key_words.specs.Words.{Local}
use Rattle.key_commands.specs.local.Lines.{Gives, is_cut, lines_in}
use Rattle.key_commands.specs.declared.local.ends.LocalEnd.{LocalEnd}
use Rattle.key_commands.specs.declared.local.ends.LocalEnd.TheVariants as ends

-- a database of a schema, the texts of a script, and the words of the command, which name the files
pub record Subject : Type 0 where
  pub schema : Schema
  pub database : Database
  pub texts : List (List ℕ)
  pub words : Local

abbrev pub subject : Schema → Database → (texts : List (List ℕ)) → Local → Subject
subject schema database texts words =
    record { schema = schema; database = database; texts = texts; words = words }

-- the catalog of the first generation, of the version that is made
abbrev pub catalog_for : Schema → Database → Catalog
catalog_for schema database = record { schema = schema; counts = row_counts database; generation = 1; version = current_version }

abbrev pub catalog_in : Subject → Catalog
catalog_in one = catalog_for one.schema one.database

-- where the lines go, and the flash, after a write failed or before
abbrev pub session_side_in : (failed : Bool) → Outside → SessionSide
session_side_in failed now = session_side failed now.sink_faults now.written now.device

abbrev pub is_sink : LocalEnd → Bool
is_sink ends.Sink = true
is_sink _ = false

abbrev pub is_damaged : LocalEnd → Bool
is_damaged (ends.Damaged damage) = true
is_damaged _ = false

-- what an end tells of the counts of faults of the sink, the depot, its appends and the flash: behind `Sink`, which is told first,
-- an append and a call on the flash may have failed too, and behind `Depot` one on the flash
abbrev pub told_by_end : LocalEnd → Verdicts
told_by_end ends.Ok = verdicts Same Same Same Same
told_by_end ends.Sink = verdicts Risen Untold Untold Untold
told_by_end ends.Depot = verdicts Same Risen Risen Untold
told_by_end ends.Flash = verdicts Same Same Same Risen
told_by_end (ends.Damaged damage) = verdicts Same Same Same Same

-- the file that is named for it has the lines of a journal and no more, where the depot tells its files
abbrev pub HasLines : Option Files → (name : Option (List ℕ)) → Journal → Type 0
HasLines files None journal = ⊤
HasLines files (Some name) journal = HasFile files name (lines journal)

-- the files stay but for the one that is named
abbrev pub SameBesides : (name : Option (List ℕ)) → (before after : Option Files) → Type 0
SameBesides None before after = after ≡ before
SameBesides (Some name) before after = SameBut name before after

-- what an end tells of the reasons for the lines of the texts; behind `Sink` and `Depot`, which are told first, these may be any
abbrev pub TellsReasons : LocalEnd → (reasons : List Reason) → Type 0
TellsReasons ends.Ok reasons = (list_any is_flash reasons ≡ false) × (list_any is_damage reasons ≡ false)
TellsReasons ends.Sink reasons = ⊤
TellsReasons ends.Depot reasons = ⊤
TellsReasons ends.Flash reasons = list_any is_flash reasons ≡ true
TellsReasons (ends.Damaged damage) reasons = (list_any is_flash reasons ≡ false) × (list_any is_damage reasons ≡ true)

-- of texts with these reasons, the first that damage ended has this damaged slot, which is read for it and which the session read for
-- it, from so many calls on
pub record IsFirstSlot (by : Plan) (told : Bool) (page : ℕ → List ℕ) (since : ℕ) (device : Device) (catalog : Catalog) (texts : List (List ℕ)) (reasons : List Reason) (damage : Damage) : Type 0 where
  pub place : ℕ
  pub first : IsFirstDamaged reasons place
  pub slot : IsSlotOf by told page catalog texts place damage
  pub read : WasRead by told since device catalog texts place damage

-- for each of them that damage ended the session read a damaged slot so
abbrev pub HaveSlots : (by : Plan) (told : Bool) (since : ℕ) → Device → Catalog → (texts : List (List ℕ)) → (reasons : List Reason) → Type 0
HaveSlots by told since device catalog texts reasons =
    (place : ℕ) (reason : Reason) → slice_get reasons place ≡ Some reason → is_damage reason ≡ true
    → (damage : Damage) × WasRead by told since device catalog texts place damage

-- a session was held to its end
pub record Ran (told : Bool) (one : Subject) (end : LocalEnd) (before after : Outside) (entries : List ToldText) : Type 0 where
  pub journal : Journal
  pub is_local : IsLocal (catalog_in one) one.database [] one.texts journal
  pub finished : IsFinished journal
  -- before it, where its output was that of before the command
  pub since : SessionSide
  pub same_output : since.sink ≡ handed false before.sink_faults before.written
  -- it began after the calls of the making
  pub begun : Counts (load_calls (catalog_in one) (hidden_of one.schema one.database)) before.device.calls since.flash.calls
  -- where no append failed, the journal is kept
  pub kept : (Rose before.append_faults after.append_faults → ⊥) → HasLines after.files one.words.journal journal
  -- and so it is where all went well
  pub all_kept : end ≡ ends.Ok → HasLines after.files one.words.journal journal
  -- each text has a reason that the journal allows, whatever the pages of the flash hold, and the lines of it, which were handed to the sink
  pub reasons : HaveReasons (catalog_in one) one.texts journal (length one.texts) (λ reasons. TellsReasons end reasons) before.device.faults after.device.faults
  pub lines : HaveLines (catalog_in one) one.texts journal reasons.reasons (handed false before.sink_faults before.written) (handed (is_sink end) after.sink_faults after.written)
  -- each text is told by these lines
  pub are_told : AreTold one.schema one.texts lines.lines entries
  -- each text has its lines, or a front of them where the flash failed
  pub gives : told ≡ true → Gives one.schema one.database one.texts (session_side_in false before) (session_side_in (is_sink end) after)
  -- they are the same lines
  pub same : (t : told ≡ true) → lines_in (gives t).given ≡ lines.lines
  pub printed_all : told ≡ true → end ≡ ends.Ok → after.written ≡ grown before.written (printed one.schema one.texts one.database)
  -- by the plan `pre`, where the flash does not fail, it is called no more often than the making and the texts take
  pub few_calls : told ≡ true → one.words.plan ≡ by_pre → (Rose before.device.faults after.device.faults → ⊥)
      → after.device.calls ≤ before.device.calls + (load_calls (catalog_in one) (hidden_of one.schema one.database) + session_calls one.schema one.database one.texts)
  -- the flash is blamed only where it failed a text
  pub cut : (t : told ≡ true) → end ≡ ends.Flash → list_any is_cut (gives t).given ≡ true
  -- and by a call of the session, after those of the making
  pub more_calls : end ≡ ends.Flash → Rose (before.device.calls + load_calls (catalog_in one) (hidden_of one.schema one.database)) after.device.calls
  -- and so is a slot
  pub damage_called : is_damaged end ≡ true → Rose (before.device.calls + load_calls (catalog_in one) (hidden_of one.schema one.database)) after.device.calls
  -- where the pages are told none is
  pub undamaged : told ≡ true → is_damaged end ≡ false
  -- it is that of the first text that damage ended: where all rows are looked at one of a hidden column, which has no value of it; by the
  -- indexes, where what the pages are of is known, a damaged one of a file that is read for this text; and the session read it there for
  -- this text
  pub damaged : (damage : Damage) → end ≡ ends.Damaged damage → IsFirstSlot one.words.plan told after.device.page since.flash.calls after.device (catalog_in one) one.texts reasons.reasons damage
  -- and so it read one for each text that damage ended, whatever the end
  pub damage_read : HaveSlots one.words.plan told since.flash.calls after.device (catalog_in one) one.texts reasons.reasons
  -- and the flash has been made for it, under the name that the words say
  pub name : after.device.name ≡ Some one.words.flash
  pub holds : told ≡ true → Holds after.device.page (catalog_in one) (hidden_of one.schema one.database)
  pub pages : after.device.page_count ≡ need (catalog_in one)
