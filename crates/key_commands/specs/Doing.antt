-- What each command did, by its words and its outcome: all that it answers for, from what it found to what it left.
use Rattle.std.specs.Prelude.{◌≡◌, ◌≤◌, ◌⊎◌, ℕ, Bool, true, min, List, Some, Result, Ok, Err, IfOk, IfErr, OnErr}
use Rattle.ghost_model.specs.core.Causes.{Rose, last_count}
use Rattle.ghost_model.specs.core.Channel.{Catalog, Journal}
use Rattle.edge_traits.specs.Files.{Files, SameBut}
use Rattle.key_words.specs.Words.{Plain, Load, Local, Query, Gen}
use Rattle.key_inputs.specs.Openings.{Spelled, TablesInput, tables_opening}
use Rattle.key_inputs.specs.Outside.{Outside, HasCauses}
use Rattle.key_inputs.specs.Scripts.{script_opening}
use Rattle.key_lines.specs.declared.told.ToldText.{ToldText}
use Rattle.key_session.specs.declared.tally.Tally.{Tally}
use Rattle.key_inputs.specs.Whole.{WholeInput}
use Rattle.key_plain.specs.Openings.{plain_opening}
use Rattle.key_plain.specs.Views as plains
use Rattle.key_plain.specs.declared.faults.PlainFault.{PlainFault}
use Rattle.key_plain.specs.declared.faults.PlainFault.TheVariants as plain_fault
use Rattle.key_load.specs.Results as loads
use Rattle.key_load.specs.declared.failures.LoadFailure.{LoadFailure}
use Rattle.key_migrate.specs.Devices.{KeepsOthers}
use Rattle.key_commands.specs.local.Openings.{local_opening}
use Rattle.key_commands.specs.local.Sessions as locals
use Rattle.key_commands.specs.local.Results as locally
use Rattle.key_commands.specs.declared.local.ends.LocalRun.{LocalRun}
use Rattle.key_commands.specs.declared.local.ends.LocalFailure.{LocalFailure}
use Rattle.key_commands.specs.generate.Results as generated
use Rattle.key_commands.specs.declared.generate.ends.GenRun.{GenRun}
use Rattle.key_commands.specs.declared.generate.ends.GenFailure.{GenFailure}
use Rattle.key_commands.specs.query.PublicPages.{HasCatalog}
use Rattle.key_commands.specs.query.Results as queries
use Rattle.key_commands.specs.declared.query.failures.QueryFailure.{QueryFailure}

-- nothing was done
pub record IsUntouched (before after : Outside) : Type 0 where
  pub files : after.files ≡ before.files
  pub depot_faults : after.depot_faults ≡ before.depot_faults
  pub append_faults : after.append_faults ≡ before.append_faults
  pub device : after.device ≡ before.device
  pub written : after.written ≡ before.written
  pub sink_faults : after.sink_faults ≡ before.sink_faults

pub record PlainDid (outcome : Result (Unit {0}) PlainFault) (told : List ToldText) (before after : Outside) (words : Plain) : Type 0 where
  pub ends : (files : Files) → before.files ≡ Some files
      → plains.EndsPlainCall (plain_opening files words) outcome before.written after.written told
  pub names : (files : Files) → before.files ≡ Some files → plains.ShowsNames files words.schema words.tables outcome
  pub complete : (files : Files) → (input : WholeInput) → before.files ≡ Some files
      → (Rose before.depot_faults after.depot_faults → ⊥) → (Rose before.sink_faults after.sink_faults → ⊥)
      → plain_opening files words ≡ Spelled input → (outcome ≡ Ok tt) ⊎ (outcome ≡ Err plain_fault.NoMemory)
  pub prints : plains.PrintsSomeRead outcome before.written after.written told
  pub nothing_written : plains.writes_nothing outcome ≡ true → after.written ≡ before.written
  pub causes : HasCauses (plains.told_by outcome) before after
  pub files : after.files ≡ before.files
  pub flash : after.device ≡ before.device

pub record LoadDid (told : Bool) (outcome : Result (Unit {0}) LoadFailure) (before after : Outside) (words : Load) : Type 0 where
  pub ends : (files : Files) → before.files ≡ Some files
      → loads.EndsLoadCall told (tables_opening files words.schema words.tables) words outcome before after
  pub names : (files : Files) → before.files ≡ Some files → loads.ShowsNames files words.schema words.tables outcome
  pub loads_some : loads.EndsSomeLoad told words outcome before after
  pub complete : (files : Files) → (input : TablesInput) → before.files ≡ Some files
      → (Rose before.depot_faults after.depot_faults → ⊥) → (Rose before.device.faults after.device.faults → ⊥)
      → (Rose before.sink_faults after.sink_faults → ⊥)
      → tables_opening files words.schema words.tables ≡ Spelled input → loads.is_faultless outcome ≡ true
  pub nothing_written : loads.writes_nothing outcome ≡ true → after.written ≡ before.written
  pub nothing_made : loads.makes_nothing outcome ≡ true → after.device ≡ before.device
  pub file_left : loads.leaves_file outcome ≡ true → after.files ≡ before.files
  pub made_first : after.device.page_count ≡ 0 → after.files ≡ before.files
  pub never_other : (after.device ≡ before.device) ⊎ ((other : List ℕ) → after.device.name ≡ Some other → other ≡ words.flash)
  pub page_0 : loads.leaves_page_0 outcome ≡ true
      → (after.device ≡ before.device) ⊎ loads.HasBlankPage0 after.device
  pub unsealed : (after.device ≡ before.device) ⊎ loads.IsUnsealed told after.device
  pub others : SameBut words.visible before.files after.files
  pub other_flashes : KeepsOthers told words.flash before.device after.device
  pub causes : HasCauses (loads.told_by outcome) before after

-- the headline of `local` stands in `ends` and `ran`
pub record LocalDid (told : Bool) (outcome : Result LocalRun LocalFailure) (before after : Outside) (words : Local) : Type 0 where
  pub ends : (files : Files) → before.files ≡ Some files
      → locally.EndsLocalCall told (local_opening files words) words outcome before after
  pub names : (files : Files) → before.files ≡ Some files → locally.ShowsNames files words.schema words.tables outcome
  pub ran : locally.EndsSomeLocal told words outcome before after
  pub complete : (files : Files) → (input : WholeInput) → before.files ≡ Some files
      → (Rose before.depot_faults after.depot_faults → ⊥) → (Rose before.device.faults after.device.faults → ⊥)
      → (Rose before.sink_faults after.sink_faults → ⊥)
      → local_opening files words ≡ Spelled input → locally.is_faultless told outcome ≡ true
  pub nothing_written : locally.is_failure outcome ≡ true → after.written ≡ before.written
  pub flash_left : locally.leaves_flash outcome ≡ true → after.device ≡ before.device
  pub never_other : (after.device ≡ before.device) ⊎ ((other : List ℕ) → after.device.name ≡ Some other → other ≡ words.flash)
  pub files_left : locally.leaves_files outcome ≡ true → after.files ≡ before.files
  pub others : locals.SameBesides words.journal before.files after.files
  pub other_flashes : KeepsOthers told words.flash before.device after.device
  pub causes : HasCauses (locally.told_by outcome) before after

-- the headline of `query` stands in `ran`; `goes` tells by which moves the link went
pub record QueryDid (goes : Journal → Type 0) (link_before link_after : ℕ) (told : Bool) (outcome : Result Tally QueryFailure) (before after : Outside) (words : Query) : Type 0 where
  pub ran : IfOk outcome (λ tally. queries.Runs goes link_before link_after told words before after tally)
  pub unbegun : OnErr outcome (queries.IsUnbegun goes link_before link_after told before after)
  pub script : IfErr outcome (λ fault. queries.TellsScript before.files words.script fault)
  pub device : IfErr outcome (λ fault. queries.TellsFlash told words.flash after.device fault)
  pub complete : (files : Files) → (script : List ℕ) → (cat : Catalog) → told ≡ true → before.files ≡ Some files
      → (Rose before.depot_faults after.depot_faults → ⊥) → (Rose before.device.faults after.device.faults → ⊥)
      → script_opening files words.script ≡ Spelled script → HasCatalog after.device cat → queries.is_faultless outcome ≡ true
  pub causes : HasCauses (queries.told_by outcome) before after
  pub flash_faults : min before.device.faults last_count ≤ after.device.faults
  pub link_faults : link_before ≤ link_after
  pub other_flashes : KeepsOthers told words.flash before.device after.device
  pub attached : IfErr outcome (λ fault. queries.is_of_opened_flash fault ≡ true → Rose before.device.calls after.device.calls)
  pub flash_left : IfErr outcome (λ fault. queries.is_of_script fault ≡ true → after.device ≡ before.device)
  pub files : after.files ≡ before.files

-- the headline of `gen` stands in `ends`
pub record GenDid (told : Bool) (outcome : Result GenRun GenFailure) (before after : Outside) (words : Gen) : Type 0 where
  pub ends : generated.EndsGen told words outcome before after
  pub complete : (Rose before.device.faults after.device.faults → ⊥) → (Rose before.sink_faults after.sink_faults → ⊥)
      → generated.is_faultless told outcome ≡ true
  pub nothing_written : generated.is_failure outcome ≡ true → after.written ≡ before.written
  pub never_other : (after.device ≡ before.device) ⊎ ((other : List ℕ) → after.device.name ≡ Some other → other ≡ words.flash)
  pub other_flashes : KeepsOthers told words.flash before.device after.device
  pub files : after.files ≡ before.files
  pub causes : HasCauses (generated.told_by outcome) before after
