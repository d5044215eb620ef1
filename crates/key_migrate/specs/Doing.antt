-- What the command did, by its words and its outcome: all that it answers for, from what it found to what it left.
use Rattle.std.specs.Prelude.{◌≡◌, ◌⊎◌, ℕ, ◌≤◌, Bool, true, List, Some, None, Result, Err}
use Rattle.ghost_model.specs.core.Causes.{Rose}
use Rattle.ghost_model.specs.core.Channel.{Catalog}
use Rattle.ghost_model.specs.core.Values.{Database}
use Rattle.ghost_model.specs.forms.Layout.{catalog_pages}
use Rattle.edge_traits.specs.Devices.{pages_under}
use Rattle.edge_traits.specs.Files.{SameBut, file_of}
use Rattle.key_inputs.specs.Outside.{Outside, HasCauses}
use Rattle.key_load.specs.Results.{HasBlankPage0, IsUnsealed}
use Rattle.key_words.specs.Words.{Migrate}
use Rattle.key_migrate.specs.Devices.{KeepsOthers}
use Rattle.key_migrate.specs.Items.{refused_item}
use Rattle.key_migrate.specs.Results.{EndsMigrate, MakesNothing, is_faultless, leaves_page_0, makes_nothing, told_by, writes_nothing}
use Rattle.key_migrate.specs.Stages.{AreOf}
use Rattle.key_migrate.specs.declared.failures.MigrateFailure.{MigrateFailure}
use Rattle.key_migrate.specs.declared.failures.MigrateFailure.TheVariants as failure

-- the old device and the old file are told and are those of a database, each item is taken, and no fault was met
pub record IsSpared (told : Bool) (words : Migrate) (before after : Outside) : Type 0 where
  pub is_told : told ≡ true
  pub file : List ℕ
  pub there : file_of before.files words.visible ≡ Some file
  pub cat : Catalog
  pub database : Database
  pub are : AreOf (pages_under before.device words.flash) file cat database
  pub taken : refused_item cat.schema words.null ≡ None
  pub depot : Rose before.depot_faults after.depot_faults → ⊥
  pub flash : Rose before.device.faults after.device.faults → ⊥
  pub sink : Rose before.sink_faults after.sink_faults → ⊥

pub record MigrateDid (told : Bool) (outcome : Result (Unit {0}) MigrateFailure) (before after : Outside) (words : Migrate) : Type 0 where
  pub ends : EndsMigrate told words outcome before after
  -- a device that is told to begin with a catalog has its pages
  pub complete : IsSpared told words before after → (outcome ≡ Err failure.NotAKey → catalog_pages ≤ after.device.page_count)
      → is_faultless outcome ≡ true
  pub nothing_made : makes_nothing outcome ≡ true → MakesNothing told words before after
  pub nothing_written : writes_nothing outcome ≡ true → after.written ≡ before.written
  pub made_first : after.device.page_count ≡ 0 → after.files ≡ before.files
  pub never_other : (other : List ℕ) → after.device.name ≡ Some other → (other ≡ words.flash) ⊎ (other ≡ words.to_flash)
  pub page_0 : leaves_page_0 outcome ≡ true → MakesNothing told words before after ⊎ HasBlankPage0 after.device
  pub unsealed : MakesNothing told words before after ⊎ IsUnsealed told after.device
  pub old_flash : told ≡ true → pages_under after.device words.flash ≡ pages_under before.device words.flash
  pub old_file : file_of after.files words.visible ≡ file_of before.files words.visible
  pub others : SameBut words.to_visible before.files after.files
  pub other_flashes : KeepsOthers told words.to_flash before.device after.device
  pub causes : HasCauses (told_by outcome) before after
