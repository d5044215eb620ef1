-- What was prepared of a database, and what stands of it on the flash of one name and in the host's file of another.
use Rattle.std.specs.Prelude.{◌≡◌, ◌⊎◌, ℕ, ◌<◌, ◌*◌, Bool, true, false, List, Option, Some, Result, Err}
use Rattle.ghost_model.specs.forms.Flash.{HoldsFiles, Holds}
use Rattle.ghost_model.specs.core.Schema.{Schema}
use Rattle.ghost_model.specs.core.Split.{public_of, hidden_of, image}
use Rattle.ghost_model.specs.core.Values.{Database}
use Rattle.edge_traits.specs.Devices.{Device}
use Rattle.edge_traits.specs.Files.{Files, with_file}
use Rattle.key_load.specs.Loadings.{catalog_for, blocks_for}
use Rattle.key_load.specs.declared.failures.LoadFailure.{LoadFailure}
use Rattle.key_load.specs.declared.failures.LoadFailure.TheVariants as failure
use Rattle.key_load.specs.declared.preparing.Prepared.{Prepared}

pub record IsPrepared (schema : Schema) (database : Database) (asked : Option ℕ) (prepared : Prepared) : Type 0 where
  pub cat : prepared.cat ≡ catalog_for schema database
  pub hidden : prepared.hidden ≡ hidden_of schema database
  pub image : prepared.image.items ≡ image (catalog_for schema database) (public_of schema database)
  pub blocks : prepared.blocks ≡ blocks_for (catalog_for schema database) asked

-- the device is open under that name, and the files of the hidden part stand on it
pub record IsBuilt (told : Bool) (prepared : Prepared) (flash : List ℕ) (device : Device) : Type 0 where
  pub name : device.name ≡ Some flash
  pub pages : device.page_count ≡ 64 * prepared.blocks
  pub holds : told ≡ true → HoldsFiles device.page prepared.cat prepared.hidden

-- the host's file is the image
abbrev pub HasImage : Prepared → (visible : List ℕ) → (before after : Option Files) → Type 0
HasImage prepared visible before after = after ≡ with_file before visible prepared.image.items

-- what was prepared stands at both ends
pub record IsMade (told : Bool) (prepared : Prepared) (flash visible : List ℕ) (before after : Option Files) (device : Device) : Type 0 where
  pub name : device.name ≡ Some flash
  pub holds : told ≡ true → Holds device.page prepared.cat prepared.hidden
  pub pages : device.page_count ≡ 64 * prepared.blocks
  pub file : HasImage prepared visible before after

-- how far the making came: the host's file is written where the files of the hidden part stand, and page 0 behind both
pub record IsMadeInOrder {T : Type 0} (told : Bool) (prepared : Prepared) (flash visible : List ℕ) (result : Result T LoadFailure) (before after : Option Files) (device : Device) : Type 0 where
  pub built_first : (after ≡ before) ⊎ IsBuilt told prepared flash device
  pub depot_last : result ≡ Err failure.Depot → IsBuilt told prepared flash device
  pub flash_file : result ≡ Err failure.Flash → (after ≡ before) ⊎ HasImage prepared visible before after
  pub sealed_last : 0 < device.page_count → device.blank 0 ≡ false → HasImage prepared visible before after
  pub files_first : 0 < device.page_count → device.blank 0 ≡ false → told ≡ true → HoldsFiles device.page prepared.cat prepared.hidden
