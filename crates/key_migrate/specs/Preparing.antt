-- What is to be written, in memory, and what it is of.
use Rattle.std.specs.Prelude.{◌≡◌, ℕ, ◌*◌, ◌≤◌, Bool, Option}
use Rattle.ghost_model.specs.core.Channel.{Catalog}
use Rattle.ghost_model.specs.core.Database.{IsDatabase}
use Rattle.ghost_model.specs.core.Split.{Public, Hidden, image}
use Rattle.ghost_model.specs.forms.Flash.{IsHidden}
use Rattle.ghost_model.specs.forms.Layout.{need}
use Rattle.edge_traits.specs.Devices.{Device}
use Rattle.edge_traits.specs.Files.{Files}
use Rattle.key_words.specs.Blocks.{most_blocks}
use Rattle.key_words.specs.Words.{Migrate}
use Rattle.key_load.specs.Loadings.{pages_for}
use Rattle.key_load.specs.declared.preparing.Prepared.{Prepared}
use Rattle.key_migrate.specs.Results.{IsTooSmall, new_catalog, new_hidden, new_public}
use Rattle.key_migrate.specs.Stages.{IsRead, Source}
use Rattle.key_migrate.specs.declared.failures.MigrateFailure.{MigrateFailure}
use Rattle.key_migrate.specs.declared.failures.MigrateFailure.TheVariants as failure

-- this catalog, these parts and so many blocks were prepared
pub record IsPrepared (cat : Catalog) (public : Public) (hidden : Hidden) (asked : Option ℕ) (prepared : Prepared) : Type 0 where
  pub cat_is : prepared.cat ≡ cat
  pub hidden_is : prepared.hidden ≡ hidden
  pub image_is : prepared.image.items ≡ image cat public
  pub pages_are : 64 * prepared.blocks ≡ pages_for cat asked
  pub enough : need prepared.cat ≤ 64 * prepared.blocks
  pub most : prepared.blocks ≤ most_blocks

-- it was not prepared; memory is taken only where the new device is to be large enough
abbrev pub TellsPreparing : Catalog → (asked : Option ℕ) → MigrateFailure → Type 0
TellsPreparing cat asked failure.NoMemory = need cat ≤ pages_for cat asked
TellsPreparing cat asked (failure.TooSmall needed had) = IsTooSmall needed had (need cat) (pages_for cat asked)
TellsPreparing cat asked _ = ⊥

-- what was prepared is of rows that were read
pub record IsOfSource (words : Migrate) (source : Source) (prepared : Prepared) : Type 0 where
  pub made : IsPrepared (new_catalog words source) (new_public words source) (new_hidden words source) words.blocks prepared
  pub part : IsHidden prepared.cat prepared.hidden
  pub proper : IsDatabase (new_catalog words source).schema source.database

pub record IsOfRows (told : Bool) (words : Migrate) (contents : Option Files) (before : Device) (prepared : Prepared) : Type 0 where
  pub source : Source
  pub read : IsRead told words contents before source
  pub of : IsOfSource words source prepared
