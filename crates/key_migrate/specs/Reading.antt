-- How the parts of the reading end.
use Rattle.std.specs.Prelude.{◌≡◌, ℕ, Bool, true, List, map, Option, Some, None, ⊤}
use Rattle.ghost_model.specs.core.Channel.{Catalog}
use Rattle.ghost_model.specs.core.Split.{Public, Hidden, IsPublic, SpellsImage}
use Rattle.edge_traits.specs.Devices.{Device}
use Rattle.edge_traits.specs.Files.{Files, file_of}
use Rattle.spj_parse.specs.Views.{field_of}
use Rattle.flash_build.specs.Reading.{BlamesCell, DamagesFirst, IsLegalPart}
use Rattle.host_exec.specs.Checked.{IsNoImageOf}
use Rattle.key_words.specs.Words.{Migrate}
use Rattle.key_migrate.specs.Fields.{AreTaken}
use Rattle.key_migrate.specs.Items.{refused_item}
use Rattle.key_migrate.specs.Results.{IsNoKey, EndsEarly}
use Rattle.key_migrate.specs.Stages.{HoldsNoPart, IsHiddenOn, IsImageIn, IsSomeImageIn}
use Rattle.key_migrate.specs.declared.failures.MigrateFailure.{MigrateFailure}
use Rattle.key_migrate.specs.declared.failures.MigrateFailure.TheVariants as failure
use Rattle.key_migrate.specs.declared.parts.Parts.{Parts}

-- the old flash was not opened, or is no key; only its opening takes memory
abbrev pub TellsKey : (told : Bool) → (flash : List ℕ) → (before after : Device) → MigrateFailure → Type 0
TellsKey told flash before after failure.NoMemory = after.name ≡ None
TellsKey told flash before after failure.Flash = ⊤
TellsKey told flash before after failure.NotAKey = IsNoKey told flash before after
TellsKey told flash before after (failure.OldTooSmall needed had) = EndsEarly told flash before after needed had
TellsKey told flash before after _ = ⊥

-- the public part of a file is the only one of which the file is the image
pub record IsPublicIn (contents : Option Files) (name : List ℕ) (cat : Catalog) (public : Public) : Type 0 where
  pub goes_with : IsPublic cat public
  pub image : IsImageIn contents name cat public
  pub one : (file : List ℕ) (other : Public) → file_of contents name ≡ Some file → SpellsImage cat other file → public ≡ other

abbrev pub IsNoImageIn : (contents : Option Files) → (name : List ℕ) → Catalog → Type 0
IsNoImageIn contents name cat = (file : List ℕ) → file_of contents name ≡ Some file → IsNoImageOf cat file

-- the host's file was not read; memory is taken only where it is an image
abbrev pub TellsFile : (contents : Option Files) → (name : List ℕ) → Catalog → MigrateFailure → Type 0
TellsFile contents name cat failure.NoMemory = IsSomeImageIn contents name cat
TellsFile contents name cat failure.Depot = ⊤
TellsFile contents name cat failure.NotTheFile = IsNoImageIn contents name cat
TellsFile contents name cat _ = ⊥

-- a slot is the first that is damaged; a read from that count of calls on gave what is told
pub record IsDamagedOn (told : Bool) (since : ℕ) (device : Device) (cat : Catalog) (number slot found : ℕ) : Type 0 where
  pub first : told ≡ true → DamagesFirst device.page cat number slot found
  pub holds_none : told ≡ true → HoldsNoPart device.page cat
  pub read : BlamesCell since device cat number slot found

-- the hidden columns were not read
abbrev pub TellsColumns : (told : Bool) → (since : ℕ) → Device → Catalog → MigrateFailure → Type 0
TellsColumns told since device cat failure.NoMemory = ⊤
TellsColumns told since device cat failure.Flash = ⊤
TellsColumns told since device cat (failure.Damaged number slot found) = IsDamagedOn told since device cat number slot found
TellsColumns told since device cat _ = ⊥

-- what a hidden part is that was read
pub record IsHiddenIn (told : Bool) (page : ℕ → List ℕ) (cat : Catalog) (hidden : Hidden) : Type 0 where
  pub legal : IsLegalPart cat hidden
  pub on : told ≡ true → IsHiddenOn page cat hidden

-- all was read: the columns that items name, and both parts
pub record AreParts (told : Bool) (words : Migrate) (contents : Option Files) (page : ℕ → List ℕ) (cat : Catalog) (parts : Parts) : Type 0 where
  pub taken : AreTaken cat.schema words.null (map field_of parts.fields.items)
  pub public : IsPublicIn contents words.visible cat parts.public
  pub hidden : IsHiddenIn told page cat parts.hidden

pub record HasPublic (words : Migrate) (contents : Option Files) (cat : Catalog) : Type 0 where
  pub taken : refused_item cat.schema words.null ≡ None
  pub public : Public
  pub public_is : IsPublicIn contents words.visible cat public

pub record FindsDamage (told : Bool) (words : Migrate) (contents : Option Files) (since : ℕ) (device : Device) (cat : Catalog) (number slot found : ℕ) : Type 0 where
  pub before : HasPublic words contents cat
  pub damaged : IsDamagedOn told since device cat number slot found

pub record FindsNoImage (words : Migrate) (contents : Option Files) (cat : Catalog) : Type 0 where
  pub taken : refused_item cat.schema words.null ≡ None
  pub none : IsNoImageIn contents words.visible cat

pub record HasSomeImage (words : Migrate) (contents : Option Files) (cat : Catalog) : Type 0 where
  pub taken : refused_item cat.schema words.null ≡ None
  pub some : IsSomeImageIn contents words.visible cat

-- not all of them was read; memory is taken only behind the items, and of a file that is an image
abbrev pub TellsParts : (told : Bool) → Migrate → (contents : Option Files) → (since : ℕ) → Device → Catalog → MigrateFailure → Type 0
TellsParts told words contents since device cat failure.NoMemory = HasSomeImage words contents cat
TellsParts told words contents since device cat (failure.NullName item) = refused_item cat.schema words.null ≡ Some item
TellsParts told words contents since device cat failure.Depot = refused_item cat.schema words.null ≡ None
TellsParts told words contents since device cat failure.NotTheFile = FindsNoImage words contents cat
TellsParts told words contents since device cat failure.Flash = HasPublic words contents cat
TellsParts told words contents since device cat (failure.Damaged number slot found) = FindsDamage told words contents since device cat number slot found
TellsParts told words contents since device cat _ = ⊥
