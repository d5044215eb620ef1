-- What a migration reads, stage by stage: the old device and its catalog, then the items, then the host's file, then the hidden columns.
-- Each stage begins where the one before it found what is said here.
use Rattle.std.specs.Prelude.{◌≡◌, ℕ, ◌≤◌, Bool, true, List, Option, Some, None}
use Rattle.ghost_model.specs.core.Channel.{Catalog}
use Rattle.ghost_model.specs.core.Database.{IsDatabase, row_counts}
use Rattle.ghost_model.specs.core.Split.{Public, Hidden, IsPublic, SpellsImage, public_of, hidden_of, image}
use Rattle.ghost_model.specs.core.Values.{Database}
use Rattle.ghost_model.specs.forms.Catalog.{IsCatalog, BeginsWithCatalog}
use Rattle.ghost_model.specs.forms.Flash.{IsHidden, HoldsColumns}
use Rattle.ghost_model.specs.forms.Layout.{static_end}
use Rattle.edge_traits.specs.Devices.{Device, pages_under}
use Rattle.edge_traits.specs.Files.{Files, file_of}
use Rattle.flash_build.specs.Reading.{HasPart}
use Rattle.flash_build.specs.Sealing.{public_bytes}
use Rattle.host_exec.specs.Checked.{IsNoImageOf}
use Rattle.key_words.specs.Words.{Migrate}
use Rattle.key_migrate.specs.Devices.{KeepsNamed}
use Rattle.key_migrate.specs.Items.{refused_item}
use Rattle.key_migrate.specs.PublicPages.{HasCatalog}

-- the old device as it was opened under its name: its pages are those that were under the name, and each other device has its own
pub record Opens (told : Bool) (flash : List ℕ) (before opened : Device) : Type 0 where
  pub name : opened.name ≡ Some flash
  pub page : told ≡ true → opened.page ≡ pages_under before flash
  pub kept : KeepsNamed told before opened

-- it begins with this catalog
pub record IsKey (told : Bool) (flash : List ℕ) (before opened : Device) (cat : Catalog) : Type 0 where
  pub opens : Opens told flash before opened
  pub proper : IsCatalog cat
  pub catalog : told ≡ true → HasCatalog opened cat

-- and has the pages of all files of the hidden part
pub record IsWholeKey (told : Bool) (flash : List ℕ) (before opened : Device) (cat : Catalog) : Type 0 where
  pub key : IsKey told flash before opened cat
  pub whole : static_end cat ≤ opened.page_count

-- each item is taken
pub record TakesItems (told : Bool) (words : Migrate) (before opened : Device) (cat : Catalog) : Type 0 where
  pub key : IsWholeKey told words.flash before opened cat
  pub taken : refused_item cat.schema words.null ≡ None

-- the host's file, where the depot tells it, is the image of that public part
abbrev pub IsImageIn : (contents : Option Files) → (name : List ℕ) → Catalog → Public → Type 0
IsImageIn contents name cat public = (file : List ℕ) → file_of contents name ≡ Some file → SpellsImage cat public file

-- it is no other file than an image of some public part
abbrev pub IsSomeImageIn : (contents : Option Files) → (name : List ℕ) → Catalog → Type 0
IsSomeImageIn contents name cat = (file : List ℕ) → file_of contents name ≡ Some file → IsNoImageOf cat file → ⊥

pub record HasImage (told : Bool) (words : Migrate) (contents : Option Files) (before opened : Device) (cat : Catalog) (public : Public) : Type 0 where
  pub taken : TakesItems told words before opened cat
  pub goes_with : IsPublic cat public
  pub image : IsImageIn contents words.visible cat public

-- what is migrated: the rows, under the catalog of the old device, as it was opened
pub record Source : Type 0 where
  pub opened : Device
  pub cat : Catalog
  pub database : Database

-- the hidden part is what the old device has in its column files: that which it holds, where it holds one
pub record IsHiddenOn (page : ℕ → List ℕ) (cat : Catalog) (hidden : Hidden) : Type 0 where
  pub cells : HasPart page cat hidden
  pub held : (other : Hidden) → IsHidden cat other → HoldsColumns page cat other → hidden ≡ other

-- it holds none
abbrev pub HoldsNoPart : (ℕ → List ℕ) → Catalog → Type 0
HoldsNoPart page cat = (hidden : Hidden) → IsHidden cat hidden → HoldsColumns page cat hidden → ⊥

-- pages and a file are those of a database: the pages begin with the catalog and hold the hidden part, and the file is the image of the
-- public part
pub record AreOf (page : ℕ → List ℕ) (file : List ℕ) (cat : Catalog) (database : Database) : Type 0 where
  pub catalog : BeginsWithCatalog (public_bytes page) cat
  pub proper : IsDatabase cat.schema database
  pub counted : row_counts database ≡ cat.counts
  pub columns : HoldsColumns page cat (hidden_of cat.schema database)
  pub image_is : file ≡ image cat (public_of cat.schema database)

pub record AreTheRows (source : Source) (cat : Catalog) (database : Database) : Type 0 where
  pub catalog : source.cat ≡ cat
  pub rows : source.database ≡ database

-- the rows are those of the host's file and of the old device: where both are those of a database, its own
pub record IsRead (told : Bool) (words : Migrate) (contents : Option Files) (before : Device) (source : Source) : Type 0 where
  pub proper : IsDatabase source.cat.schema source.database
  pub counted : row_counts source.database ≡ source.cat.counts
  pub visible : HasImage told words contents before source.opened source.cat (public_of source.cat.schema source.database)
  pub hidden : told ≡ true → IsHiddenOn source.opened.page source.cat (hidden_of source.cat.schema source.database)
  pub own : (file : List ℕ) (cat : Catalog) (database : Database) → told ≡ true → file_of contents words.visible ≡ Some file
      → AreOf (pages_under before words.flash) file cat database → AreTheRows source cat database
