-- What a call of `migrate` did, by its result. What is met first decides, in this order: the old device is no key, or too small for
-- its files; an item is refused; the host's file is not the device's; a slot is damaged; the new device would be too small. Only then is
-- the new device made: first the files of the hidden part, then the host's file, then the public pages, page 0 last.
use Rattle.std.specs.Prelude.{◌≡◌, ◌⊎◌, ℕ, ◌+◌, ◌≤◌, ◌<◌, min, Bool, true, false, List, [], ◌∷◌, ◌++◌, length, codes, decimal, Some, None, Result, Ok, Err}
use Rattle.std.specs.List.{sum}
use Rattle.ghost_model.specs.core.Causes.{last_count}
use Rattle.ghost_model.specs.core.Channel.{Catalog}
use Rattle.ghost_model.specs.core.Database.{IsDatabase}
use Rattle.ghost_model.specs.core.Split.{Public, Hidden, public_of, hidden_of, image}
use Rattle.ghost_model.specs.forms.Flash.{HoldsFiles, Holds}
use Rattle.ghost_model.specs.forms.Layout.{need, static_end}
use Rattle.edge_traits.specs.Devices.{Device}
use Rattle.edge_traits.specs.Files.{file_of, with_file}
use Rattle.edge_traits.specs.Written.{grown, GrowsByFront}
use Rattle.flash_build.specs.Reading.{BlamesCell, DamagesFirst}
use Rattle.host_exec.specs.Checked.{IsNoImageOf}
use Rattle.key_inputs.specs.Outside.{Outside, Verdicts, Risen, Same, verdicts}
use Rattle.key_load.specs.Loadings.{pages_for}
use Rattle.key_words.specs.Words.{Migrate}
use Rattle.key_migrate.specs.Devices.{KeepsNamed, IsNoOther}
use Rattle.key_migrate.specs.Items.{migrated, refused_item}
use Rattle.key_migrate.specs.PublicPages.{HasNoCatalog}
use Rattle.key_migrate.specs.Stages.{Source, HoldsNoPart, Opens, IsKey, IsWholeKey, TakesItems, HasImage, IsSomeImageIn, IsRead}
use Rattle.key_migrate.specs.declared.failures.MigrateFailure.{MigrateFailure}
use Rattle.key_migrate.specs.declared.failures.MigrateFailure.TheVariants as failure

-- the catalog of the new device, and the two parts of the same rows under it
abbrev pub new_catalog : Migrate → Source → Catalog
new_catalog words source = migrated source.cat words.null

abbrev pub new_public : Migrate → Source → Public
new_public words source = public_of (new_catalog words source).schema source.database

abbrev pub new_hidden : Migrate → Source → Hidden
new_hidden words source = hidden_of (new_catalog words source).schema source.database

-- the pages of the new device: those of as many blocks as are asked for, else as many as are needed
abbrev pub new_pages : Migrate → Source → ℕ
new_pages words source = pages_for (new_catalog words source) words.blocks

-- the line after a migration: the tables, all their rows, and the version
abbrev pub migrated_line : Catalog → List ℕ
migrated_line cat =
    codes "= migrated tables " ++ (decimal (length cat.schema)
    ++ (codes " rows " ++ (decimal (sum cat.counts) ++ (codes " version " ++ (decimal cat.version ++ 10 ∷ [])))))

-- no device was made, no file written and nothing printed; no device is open but the old one
pub record MakesNothing (told : Bool) (words : Migrate) (before after : Outside) : Type 0 where
  pub name : IsNoOther words.flash after.device
  pub kept : KeepsNamed told before.device after.device
  pub files : after.files ≡ before.files
  pub written : after.written ≡ before.written

-- a device has fewer pages than are needed
pub record IsTooSmall (needed had least pages : ℕ) : Type 0 where
  pub needs : needed ≡ least
  pub has : had ≡ pages
  pub less : had < needed

-- the old device was opened, and begins with no catalog
pub record IsNoKey (told : Bool) (flash : List ℕ) (before after : Device) : Type 0 where
  pub opens : Opens told flash before after
  pub none : told ≡ true → HasNoCatalog after

-- it begins with a catalog, and ends before the files of its hidden part do
pub record EndsEarly (told : Bool) (flash : List ℕ) (before after : Device) (needed had : ℕ) : Type 0 where
  pub cat : Catalog
  pub key : IsKey told flash before after cat
  pub small : IsTooSmall needed had (static_end cat) after.page_count

-- it has them all, and an item is the first that is not taken
pub record RefusesItem (told : Bool) (words : Migrate) (before after : Device) (item : ℕ) : Type 0 where
  pub cat : Catalog
  pub key : IsWholeKey told words.flash before after cat
  pub refused : refused_item cat.schema words.null ≡ Some item

-- all items are taken, and the host's file is no image of the catalog
pub record IsNotTheFile (told : Bool) (words : Migrate) (before after : Outside) : Type 0 where
  pub cat : Catalog
  pub taken : TakesItems told words before.device after.device cat
  pub none : (file : List ℕ) → file_of before.files words.visible ≡ Some file → IsNoImageOf cat file

-- it is one, and the slot is the first that is damaged, so that the device holds no hidden part; a read of this call gave what is told
pub record IsDamaged (told : Bool) (words : Migrate) (before after : Outside) (number slot found : ℕ) : Type 0 where
  pub cat : Catalog
  pub public : Public
  pub image : HasImage told words before.files before.device after.device cat public
  pub first : told ≡ true → DamagesFirst after.device.page cat number slot found
  pub holds_none : told ≡ true → HoldsNoPart after.device.page cat
  pub read : BlamesCell (min before.device.calls last_count) after.device cat number slot found

-- all was read, and the new device would be too small
pub record WouldBeTooSmall (told : Bool) (words : Migrate) (before after : Outside) (needed had : ℕ) : Type 0 where
  pub source : Source
  pub read : IsRead told words before.files before.device source
  pub small : IsTooSmall needed had (need (new_catalog words source)) (new_pages words source)

-- all was read, the rows are a database of the new schema too, and the new device is to be large enough
pub record IsReady (told : Bool) (words : Migrate) (before : Outside) (source : Source) : Type 0 where
  pub read : IsRead told words before.files before.device source
  pub proper : IsDatabase (new_catalog words source).schema source.database
  pub enough : need (new_catalog words source) ≤ new_pages words source

-- the new host's file is the image of the public part, and all other files are as before
abbrev pub HasHostFile : Migrate → Source → (before after : Outside) → Type 0
HasHostFile words source before after =
    after.files ≡ with_file before.files words.to_visible (image (new_catalog words source) (new_public words source))

-- the files of the hidden part stand on the new device
pub record Builds (told : Bool) (words : Migrate) (source : Source) (after : Outside) : Type 0 where
  pub name : after.device.name ≡ Some words.to_flash
  pub pages : after.device.page_count ≡ new_pages words source
  pub holds : told ≡ true → HoldsFiles after.device.page (new_catalog words source) (new_hidden words source)

-- both ends' new files stand
pub record Stands (told : Bool) (words : Migrate) (source : Source) (before after : Outside) : Type 0 where
  pub name : after.device.name ≡ Some words.to_flash
  pub pages : after.device.page_count ≡ new_pages words source
  pub holds : told ≡ true → Holds after.device.page (new_catalog words source) (new_hidden words source)
  pub file : HasHostFile words source before after

-- they stand, and the line was printed
pub record Migrates (told : Bool) (words : Migrate) (before after : Outside) : Type 0 where
  pub source : Source
  pub ready : IsReady told words before source
  pub stands : Stands told words source before after
  pub printed : after.written ≡ grown before.written (migrated_line (new_catalog words source))

-- they stand, and no more than a front of the line was printed
pub record MigratesUnprinted (told : Bool) (words : Migrate) (before after : Outside) : Type 0 where
  pub source : Source
  pub ready : IsReady told words before source
  pub stands : Stands told words source before after
  pub front : GrowsByFront before.written (migrated_line (new_catalog words source)) after.written

-- the host's file could not be written, and the files of the hidden part stand
pub record BuildsAlone (told : Bool) (words : Migrate) (before after : Outside) : Type 0 where
  pub source : Source
  pub ready : IsReady told words before source
  pub builds : Builds told words source after

-- the host's file is written where the files of the hidden part stand
pub record WritesFile (told : Bool) (words : Migrate) (source : Source) (before after : Outside) : Type 0 where
  pub builds : Builds told words source after
  pub file : HasHostFile words source before after

-- the new device failed: the files are as before or have the host's file, and where page 0 was begun the files of both ends stand
pub record LeavesUnsealed (told : Bool) (words : Migrate) (before after : Outside) : Type 0 where
  pub source : Source
  pub ready : IsReady told words before source
  pub files : (after.files ≡ before.files) ⊎ WritesFile told words source before after
  pub file : 0 < after.device.page_count → after.device.blank 0 ≡ false → HasHostFile words source before after
  pub holds :
      0 < after.device.page_count → after.device.blank 0 ≡ false → told ≡ true
      → HoldsFiles after.device.page (new_catalog words source) (new_hidden words source)

-- the old device failed among the first ten calls: it could not be opened, or a public page not be read
pub record FailsOpening (told : Bool) (words : Migrate) (before after : Outside) : Type 0 where
  pub nothing : MakesNothing told words before after
  pub early : after.device.calls ≤ before.device.calls + 10

-- it failed later: all items are taken, the host's file is the image of a public part, and the columns were being read
pub record FailsReading (told : Bool) (words : Migrate) (before after : Outside) : Type 0 where
  pub nothing : MakesNothing told words before after
  pub opened : Device
  pub cat : Catalog
  pub public : Public
  pub image : HasImage told words before.files before.device opened cat public

-- the host's file could not be read, all items being taken
pub record FailsFile (told : Bool) (words : Migrate) (before after : Outside) : Type 0 where
  pub nothing : MakesNothing told words before after
  pub cat : Catalog
  pub taken : TakesItems told words before.device after.device cat

-- memory was wanting for the opening of the old device, which is not open then
pub record WantsOpening (told : Bool) (words : Migrate) (before after : Outside) : Type 0 where
  pub nothing : MakesNothing told words before after
  pub closed : after.device.name ≡ None

-- or for its rows: all items are taken, and the host's file is no other than an image of some public part
pub record WantsRows (told : Bool) (words : Migrate) (before after : Outside) : Type 0 where
  pub nothing : MakesNothing told words before after
  pub cat : Catalog
  pub taken : TakesItems told words before.device after.device cat
  pub some : IsSomeImageIn before.files words.visible cat

-- or behind them, the new device being large enough: before it was made, or while it was
pub record WantsMemory (told : Bool) (words : Migrate) (before after : Outside) : Type 0 where
  pub source : Source
  pub ready : IsReady told words before source
  pub files : after.files ≡ before.files

abbrev pub EndsMigrate : {T : Type 0} → (told : Bool) → Migrate → Result T MigrateFailure → (before after : Outside) → Type 0
EndsMigrate told words (Ok _) before after = Migrates told words before after
EndsMigrate told words (Err failure.NoMemory) before after =
    WantsOpening told words before after ⊎ (WantsRows told words before after ⊎ WantsMemory told words before after)
EndsMigrate told words (Err (failure.NullName item)) before after = RefusesItem told words before.device after.device item
EndsMigrate told words (Err failure.Depot) before after = FailsFile told words before after ⊎ BuildsAlone told words before after
EndsMigrate told words (Err failure.Flash) before after =
    FailsOpening told words before after ⊎ (FailsReading told words before after ⊎ LeavesUnsealed told words before after)
EndsMigrate told words (Err failure.Sink) before after = MigratesUnprinted told words before after
EndsMigrate told words (Err (failure.OldTooSmall needed had)) before after = EndsEarly told words.flash before.device after.device needed had
EndsMigrate told words (Err (failure.TooSmall needed had)) before after = WouldBeTooSmall told words before after needed had
EndsMigrate told words (Err failure.NotAKey) before after = IsNoKey told words.flash before.device after.device
EndsMigrate told words (Err (failure.Damaged number slot found)) before after = IsDamaged told words before after number slot found
EndsMigrate told words (Err failure.NotTheFile) before after = IsNotTheFile told words before after

-- what an outcome tells of the counts of faults of the sink, the depot, its appends and the flash
abbrev pub told_by : {T : Type 0} → Result T MigrateFailure → Verdicts
told_by (Ok _) = verdicts Same Same Same Same
told_by (Err failure.NoMemory) = verdicts Same Same Same Same
told_by (Err (failure.NullName item)) = verdicts Same Same Same Same
told_by (Err failure.Depot) = verdicts Same Risen Same Same
told_by (Err failure.Flash) = verdicts Same Same Same Risen
told_by (Err failure.Sink) = verdicts Risen Same Same Same
told_by (Err (failure.OldTooSmall needed had)) = verdicts Same Same Same Same
told_by (Err (failure.TooSmall needed had)) = verdicts Same Same Same Same
told_by (Err failure.NotAKey) = verdicts Same Same Same Same
told_by (Err (failure.Damaged number slot found)) = verdicts Same Same Same Same
told_by (Err failure.NotTheFile) = verdicts Same Same Same Same

-- whether a call ends so before the new device is made
abbrev pub makes_nothing : {T : Type 0} → Result T MigrateFailure → Bool
makes_nothing (Err (failure.NullName item)) = true
makes_nothing (Err (failure.OldTooSmall needed had)) = true
makes_nothing (Err (failure.TooSmall needed had)) = true
makes_nothing (Err failure.NotAKey) = true
makes_nothing (Err (failure.Damaged number slot found)) = true
makes_nothing (Err failure.NotTheFile) = true
makes_nothing _ = false

-- whether a call ends so without a write to the sink
abbrev pub writes_nothing : {T : Type 0} → Result T MigrateFailure → Bool
writes_nothing (Ok _) = false
writes_nothing (Err failure.Sink) = false
writes_nothing _ = true

-- whether a call ends so before page 0 of the new device is written
abbrev pub leaves_page_0 : {T : Type 0} → Result T MigrateFailure → Bool
leaves_page_0 (Ok _) = false
leaves_page_0 (Err failure.Flash) = false
leaves_page_0 (Err failure.Sink) = false
leaves_page_0 _ = true

-- whether words that are accepted, items that are taken, an old device that holds, its own file and no fault can end so
abbrev pub is_faultless : {T : Type 0} → Result T MigrateFailure → Bool
is_faultless (Ok _) = true
is_faultless (Err failure.NoMemory) = true
is_faultless (Err (failure.OldTooSmall needed had)) = true
is_faultless (Err (failure.TooSmall needed had)) = true
is_faultless _ = false
