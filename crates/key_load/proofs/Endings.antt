-- How a loading ended, from what its parts did.
use Rattle.std.proofs.Common.{◌≡◌, ◌⊎◌, inl, inr, ℕ, ◌≤◌, ◌<◌, ◌*◌, Bool, true, false, List, Option, Some, Result, Ok, Err, OnOk, refl, ap, sym, subst, ◌∙◌, bytes_eq, if◌then◌else◌}
use Rattle.ghost_model.specs.core.Database.{IsDatabase}
use Rattle.ghost_model.specs.forms.Catalog.{current_version}
use Rattle.ghost_model.specs.forms.Flash.{HoldsCatalog, HoldsFiles, HoldsFresh, Holds}
use Rattle.ghost_model.specs.forms.Layout.{need}
use Rattle.ghost_model.specs.core.Schema.{Schema}
use Rattle.ghost_model.specs.core.Split.{Hidden, hidden_of}
use Rattle.ghost_model.specs.core.Values.{Database}
use Rattle.ghost_model.specs.core.Channel.{Catalog}
use Rattle.edge_traits.specs.Devices.{Device, ChangesOnly, is_name, pages_under}
use Rattle.edge_traits.specs.Files.{Files, with_file}
use Rattle.edge_traits.specs.Written.{grown, GrowsByFront}
use Rattle.key_inputs.specs.Openings.{Opening, TablesInput}
use Rattle.key_inputs.specs.Outside.{Outside}
use Rattle.key_inputs.specs.Views.{AreSpelled}
use Rattle.key_inputs.specs.declared.opening.Input.{Input}
use Rattle.key_words.specs.Words.{Load}
use Rattle.key_load.specs.Loadings.{catalog_for, pages_for, loaded_line}
use Rattle.key_load.specs.Preparing.{IsPrepared, IsBuilt, HasImage, IsMade, IsMadeInOrder}
use Rattle.key_load.specs.Results.{Loading, loading, catalog_in, pages_in, HasHostFile, LeavesBoth, Builds, WritesFile, Stands, EndsLoading, EndsLoadCall, EndsSomeLoad, IsOfMaking, TellsPreparing}
use Rattle.key_load.specs.declared.failures.LoadFailure.{LoadFailure}
use Rattle.key_load.specs.declared.failures.LoadFailure.TheVariants as failure
use Rattle.key_load.specs.declared.preparing.Prepared.{Prepared}

-- where the catalog was written too, what was prepared stands at both ends
pub made : {T E : Type 0} (result : Result T E) (told : Bool) (prepared : Prepared) (flash visible : List ℕ) (before after : Option Files) (device : Device)
    → OnOk result (told ≡ true → HoldsCatalog device.page prepared.cat)
    → OnOk result (told ≡ true → prepared.cat.version ≡ current_version → HoldsFresh device.page prepared.cat) → (told ≡ true → HoldsFiles device.page prepared.cat prepared.hidden)
    → device.name ≡ Some flash → device.page_count ≡ 64 * prepared.blocks → OnOk result (HasImage prepared visible before after)
    → OnOk result (IsMade told prepared flash visible before after device)
made (Ok value) told prepared flash visible before after device catalog fresh files name pages file = record {
  name = name;
  holds = λ t. record { catalog = catalog t; fresh = fresh t; files = files t };
  pages = pages;
  file = file;
}
made (Err fault) told prepared flash visible before after device catalog fresh files name pages file = tt

-- the pages under any other name stay where only pages of the device that is open changed
pub others_stay : {low high : ℕ} {a b : Device} (name other : List ℕ) → ChangesOnly low high a b → a.name ≡ Some name → bytes_eq name other ≡ false
    → pages_under b other ≡ pages_under a other
others_stay {a = a} {b = b} name other changes named apart =
    closed b (changes.name ∙ named) ∙ ((λ i. changes.others i other) ∙ sym (closed a named))
  where
    closed : (device : Device) → device.name ≡ Some name → pages_under device other ≡ device.others other
    closed device is =
        ap (λ under. if is_name under other then device.page else device.others other) is
        ∙ ap (λ same. if same then device.page else device.others other) apart

-- nothing was prepared
pub unprepared : (T : Type 0) (told : Bool) (one : Loading) (before after : Outside) (fault : LoadFailure) → LeavesBoth before after
    → TellsPreparing (catalog_in one) one.words.blocks fault → EndsLoading {T = T} told one (Err fault) before after
unprepared T told one before after failure.NoMemory leaves tells = inl leaves
unprepared T told one before after failure.Depot leaves tells = absurd tells
unprepared T told one before after (failure.Input broken) leaves tells = tells
unprepared T told one before after (failure.TooSmall needed had) leaves tells = tells
unprepared T told one before after failure.Flash leaves tells = absurd tells
unprepared T told one before after failure.Sink leaves tells = absurd tells

-- the writing failed
pub failed : {T : Type 0} (result : Result T LoadFailure) (told : Bool) (one : Loading) (before after : Outside) (fault : LoadFailure) → IsOfMaking {T = T} (Err fault)
    → need (catalog_in one) ≤ pages_in one
    → (fault ≡ failure.Depot → Builds told one after)
    → (fault ≡ failure.Flash → (after.files ≡ before.files) ⊎ WritesFile told one before after)
    → (0 < after.device.page_count → after.device.blank 0 ≡ false → HasHostFile one before after)
    → (0 < after.device.page_count → after.device.blank 0 ≡ false → told ≡ true → HoldsFiles after.device.page (catalog_in one) (hidden_of one.schema one.database))
    → EndsLoading {T = T} told one (Err fault) before after
failed result told one before after failure.NoMemory of enough builds files file holds = inr enough
failed result told one before after failure.Depot of enough builds files file holds = builds refl
failed result told one before after (failure.Input broken) of enough builds files file holds = of
failed result told one before after (failure.TooSmall needed had) of enough builds files file holds = absurd of
failed result told one before after failure.Flash of enough builds files file holds =
    record { enough = enough; files = files refl; file = file; holds = holds }
failed result told one before after failure.Sink of enough builds files file holds = absurd of

module _ {T : Type 0} where
  -- a loading ended so of the tables that the files spell
  pub ends_spelled : (told : Bool) (opening : Opening TablesInput) (input : Input) (words : Load) (result : Result T LoadFailure) (before after : Outside)
      → AreSpelled opening input → EndsLoading told (loading input.schema input.tables words) result before after
      → EndsLoadCall told opening words result before after
  ends_spelled told opening input words (Ok done) before after are ended = record {
    input = record { schema = input.schema; files = are.files };
    spelled = are.spelled;
    ended = subst (λ (database : Database). EndsLoading told (loading input.schema database words) (Ok done) before after) are.tables ended;
  }
  ends_spelled told opening input words (Err failure.NoMemory) before after are ended = inr (record {
    input = record { schema = input.schema; files = are.files };
    spelled = are.spelled;
    ended = subst (λ (database : Database). EndsLoading {T = T} told (loading input.schema database words) (Err failure.NoMemory) before after) are.tables ended;
  })
  ends_spelled told opening input words (Err failure.Depot) before after are ended = inr (record {
    input = record { schema = input.schema; files = are.files };
    spelled = are.spelled;
    ended = subst (λ (database : Database). EndsLoading {T = T} told (loading input.schema database words) (Err failure.Depot) before after) are.tables ended;
  })
  ends_spelled told opening input words (Err (failure.Input broken)) before after are ended = absurd ended
  ends_spelled told opening input words (Err (failure.TooSmall needed had)) before after are ended = record {
    input = record { schema = input.schema; files = are.files };
    spelled = are.spelled;
    ended = subst (λ (database : Database). EndsLoading {T = T} told (loading input.schema database words) (Err (failure.TooSmall needed had)) before after) are.tables ended;
  }
  ends_spelled told opening input words (Err failure.Flash) before after are ended = record {
    input = record { schema = input.schema; files = are.files };
    spelled = are.spelled;
    ended = subst (λ (database : Database). EndsLoading {T = T} told (loading input.schema database words) (Err failure.Flash) before after) are.tables ended;
  }
  ends_spelled told opening input words (Err failure.Sink) before after are ended = record {
    input = record { schema = input.schema; files = are.files };
    spelled = are.spelled;
    ended = subst (λ (database : Database). EndsLoading {T = T} told (loading input.schema database words) (Err failure.Sink) before after) are.tables ended;
  }

  -- a loading ended so of some database
  pub ends_some : (told : Bool) (schema : Schema) (database : Database) (words : Load) (result : Result T LoadFailure) (before after : Outside)
      → IsDatabase schema database → EndsLoading told (loading schema database words) result before after
      → EndsSomeLoad told words result before after
  ends_some told schema database words (Ok done) before after are ended =
      record { schema = schema; database = database; are = are; ended = ended }
  ends_some told schema database words (Err failure.NoMemory) before after are ended =
      inr (record { schema = schema; database = database; are = are; ended = ended })
  ends_some told schema database words (Err failure.Depot) before after are ended =
      inr (record { schema = schema; database = database; are = are; ended = ended })
  ends_some told schema database words (Err (failure.Input broken)) before after are ended = tt
  ends_some told schema database words (Err (failure.TooSmall needed had)) before after are ended =
      record { schema = schema; database = database; are = are; ended = ended }
  ends_some told schema database words (Err failure.Flash) before after are ended =
      record { schema = schema; database = database; are = are; ended = ended }
  ends_some told schema database words (Err failure.Sink) before after are ended =
      record { schema = schema; database = database; are = are; ended = ended }

module _ (schema : Schema) (database : Database) (words : Load) (prepared : Prepared) where
  pub large_enough : IsPrepared schema database words.blocks prepared → need prepared.cat ≤ 64 * prepared.blocks
      → need (catalog_for schema database) ≤ pages_for (catalog_for schema database) words.blocks
  large_enough are enough =
      subst (λ blocks. need (catalog_for schema database) ≤ 64 * blocks) are.blocks
      (subst (λ (cat : Catalog). need cat ≤ 64 * prepared.blocks) are.cat enough)

  pub host_file : IsPrepared schema database words.blocks prepared → (before after : Outside)
      → after.files ≡ with_file before.files words.visible prepared.image.items → HasHostFile (loading schema database words) before after
  host_file are before after file = file ∙ ap (λ bytes. with_file before.files words.visible bytes) are.image

  -- what holds of what was prepared holds of the database
  of_database : IsPrepared schema database words.blocks prepared → (P : Catalog → Hidden → Type 0)
      → P prepared.cat prepared.hidden → P (catalog_for schema database) (hidden_of schema database)
  of_database are P holds =
      subst (P (catalog_for schema database)) are.hidden (subst (λ (cat : Catalog). P cat prepared.hidden) are.cat holds)

  pub files_stand : IsPrepared schema database words.blocks prepared → (page : ℕ → List ℕ)
      → HoldsFiles page prepared.cat prepared.hidden → HoldsFiles page (catalog_for schema database) (hidden_of schema database)
  files_stand are page holds = of_database are (HoldsFiles page) holds

  -- what was prepared was built
  pub built : (told : Bool) → IsPrepared schema database words.blocks prepared → need prepared.cat ≤ 64 * prepared.blocks
      → (after : Outside) → IsBuilt told prepared words.flash after.device → Builds told (loading schema database words) after
  built told are enough after is = record {
    enough = large_enough are enough;
    name = is.name;
    pages = is.pages ∙ ap (λ blocks. 64 * blocks) are.blocks;
    holds = λ t. files_stand are after.device.page (is.holds t);
  }

  -- the host's file is as before, or written where it was
  pub written : (told : Bool) → IsPrepared schema database words.blocks prepared → need prepared.cat ≤ 64 * prepared.blocks → (before after : Outside)
      → (after.files ≡ before.files) ⊎ IsBuilt told prepared words.flash after.device
      → (after.files ≡ before.files) ⊎ (after.files ≡ with_file before.files words.visible prepared.image.items)
      → (after.files ≡ before.files) ⊎ WritesFile told (loading schema database words) before after
  written told are enough before after (inl same) file = inl same
  written told are enough before after (inr is) (inl same) = inl same
  written told are enough before after (inr is) (inr file) =
      inr (record { builds = built told are enough after is; file = host_file are before after file })

  -- what was prepared stands
  pub stands : (told : Bool) → IsPrepared schema database words.blocks prepared → (before after : Outside)
      → need prepared.cat ≤ 64 * prepared.blocks
      → after.device.name ≡ Some words.flash
      → (told ≡ true → Holds after.device.page prepared.cat prepared.hidden)
      → after.device.page_count ≡ 64 * prepared.blocks
      → after.files ≡ with_file before.files words.visible prepared.image.items
      → Stands told (loading schema database words) before after
  stands told are before after enough name holds pages file = record {
    name = name;
    holds = λ t. of_database are (Holds after.device.page) (holds t);
    pages = pages ∙ ap (λ blocks. 64 * blocks) are.blocks;
    enough = large_enough are enough;
    file = host_file are before after file;
  }

  same_line : IsPrepared schema database words.blocks prepared
      → loaded_line prepared.cat (64 * prepared.blocks) ≡ loaded_line (catalog_for schema database) (pages_for (catalog_for schema database) words.blocks)
  same_line are =
      ap (λ (cat : Catalog). loaded_line cat (64 * prepared.blocks)) are.cat
      ∙ ap (λ blocks. loaded_line (catalog_for schema database) (64 * blocks)) are.blocks

  pub printed : IsPrepared schema database words.blocks prepared → (before after : Outside)
      → after.written ≡ grown before.written (loaded_line prepared.cat (64 * prepared.blocks))
      → after.written ≡ grown before.written (loaded_line (catalog_for schema database) (pages_for (catalog_for schema database) words.blocks))
  printed are before after h = h ∙ ap (λ line. grown before.written line) (same_line are)

  pub front_printed : IsPrepared schema database words.blocks prepared → (before after : Outside)
      → GrowsByFront before.written (loaded_line prepared.cat (64 * prepared.blocks)) after.written
      → GrowsByFront before.written (loaded_line (catalog_for schema database) (pages_for (catalog_for schema database) words.blocks)) after.written
  front_printed are before after h = subst (λ line. GrowsByFront before.written line after.written) (same_line are) h

  -- how a loading of it ended: `held` are the files before the making
  pub loaded : (told : Bool) → IsPrepared schema database words.blocks prepared → need prepared.cat ≤ 64 * prepared.blocks → (before after : Outside) (held : Option Files)
      → held ≡ before.files → IsMade told prepared words.flash words.visible held after.files after.device
      → after.written ≡ grown before.written (loaded_line prepared.cat (64 * prepared.blocks))
      → EndsLoading {T = Unit {0}} told (loading schema database words) (Ok tt) before after
  loaded told are enough before after held same made line = record {
    stands = stands told are before after enough made.name made.holds made.pages (made.file ∙ ap (λ (files : Option Files). with_file files words.visible prepared.image.items) same);
    printed = printed are before after line;
  }

  pub unprinted : (told : Bool) → IsPrepared schema database words.blocks prepared → need prepared.cat ≤ 64 * prepared.blocks → (before after : Outside) (held : Option Files)
      → held ≡ before.files → IsMade told prepared words.flash words.visible held after.files after.device
      → GrowsByFront before.written (loaded_line prepared.cat (64 * prepared.blocks)) after.written
      → EndsLoading {T = Unit {0}} told (loading schema database words) (Err failure.Sink) before after
  unprinted told are enough before after held same made front = record {
    stands = stands told are before after enough made.name made.holds made.pages (made.file ∙ ap (λ (files : Option Files). with_file files words.visible prepared.image.items) same);
    front = front_printed are before after front;
  }

  pub unmade : (told : Bool) → IsPrepared schema database words.blocks prepared → need prepared.cat ≤ 64 * prepared.blocks → (before after : Outside) (held : Option Files)
      → held ≡ before.files → (fault : LoadFailure) → IsOfMaking {T = Unit {0}} (Err fault)
      → IsMadeInOrder {T = Unit {0}} told prepared words.flash words.visible (Err fault) held after.files after.device
      → EndsLoading {T = Unit {0}} told (loading schema database words) (Err fault) before after
  unmade told are enough before after held same fault of made =
      let order = subst (λ (files : Option Files). IsMadeInOrder {T = Unit {0}} told prepared words.flash words.visible (Err fault) files after.files after.device) same made in
      failed {T = Unit {0}} (Err fault) told (loading schema database words) before after fault of
      (large_enough are enough)
      (λ of_depot. built told are enough after (order.depot_last (ap Err of_depot)))
      (λ of_flash. written told are enough before after order.built_first (order.flash_file (ap Err of_flash)))
      (λ some begun. host_file are before after (order.sealed_last some begun))
      (λ some begun t. files_stand are after.device.page (order.files_first some begun t))
