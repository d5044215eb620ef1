-- How a call ended that made the new device.
use Rattle.std.proofs.Common.{◌≡◌, ◌∙◌, ◌≤◌, ◌*◌, ◌⊎◌, inl, inr, ℕ, Bool, List, Option, Result, Err, refl, ap, sym, subst}
use Rattle.ghost_model.specs.core.Channel.{Catalog}
use Rattle.ghost_model.specs.core.Split.{Hidden}
use Rattle.ghost_model.specs.forms.Flash.{Holds, HoldsFiles}
use Rattle.ghost_model.specs.forms.Layout.{need}
use Rattle.edge_traits.specs.Files.{Files, with_file}
use Rattle.edge_traits.specs.Written.{grown, GrowsByFront}
use Rattle.key_inputs.specs.Outside.{Outside}
use Rattle.key_load.specs.Preparing.{IsBuilt, IsMade, IsMadeInOrder}
use Rattle.key_load.specs.declared.failures.LoadFailure.{LoadFailure}
use Rattle.key_load.specs.declared.failures.LoadFailure.TheVariants as load_failure
use Rattle.key_load.specs.declared.preparing.Prepared.{Prepared}
use Rattle.key_words.specs.Words.{Migrate}
use Rattle.key_migrate.specs.Preparing.{IsOfRows, IsOfSource}
use Rattle.key_migrate.specs.Renaming.{IsAsMade}
use Rattle.key_migrate.specs.Results.{Builds, EndsMigrate, HasHostFile, IsReady, LeavesUnsealed, Migrates, MigratesUnprinted, Stands, WritesFile, migrated_line, new_catalog, new_hidden, new_pages}
use Rattle.key_migrate.specs.Stages.{Source}
use Rattle.key_migrate.specs.declared.failures.MigrateFailure.{MigrateFailure}

module _ (told : Bool) (words : Migrate) (source : Source) (prepared : Prepared) (of : IsOfSource words source prepared) where
  -- what holds of what was prepared holds of the rows under the new catalog
  of_rows : (P : Catalog → Hidden → Type 0) → P prepared.cat prepared.hidden → P (new_catalog words source) (new_hidden words source)
  of_rows P holds =
      subst (P (new_catalog words source)) of.made.hidden_is
      (subst (λ (cat : Catalog). P cat prepared.hidden) of.made.cat_is holds)

  large_enough : need (new_catalog words source) ≤ new_pages words source
  large_enough =
      subst (λ pages. need (new_catalog words source) ≤ pages) of.made.pages_are
      (subst (λ (cat : Catalog). need cat ≤ 64 * prepared.blocks) of.made.cat_is of.made.enough)

  host_file : (before after : Outside) (held : Option Files) → before.files ≡ held
      → after.files ≡ with_file held words.to_visible prepared.image.items → HasHostFile words source before after
  host_file before after held same file =
      file
      ∙ (ap (λ (files : Option Files). with_file files words.to_visible prepared.image.items) (sym same)
      ∙ ap (λ bytes. with_file before.files words.to_visible bytes) of.made.image_is)

  built : (after : Outside) → IsBuilt told prepared words.to_flash after.device → Builds told words source after
  built after is = record {
    name = is.name;
    pages = is.pages ∙ of.made.pages_are;
    holds = λ t. of_rows (HoldsFiles after.device.page) (is.holds t);
  }

  stands : (before after : Outside) (held : Option Files) → before.files ≡ held
      → IsMade told prepared words.to_flash words.to_visible held after.files after.device → Stands told words source before after
  stands before after held same made = record {
    name = made.name;
    pages = made.pages ∙ of.made.pages_are;
    holds = λ t. of_rows (Holds after.device.page) (made.holds t);
    file = host_file before after held same made.file;
  }

  same_line : migrated_line prepared.cat ≡ migrated_line (new_catalog words source)
  same_line = ap (λ (cat : Catalog). migrated_line cat) of.made.cat_is

  file_so_far : (before after : Outside) (held : Option Files) → before.files ≡ held
      → (after.files ≡ held) ⊎ IsBuilt told prepared words.to_flash after.device
      → (after.files ≡ held) ⊎ (after.files ≡ with_file held words.to_visible prepared.image.items)
      → (after.files ≡ before.files) ⊎ WritesFile told words source before after
  file_so_far before after held same (inl left) file = inl (left ∙ sym same)
  file_so_far before after held same (inr is) (inl left) = inl (left ∙ sym same)
  file_so_far before after held same (inr is) (inr file) = inr (record { builds = built after is; file = host_file before after held same file })

  unsealed : (before after : Outside) (held : Option Files) → before.files ≡ held → IsReady told words before source
      → (result : Result (Unit {0}) LoadFailure) → IsMadeInOrder told prepared words.to_flash words.to_visible result held after.files after.device
      → result ≡ Err load_failure.Flash → LeavesUnsealed told words before after
  unsealed before after held same ready result order is = record {
    source = source;
    ready = ready;
    files = file_so_far before after held same order.built_first (order.flash_file is);
    file = λ some begun. host_file before after held same (order.sealed_last some begun);
    holds = λ some begun t. of_rows (HoldsFiles after.device.page) (order.files_first some begun t);
  }

ready_of : (told : Bool) (words : Migrate) (before : Outside) (prepared : Prepared) (rows : IsOfRows told words before.files before.device prepared)
    → IsReady told words before rows.source
ready_of told words before prepared rows = record { read = rows.read; proper = rows.of.proper; enough = large_enough told words rows.source prepared rows.of }

pub made_ends : (told : Bool) (words : Migrate) (before after : Outside) (prepared : Prepared) (held : Option Files) (printed : Option (List ℕ))
    → IsOfRows told words before.files before.device prepared → before.files ≡ held → before.written ≡ printed
    → IsMade told prepared words.to_flash words.to_visible held after.files after.device
    → after.written ≡ grown printed (migrated_line prepared.cat) → Migrates told words before after
made_ends told words before after prepared held printed rows same as_before made line = record {
  source = rows.source;
  ready = ready_of told words before prepared rows;
  stands = stands told words rows.source prepared rows.of before after held same made;
  printed =
      line
      ∙ (ap (λ (written : Option (List ℕ)). grown written (migrated_line prepared.cat)) (sym as_before)
      ∙ ap (λ line. grown before.written line) (same_line told words rows.source prepared rows.of));
}

pub unprinted_ends : (told : Bool) (words : Migrate) (before after : Outside) (prepared : Prepared) (held : Option Files) (printed : Option (List ℕ))
    → IsOfRows told words before.files before.device prepared → before.files ≡ held → before.written ≡ printed
    → IsMade told prepared words.to_flash words.to_visible held after.files after.device
    → GrowsByFront printed (migrated_line prepared.cat) after.written → MigratesUnprinted told words before after
unprinted_ends told words before after prepared held printed rows same as_before made front = record {
  source = rows.source;
  ready = ready_of told words before prepared rows;
  stands = stands told words rows.source prepared rows.of before after held same made;
  front =
      subst (λ (written : Option (List ℕ)). GrowsByFront written (migrated_line (new_catalog words rows.source)) after.written) (sym as_before)
      (subst (λ line. GrowsByFront printed line after.written) (same_line told words rows.source prepared rows.of) front);
}

pub unmade_ends : (told : Bool) (words : Migrate) (before after : Outside) (prepared : Prepared) (held : Option Files) (fault : LoadFailure) (result : MigrateFailure)
    → IsOfRows told words before.files before.device prepared → before.files ≡ held → IsAsMade fault result
    → IsMadeInOrder {T = Unit {0}} told prepared words.to_flash words.to_visible (Err fault) held after.files after.device
    → (fault ≡ load_failure.NoMemory → after.files ≡ held)
    → EndsMigrate {T = Unit {0}} told words (Err result) before after
unmade_ends told words before after prepared held load_failure.NoMemory result rows same is order left =
    subst (λ (fault : MigrateFailure). EndsMigrate {T = Unit {0}} told words (Err fault) before after) (sym is)
    (inr (inr (record { source = rows.source; ready = ready_of told words before prepared rows; files = left refl ∙ sym same })))
unmade_ends told words before after prepared held load_failure.Depot result rows same is order left =
    subst (λ (fault : MigrateFailure). EndsMigrate {T = Unit {0}} told words (Err fault) before after) (sym is)
    (inr (record {
      source = rows.source;
      ready = ready_of told words before prepared rows;
      builds = built told words rows.source prepared rows.of after (order.depot_last refl);
    }))
unmade_ends told words before after prepared held (load_failure.Input broken) result rows same is order left = absurd is
unmade_ends told words before after prepared held (load_failure.TooSmall needed had) result rows same is order left = absurd is
unmade_ends told words before after prepared held load_failure.Flash result rows same is order left =
    subst (λ (fault : MigrateFailure). EndsMigrate {T = Unit {0}} told words (Err fault) before after) (sym is)
    (inr (inr (unsealed told words rows.source prepared rows.of before after held same (ready_of told words before prepared rows) (Err load_failure.Flash) order refl)))
unmade_ends told words before after prepared held load_failure.Sink result rows same is order left = absurd is
