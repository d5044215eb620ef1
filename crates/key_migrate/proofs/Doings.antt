-- What the command did, from what its two halves say.
use Rattle.std.proofs.Common.{◌≡◌, ◌≢◌, ◌∙◌, ◌≤◌, inl, inr, ℕ, Bool, true, false, true≢false, List, Option, Some, None, Result, Ok, Err, refl, ap, sym, subst, bytes_eq}
use Rattle.std.specs.Prelude.{is_some}
use Rattle.std.proofs.lemmas.Slice.Eq.{bytes_eq-Decides}
use Rattle.ghost_model.specs.core.Channel.{Catalog}
use Rattle.ghost_model.specs.core.Split.{SpellsImage, hidden_of, public_of}
use Rattle.ghost_model.specs.forms.Catalog.{BeginsWithCatalog}
use Rattle.ghost_model.specs.forms.Layout.{catalog_pages}
use Rattle.ghost_model.specs.laws.CatalogLaws.{CatalogsHaveOneSpelling}
use Rattle.ghost_model.specs.laws.MeaningLaws.{PublicPartsGoWithCatalogs}
use Rattle.edge_traits.specs.Devices.{Device, pages_under}
use Rattle.edge_traits.specs.Files.{Files, SameBut, file_of}
use Rattle.flash_build.specs.Sealing.{public_bytes}
use Rattle.key_inputs.proofs.Causes.{stays}
use Rattle.key_inputs.specs.Outside.{HasCauses, IsTold, Outside, Same, Verdict}
use Rattle.key_load.specs.Results.{HasBlankPage0, IsUnsealed}
use Rattle.key_words.specs.Blocks.{AreApart}
use Rattle.key_words.specs.Words.{Migrate}
use Rattle.key_migrate.specs.Devices.{IsNoOther, KeepsNamed, KeepsOthers}
use Rattle.key_migrate.specs.Doing.{IsSpared, MigrateDid}
use Rattle.key_migrate.specs.Items.{refused_item}
use Rattle.key_migrate.specs.Results.{EndsMigrate, MakesNothing, is_faultless, leaves_page_0, makes_nothing, told_by, writes_nothing}
use Rattle.key_migrate.specs.Stages.{HoldsNoPart, IsKey, Opens}
use Rattle.key_migrate.specs.declared.failures.MigrateFailure.{MigrateFailure}
use Rattle.key_migrate.specs.declared.failures.MigrateFailure.TheVariants as failure
use Rattle.key_migrate.proofs.Named.{others_since}
use Rattle.key_migrate.proofs.Sources.{same_catalog}

module _ (one : CatalogsHaveOneSpelling) (goes : PublicPartsGoWithCatalogs) (told : Bool) (words : Migrate) (before after : Outside) where
  -- the image of a database's public part is an image
  image_there : (spared : IsSpared told words before after) → SpellsImage spared.cat (public_of spared.cat.schema spared.database) spared.file
  image_there spared = record {
    catalog = spared.are.catalog.proper;
    goes_with = goes spared.cat spared.database spared.are.proper spared.are.counted;
    spelled = spared.are.image_is;
  }

  its_catalog : (spared : IsSpared told words before after) (opened : Device) (cat : Catalog) → IsKey told words.flash before.device opened cat
      → cat ≡ spared.cat
  its_catalog spared opened cat key = same_catalog one spared.cat key spared.is_told spared.are.catalog

  -- what holds of a file that is no image, of a refused item or of damage cannot be there
  none_refused : (spared : IsSpared told words before after) (opened : Device) (cat : Catalog) (item : ℕ) → IsKey told words.flash before.device opened cat
      → refused_item cat.schema words.null ≡ Some item → ⊥
  none_refused spared opened cat item key refused =
      let same = its_catalog spared opened cat key in
      let taken : refused_item cat.schema words.null ≡ None = ap (λ (held : Catalog). refused_item held.schema words.null) same ∙ spared.taken in
      let never : None ≡ Some item = sym taken ∙ refused in
      cc

  held_there : (spared : IsSpared told words before after) (opened : Device) (cat : Catalog) → IsKey told words.flash before.device opened cat
      → HoldsNoPart opened.page cat → ⊥
  held_there spared opened cat key none =
      let same = its_catalog spared opened cat key in
      let page = key.opens.page spared.is_told in
      let here : HoldsNoPart (pages_under before.device words.flash) spared.cat =
      subst (λ (pages : ℕ → List ℕ). HoldsNoPart pages spared.cat) page (subst (λ (held : Catalog). HoldsNoPart opened.page held) same none) in
      here (hidden_of spared.cat.schema spared.database)
      (record { database = spared.database; proper = spared.are.proper; counted = spared.are.counted; part = refl }) spared.are.columns

  begins_there : (spared : IsSpared told words before after) (opened : Device) → Opens told words.flash before.device opened
      → BeginsWithCatalog (public_bytes opened.page) spared.cat
  begins_there spared opened opens =
      subst (λ (page : ℕ → List ℕ). BeginsWithCatalog (public_bytes page) spared.cat) (sym (opens.page spared.is_told)) spared.are.catalog

  pub complete_of : (result : Result (Unit {0}) MigrateFailure) → EndsMigrate told words result before after → HasCauses (told_by result) before after
      → IsSpared told words before after → (result ≡ Err failure.NotAKey → catalog_pages ≤ after.device.page_count) → is_faultless result ≡ true
  complete_of (Ok done) ends causes spared pages = refl
  complete_of (Err failure.NoMemory) ends causes spared pages = refl
  complete_of (Err (failure.NullName item)) ends causes spared pages =
      absurd (none_refused spared after.device ends.cat item ends.key.key ends.refused)
  complete_of (Err failure.Depot) ends causes spared pages = absurd (spared.depot (causes.depot.rose refl))
  complete_of (Err failure.Flash) ends causes spared pages = absurd (spared.flash (causes.flash.rose refl))
  complete_of (Err failure.Sink) ends causes spared pages = absurd (spared.sink (causes.sink.rose refl))
  complete_of (Err (failure.OldTooSmall needed had)) ends causes spared pages = refl
  complete_of (Err (failure.TooSmall needed had)) ends causes spared pages = refl
  complete_of (Err failure.NotAKey) ends causes spared pages =
      absurd (ends.none spared.is_told spared.cat (record { pages = pages refl; begins = begins_there spared after.device ends.opens }))
  complete_of (Err (failure.Damaged number slot found)) ends causes spared pages =
      absurd (held_there spared after.device ends.cat ends.image.taken.key.key (ends.holds_none spared.is_told))
  complete_of (Err failure.NotTheFile) ends causes spared pages =
      let same = its_catalog spared after.device ends.cat ends.taken.key.key in
      absurd (ends.none spared.file spared.there (public_of spared.cat.schema spared.database)
      (subst (λ (held : Catalog). SpellsImage held (public_of spared.cat.schema spared.database) spared.file) (sym same) (image_there spared)))

-- counts of faults

told_same : (verdict : Verdict) (before after : ℕ) → verdict ≡ Same → after ≡ before → IsTold verdict before after
told_same verdict before after is same =
    subst (λ (held : Verdict). IsTold held before after) (sym is) (stays same)

quiet : (fault : MigrateFailure) → (fault ≡ failure.Sink → ⊥) → (told_by {T = Unit {0}} (Err fault)).sink ≡ Same
quiet failure.NoMemory apart = refl
quiet (failure.NullName item) apart = refl
quiet failure.Depot apart = refl
quiet failure.Flash apart = refl
quiet failure.Sink apart = absurd (apart refl)
quiet (failure.OldTooSmall needed had) apart = refl
quiet (failure.TooSmall needed had) apart = refl
quiet failure.NotAKey apart = refl
quiet (failure.Damaged number slot found) apart = refl
quiet failure.NotTheFile apart = refl

appends_nothing : (result : Result (Unit {0}) MigrateFailure) → (told_by result).append ≡ Same
appends_nothing (Ok done) = refl
appends_nothing (Err failure.NoMemory) = refl
appends_nothing (Err (failure.NullName item)) = refl
appends_nothing (Err failure.Depot) = refl
appends_nothing (Err failure.Flash) = refl
appends_nothing (Err failure.Sink) = refl
appends_nothing (Err (failure.OldTooSmall needed had)) = refl
appends_nothing (Err (failure.TooSmall needed had)) = refl
appends_nothing (Err failure.NotAKey) = refl
appends_nothing (Err (failure.Damaged number slot found)) = refl
appends_nothing (Err failure.NotTheFile) = refl

pub causes_of : (result : Result (Unit {0}) MigrateFailure) (before after : Outside) → IsTold (told_by result).sink before.sink_faults after.sink_faults
    → IsTold (told_by result).depot before.depot_faults after.depot_faults → after.append_faults ≡ before.append_faults
    → IsTold (told_by result).flash before.device.faults after.device.faults → HasCauses (told_by result) before after
causes_of result before after sink depot append flash = record {
  sink = sink;
  depot = depot;
  append = told_same (told_by result).append before.append_faults after.append_faults (appends_nothing result) append;
  flash = flash;
}

pub quiet_sink : (fault : MigrateFailure) (before after : Outside) → (fault ≡ failure.Sink → ⊥) → after.sink_faults ≡ before.sink_faults
    → IsTold (told_by {T = Unit {0}} (Err fault)).sink before.sink_faults after.sink_faults
quiet_sink fault before after apart same =
    told_same (told_by {T = Unit {0}} (Err fault)).sink before.sink_faults after.sink_faults (quiet fault apart) same

-- the two halves

pub did_nothing : CatalogsHaveOneSpelling → PublicPartsGoWithCatalogs → (told : Bool) (words : Migrate) (before after : Outside) (fault : MigrateFailure)
    → EndsMigrate {T = Unit {0}} told words (Err fault) before after → MakesNothing told words before after
    → HasCauses (told_by {T = Unit {0}} (Err fault)) before after → MigrateDid told (Err fault) before after words
did_nothing one goes told words before after fault ends nothing causes = record {
  ends = ends;
  complete = complete_of one goes told words before after (Err fault) ends causes;
  nothing_made = λ _. nothing;
  nothing_written = λ _. nothing.written;
  made_first = λ _. nothing.files;
  never_other = λ other is. inl (nothing.name other is);
  page_0 = λ _. inl nothing;
  unsealed = inl nothing;
  old_flash = λ t. nothing.kept t words.flash;
  old_file = ap (λ (files : Option Files). file_of files words.visible) nothing.files;
  others = record {
    told = ap (λ (files : Option Files). is_some files) nothing.files;
    others = λ other _. ap (λ (files : Option Files). file_of files other) nothing.files;
  };
  other_flashes = λ t other _. nothing.kept t other;
  causes = causes;
}

unequal_names : (one other : List ℕ) → one ≢ other → bytes_eq other one ≡ false
unequal_names one other apart = by (bytes_eq other one) refl
  where
    by : (b : Bool) → bytes_eq other one ≡ b → bytes_eq other one ≡ false
    by true e = absurd (apart (sym ((bytes_eq-Decides other one).0 e)))
    by false e = e

pub did_make : CatalogsHaveOneSpelling → PublicPartsGoWithCatalogs → (told : Bool) (words : Migrate) (before after : Outside) (opened : Device)
    (held : Option Files) (result : Result (Unit {0}) MigrateFailure) → AreApart words.flash words.visible words.to_flash words.to_visible
    → EndsMigrate told words result before after → makes_nothing result ≡ false → IsNoOther words.to_flash after.device
    → KeepsNamed told before.device opened → KeepsOthers told words.to_flash opened after.device
    → (leaves_page_0 result ≡ true → HasBlankPage0 after.device) → IsUnsealed told after.device
    → held ≡ before.files → (after.device.page_count ≡ 0 → after.files ≡ held) → SameBut words.to_visible held after.files
    → (writes_nothing result ≡ true → after.written ≡ before.written) → HasCauses (told_by result) before after
    → MigrateDid told result before after words
did_make one goes told words before after opened held result apart ends made name kept others page_0 unsealed same first files written causes =
    let left = others_since told words.to_flash before.device opened after.device kept others in
    let but : SameBut words.to_visible before.files after.files =
    subst (λ (held : Option Files). SameBut words.to_visible held after.files) same files in
    record {
      ends = ends;
      complete = complete_of one goes told words before after result ends causes;
      nothing_made = λ nothing. absurd (true≢false (sym nothing ∙ made));
      nothing_written = written;
      made_first = λ none. first none ∙ same;
      never_other = λ other is. inr (name other is);
      page_0 = λ is. inr (page_0 is);
      unsealed = inr unsealed;
      old_flash = λ t. left t words.flash (unequal_names words.flash words.to_flash apart.flashes);
      old_file = but.others words.visible apart.visibles;
      others = but;
      other_flashes = left;
      causes = causes;
    }
