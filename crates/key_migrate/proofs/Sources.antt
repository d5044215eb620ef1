-- What is read back of the old device and the host's file, and what it is under the new catalog.
use Rattle.std.proofs.Common.{◌≡◌, ◌∙◌, ◌≤◌, ℕ, Bool, true, List, map, Option, Some, refl, ap, ap₂, sym, subst}
use Rattle.std.specs.List.{fold}
use Rattle.ghost_model.specs.core.Channel.{Catalog}
use Rattle.ghost_model.specs.core.Database.{IsDatabase}
use Rattle.ghost_model.specs.core.Query.{Field}
use Rattle.ghost_model.specs.core.Split.{Public, Hidden, IsPublic, public_of, hidden_of, rejoined, image}
use Rattle.ghost_model.specs.core.Values.{Database}
use Rattle.ghost_model.specs.forms.Catalog.{BeginsWithCatalog, IsCatalog}
use Rattle.ghost_model.specs.forms.Flash.{IsHidden}
use Rattle.ghost_model.specs.forms.Layout.{catalog_pages, static_end}
use Rattle.ghost_model.specs.laws.CatalogLaws.{CatalogsHaveOneSpelling}
use Rattle.ghost_model.specs.laws.MeaningLaws.{PublicPartsGoWithCatalogs, SplitIsRejoined}
use Rattle.csv_split.specs.Widened.{IsWidened, WidenedSchemasKeepDatabases}
use Rattle.edge_traits.specs.Devices.{Device, pages_under, KeepsPages}
use Rattle.edge_traits.specs.Files.{Files, file_of}
use Rattle.flash_build.specs.Reading.{IsLegalPart}
use Rattle.flash_build.specs.Rejoined.{AreParts, LegalPartsRejoin}
use Rattle.flash_build.specs.Sealing.{public_bytes}
use Rattle.key_load.specs.declared.preparing.Prepared.{Prepared}
use Rattle.key_words.specs.Words.{Migrate}
use Rattle.tree_schema.specs.Catalogs.{catalog_of}
use Rattle.key_migrate.specs.Fields.{AreTaken, catalog_with}
use Rattle.key_migrate.specs.Items.{item_field, migrated, with_field, with_items}
use Rattle.key_migrate.specs.Preparing.{IsPrepared, IsOfSource}
use Rattle.key_migrate.specs.PublicPages.{HasCatalog}
use Rattle.key_migrate.specs.Reading as reading
use Rattle.key_migrate.specs.Stages.{AreOf, IsHiddenOn, IsImageIn, IsKey, IsRead, IsWholeKey, Opens, Source}
use Rattle.key_migrate.specs.declared.parts.Parts.{Parts}
use Rattle.key_migrate.proofs.Named.{named_on}
use Rattle.key_migrate.proofs.Widening.{widened_all}

-- the old device stays what it is while pages are read

pub opens_kept : {told : Bool} {flash : List ℕ} {before a b : Device} → Opens told flash before a → KeepsPages a b → Opens told flash before b
opens_kept {told = told} {flash = flash} {before = before} {a = a} {b = b} opens kept = record {
  name = kept.name ∙ opens.name;
  page = λ t. kept.page ∙ opens.page t;
  kept = named_on told before a b opens.kept kept;
}

-- the catalog is the only one with which the pages under the name begin
pub same_catalog : CatalogsHaveOneSpelling → {told : Bool} {flash : List ℕ} {before opened : Device} {cat : Catalog} (other : Catalog)
    → IsKey told flash before opened cat → told ≡ true → BeginsWithCatalog (public_bytes (pages_under before flash)) other → cat ≡ other
same_catalog one {flash = flash} {before = before} {opened = opened} {cat = cat} other key t begins =
    let again = subst (λ (page : ℕ → List ℕ). BeginsWithCatalog (public_bytes page) other) (sym (key.opens.page t)) begins in
    (one.one_beginning (public_bytes opened.page) cat other (key.catalog t).begins again).0

has_kept : (a b : Device) (cat : Catalog) → HasCatalog a cat → KeepsPages a b → HasCatalog b cat
has_kept a b cat has kept = record {
  pages = subst (λ count. catalog_pages ≤ count) (sym kept.page_count) has.pages;
  begins = subst (λ (page : ℕ → List ℕ). BeginsWithCatalog (public_bytes page) cat) (sym kept.page) has.begins;
}

pub whole_kept : {told : Bool} {flash : List ℕ} {before a b : Device} {cat : Catalog} → IsWholeKey told flash before a cat → KeepsPages a b
    → IsWholeKey told flash before b cat
whole_kept {told = told} {flash = flash} {before = before} {a = a} {b = b} {cat = cat} whole kept = record {
  key = record {
    opens = opens_kept whole.key.opens kept;
    proper = whole.key.proper;
    catalog = λ t. has_kept a b cat (whole.key.catalog t) kept;
  };
  whole = subst (λ count. static_end cat ≤ count) (sym kept.page_count) whole.whole;
}

abbrev pub source_of : (opened : Device) (cat : Catalog) → Parts → Source
source_of opened cat parts = record { opened = opened; cat = cat; database = rejoined cat.schema parts.public parts.hidden }

-- a database of which both parts were read is the one that the two rejoin to
own_rows : SplitIsRejoined → PublicPartsGoWithCatalogs → {contents : Option Files} {name : List ℕ} (page : ℕ → List ℕ) (cat : Catalog) (parts : Parts)
    (file : List ℕ) (database : Database) → IsCatalog cat → reading.IsPublicIn contents name cat parts.public → IsHiddenOn page cat parts.hidden
    → file_of contents name ≡ Some file → AreOf page file cat database → rejoined cat.schema parts.public parts.hidden ≡ database
own_rows split goes page cat parts file database proper public hidden there of =
    let public_is : parts.public ≡ public_of cat.schema database =
    public.one file (public_of cat.schema database) there
    (record { catalog = proper; goes_with = goes cat database of.proper of.counted; spelled = of.image_is }) in
    let hidden_is : parts.hidden ≡ hidden_of cat.schema database =
    hidden.held (hidden_of cat.schema database)
    (record { database = database; proper = of.proper; counted = of.counted; part = refl }) of.columns in
    ap₂ (λ (one : Public) (other : Hidden). rejoined cat.schema one other) public_is hidden_is ∙ split cat.schema database of.proper

pub is_read : CatalogsHaveOneSpelling → SplitIsRejoined → PublicPartsGoWithCatalogs
    → (told : Bool) (words : Migrate) (contents : Option Files) (before opened : Device) (cat : Catalog) (parts : Parts) → LegalPartsRejoin cat
    → IsWholeKey told words.flash before opened cat → reading.AreParts told words contents opened.page cat parts
    → IsRead told words contents before (source_of opened cat parts)
is_read one split goes told words contents before opened cat parts rejoin key are =
    let both : AreParts cat parts.public parts.hidden = rejoin parts.public parts.hidden are.public.goes_with are.hidden.legal in
    record {
      proper = both.proper;
      counted = both.counted;
      visible = record {
        taken = record { key = key; taken = are.taken.none };
        goes_with = subst (λ (public : Public). IsPublic cat public) both.public_is are.public.goes_with;
        image = subst (λ (public : Public). IsImageIn contents words.visible cat public) both.public_is are.public.image;
      };
      hidden = λ t. subst (λ (hidden : Hidden). IsHiddenOn opened.page cat hidden) both.hidden_is (are.hidden.on t);
      own = λ file other database t there of.
          (let same : cat ≡ other = same_catalog one other key.key t of.catalog in
          let here : AreOf (pages_under before words.flash) file cat database =
          subst (λ (held : Catalog). AreOf (pages_under before words.flash) file held database) (sym same) of in
          let on : AreOf opened.page file cat database =
          subst (λ (page : ℕ → List ℕ). AreOf page file cat database) (sym (key.key.opens.page t)) here in
          record {
            catalog = same;
            rows = own_rows split goes opened.page cat parts file database key.key.proper are.public (are.hidden.on t) there on;
          });
    }

-- under the new catalog

-- the catalog in which the columns that items name may be NULL, of the version that is made
pub renewed_catalog : (cat wider now : Catalog) (items : List (List ℕ)) (fields held : List Field) → AreTaken cat.schema items fields → held ≡ fields
    → wider ≡ catalog_with cat held → now ≡ catalog_of wider.schema wider.counts wider.generation → now ≡ migrated cat items
renewed_catalog cat wider now items fields held taken same wide is =
    is
    ∙ (ap (λ (one : Catalog). catalog_of one.schema one.counts one.generation) (wide ∙ ap (catalog_with cat) same)
    ∙ ap (λ (named : List (Option Field)). catalog_of (fold with_field cat.schema named) cat.counts cat.generation) (sym taken.named))

-- the rows are a database of the new schema too
pub proper_of_source : WidenedSchemasKeepDatabases → (words : Migrate) (opened : Device) (cat : Catalog) (parts : Parts)
    → LegalPartsRejoin cat → IsPublic cat parts.public → IsLegalPart cat parts.hidden
    → IsDatabase (migrated cat words.null).schema (source_of opened cat parts).database
proper_of_source widened words opened cat parts rejoin goes legal =
    widened.databases cat.schema (with_items cat.schema words.null) (rejoined cat.schema parts.public parts.hidden)
    (widened_all cat.schema (map (item_field cat.schema) words.null)) (rejoin parts.public parts.hidden goes legal).proper

pub is_of_source : WidenedSchemasKeepDatabases → (words : Migrate) (opened : Device) (cat : Catalog) (parts : Parts) (prepared : Prepared)
    → LegalPartsRejoin cat → IsPublic cat parts.public → IsLegalPart cat parts.hidden
    → IsPrepared (migrated cat words.null) parts.public parts.hidden words.blocks prepared
    → IsOfSource words (source_of opened cat parts) prepared
is_of_source widened words opened cat parts prepared rejoin goes legal made =
    let both : AreParts cat parts.public parts.hidden = rejoin parts.public parts.hidden goes legal in
    let database = rejoined cat.schema parts.public parts.hidden in
    let later = with_items cat.schema words.null in
    let is : IsWidened cat.schema later = widened_all cat.schema (map (item_field cat.schema) words.null) in
    let public_is : parts.public ≡ public_of later database = both.public_is ∙ sym (widened.public cat.schema later database is) in
    let hidden_is : parts.hidden ≡ hidden_of later database = both.hidden_is ∙ sym (widened.hidden cat.schema later database is) in
    let part : IsHidden (migrated cat words.null) parts.hidden =
    widened.hidden_parts cat (migrated cat words.null) parts.hidden is refl
    (record { database = database; proper = both.proper; counted = both.counted; part = both.hidden_is }) in
    record {
      made = record {
        cat_is = made.cat_is;
        hidden_is = made.hidden_is ∙ hidden_is;
        image_is = made.image_is ∙ ap (λ (public : Public). image (migrated cat words.null) public) public_is;
        pages_are = made.pages_are;
        enough = made.enough;
        most = made.most;
      };
      part =
          subst (λ (hidden : Hidden). IsHidden prepared.cat hidden) (sym made.hidden_is)
          (subst (λ (held : Catalog). IsHidden held parts.hidden) (sym made.cat_is) part);
      proper = proper_of_source widened words opened cat parts rejoin goes legal;
    }
