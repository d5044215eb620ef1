-- What the canonical text is good for, and which catalogs there are. The canonical text of a schema that some text means
-- is another text for it. So each text that means a schema gives a catalog, whatever the numbers of rows are, as far as
-- no table has more than a million, the generation is one that four bytes hold and the version is one that there is. No catalog is
-- long, and each is spelled in bytes. Bytes spell one catalog at most, and begin with one at most, however they go on.
use Rattle.std.specs.Prelude.{◌≡◌, ℕ, ◌<◌, ◌≤◌, ◌^◌, true, List, length, nat_le}
use Rattle.std.specs.List.{list_all}
use Rattle.ghost_model.specs.core.Schema.{Schema}
use Rattle.ghost_model.specs.core.Channel.{Catalog}
use Rattle.ghost_model.specs.refusals.SchemaFaults.{MeansSchema}
use Rattle.ghost_model.specs.refusals.LoadFaults.{most_rows}
use Rattle.ghost_model.specs.forms.Frames.{AreBytes}
use Rattle.ghost_model.specs.forms.Catalog.{canonical_text, is_version, catalog_bytes, IsCatalog, SpellsCatalog, BeginsWithCatalog}

abbrev pub CanonicalTextMeansItsSchema : Type 0
CanonicalTextMeansItsSchema =
    (text : List ℕ) (schema : Schema) → MeansSchema text schema → MeansSchema (canonical_text schema) schema

abbrev pub ACatalogOfEachText : Type 0
ACatalogOfEachText =
    (text : List ℕ) (cat : Catalog) → MeansSchema text cat.schema → length cat.counts ≡ length cat.schema
    → list_all (λ count. nat_le count most_rows) cat.counts ≡ true → 0 < cat.generation → cat.generation < 2 ^ 32
    → is_version cat.version ≡ true → IsCatalog cat

abbrev pub NoCatalogIsLong : Type 0
NoCatalogIsLong = (cat : Catalog) → IsCatalog cat → length (catalog_bytes cat) ≤ 16640

-- what a catalog is spelled with are bytes
abbrev pub CatalogsAreBytes : Type 0
CatalogsAreBytes = (cat : Catalog) → IsCatalog cat → AreBytes (catalog_bytes cat)

pub record CatalogsHaveOneSpelling : Type 0 where
  pub one_catalog :
      (bytes : List ℕ) (cat other : Catalog) → SpellsCatalog bytes cat → SpellsCatalog bytes other → cat ≡ other
  pub one_beginning :
      (bytes : List ℕ) (cat other : Catalog) (first : BeginsWithCatalog bytes cat) (second : BeginsWithCatalog bytes other)
      → (cat ≡ other) × (first.rest ≡ second.rest)
