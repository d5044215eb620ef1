-- Catalogs and their bytes, and the parts of bytes that may begin with a catalog.
use Rattle.std.specs.Prelude.{◌≡◌, ℕ, ◌<◌, ◌≤◌, ◌^◌, true, List, ◌++◌, length}
use Rattle.std.specs.Int.{to_be_bytes, w32}
use Rattle.ghost_model.specs.core.Channel.{Catalog}
use Rattle.ghost_model.specs.forms.Catalog as catalog
use Rattle.tree_schema.specs.Catalogs.{IsCatalog}
use Rattle.tree_schema.specs.Views.{version_of}
use Rattle.tree_schema.specs.declared.catalog_reading.Parts.{Parts}

-- the catalogs of the code are those that both sides may share, and are short
abbrev pub CatalogsAreShort : Type 0
CatalogsAreShort =
    (cat : Catalog) → IsCatalog cat → cat.generation < 2 ^ 32
    → catalog.IsCatalog cat × (length (catalog.catalog_bytes cat) ≤ 16640)

-- a head of a version that there is for a generation and a text, that text, and what follows it
pub record HasParts (bytes : List ℕ) (version generation : ℕ) (text later : List ℕ) : Type 0 where
  pub whole : bytes ≡ catalog.catalog_head version generation (length text) ++ (text ++ later)
  pub some_version : catalog.is_version version ≡ true
  pub generation_fits : generation < 2 ^ 32
  pub text_fits : length text < 2 ^ 32

pub record AreParts (parts : Parts) (version generation : ℕ) (text later : List ℕ) : Type 0 where
  pub same_version : version_of parts.version ≡ version
  pub same_generation : parts.generation ≡ generation
  pub same_text : parts.text.now ≡ text
  pub same_later : parts.later.now ≡ later

-- a number of rows in front of what follows it
pub record BeginsWithCount (bytes : List ℕ) (count : ℕ) (later : List ℕ) : Type 0 where
  pub whole : bytes ≡ to_be_bytes w32 count ++ later
  pub within : count ≤ 1_000_000
