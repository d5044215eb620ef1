-- The catalogs of the worked databases at both versions, the greatest counts and generation that a catalog has, and what is
-- no catalog.
use Rattle.std.specs.Prelude.{◌≡◌, ℕ, List, [], ◌∷◌, ◌++◌, take, drop, replicate, get_or, codes}
use Rattle.ghost_model.specs.core.Channel.{Catalog}
use Rattle.ghost_model.specs.forms.Catalog.{catalog_bytes, IsCatalog, IsCurrent, SpellsCatalog, BeginsWithCatalog}
use Rattle.ghost_model.specs.examples.Clinic.{clinic_catalog, clinic_catalog_one, note_catalog, note_catalog_one}

pub record CatalogsOfExamples : Type 0 where
  pub clinic : IsCatalog clinic_catalog
  pub clinic_at_version_one : IsCatalog clinic_catalog_one
  pub note : IsCatalog note_catalog
  pub note_at_version_one : IsCatalog note_catalog_one
  pub current : IsCurrent clinic_catalog
  pub version_one_is_not_current : IsCurrent clinic_catalog_one → ⊥
  pub no_row_at_all : IsCatalog (record clinic_catalog { counts = 0 ∷ 0 ∷ 0 ∷ [] })
  pub a_million_rows : IsCatalog (record note_catalog { counts = 1000000 ∷ [] })
  pub a_row_more : IsCatalog (record note_catalog { counts = 1000001 ∷ [] }) → ⊥
  pub a_count_too_few : IsCatalog (record clinic_catalog { counts = 3 ∷ 2 ∷ [] }) → ⊥
  pub the_last_generation : IsCatalog (record note_catalog { generation = 4294967295 })
  pub a_generation_more : IsCatalog (record note_catalog { generation = 4294967296 }) → ⊥
  pub generation_zero : IsCatalog (record note_catalog { generation = 0 }) → ⊥
  pub version_three : IsCatalog (record note_catalog { version = 3 }) → ⊥
  pub version_zero : IsCatalog (record note_catalog { version = 0 }) → ⊥
  pub no_table : IsCatalog (record { schema = []; counts = []; generation = 1; version = 2 }) → ⊥

-- bytes that spell no catalog
abbrev pub SpellsNone : List ℕ → Type 0
SpellsNone bytes = (cat : Catalog) → SpellsCatalog bytes cat → ⊥

-- the clinic's catalog with another version
abbrev pub with_version : ℕ → List ℕ
with_version version = take 7 (catalog_bytes clinic_catalog) ++ version ∷ drop 8 (catalog_bytes clinic_catalog)

-- the clinic's catalog with other bytes
pub record BytesOfCatalogs : Type 0 where
  pub version : get_or (catalog_bytes clinic_catalog) 7 0 ≡ 2
  pub version_at_one : get_or (catalog_bytes clinic_catalog_one) 7 0 ≡ 1
  pub version_one : SpellsCatalog (with_version 1) clinic_catalog_one
  pub version_two : SpellsCatalog (with_version 2) clinic_catalog
  pub version_three : SpellsNone (with_version 3)
  pub version_zero : SpellsNone (with_version 0)
  pub another_first_letter : SpellsNone (codes "H" ++ drop 1 (catalog_bytes clinic_catalog))
  pub the_last_byte_missing : SpellsNone (take 364 (catalog_bytes clinic_catalog))
  pub a_byte_more : SpellsNone (catalog_bytes clinic_catalog ++ 0 ∷ [])
  pub a_byte_more_after_it : BeginsWithCatalog (catalog_bytes clinic_catalog ++ 0 ∷ []) clinic_catalog
  pub no_byte : SpellsNone []
  -- pages that hold nothing
  pub blank_pages : (count : ℕ) (cat : Catalog) → BeginsWithCatalog (replicate count 255) cat → ⊥
