use Rattle.std.proofs.Common.{◌≡◌, ℕ, zero, suc, true, false, List, [], ◌∷◌, ◌++◌, take, drop, replicate, get_or, Ok, refl, sym, ap, ◌∙◌, append-nil, arith}
use Rattle.std.specs.Fmt.{digits}
use Rattle.ghost_model.specs.core.Schema.{places_from, ancestor}
use Rattle.ghost_model.specs.core.Channel.{Catalog}
use Rattle.ghost_model.specs.refusals.Tokens.{tokens_from, quoted_from}
use Rattle.ghost_model.specs.readings.SchemaPlaces.{syntax_from}
use Rattle.ghost_model.specs.refusals.SchemaFaults.{fields_from, MeansSchema}
use Rattle.ghost_model.specs.readings.SchemaReading.{schema_reading}
use Rattle.ghost_model.specs.forms.Catalog.{canonical_text, is_version, catalog_bytes, IsCatalog, SpellsCatalog, BeginsWithCatalog}
use Rattle.ghost_model.specs.examples.Clinic.{clinic_schema, clinic_catalog, clinic_catalog_one}
use Rattle.ghost_model.specs.examples.Catalogs.{SpellsNone, with_version}
use Rattle.ghost_model.proofs.SchemaRuleLemmas.{one_schema}
use Rattle.ghost_model.proofs.CatalogSpellingLemmas.{catalogs_have_one_spelling}
use Rattle.ghost_model.proofs.catalogs.bytes_of_catalogs.Goals as goal

clinic_reads : schema_reading (canonical_text clinic_schema) ≡ Ok clinic_schema
unfolding tokens_from quoted_from syntax_from places_from ancestor fields_from digits
clinic_reads = refl

clinic_means : MeansSchema (canonical_text clinic_schema) clinic_schema
clinic_means = (one_schema.read (canonical_text clinic_schema) clinic_schema).0 clinic_reads

the_clinic : IsCatalog clinic_catalog
the_clinic = record {
  meant = clinic_means;
  counted = refl;
  few_rows = refl;
  some_generation = omega arith;
  generation_fits = omega arith;
  some_version = refl;
}

the_clinic_at_one : IsCatalog clinic_catalog_one
the_clinic_at_one = record {
  meant = clinic_means;
  counted = refl;
  few_rows = refl;
  some_generation = omega arith;
  generation_fits = omega arith;
  some_version = refl;
}

-- the first eight bytes of each catalog
abbrev marked : ℕ → List ℕ
marked version = 71 ∷ 72 ∷ 79 ∷ 83 ∷ 84 ∷ 68 ∷ 66 ∷ version ∷ []

other_head : (bytes : List ℕ) (cat : Catalog) → SpellsCatalog bytes cat → take 8 bytes ≡ marked cat.version
other_head bytes cat spells = ap (take 8) spells.spelled

whole : catalog_bytes clinic_catalog ≡ take 364 (catalog_bytes clinic_catalog) ++ 4 ∷ []
unfolding digits
whole = refl

-- what goes on after a catalog spells none, and what a catalog goes on after spells none
no_front : (bytes rest : List ℕ) (cat : Catalog) → catalog_bytes clinic_catalog ≡ bytes ++ rest → SpellsCatalog bytes cat → [] ≡ rest
no_front bytes rest cat e spells =
    (catalogs_have_one_spelling.one_beginning (catalog_bytes clinic_catalog) clinic_catalog cat
    (record { proper = the_clinic; rest = []; begins = sym (append-nil (catalog_bytes clinic_catalog)) })
    (record { proper = spells.proper; rest = rest; begins = e ∙ ap (λ (xs : List ℕ). xs ++ rest) spells.spelled })).1

no_more : (rest : List ℕ) (cat : Catalog) → SpellsCatalog (catalog_bytes clinic_catalog ++ rest) cat → rest ≡ []
no_more rest cat spells =
    (catalogs_have_one_spelling.one_beginning (catalog_bytes clinic_catalog ++ rest) clinic_catalog cat
    (record { proper = the_clinic; rest = rest; begins = refl })
    (record { proper = spells.proper; rest = []; begins = spells.spelled ∙ sym (append-nil (catalog_bytes cat)) })).1

no_such_letter : ◌≡◌ {A = ℕ} 72 71 → ⊥
no_such_letter e = omega (arith, e)

first_letter : SpellsNone (72 ∷ drop 1 (catalog_bytes clinic_catalog))
first_letter cat spells =
    no_such_letter (ap (λ (xs : List ℕ). get_or xs 0 0) (other_head (72 ∷ drop 1 (catalog_bytes clinic_catalog)) cat spells))

-- bytes with a version that there is not spell none
no_version : (version : ℕ) → is_version version ≡ false → SpellsNone (with_version version)
no_version version none cat spells =
    let same : version ≡ cat.version = ap (λ (xs : List ℕ). get_or xs 7 0) (other_head (with_version version) cat spells) in
    let clash : false ≡ true = sym none ∙ (ap is_version same ∙ spells.proper.some_version) in
    absurd (cc)

empty_or : (b : ℕ) (rest : List ℕ) → [] ≡ b ∷ rest → ⊥
empty_or b rest e = absurd (cc)

-- a blank page has no letter
no_such_byte : ◌≡◌ {A = ℕ} 255 71 → ⊥
no_such_byte e = omega (arith, e)

no_blank : (count : ℕ) (cat : Catalog) → BeginsWithCatalog (replicate count 255) cat → ⊥
no_blank zero cat front = empty_or _ _ front.begins
no_blank (suc count) cat front = no_such_byte (ap (λ (xs : List ℕ). get_or xs 0 0) front.begins)

pub returns : goal.returns
returns c = record {
  version = refl;
  version_at_one = refl;
  version_one = record { proper = the_clinic_at_one; spelled = refl };
  version_two = record { proper = the_clinic; spelled = refl };
  version_three = no_version 3 refl;
  version_zero = no_version 0 refl;
  another_first_letter = first_letter;
  the_last_byte_missing = λ cat spells. empty_or 4 [] (no_front (take 364 (catalog_bytes clinic_catalog)) (4 ∷ []) cat whole spells);
  a_byte_more = λ cat spells. empty_or 0 [] (sym (no_more (0 ∷ []) cat spells));
  a_byte_more_after_it = record { proper = the_clinic; rest = 0 ∷ []; begins = refl };
  no_byte = λ cat spells. empty_or _ _ (other_head [] cat spells);
  blank_pages = no_blank;
}
