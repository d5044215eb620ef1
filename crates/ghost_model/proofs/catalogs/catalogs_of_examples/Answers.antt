use Rattle.std.proofs.Common.{◌≡◌, [], Ok, Err, refl, sym, ◌∙◌, arith}
use Rattle.std.specs.Fmt.{digits}
use Rattle.ghost_model.specs.core.Schema.{places_from, ancestor}
use Rattle.ghost_model.specs.refusals.Tokens.{tokens_from, quoted_from}
use Rattle.ghost_model.specs.readings.SchemaPlaces.{syntax_from}
use Rattle.ghost_model.specs.refusals.SchemaFaults.{NotOneRoot, fields_from, MeansSchema}
use Rattle.ghost_model.specs.readings.SchemaReading.{schema_reading}
use Rattle.ghost_model.specs.forms.Catalog.{canonical_text}
use Rattle.ghost_model.specs.examples.Clinic.{clinic_schema, note_schema}
use Rattle.ghost_model.proofs.SchemaRuleLemmas.{one_schema}
use Rattle.ghost_model.proofs.catalogs.catalogs_of_examples.Goals as goal

clinic_reads : schema_reading (canonical_text clinic_schema) ≡ Ok clinic_schema
unfolding tokens_from quoted_from syntax_from places_from ancestor fields_from digits
clinic_reads = refl

note_reads : schema_reading (canonical_text note_schema) ≡ Ok note_schema
unfolding tokens_from quoted_from syntax_from places_from ancestor fields_from digits
note_reads = refl

no_table_reads : schema_reading (canonical_text []) ≡ Err (NotOneRoot 0)
unfolding tokens_from quoted_from syntax_from places_from ancestor fields_from digits
no_table_reads = refl

clinic_means : MeansSchema (canonical_text clinic_schema) clinic_schema
clinic_means = (one_schema.read (canonical_text clinic_schema) clinic_schema).0 clinic_reads

note_means : MeansSchema (canonical_text note_schema) note_schema
note_means = (one_schema.read (canonical_text note_schema) note_schema).0 note_reads

no_table_means : MeansSchema (canonical_text []) [] → ⊥
no_table_means means =
    let read : schema_reading (canonical_text []) ≡ Ok [] = (one_schema.read (canonical_text []) []).1 means in
    let clash : Err (NotOneRoot 0) ≡ Ok [] = sym no_table_reads ∙ read in
    absurd (cc)

pub returns : goal.returns
returns c = record {
  clinic = record { meant = clinic_means; counted = refl; few_rows = refl; some_generation = omega arith; generation_fits = omega arith; some_version = refl };
  clinic_at_version_one = record { meant = clinic_means; counted = refl; few_rows = refl; some_generation = omega arith; generation_fits = omega arith; some_version = refl };
  note = record { meant = note_means; counted = refl; few_rows = refl; some_generation = omega arith; generation_fits = omega arith; some_version = refl };
  note_at_version_one = record { meant = note_means; counted = refl; few_rows = refl; some_generation = omega arith; generation_fits = omega arith; some_version = refl };
  current = record {
    proper = record { meant = clinic_means; counted = refl; few_rows = refl; some_generation = omega arith; generation_fits = omega arith; some_version = refl };
    version = refl;
  };
  version_one_is_not_current = λ h. absurd (omega (arith, h.version));
  no_row_at_all = record { meant = clinic_means; counted = refl; few_rows = refl; some_generation = omega arith; generation_fits = omega arith; some_version = refl };
  a_million_rows = record { meant = note_means; counted = refl; few_rows = refl; some_generation = omega arith; generation_fits = omega arith; some_version = refl };
  a_row_more = λ h. absurd (cc (h.few_rows));
  a_count_too_few = λ h. absurd (omega (arith, h.counted));
  the_last_generation = record { meant = note_means; counted = refl; few_rows = refl; some_generation = omega arith; generation_fits = omega arith; some_version = refl };
  a_generation_more = λ h. absurd (omega (arith, h.generation_fits));
  generation_zero = λ h. absurd (omega (arith, h.some_generation));
  version_three = λ h. absurd (cc (h.some_version));
  version_zero = λ h. absurd (cc (h.some_version));
  no_table = λ h. no_table_means h.meant;
}
