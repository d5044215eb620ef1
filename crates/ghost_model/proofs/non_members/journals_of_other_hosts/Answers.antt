use Rattle.std.proofs.Common.{◌≡◌, refl, ap, arith, ℕ, pos, List, [], ◌∷◌, Ok, slice_index}
use Rattle.std.specs.Fmt.{digits}
use Rattle.csv.specs.Reading.{records_from, strip_bom}
use Rattle.csv.specs.Machine.{next_record}
use Rattle.hex.specs.Hex.{encode_with, decode_pairs}
use Rattle.ghost_model.specs.core.Asks.{rows_from}
use Rattle.ghost_model.specs.readings.AskReading.{tests_in}
use Rattle.ghost_model.specs.core.Schema.{places_from, ancestor}
use Rattle.ghost_model.specs.refusals.Tokens.{tokens_from, quoted_from}
use Rattle.ghost_model.specs.readings.QueryPlaces.{read_from}
use Rattle.ghost_model.specs.readings.SchemaPlaces.{syntax_from}
use Rattle.ghost_model.specs.readings.SchemaReading.{schema_reading}
use Rattle.ghost_model.specs.refusals.SchemaFaults.{fields_from, MeansSchema}
use Rattle.ghost_model.specs.refusals.LoadFaults.{files_faults, rows_faults, field_faults, references_from, table_references, row_reference_faults}
use Rattle.ghost_model.specs.core.NextMove.{hear_all, rows_fit, IsProper}
use Rattle.ghost_model.specs.core.Meaning.{combinations}
use Rattle.ghost_model.specs.core.Groups.{groups_of}
use Rattle.ghost_model.specs.core.Split.{replies_from}
use Rattle.ghost_model.specs.core.Host.{groups_from, frames_within, said_with_refusals}
use Rattle.ghost_model.specs.core.Values.{Row, Number}
use Rattle.ghost_model.specs.core.Database.{IsDatabase}
use Rattle.ghost_model.specs.core.Honest.{IsCatalogOf}
use Rattle.ghost_model.specs.forms.Catalog.{canonical_text, IsCatalog}
use Rattle.ghost_model.specs.examples.Clinic.{clinic, clinic_schema, clinic_catalog}
use Rattle.ghost_model.specs.examples.Databases.{clinic_files}
use Rattle.ghost_model.specs.examples.Channel.{cardio_text, cardio_query}
use Rattle.ghost_model.specs.examples.Sessions.{cardio_texts, lying_journal}
use Rattle.ghost_model.proofs.SchemaRuleLemmas.{one_schema}
use Rattle.ghost_model.proofs.SchemaTreeLemmas.{schemas_are_trees}
use Rattle.ghost_model.proofs.MeaningLemmas.Loading.{files_are}
use Rattle.ghost_model.proofs.SessionLemmas.Replies.{honest_replies_answer}
use Rattle.ghost_model.proofs.non_members.journals_of_other_hosts.Goals as goal

-- the identifier of the second visit in an answer
abbrev second_visit : List Row → ℕ
second_visit (_ ∷ ((Number (pos visit) ∷ _) ∷ _)) = visit
second_visit _ = 0

clinic_reads : schema_reading (canonical_text clinic_schema) ≡ Ok clinic_schema
unfolding tokens_from quoted_from syntax_from places_from ancestor fields_from digits
clinic_reads = refl

clinic_means : MeansSchema (canonical_text clinic_schema) clinic_schema
clinic_means = (one_schema.read (canonical_text clinic_schema) clinic_schema).0 clinic_reads

clinic_is_catalog : IsCatalog clinic_catalog
clinic_is_catalog =
    record { meant = clinic_means; counted = refl; few_rows = refl; some_generation = omega arith; generation_fits = omega arith; some_version = refl }

clinic_is_database : IsDatabase clinic_schema clinic
unfolding records_from strip_bom next_record places_from files_faults rows_faults field_faults references_from table_references row_reference_faults
clinic_is_database = files_are clinic_schema clinic_files (schemas_are_trees (canonical_text clinic_schema) clinic_schema clinic_means) refl refl

clinic_is_of : IsCatalogOf clinic_catalog clinic
clinic_is_of = record { proper = clinic_is_catalog; is_database = clinic_is_database; counts_are = refl }

lying_is_proper : IsProper clinic_catalog [] cardio_texts lying_journal
unfolding digits encode_with decode_pairs rows_from tests_in places_from hear_all rows_fit tokens_from quoted_from read_from
lying_is_proper = (refl, (refl, (refl, (refl, (refl, (refl, (refl, (refl, (refl, (refl, (refl, (refl, tt))))))))))))

pub returns : goal.returns
unfolding digits encode_with decode_pairs rows_from tests_in places_from hear_all rows_fit tokens_from quoted_from read_from combinations replies_from groups_from said_with_refusals frames_within groups_of
returns c = record {
  wrong_rows = λ h.
      let clash : 4 ≡ 3 =
      ap second_visit
      (honest_replies_answer clinic_catalog clinic [] cardio_texts lying_journal 0 cardio_text cardio_query
      (record { proper = clinic_is_catalog; few = omega arith }) clinic_is_of lying_is_proper h refl refl refl) in
      absurd (omega (arith, clash));
  a_stream_that_ends = λ h. absurd (cc (h.nothing_breaks_off));
  wrong_rows_within = λ s. let clash : 2 ≡ 3 = ap (λ bytes. slice_index bytes 397) s.said in absurd (omega (arith, clash));
  single_bytes_within = λ s. absurd (cc (s.full));
}
