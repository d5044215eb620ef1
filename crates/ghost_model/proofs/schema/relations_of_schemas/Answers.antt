use Rattle.std.proofs.Common.{◌≡◌, ℕ, List, codes, Result, Ok, Err, refl}
use Rattle.ghost_model.specs.core.Schema.{places_from, ancestor}
use Rattle.ghost_model.specs.refusals.Tokens.{tokens_from, quoted_from}
use Rattle.ghost_model.specs.readings.SchemaPlaces.{syntax_from, schema_syntax_of}
use Rattle.ghost_model.specs.refusals.SchemaFaults.{DuplicateName, NoId, NotOneRoot, fields_from}
use Rattle.ghost_model.specs.readings.SchemaReading.{schema_reading}
use Rattle.ghost_model.specs.examples.Clinic.{clinic_schema}
use Rattle.ghost_model.specs.examples.Schemas.{clinic_text}
use Rattle.ghost_model.proofs.SchemaLemmas.{schema_places}
use Rattle.ghost_model.proofs.SchemaRuleLemmas.{one_schema}
use Rattle.ghost_model.proofs.schema.relations_of_schemas.Goals as goal

abbrev twice : List ℕ
twice = codes "CREATE TABLE t (a INT, a INT);"

abbrev broken : List ℕ
broken = codes "CREATE TABLE t ();"

clinic_reads : schema_reading clinic_text ≡ Ok clinic_schema
unfolding tokens_from quoted_from syntax_from places_from ancestor fields_from
clinic_reads = refl

twice_reads : schema_reading twice ≡ Err (DuplicateName 0 1)
unfolding tokens_from quoted_from syntax_from places_from ancestor fields_from
twice_reads = refl

broken_reads : schema_syntax_of broken ≡ Err 16
unfolding tokens_from quoted_from syntax_from
broken_reads = refl

same_told : {T E : Type 0} (r : Result T E) (a b : E) → r ≡ Err a → r ≡ Err b → a ≡ b
same_told r a b e f = cc

other_rule : DuplicateName 0 1 ≡ NoId 0 → ⊥
other_rule e = cc

pub returns : goal.returns
returns c = record {
  meant = (one_schema.read clinic_text clinic_schema).0 clinic_reads;
  no_fault = one_schema.not_both clinic_text clinic_schema (NotOneRoot 1) ((one_schema.read clinic_text clinic_schema).0 clinic_reads);
  the_first_fault = (one_schema.refused twice (DuplicateName 0 1)).0 twice_reads;
  no_later_fault = λ f. other_rule (same_told (schema_reading twice) (DuplicateName 0 1) (NoId 0) twice_reads ((one_schema.refused twice (NoId 0)).1 f));
  a_syntax_fault = (schema_places.fault broken 16).0 broken_reads;
  at_no_other_token = λ f. let same : 16 ≡ 15 = same_told (schema_syntax_of broken) 16 15 broken_reads ((schema_places.fault broken 15).1 f) in absurd (cc);
  bytes_within = refl;
  one_byte_over = refl;
}
