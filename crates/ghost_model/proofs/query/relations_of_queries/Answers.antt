use Rattle.std.proofs.Common.{◌≡◌, ℕ, List, [], ◌∷◌, codes, Result, Ok, Err, sum_by, refl, ap, arith}
use Rattle.ghost_model.specs.refusals.Tokens.{tokens_from, quoted_from}
use Rattle.ghost_model.specs.core.Schema.{places_from}
use Rattle.ghost_model.specs.core.Query.{Query, Field}
use Rattle.ghost_model.specs.readings.QueryPlaces.{read_from, syntax_of}
use Rattle.ghost_model.specs.refusals.QueryMeaning.{Syntax, Limit, UnknownTable, UnknownColumn, NotLinked, MixedTables, field}
use Rattle.ghost_model.specs.readings.QueryReading.{reading}
use Rattle.ghost_model.specs.examples.Clinic.{clinic_schema}
use Rattle.ghost_model.specs.examples.Queries.{query}
use Rattle.ghost_model.proofs.QueryLemmas.{stop_fault, fault_stop}
use Rattle.ghost_model.proofs.QueryReadingLemmas.{means_of, reading_of_means, refused_of, reading_of_refused}
use Rattle.ghost_model.proofs.query.relations_of_queries.Goals as goal

abbrev good : List ℕ
good = codes "SELECT age FROM patient"

abbrev bad : List ℕ
bad = codes "SELECT x, nowhere.id FROM visit"

abbrev broken : List ℕ
broken = codes "SELECT age patient"

good_reads : reading clinic_schema good ≡ Ok (query (1 ∷ []) (field 1 1 ∷ []) [])
unfolding tokens_from quoted_from places_from read_from
good_reads = refl

bad_reads : reading clinic_schema bad ≡ Err UnknownTable
unfolding tokens_from quoted_from places_from read_from
bad_reads = refl

broken_reads : syntax_of broken ≡ Err 11
unfolding tokens_from quoted_from places_from read_from
broken_reads = refl

end_reads : syntax_of (codes "SELECT age FROM  ") ≡ Err 17
unfolding tokens_from quoted_from places_from read_from
end_reads = refl

abbrev mixed_text : List ℕ
mixed_text = codes "SELECT visit.id FROM visit, doctor WHERE doc = doctor.id AND (day = 9 OR specialty = 'x')"

mixed_reads : reading clinic_schema mixed_text ≡ Err MixedTables
unfolding tokens_from quoted_from places_from read_from
mixed_reads = refl

abbrev unlinked_text : List ℕ
unlinked_text = codes "SELECT visit.id FROM visit, doctor WHERE (day = 9 OR specialty = 'x')"

unlinked_reads : reading clinic_schema unlinked_text ≡ Err NotLinked
unfolding tokens_from quoted_from places_from read_from
unlinked_reads = refl

group_reads : syntax_of (codes "SELECT age FROM patient WHERE (age = 1 AND id = 2)") ≡ Err 39
unfolding tokens_from quoted_from places_from read_from
group_reads = refl

one_answer : {T E : Type 0} (r : Result T E) (a : T) (b : E) → r ≡ Ok a → r ≡ Err b → ⊥
one_answer r a b e f = cc

columns : Query → ℕ
columns asked = sum_by (λ (selected : Field). selected.column) asked.select

apart : (a b : ℕ) → a ≡ b → a ≡ 1 → b ≡ 0 → ⊥
apart a b e one none = absurd (omega arith)

one_column : query (1 ∷ []) (field 1 1 ∷ []) [] ≡ query (1 ∷ []) (field 1 0 ∷ []) [] → ⊥
unfolding columns
one_column e =
    apart (columns (query (1 ∷ []) (field 1 1 ∷ []) [])) (columns (query (1 ∷ []) (field 1 0 ∷ []) [])) (ap columns e) refl refl

same_meant : {T E : Type 0} (r : Result T E) (a b : T) → r ≡ Ok a → r ≡ Ok b → a ≡ b
same_meant r a b e f = cc

same_told : {T E : Type 0} (r : Result T E) (a b : E) → r ≡ Err a → r ≡ Err b → a ≡ b
same_told r a b e f = cc

other_rule : UnknownTable ≡ UnknownColumn → ⊥
other_rule e = cc

not_mixed : NotLinked ≡ MixedTables → ⊥
not_mixed e = cc

spelled : (text : List ℕ) (at : ℕ) (found : Query) → reading clinic_schema text ≡ Ok found → syntax_of text ≡ Err at → ⊥
spelled text at found reads stuck =
    one_answer (reading clinic_schema text) found (Syntax at) reads (reading_of_refused clinic_schema text (Syntax at) (stop_fault text at stuck))

pub returns : goal.returns
returns c = record {
  meant = means_of clinic_schema good _ good_reads;
  not_meant_otherwise = λ m. one_column (same_meant (reading clinic_schema good) _ _ good_reads (reading_of_means clinic_schema good _ m));
  not_refused = λ r. one_answer (reading clinic_schema good) _ Limit good_reads (reading_of_refused clinic_schema good Limit r);
  refused_by_the_first_rule = refused_of clinic_schema bad UnknownTable bad_reads;
  not_by_a_later_rule = λ r. other_rule (same_told (reading clinic_schema bad) UnknownTable UnknownColumn bad_reads (reading_of_refused clinic_schema bad UnknownColumn r));
  refused_by_the_last_rule = refused_of clinic_schema mixed_text MixedTables mixed_reads;
  not_by_the_last_rule = λ r. not_mixed (same_told (reading clinic_schema unlinked_text) NotLinked MixedTables unlinked_reads (reading_of_refused clinic_schema unlinked_text MixedTables r));
  a_syntax_fault = stop_fault broken 11 broken_reads;
  at_no_other_token = λ f. let same : 11 ≡ 7 = same_told (syntax_of broken) 11 7 broken_reads (fault_stop broken 7 f) in absurd (cc);
  at_no_other_byte = λ f. let same : 11 ≡ 12 = same_told (syntax_of broken) 11 12 broken_reads (fault_stop broken 12 f) in absurd (cc);
  at_the_end = stop_fault (codes "SELECT age FROM  ") 17 end_reads;
  inside_a_group = stop_fault (codes "SELECT age FROM patient WHERE (age = 1 AND id = 2)") 39 group_reads;
  no_syntax_fault = λ f. spelled good 23 _ good_reads (fault_stop good 23 f);
}
