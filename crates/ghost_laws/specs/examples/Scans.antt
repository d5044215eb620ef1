-- The clinic's visits with their doctors, found along the foreign keys: the same rows as the plain meaning has, and the
-- same as the key answers by whole replies; and so by a reply that lies, whose rows the key cannot tell from true ones.
use Rattle.std.specs.Prelude.{◌≡◌, ℕ, true, false, List, [], ◌∷◌, codes, Ok}
use Rattle.std.specs.List.{list_all}
use Rattle.ghost_model.specs.core.Schema.{Integer, Chars}
use Rattle.ghost_model.specs.core.Values.{Text, Row}
use Rattle.ghost_model.specs.core.Query.{Query, compared, Join, Equal}
use Rattle.ghost_model.specs.refusals.QueryMeaning.{field}
use Rattle.ghost_model.specs.readings.QueryReading.{reading}
use Rattle.ghost_model.specs.core.Meaning.{answer}
use Rattle.ghost_model.specs.core.Split.{RowValues, public_of, hidden_of}
use Rattle.ghost_model.specs.core.Replies.{Reply, answer_from}
use Rattle.ghost_model.specs.laws.SessionLaws.{whole_replies}
use Rattle.ghost_model.specs.examples.Clinic.{number, clinic_schema, clinic}
use Rattle.ghost_model.specs.examples.Meaning.{cardio_on, specialties_of_cardio}
use Rattle.ghost_laws.specs.Scans.{answer_along, known_answer}
use Rattle.ghost_laws.specs.Selected.{kinds_selected, has_selected}

-- SELECT visit.id, specialty FROM visit, doctor WHERE doc = doctor.id AND specialty = 'cardio' AND purpose = 'flu'
abbrev pub flu_at_cardio : Query
flu_at_cardio = record {
  from = 2 ∷ 0 ∷ [];
  select = field 2 0 ∷ field 0 1 ∷ [];
  conditions =
      Join (field 2 3) (field 0 0) ∷ compared (field 0 1) Equal (Text (codes "cardio"))
      ∷ compared (field 2 2) Equal (Text (codes "flu")) ∷ [];
}

abbrev pub visit_at : ℕ → List ℕ → Row
visit_at identifier specialty = number identifier ∷ Text specialty ∷ []

abbrev pub visits_at_cardio : List Row
visits_at_cardio = visit_at 1 (codes "cardio") ∷ visit_at 3 (codes "cardio") ∷ []

abbrev pub true_replies : List Reply
true_replies = whole_replies clinic_schema (public_of clinic_schema clinic) flu_at_cardio

abbrev pub doctor_replied : ℕ → List ℕ → RowValues
doctor_replied identifier specialty = record { identifier = identifier; values = Text specialty ∷ [] }

-- the reply has a doctor that does not meet the condition, and lacks one that does
abbrev pub false_replies : List Reply
false_replies =
    record {
      ask = specialties_of_cardio;
      rows = doctor_replied 1 (codes "cardio") ∷ doctor_replied 2 (codes "neuro") ∷ [];
    } ∷ []

abbrev pub visits_by_false_replies : List Row
visits_by_false_replies = visit_at 1 (codes "cardio") ∷ visit_at 4 (codes "neuro") ∷ []

pub record ClinicAlongKeys : Type 0 where
  pub means : reading clinic_schema (cardio_on (codes "flu")) ≡ Ok flu_at_cardio
  pub plain : answer clinic_schema clinic flu_at_cardio ≡ visits_at_cardio
  pub along : answer_along clinic_schema clinic flu_at_cardio 2 ≡ visits_at_cardio
  pub by_true_replies : known_answer clinic_schema clinic flu_at_cardio true_replies 2 ≡ visits_at_cardio
  pub plain_by_false_replies :
      answer_from clinic_schema (hidden_of clinic_schema clinic) flu_at_cardio false_replies ≡ visits_by_false_replies
  pub by_false_replies : known_answer clinic_schema clinic flu_at_cardio false_replies 2 ≡ visits_by_false_replies
  -- each row has an integer and a text of at most 8 characters, as the selected columns say
  pub kinds : kinds_selected clinic_schema flu_at_cardio ≡ Integer ∷ Chars 8 ∷ []
  pub selected : list_all (has_selected clinic_schema flu_at_cardio) visits_by_false_replies ≡ true
  pub lacking : has_selected clinic_schema flu_at_cardio (number 1 ∷ []) ≡ false
  pub of_another_kind : has_selected clinic_schema flu_at_cardio (number 1 ∷ number 2 ∷ []) ≡ false
