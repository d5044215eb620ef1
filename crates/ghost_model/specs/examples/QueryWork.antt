-- The work of queries over the clinic, and over notes of which many have one body.
use Rattle.std.specs.Prelude.{◌≡◌, ℕ, List, [], ◌∷◌, ◌++◌, codes, map, Result, Ok, Err}
use Rattle.std.specs.List.{range_with_len}
use Rattle.ghost_model.specs.core.Schema.{Schema}
use Rattle.ghost_model.specs.core.Values.{Null, Text, Rows, Database}
use Rattle.ghost_model.specs.core.Query.{Query}
use Rattle.ghost_model.specs.forms.QueryWork.{bits, union_work, count_values, work}
use Rattle.ghost_model.specs.refusals.QueryMeaning.{Refusal}
use Rattle.ghost_model.specs.readings.QueryReading.{reading}
use Rattle.ghost_model.specs.examples.Clinic.{number, clinic_schema, clinic, note_schema, note_row}
use Rattle.ghost_model.specs.examples.Meaning.{cardio_on, from_day_two, names_of_ann, visits_of_spain}

-- the work of a text that was read; a refused one has none
abbrev pub work_of_reading : Schema → Database → Result Query Refusal → ℕ
work_of_reading schema database (Ok asked) = work schema database asked
work_of_reading schema database (Err refusal) = 0

abbrev pub work_on_clinic : (text : List ℕ) → ℕ
work_on_clinic text = work_of_reading clinic_schema clinic (reading clinic_schema text)

pub record NumbersOfWork : Type 0 where
  pub bits_of_zero : bits 0 ≡ 0
  pub bits_of_one : bits 1 ≡ 1
  pub bits_of_three : bits 3 ≡ 2
  pub bits_of_four : bits 4 ≡ 3
  pub bits_of_255 : bits 255 ≡ 8
  pub bits_of_256 : bits 256 ≡ 9
  pub no_list : union_work 0 0 ≡ 32
  pub one_list : union_work 1 64 ≡ 85
  pub one_identifier_less : union_work 1 63 ≡ 80
  pub a_hundred_lists : union_work 100 6400 ≡ 9988
  pub lists_of_few : union_work 255 1000 ≡ 24756
  pub values : count_values (number 5 ∷ number 3 ∷ number 5 ∷ []) ≡ 2
  pub null_is_a_value : count_values (Null ∷ Text (codes "a") ∷ Null ∷ Text [] ∷ Text (codes "a") ∷ []) ≡ 3

pub record WorkOnTheClinic : Type 0 where
  pub a_condition_and_a_reply : work_on_clinic (cardio_on (codes "flu")) ≡ 322
  pub a_condition_below : work_on_clinic visits_of_spain ≡ 170
  pub the_reply_of_the_top_table : work_on_clinic from_day_two ≡ 376
  pub a_selected_hidden_column : work_on_clinic names_of_ann ≡ 167
  pub identifiers :
      work_on_clinic (codes "SELECT visit.id FROM visit, doctor WHERE doc = doctor.id AND doctor.id >= 2 AND visit.id > 1")
      ≡ 214
  pub two_replies :
      work_on_clinic (codes "SELECT name, purpose, day FROM visit, patient WHERE pat = patient.id AND age < 41 AND day >= 5")
      ≡ 362
  pub no_condition : work_on_clinic (codes "SELECT id FROM visit") ≡ 72
  pub no_value : work_on_clinic (codes "SELECT id FROM visit WHERE purpose = 'none'") ≡ 116
  pub another_value : work_on_clinic (codes "SELECT age FROM patient WHERE name <> 'Ann'") ≡ 171
  -- a hidden column of a group that is left is read once, whether or not it is selected
  pub a_mixed_group : work_on_clinic (codes "SELECT visit.id FROM visit WHERE (day = 9 OR purpose = 'check')") ≡ 100
  pub a_column_of_it : work_on_clinic (codes "SELECT visit.id, purpose FROM visit WHERE (day = 9 OR purpose = 'check' OR purpose = 'flu')") ≡ 100

-- so many notes of one body, from an identifier on
abbrev pub notes_alike : (first count : ℕ) → (body : List ℕ) → Rows
notes_alike first count body = map (λ identifier. note_row identifier (codes "a") body) (range_with_len first count)

-- 64 notes of one body, and 63 of another
abbrev pub many_notes : Database
many_notes = (notes_alike 1 64 (codes "x") ++ notes_alike 65 63 (codes "y")) ∷ []

abbrev pub work_on_many_notes : (body : List ℕ) → ℕ
work_on_many_notes body =
    work_of_reading note_schema many_notes
    (reading note_schema (codes "SELECT id FROM note WHERE body = '" ++ (body ++ codes "'")))

-- 64 more for the query, a search among two values and two for each row of the answer: 20 and 128, or 20 and 126
pub record WorkOnManyNotes : Type 0 where
  pub sixty_four_rows : work_on_many_notes (codes "x") ≡ 297
  pub sixty_three_rows : work_on_many_notes (codes "y") ≡ 290
