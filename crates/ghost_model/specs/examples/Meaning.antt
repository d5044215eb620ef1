-- The two parts of the clinic, what its public part makes, and what texts over the clinic and the notes print.
use Rattle.std.specs.Prelude.{◌≡◌, ℕ, false, negsuc, List, [], ◌∷◌, ◌++◌, length, drop, flat_map, codes}
use Rattle.ghost_model.specs.core.Values.{Value, Number, Text, Row}
use Rattle.ghost_model.specs.core.Query.{Compared, Equal, AtLeast}
use Rattle.ghost_model.specs.core.Channel.{Ask}
use Rattle.ghost_model.specs.core.Asks.{row_bytes}
use Rattle.ghost_model.specs.core.Split.{RowValues, public_of, hidden_of, rejoined, image, visible_rows, reply_rows}
use Rattle.ghost_model.specs.core.Printed.{printed, row_line}
use Rattle.ghost_model.specs.examples.Clinic.{number, clinic_schema, clinic, clinic_catalog, note_schema, notes}
use Rattle.ghost_model.specs.examples.Databases.{lines}
use Rattle.ghost_model.specs.examples.Groups.{nullable_notes_schema, nullable_notes}

abbrev pub one : Value → Row
one value = value ∷ []

abbrev pub three : (purpose : List ℕ) (doc pat : ℕ) → Row
three purpose doc pat = Text purpose ∷ number doc ∷ number pat ∷ []

abbrev pub specialties_of_cardio : Ask
specialties_of_cardio =
    record {
      table = 0;
      columns = 1 ∷ [];
      tests = record { column = 1; test = Compared Equal (Text (codes "cardio")); more = false } ∷ [];
    }

abbrev pub late_visits : Ask
late_visits =
    record { table = 2; columns = []; tests = record { column = 1; test = Compared AtLeast (number 5); more = false } ∷ [] }

abbrev pub cardio : ℕ → RowValues
cardio identifier = record { identifier = identifier; values = one (Text (codes "cardio")) }

abbrev pub identifier_alone : ℕ → RowValues
identifier_alone identifier = record { identifier = identifier; values = [] }

-- the cell of the word cardio in eight bytes
abbrev pub cardio_cell : List ℕ
cardio_cell = codes "cardio" ++ 0 ∷ 0 ∷ []

pub record PartsOfTheClinic : Type 0 where
  pub visible : (public_of clinic_schema clinic).visible
      ≡ (one (Text (codes "cardio")) ∷ one (Text (codes "neuro")) ∷ one (Text (codes "cardio")) ∷ [])
      ∷ (one (number 30) ∷ one (number 41) ∷ [])
      ∷ (one (number 5) ∷ one (number 5) ∷ one (number 9) ∷ one (number 2) ∷ []) ∷ []
  pub hidden : (hidden_of clinic_schema clinic).hidden
      ≡ (one (Text (codes "FR")) ∷ one (Text (codes "ES")) ∷ one (Text (codes "ES")) ∷ [])
      ∷ (one (Text (codes "Ann")) ∷ one (Text (codes "Bob")) ∷ [])
      ∷ (three (codes "flu") 1 1 ∷ three (codes "check") 3 2 ∷ three (codes "flu") 3 1 ∷ three (codes "flu") 2 2 ∷ [])
      ∷ []
  pub again : rejoined clinic_schema (public_of clinic_schema clinic) (hidden_of clinic_schema clinic) ≡ clinic
  pub image_length : length (image clinic_catalog (public_of clinic_schema clinic)) ≡ 437
  pub image_of_doctors : drop 365 (image clinic_catalog (public_of clinic_schema clinic))
      ≡ cardio_cell ++ (codes "neuro" ++ 0 ∷ 0 ∷ 0 ∷ (cardio_cell
      ++ (0x80 ∷ 0 ∷ 0 ∷ 0 ∷ 0 ∷ 0 ∷ 0 ∷ 30 ∷ 0x80 ∷ 0 ∷ 0 ∷ 0 ∷ 0 ∷ 0 ∷ 0 ∷ 41 ∷ 0x80 ∷ 0 ∷ 0 ∷ 0 ∷ 0 ∷ 0 ∷ 0 ∷ 5
      ∷ 0x80 ∷ 0 ∷ 0 ∷ 0 ∷ 0 ∷ 0 ∷ 0 ∷ 5 ∷ 0x80 ∷ 0 ∷ 0 ∷ 0 ∷ 0 ∷ 0 ∷ 0 ∷ 9 ∷ 0x80 ∷ 0 ∷ 0 ∷ 0 ∷ 0 ∷ 0 ∷ 0 ∷ 2 ∷ [])))
  pub reply : visible_rows clinic_schema (public_of clinic_schema clinic) specialties_of_cardio
      ≡ cardio 1 ∷ cardio 3 ∷ []
  pub bytes_of_reply : flat_map row_bytes (reply_rows clinic_schema (public_of clinic_schema clinic) specialties_of_cardio)
      ≡ 0 ∷ 0 ∷ 0 ∷ 1 ∷ (cardio_cell ++ 0 ∷ 0 ∷ 0 ∷ 3 ∷ cardio_cell)
  pub reply_without_columns : visible_rows clinic_schema (public_of clinic_schema clinic) late_visits
      ≡ identifier_alone 1 ∷ identifier_alone 2 ∷ identifier_alone 3 ∷ []

-- a line of a row, whose fields have a tab between each two
abbrev pub tabbed : (left right : List ℕ) → List ℕ
tabbed left right = codes "> " ++ (left ++ 9 ∷ right)

abbrev pub cardio_on : (purpose : List ℕ) → List ℕ
cardio_on purpose =
    codes "SELECT visit.id, specialty FROM visit, doctor WHERE doc = doctor.id AND specialty = 'cardio' AND purpose = '"
    ++ (purpose ++ codes "'")

abbrev pub from_day_two : List ℕ
from_day_two = codes "SELECT visit.id, day FROM visit WHERE day >= 2"

abbrev pub names_of_ann : List ℕ
names_of_ann = codes "SELECT name FROM patient WHERE name = 'Ann'"

abbrev pub visits_of_spain : List ℕ
visits_of_spain = codes "SELECT visit.id FROM visit, doctor WHERE doc = doctor.id AND country = 'ES'"

abbrev pub least_age : List ℕ
least_age = codes "SELECT patient.id FROM patient WHERE age >= -9223372036854775808"

-- what texts over the clinic print
abbrev pub on_clinic : (texts : List (List ℕ)) → List ℕ
on_clinic texts = printed clinic_schema texts clinic

abbrev pub cardio_lines : List (List ℕ)
cardio_lines = tabbed (codes "1") (codes "cardio") ∷ tabbed (codes "3") (codes "cardio") ∷ []

abbrev pub day_lines : List (List ℕ)
day_lines =
    tabbed (codes "1") (codes "5") ∷ tabbed (codes "2") (codes "5") ∷ tabbed (codes "3") (codes "9")
    ∷ tabbed (codes "4") (codes "2") ∷ []

pub record AnswersOfTheClinic : Type 0 where
  pub a_join : on_clinic (cardio_on (codes "flu") ∷ []) ≡ lines (cardio_lines ++ codes "= 1 2" ∷ [])
  pub no_text : on_clinic [] ≡ []
  pub a_hidden_condition : on_clinic (names_of_ann ∷ []) ≡ lines (codes "> Ann" ∷ codes "= 1 1" ∷ [])
  pub a_visible_condition : on_clinic (from_day_two ∷ []) ≡ lines (day_lines ++ codes "= 1 4" ∷ [])
  pub each_row_once : on_clinic (codes "SELECT doctor.id FROM doctor WHERE country = 'ES'" ∷ [])
      ≡ lines (codes "> 2" ∷ codes "> 3" ∷ codes "= 1 2" ∷ [])
  pub a_refusal_and_an_answer :
      on_clinic (codes "SELECT visit.id FROM visit, doctor" ∷ codes " SELECT patient.id FROM patient" ∷ [])
      ≡ lines (codes "! 1 unlinked" ∷ codes "> 1" ∷ codes "> 2" ∷ codes "= 2 2" ∷ [])
  pub no_row : on_clinic (cardio_on (codes "none") ∷ []) ≡ lines (codes "= 1 0" ∷ [])
  pub three_texts : on_clinic (cardio_on (codes "flu") ∷ from_day_two ∷ names_of_ann ∷ [])
      ≡ lines (cardio_lines ++ codes "= 1 2" ∷ (day_lines ++ codes "= 2 4" ∷ codes "> Ann" ∷ codes "= 3 1" ∷ []))
  pub the_least_integer : on_clinic (least_age ∷ []) ≡ lines (codes "> 1" ∷ codes "> 2" ∷ codes "= 1 2" ∷ [])
  pub a_hidden_condition_below : on_clinic (visits_of_spain ∷ [])
      ≡ lines (codes "> 2" ∷ codes "> 3" ∷ codes "> 4" ∷ codes "= 1 3" ∷ [])
  pub every_column : on_clinic (codes "SELECT * FROM patient" ∷ [])
      ≡ lines ((tabbed (codes "1") (codes "30") ++ 9 ∷ codes "Ann") ∷ (tabbed (codes "2") (codes "41") ++ 9 ∷ codes "Bob")
      ∷ codes "= 1 2" ∷ [])
  pub a_join_either_side_first : on_clinic (codes "SELECT visit.id FROM patient, visit WHERE patient.id = pat AND age < 41" ∷ [])
      ≡ lines (codes "> 1" ∷ codes "> 3" ∷ codes "= 1 2" ∷ [])
  pub notes_on_a_topic : printed note_schema (codes "SELECT body FROM note WHERE topic = 'a'" ∷ []) notes
      ≡ lines (codes "> x" ∷ codes "> z" ∷ codes "= 1 2" ∷ [])
  pub the_same_text_twice : on_clinic (cardio_on (codes "flu") ∷ cardio_on (codes "flu") ∷ [])
      ≡ lines (cardio_lines ++ codes "= 1 2" ∷ (cardio_lines ++ codes "= 2 2" ∷ []))
  pub two_texts_on_notes :
      printed note_schema (codes "SELECT body FROM note WHERE topic = 'a'" ∷ codes "SELECT id FROM note" ∷ []) notes
      ≡ lines (codes "> x" ∷ codes "> z" ∷ codes "= 1 2" ∷ codes "> 1" ∷ codes "> 2" ∷ codes "> 3" ∷ codes "= 2 3" ∷ [])

-- the visits under what stands behind WHERE, alone and with their doctors
abbrev pub visits_where : (conditions : List ℕ) → List ℕ
visits_where conditions = codes "SELECT visit.id FROM visit WHERE " ++ conditions

abbrev pub doctors_where : (conditions : List ℕ) → List ℕ
doctors_where conditions = codes "SELECT visit.id FROM visit, doctor WHERE doc = doctor.id AND " ++ conditions

-- what a text over notes that may have NULL prints
abbrev pub on_notes : (text : List ℕ) → List ℕ
on_notes text = printed nullable_notes_schema (text ∷ []) nullable_notes

-- what texts with groups of conditions and with tests of NULL print
pub record AnswersOfGroups : Type 0 where
  pub a_mixed_group : on_clinic (visits_where (codes "(day = 9 OR purpose = 'check')") ∷ [])
      ≡ lines (codes "> 2" ∷ codes "> 3" ∷ codes "= 1 2" ∷ [])
  pub a_visible_list : on_clinic (visits_where (codes "day IN (2, 9)") ∷ [])
      ≡ lines (codes "> 3" ∷ codes "> 4" ∷ codes "= 1 2" ∷ [])
  pub a_hidden_list : on_clinic (doctors_where (codes "country IN ('FR', 'DE')") ∷ [])
      ≡ lines (codes "> 1" ∷ codes "= 1 1" ∷ [])
  pub a_group_below : on_clinic (doctors_where (codes "(doctor.id = 1 OR country = 'ES')") ∷ [])
      ≡ lines (codes "> 1" ∷ codes "> 2" ∷ codes "> 3" ∷ codes "> 4" ∷ codes "= 1 4" ∷ [])
  pub a_group_of_two_keys : on_clinic (doctors_where (codes "(doc = 1 OR pat = 2)") ∷ [])
      ≡ lines (codes "> 1" ∷ codes "> 2" ∷ codes "> 4" ∷ codes "= 1 3" ∷ [])
  pub two_groups : on_clinic (visits_where (codes "(day = 9 OR purpose = 'check') AND id IN (1, 3)") ∷ [])
      ≡ lines (codes "> 3" ∷ codes "= 1 1" ∷ [])
  pub null_is_an_empty_field : on_notes (codes "SELECT id, body FROM note WHERE topic = 'a'")
      ≡ lines (tabbed (codes "1") (codes "x") ∷ tabbed (codes "3") [] ∷ codes "= 1 2" ∷ [])
  pub tests_of_null : on_notes (codes "SELECT id, topic FROM note WHERE body IS NOT NULL AND topic IS NULL")
      ≡ lines (tabbed (codes "2") [] ∷ codes "= 1 1" ∷ [])
  pub null_is_not_unequal : on_notes (codes "SELECT id FROM note WHERE body <> 'x'")
      ≡ lines (codes "> 2" ∷ codes "> 4" ∷ codes "= 1 2" ∷ [])
  pub a_value_or_null : on_notes (codes "SELECT id FROM note WHERE (topic = 'a' OR body IS NULL)")
      ≡ lines (codes "> 1" ∷ codes "> 3" ∷ codes "= 1 2" ∷ [])
  pub unequal_or_null : on_notes (codes "SELECT id FROM note WHERE (body <> 'x' OR body IS NULL)")
      ≡ lines (codes "> 2" ∷ codes "> 3" ∷ codes "> 4" ∷ codes "= 1 3" ∷ [])
  pub each_note : on_notes (codes "SELECT id FROM note WHERE (topic IS NULL OR topic IN ('a','b') OR topic IS NOT NULL)")
      ≡ lines (codes "> 1" ∷ codes "> 2" ∷ codes "> 3" ∷ codes "> 4" ∷ codes "= 1 4" ∷ [])

-- one text for each refusal
abbrev pub refused : List (List ℕ)
refused =
    codes "SELECT age patient"
    ∷ codes "SELECT x FROM nowhere"
    ∷ codes "SELECT x FROM visit"
    ∷ codes "SELECT id FROM visit, doctor"
    ∷ codes "SELECT age FROM patient WHERE age = 'x'"
    ∷ codes "SELECT age FROM patient WHERE age = 9223372036854775808"
    ∷ codes "SELECT id FROM a, a, a, a, a, a, a, a, a, a, a, a, a"
    ∷ codes "SELECT visit.id FROM visit, doctor"
    ∷ doctors_where (codes "(day = 9 OR country = 'FR')")
    ∷ []

pub record RefusedTexts : Type 0 where
  pub each : on_clinic refused
      ≡ lines (codes "! 1 syntax 11" ∷ codes "! 2 table" ∷ codes "! 3 column" ∷ codes "! 4 ambiguous" ∷ codes "! 5 kind"
      ∷ codes "! 6 literal" ∷ codes "! 7 limit" ∷ codes "! 8 unlinked" ∷ codes "! 9 mixed" ∷ [])

-- lines of single rows
pub record LinesOfRows : Type 0 where
  pub below_zero : row_line (Number (negsuc 9223372036854775807) ∷ []) ≡ lines (codes "> -9223372036854775808" ∷ [])
  pub zero_alone : row_line (number 0 ∷ []) ≡ lines (codes "> 0" ∷ [])
  pub an_empty_field_at_the_end : row_line (number 7 ∷ Text [] ∷ []) ≡ lines (tabbed (codes "7") [] ∷ [])
  pub an_empty_field_alone : row_line (Text [] ∷ []) ≡ lines (codes "> " ∷ [])
