-- Groups of lists, and queries whose conditions are groups: over the clinic, and over notes whose columns may be NULL.
use Rattle.std.specs.Prelude.{◌≡◌, ℕ, Bool, true, false, nat_le, nat_lt, List, [], ◌∷◌, ◌++◌, codes, map, None}
use Rattle.hex.specs.Hex.{encode_lower}
use Rattle.ghost_model.specs.core.Schema.{Schema, CharsOrNull}
use Rattle.ghost_model.specs.core.Values.{Null, Text, Row, Database}
use Rattle.ghost_model.specs.core.Groups.{groups_of, each_group, ends}
use Rattle.ghost_model.specs.core.Query.{Query, Field, Test, Compared, IsNull, IsNotNull, Condition, OneOf, Join, tested, compared, Equal, Unequal, More, AtLeast}
use Rattle.ghost_model.specs.core.Channel.{Ask, AskFrame}
use Rattle.ghost_model.specs.core.Asks.{asked_of, asks_of, ask_payload}
use Rattle.ghost_model.specs.core.Meaning.{answer}
use Rattle.ghost_model.specs.core.Split.{public_of, hidden_of, visible_rows}
use Rattle.ghost_model.specs.core.Replies.{Reply, answer_from}
use Rattle.ghost_model.specs.forms.QueryWork.{condition_work}
use Rattle.ghost_model.specs.examples.Channel.{field, payloads, spelled}
use Rattle.ghost_model.specs.examples.Clinic.{number, id_column, clinic_schema, clinic}

-- a number from 10 on says that the next one is of its group
abbrev pub says : ℕ → Bool
says number = nat_le 10 number

abbrev pub is_small : ℕ → Bool
is_small number = nat_lt number 3

pub record GroupsOfLists : Type 0 where
  pub none : groups_of says [] ≡ []
  pub alone : groups_of says (1 ∷ 2 ∷ []) ≡ (1 ∷ []) ∷ (2 ∷ []) ∷ []
  pub three : groups_of says (11 ∷ 12 ∷ 3 ∷ 4 ∷ 15 ∷ 6 ∷ []) ≡ (11 ∷ 12 ∷ 3 ∷ []) ∷ (4 ∷ []) ∷ (15 ∷ 6 ∷ []) ∷ []
  pub ended : ends says (11 ∷ 2 ∷ []) ≡ true
  pub not_ended : ends says (1 ∷ 12 ∷ []) ≡ false
  pub each_passes : each_group says is_small (15 ∷ 1 ∷ 2 ∷ []) ≡ true
  pub one_fails : each_group says is_small (15 ∷ 1 ∷ 4 ∷ []) ≡ false
  pub the_last_member : each_group says is_small (15 ∷ 14 ∷ 2 ∷ []) ≡ true

abbrev pub alone : Field → Test → Condition
alone column test = OneOf (tested column test) []

abbrev pub either : Field → Test → Field → Test → Condition
either column test other another = OneOf (tested column test) (tested other another ∷ [])

abbrev pub is_number : ℕ → Test
is_number wanted = Compared Equal (number wanted)

abbrev pub is_text : List ℕ → Test
is_text wanted = Compared Equal (Text wanted)

-- a query that selects the identifiers of its top table
abbrev pub identifiers_of : (top : ℕ) → (from : List ℕ) → List Condition → Query
identifiers_of top from conditions = record { from = from; select = field top 0 ∷ []; conditions = conditions }

abbrev pub row_of_number : ℕ → Row
row_of_number identifier = number identifier ∷ []

-- day = 9 OR purpose = 'check'
abbrev pub day_or_purpose : Condition
day_or_purpose = either (field 2 1) (is_number 9) (field 2 2) (is_text (codes "check"))

-- SELECT visit.id FROM visit WHERE (day = 9 OR purpose = 'check')
abbrev pub mixed_query : Query
mixed_query = identifiers_of 2 (2 ∷ []) (day_or_purpose ∷ [])

-- the same with day >= 5 before it
abbrev pub late_mixed_query : Query
late_mixed_query = identifiers_of 2 (2 ∷ []) (compared (field 2 1) AtLeast (number 5) ∷ day_or_purpose ∷ [])

-- SELECT visit.id FROM visit WHERE day IN (2, 9)
abbrev pub days_query : Query
days_query = identifiers_of 2 (2 ∷ []) (either (field 2 1) (is_number 2) (field 2 1) (is_number 9) ∷ [])

-- SELECT visit.id FROM visit WHERE day IN (9, 2) AND day >= 2
abbrev pub two_groups_query : Query
two_groups_query =
    identifiers_of 2 (2 ∷ [])
    (either (field 2 1) (is_number 9) (field 2 1) (is_number 2) ∷ compared (field 2 1) AtLeast (number 2) ∷ [])

-- SELECT visit.id FROM visit, doctor WHERE doc = doctor.id, and this condition
abbrev pub doctors_query : Condition → Query
doctors_query condition = identifiers_of 2 (2 ∷ 0 ∷ []) (Join (field 2 3) (field 0 0) ∷ condition ∷ [])

-- country IN ('FR', 'DE')
abbrev pub two_countries : Condition
two_countries = either (field 0 2) (is_text (codes "FR")) (field 0 2) (is_text (codes "DE"))

-- doctor.id = 1 OR country = 'ES'
abbrev pub number_or_country : Condition
number_or_country = either (field 0 0) (is_number 1) (field 0 2) (is_text (codes "ES"))

-- notes whose topic and body may be NULL, the body being hidden
abbrev pub nullable_notes_schema : Schema
nullable_notes_schema =
    record {
      name = codes "note";
      columns =
          id_column ∷ record { name = codes "topic"; kind = CharsOrNull 4; hidden = false; child = None }
          ∷ record { name = codes "body"; kind = CharsOrNull 8; hidden = true; child = None } ∷ [];
    } ∷ []

abbrev pub nullable_notes : Database
nullable_notes =
    ((number 1 ∷ Text (codes "a") ∷ Text (codes "x") ∷ []) ∷ (number 2 ∷ Null ∷ Text (codes "y") ∷ [])
    ∷ (number 3 ∷ Text (codes "a") ∷ Null ∷ []) ∷ (number 4 ∷ Text (codes "b") ∷ Text (codes "z") ∷ []) ∷ [])
    ∷ []

abbrev pub notes_where : Condition → Query
notes_where condition = identifiers_of 0 (0 ∷ []) (condition ∷ [])

abbrev pub notes_met : Condition → List Row
notes_met condition = answer nullable_notes_schema nullable_notes (notes_where condition)

abbrev pub note_payloads : Condition → List (List ℕ)
note_payloads condition =
    map (λ ask. encode_lower (ask_payload nullable_notes_schema ask)) (asks_of nullable_notes_schema (notes_where condition))

-- topic = 'a' OR body IS NULL
abbrev pub topic_or_body : Condition
topic_or_body = either (field 0 1) (is_text (codes "a")) (field 0 2) IsNull

-- topic IS NULL OR topic IN ('a', 'b') OR topic IS NOT NULL
abbrev pub any_topic : Condition
any_topic =
    OneOf (tested (field 0 1) IsNull)
    (tested (field 0 1) (is_text (codes "a")) ∷ tested (field 0 1) (is_text (codes "b")) ∷ tested (field 0 1) IsNotNull ∷ [])

abbrev pub honest_reply : Schema → Database → Ask → Reply
honest_reply schema database ask = record { ask = ask; rows = visible_rows schema (public_of schema database) ask }

-- what the key answers by the replies of an honest host
abbrev pub answer_known : Schema → Database → Query → List Row
answer_known schema database asked =
    answer_from schema (hidden_of schema database) asked (map (honest_reply schema database) (asks_of schema asked))

abbrev pub work_of_body : Test → ℕ
work_of_body test = condition_work nullable_notes_schema nullable_notes 0 (alone (field 0 2) test)

pub record TruthOfGroups : Type 0 where
  pub a_mixed_group : answer clinic_schema clinic mixed_query ≡ row_of_number 2 ∷ row_of_number 3 ∷ []
  pub a_mixed_group_asked : payloads mixed_query ≡ codes "02010100" ∷ []
  pub a_mixed_group_known : answer_known clinic_schema clinic mixed_query ≡ row_of_number 2 ∷ row_of_number 3 ∷ []
  pub beside_a_condition_asked : payloads late_mixed_query ≡ codes "0201010101068000000000000005" ∷ []
  pub a_visible_group : answer clinic_schema clinic days_query ≡ row_of_number 3 ∷ row_of_number 4 ∷ []
  pub a_visible_group_asked : payloads days_query ≡ codes "0200020181800000000000000201018000000000000009" ∷ []
  pub a_visible_group_known : answer_known clinic_schema clinic days_query ≡ row_of_number 3 ∷ row_of_number 4 ∷ []
  pub two_groups_asked : payloads two_groups_query ≡ codes "020003018180000000000000090101800000000000000201068000000000000002" ∷ []
  pub two_groups_known : answer_known clinic_schema clinic two_groups_query ≡ row_of_number 3 ∷ row_of_number 4 ∷ []
  pub a_group_of_the_key : answer clinic_schema clinic (doctors_query two_countries) ≡ row_of_number 1 ∷ []
  pub a_group_of_the_key_asked : payloads (doctors_query two_countries) ≡ []
  pub a_group_of_the_key_known : answer_known clinic_schema clinic (doctors_query two_countries) ≡ row_of_number 1 ∷ []
  pub work_of_a_group : condition_work clinic_schema clinic 2 number_or_country ≡ 164
  pub work_of_ranges : condition_work clinic_schema clinic 2 (either (field 2 0) (is_number 1) (field 2 0) (Compared More (number 3))) ≡ 32
  pub work_of_a_range : condition_work clinic_schema clinic 2 (alone (field 2 0) (is_number 1)) ≡ 0
  pub work_of_a_mixed_group : condition_work clinic_schema clinic 2 day_or_purpose ≡ 0
  pub null_is_not_unequal : notes_met (alone (field 0 2) (Compared Unequal (Text (codes "x")))) ≡ row_of_number 2 ∷ row_of_number 4 ∷ []
  pub null : notes_met (alone (field 0 1) IsNull) ≡ row_of_number 2 ∷ []
  pub all_but_null : notes_met (alone (field 0 2) IsNotNull) ≡ row_of_number 1 ∷ row_of_number 2 ∷ row_of_number 4 ∷ []
  pub a_value_or_null : notes_met topic_or_body ≡ row_of_number 1 ∷ row_of_number 3 ∷ []
  pub a_value_or_null_asked : note_payloads topic_or_body ≡ codes "00010100" ∷ []
  pub each_code_asked : note_payloads any_topic ≡ codes "00000401870181610000000181620000000108" ∷ []
  pub work_of_unequal : work_of_body (Compared Unequal (Text (codes "x"))) ≡ 168
  pub work_of_null : work_of_body IsNull ≡ 104
  pub work_of_all_but_null : work_of_body IsNotNull ≡ 216

-- the frames that are sent for a text over a schema, the first of a script
abbrev pub frames_asked : Schema → (text : List ℕ) → List (List ℕ)
frames_asked schema text = map (λ one. spelled (AskFrame 1 (ask_payload schema one.ask))) (asked_of schema (text ∷ []))

abbrev pub visits_asked : (conditions : List ℕ) → List (List ℕ)
visits_asked conditions = frames_asked clinic_schema (codes "SELECT visit.id FROM visit WHERE " ++ conditions)

abbrev pub notes_asked : (conditions : List ℕ) → List (List ℕ)
notes_asked conditions = frames_asked nullable_notes_schema (codes "SELECT id FROM note WHERE " ++ conditions)

-- what is asked for texts with groups: a group of visible columns alone is sent, of a mixed one the visible columns are asked
pub record AsksOfGroups : Type 0 where
  pub a_mixed_group : visits_asked (codes "(day = 9 OR purpose = 'check')") ≡ codes "020200040000000102010100" ∷ []
  pub a_visible_list : visits_asked (codes "day IN (2, 9)")
      ≡ codes "02020017000000010200020181800000000000000201018000000000000009" ∷ []
  pub a_hidden_list : frames_asked clinic_schema (codes "SELECT visit.id FROM visit, doctor WHERE doc = doctor.id AND country IN ('FR', 'DE')") ≡ []
  pub keys_and_identifiers : frames_asked clinic_schema (codes "SELECT visit.id FROM visit, doctor WHERE doc = doctor.id AND (doc = 1 OR pat = 2)") ≡ []
  pub a_refused_group : frames_asked clinic_schema (codes "SELECT visit.id FROM visit, doctor WHERE doc = doctor.id AND (day = 9 OR country = 'FR')") ≡ []
  pub an_identifier_and_a_visible_column : notes_asked (codes "(id = 1 OR topic = 'a')") ≡ codes "020200040000000100010100" ∷ []
  pub a_value_or_null : notes_asked (codes "(topic = 'a' OR body IS NULL)") ≡ codes "020200040000000100010100" ∷ []
  pub a_comparison : frames_asked nullable_notes_schema (codes "SELECT id, body FROM note WHERE topic = 'a'") ≡ codes "0202000900000001000001010161000000" ∷ []
  pub null : frames_asked nullable_notes_schema (codes "SELECT id, topic FROM note WHERE body IS NOT NULL AND topic IS NULL")
      ≡ codes "0202000600000001000101010107" ∷ []
  pub unequal : notes_asked (codes "topic <> 'a'") ≡ codes "0202000900000001000001010261000000" ∷ []
  pub a_list_in_a_group : notes_asked (codes "(topic IS NULL OR topic IN ('a','b') OR topic IS NOT NULL)")
      ≡ codes "020200130000000100000401870181610000000181620000000108" ∷ []
