-- The queries that the texts of a script mean, by the texts' numbers.
use Rattle.std.specs.Prelude.{ℕ, ◌+◌, ◌*◌, ◌%◌, ◌==◌, List, [], ◌∷◌, codes, pos, if◌then◌else◌}
use Rattle.ghost_model.specs.core.Values.{Value, Number, Text}
use Rattle.ghost_model.specs.core.Query.{Query, Field, Condition, compared, Join, Equal, Unequal, Less, AtLeast}
use Rattle.ghost_model.specs.core.Generated.{lettered}
use Rattle.ghost_model.specs.refusals.QueryMeaning.{field}

-- the tables of the schema by their places, and their columns
abbrev pub doctor_id : Field
doctor_id = field 0 0

abbrev pub specialty : Field
specialty = field 0 1

abbrev pub country : Field
country = field 0 2

abbrev pub patient_id : Field
patient_id = field 1 0

abbrev pub age : Field
age = field 1 1

abbrev pub visit_id : Field
visit_id = field 2 0

abbrev pub day : Field
day = field 2 1

abbrev pub purpose : Field
purpose = field 2 2

abbrev pub doc : Field
doc = field 2 3

abbrev pub pat : Field
pat = field 2 4

abbrev pub query : (from : List ℕ) (select : List Field) (conditions : List Condition) → Query
query from select conditions = record { from = from; select = select; conditions = conditions }

abbrev pub word : (letter : List ℕ) (number : ℕ) → Value
word letter number = Text (lettered letter number)

-- the doctors of all specialties but one
abbrev pub doctors_elsewhere : (number : ℕ) → Query
doctors_elsewhere number =
    query (0 ∷ []) (doctor_id ∷ country ∷ []) (compared specialty Unequal (word (codes "s") (number % 5)) ∷ [])

-- the visits before a day and for a purpose
abbrev pub early_visits : (number : ℕ) → Query
early_visits number =
    query (2 ∷ []) (visit_id ∷ day ∷ [])
    (compared day Less (Number (pos (60 + 7 * number))) ∷ compared purpose Equal (word (codes "p") ((number + 6) % 8)) ∷ [])

-- the visits to doctors of a specialty, for a purpose
abbrev pub visits_to_specialists : (number : ℕ) → Query
visits_to_specialists number =
    query (2 ∷ 0 ∷ []) (visit_id ∷ specialty ∷ [])
    (Join doc doctor_id ∷ compared specialty Equal (word (codes "s") (number % 5))
    ∷ compared purpose Equal (word (codes "p") ((number + 6) % 8)) ∷ [])

-- the visits of patients from an age on, to doctors of a country
abbrev pub visits_of_the_old : (number : ℕ) → Query
visits_of_the_old number =
    query (2 ∷ 0 ∷ 1 ∷ []) (visit_id ∷ age ∷ country ∷ [])
    (Join doc doctor_id ∷ Join pat patient_id ∷ compared age AtLeast (Number (pos (2 * number)))
    ∷ compared country Equal (word (codes "c") (number % 3)) ∷ [])

-- the query of the text with a number
abbrev pub question : (number : ℕ) → Query
question number =
    if number % 4 == 1 then early_visits number
    else if number % 4 == 2 then visits_to_specialists number
    else if number % 4 == 3 then visits_of_the_old number
    else doctors_elsewhere number
