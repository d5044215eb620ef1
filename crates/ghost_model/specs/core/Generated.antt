-- A clinic of any size, drawn from a number: its schema, the three files and a script of up to forty texts. There is one
-- doctor for ten visits and one patient for five, and one of each more. Every value follows from the row's number and
-- the seed, and a text from its number alone. A file is a header and its rows, written as comma-separated values.
use Rattle.std.specs.Prelude.{ℕ, ◌+◌, ◌*◌, ◌/◌, ◌%◌, ◌==◌, List, [], ◌∷◌, ◌++◌, map, flat_map, codes, decimal, if◌then◌else◌}
use Rattle.std.specs.List.{range_with_len}
use Rattle.csv.specs.Writing.{default_writer, row_text}

abbrev pub schema_text : List ℕ
schema_text =
    codes "CREATE TABLE doctor (id INTEGER PRIMARY KEY, specialty CHAR(8), country CHAR(2) HIDDEN);\n"
    ++ (codes "CREATE TABLE patient (id INTEGER PRIMARY KEY, age INTEGER, name CHAR(8) HIDDEN);\n"
    ++ (codes "CREATE TABLE visit (id INTEGER PRIMARY KEY, day INTEGER, purpose CHAR(8) HIDDEN, "
    ++ codes "doc INTEGER REFERENCES doctor(id) HIDDEN, pat INTEGER REFERENCES patient(id) HIDDEN);\n"))

-- how many doctors and patients there are for so many visits
abbrev pub doctors : (visits : ℕ) → ℕ
doctors visits = visits / 10 + 1

abbrev pub patients : (visits : ℕ) → ℕ
patients visits = visits / 5 + 1

-- a letter and a number
abbrev pub lettered : (letter : List ℕ) → (number : ℕ) → List ℕ
lettered letter number = letter ++ decimal number

-- the fields of a row
abbrev pub doctor_fields : (seed identifier : ℕ) → List (List ℕ)
doctor_fields seed identifier =
    decimal identifier ∷ lettered (codes "s") ((identifier + seed) % 5) ∷ lettered (codes "c") (identifier % 3) ∷ []

abbrev pub patient_fields : (seed identifier : ℕ) → List (List ℕ)
patient_fields seed identifier =
    decimal identifier ∷ decimal ((37 * identifier + seed) % 100) ∷ lettered (codes "n") (identifier % 1000) ∷ []

abbrev pub visit_fields : (seed visits identifier : ℕ) → List (List ℕ)
visit_fields seed visits identifier =
    decimal identifier ∷ decimal ((31 * identifier + seed) % 365) ∷ lettered (codes "p") ((7 * identifier + seed) % 8)
    ∷ decimal ((identifier + seed) % doctors visits + 1) ∷ decimal ((3 * identifier + seed) % patients visits + 1) ∷ []

-- the rows numbered from 1 to a count
abbrev pub rows_to : (count : ℕ) → (ℕ → List (List ℕ)) → List (List (List ℕ))
rows_to count fields = map fields (range_with_len 1 count)

abbrev pub file_of : (records : List (List (List ℕ))) → List ℕ
file_of records = flat_map (row_text default_writer) records

abbrev pub doctor_records : (seed visits : ℕ) → List (List (List ℕ))
doctor_records seed visits =
    (codes "id" ∷ codes "specialty" ∷ codes "country" ∷ []) ∷ rows_to (doctors visits) (doctor_fields seed)

abbrev pub patient_records : (seed visits : ℕ) → List (List (List ℕ))
patient_records seed visits =
    (codes "id" ∷ codes "age" ∷ codes "name" ∷ []) ∷ rows_to (patients visits) (patient_fields seed)

abbrev pub visit_records : (seed visits : ℕ) → List (List (List ℕ))
visit_records seed visits =
    (codes "id" ∷ codes "day" ∷ codes "purpose" ∷ codes "doc" ∷ codes "pat" ∷ [])
    ∷ rows_to visits (visit_fields seed visits)

-- a file for each table, in the order of the schema
abbrev pub files : (seed visits : ℕ) → List (List ℕ)
files seed visits =
    file_of (doctor_records seed visits) ∷ file_of (patient_records seed visits) ∷ file_of (visit_records seed visits) ∷ []

-- the four forms of text, each with bounds that follow from a text's number
abbrev pub doctors_elsewhere : (number : ℕ) → List ℕ
doctors_elsewhere number =
    codes "SELECT doctor.id, country FROM doctor WHERE specialty <> 's" ++ (decimal (number % 5) ++ codes "';")

abbrev pub early_visits : (number : ℕ) → List ℕ
early_visits number =
    codes "SELECT visit.id, day FROM visit WHERE day < "
    ++ (decimal (60 + 7 * number) ++ (codes " AND purpose = 'p" ++ (decimal ((number + 6) % 8) ++ codes "';")))

abbrev pub visits_to_specialists : (number : ℕ) → List ℕ
visits_to_specialists number =
    codes "SELECT visit.id, specialty FROM visit, doctor WHERE doc = doctor.id AND specialty = 's"
    ++ (decimal (number % 5) ++ (codes "' AND purpose = 'p" ++ (decimal ((number + 6) % 8) ++ codes "';")))

abbrev pub visits_of_the_old : (number : ℕ) → List ℕ
visits_of_the_old number =
    codes "SELECT visit.id, age, country FROM visit, doctor, patient WHERE doc = doctor.id AND pat = patient.id AND age >= "
    ++ (decimal (2 * number) ++ (codes " AND country = 'c" ++ (decimal (number % 3) ++ codes "';")))

-- the text with a number, counted from 1
abbrev pub text : (number : ℕ) → List ℕ
text number =
    if number % 4 == 1 then early_visits number
    else if number % 4 == 2 then visits_to_specialists number
    else if number % 4 == 3 then visits_of_the_old number
    else doctors_elsewhere number

-- so many texts, each on a line of its own
abbrev pub script : (texts : ℕ) → List ℕ
script texts = flat_map (λ number. text number ++ 10 ∷ []) (range_with_len 1 texts)
