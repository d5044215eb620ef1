-- The files of a generated clinic break no rule of loading: each row on its own, then each file, then the foreign keys.
use Rattle.std.proofs.Common.{◌≡◌, ◌≤◌, ◌<◌, ◌+◌, ◌*◌, ◌^◌, ◌%◌, ◌/◌, ◌∙◌, ℕ, suc, true, List, [], ◌∷◌, length, map, drop, refl, ap, length-append, nat_le, codes, arith, rules}
use Rattle.std.specs.Prelude.{decimal, pos}
use Rattle.std.specs.List.{range_with_len}
use Rattle.std.specs.Ordering.{int_eq}
use Rattle.std.proofs.lemmas.Bool.Decides.{nat_tests, Decides-int_eq}
use Rattle.std.proofs.lemmas.Fmt.{length-decimal-le}
use Rattle.std.proofs.lemmas.List.FromFn.{length-map-range_with_len}
use Rattle.csv.specs.Writing.{default_writer, fields_text, is_blank, read_back, row_text}
use Rattle.ghost_model.specs.core.Schema.{Column}
use Rattle.ghost_model.specs.core.Values.{Database, Number, Row}
use Rattle.ghost_model.specs.core.Database.{is_row_among, is_text, records_of, row_count, row_counts, row_spelled, rows_spelled, database_of}
use Rattle.ghost_model.specs.core.Generated.{doctors, patients, doctor_fields, patient_fields, visit_fields, doctor_records, patient_records, visit_records, file_of, files, rows_to}
use Rattle.ghost_model.specs.refusals.Tokens.{is_printable}
use Rattle.ghost_model.specs.refusals.LoadFaults.{most_bytes, most_rows, is_header, row_faults, field_faults, file_faults, files_faults, references_from, table_references, row_reference_faults}
use Rattle.ghost_model.specs.examples.Clinic.{doctor_table, patient_table, visit_table, clinic_schema}
use Rattle.generated_clinic.specs.Laws.{FilesAreGood}
use Rattle.generated_clinic.proofs.Numerals.{integer, key_is_within, plain, printable}
use Rattle.generated_clinic.proofs.Written.{three_fields, five_fields}
use Rattle.generated_clinic.proofs.Reading.{file_read, rows_back}
use Rattle.generated_clinic.proofs.Rules.{no_row_faults, no_reference_faults, not_longer}

-- numbers of a row

is_itself : (n : ℕ) → int_eq (pos n) (pos n) ≡ true
is_itself n = search (rules, Decides-int_eq)

within : (a b : ℕ) → a ≤ b → nat_le a b ≡ true
within a b h = grind (arith, nat_tests)

-- a letter and a number of few digits are a text
word_is_text : (most letter number digits : ℕ) → is_printable letter ≡ true → 0 < digits → digits ≤ 10 → number < 10 ^ digits → digits < most
    → number < 2 ^ 63 → is_text most (letter ∷ decimal number) ≡ true
word_is_text most letter number digits good some few less room wide =
    let short = length-decimal-le digits number some less (omega (arith, wide)) in
    rw (within (suc (length (decimal number))) most (omega (arith, short, room)), good, printable number (omega (arith, wide))) refl

-- a number from 1 to a count is small

key_is_small : (n most : ℕ) → most ≤ most_rows → n % (most + 1) + 1 < 2 ^ 63
key_is_small n most few = omega (arith, key_is_within n most)

-- rows

doctor_is_good : (seed i : ℕ) → 1 ≤ i → i < 1 + most_rows → row_faults 0 i doctor_table.columns (doctor_fields seed i) ≡ []
unfolding field_faults
doctor_is_good seed i low high =
    rw (
      within i most_rows (omega arith),
      integer i (omega arith),
      is_itself i,
      word_is_text 8 115 ((i + seed) % 5) 1 refl (omega arith) (omega arith) (omega arith) (omega arith) (omega arith),
      word_is_text 2 99 (i % 3) 1 refl (omega arith) (omega arith) (omega arith) (omega arith) (omega arith),
    ) refl

patient_is_good : (seed i : ℕ) → 1 ≤ i → i < 1 + most_rows → row_faults 1 i patient_table.columns (patient_fields seed i) ≡ []
unfolding field_faults
patient_is_good seed i low high =
    rw (
      within i most_rows (omega arith),
      integer i (omega arith),
      is_itself i,
      integer ((37 * i + seed) % 100) (omega arith),
      word_is_text 8 110 (i % 1000) 3 refl (omega arith) (omega arith) (omega arith) (omega arith) (omega arith),
    ) refl

visit_is_good : (seed visits i : ℕ) → visits ≤ most_rows → 1 ≤ i → i < 1 + most_rows → row_faults 2 i visit_table.columns (visit_fields seed visits i) ≡ []
unfolding field_faults
visit_is_good seed visits i few low high =
    let doctor : (i + seed) % doctors visits + 1 < 2 ^ 63 = key_is_small (i + seed) (visits / 10) (omega arith) in
    let patient : (3 * i + seed) % patients visits + 1 < 2 ^ 63 = key_is_small (3 * i + seed) (visits / 5) (omega arith) in
    rw (
      within i most_rows (omega arith),
      integer i (omega arith),
      is_itself i,
      integer ((31 * i + seed) % 365) (omega arith),
      word_is_text 8 112 ((7 * i + seed) % 8) 1 refl (omega arith) (omega arith) (omega arith) (omega arith) (omega arith),
      integer ((i + seed) % doctors visits + 1) doctor,
      integer ((3 * i + seed) % patients visits + 1) patient,
    ) refl

-- bytes of rows

at_most : (digits n : ℕ) → 0 < digits → n < 10 ^ digits → n < 2 ^ 64 → length (decimal n) ≤ digits
at_most digits n some less wide = length-decimal-le digits n some less wide

doctor_is_short : (seed i : ℕ) → i < 1 + most_rows → length (row_text default_writer (doctor_fields seed i)) ≤ 60
doctor_is_short seed i high =
    let s = (i + seed) % 5 in
    let c = i % 3 in
    let number = at_most 7 i (omega arith) (omega arith) (omega arith) in
    let specialty = at_most 1 s (omega arith) (omega arith) (omega arith) in
    let country = at_most 1 c (omega arith) (omega arith) (omega arith) in
    rw (three_fields (decimal i) (115 ∷ decimal s) (99 ∷ decimal c) (plain i (omega arith)) (plain s (omega arith)) (plain c (omega arith)))
    (grind (arith, length-append, number, specialty, country))

patient_is_short : (seed i : ℕ) → i < 1 + most_rows → length (row_text default_writer (patient_fields seed i)) ≤ 60
patient_is_short seed i high =
    let a = (37 * i + seed) % 100 in
    let n = i % 1000 in
    let number = at_most 7 i (omega arith) (omega arith) (omega arith) in
    let age = at_most 2 a (omega arith) (omega arith) (omega arith) in
    let name = at_most 3 n (omega arith) (omega arith) (omega arith) in
    rw (three_fields (decimal i) (decimal a) (110 ∷ decimal n) (plain i (omega arith)) (plain a (omega arith)) (plain n (omega arith)))
    (grind (arith, length-append, number, age, name))

visit_is_short : (seed visits i : ℕ) → visits ≤ most_rows → i < 1 + most_rows
    → length (row_text default_writer (visit_fields seed visits i)) ≤ 60
visit_is_short seed visits i few high =
    let d = (31 * i + seed) % 365 in
    let p = (7 * i + seed) % 8 in
    let doc = (i + seed) % doctors visits + 1 in
    let pat = (3 * i + seed) % patients visits + 1 in
    let of_doc : doc ≤ visits / 10 + 1 = key_is_within (i + seed) (visits / 10) in
    let of_pat : pat ≤ visits / 5 + 1 = key_is_within (3 * i + seed) (visits / 5) in
    let number = at_most 7 i (omega arith) (omega arith) (omega arith) in
    let day = at_most 3 d (omega arith) (omega arith) (omega arith) in
    let purpose = at_most 1 p (omega arith) (omega arith) (omega arith) in
    let doctor = at_most 7 doc (omega arith) (omega arith) (omega arith) in
    let patient = at_most 7 pat (omega arith) (omega arith) (omega arith) in
    rw (five_fields (decimal i) (decimal d) (112 ∷ decimal p) (decimal doc) (decimal pat)
    (plain i (omega arith)) (plain d (omega arith)) (plain p (omega arith)) (plain doc (omega arith)) (plain pat (omega arith)))
    (grind (arith, length-append, number, day, purpose, doctor, patient))

-- files

-- a file of good rows under a good header, which is read back as it was written
file_is_good : (table : ℕ) (columns : List Column) (name : List ℕ) (names : List (List ℕ)) (fields : ℕ → List (List ℕ)) (count : ℕ)
    → records_of (file_of ((name ∷ names) ∷ rows_to count fields)) ≡ (name ∷ names) ∷ rows_to count fields
    → length (file_of ((name ∷ names) ∷ rows_to count fields)) ≤ most_bytes
    → is_header columns (name ∷ names) ≡ true
    → ((i : ℕ) → 1 ≤ i → i < 1 + count → row_faults table i columns (fields i) ≡ [])
    → file_faults table columns (file_of ((name ∷ names) ∷ rows_to count fields)) ≡ []
file_is_good table columns name names fields count read short headed each =
    rw (
      within (length (file_of ((name ∷ names) ∷ rows_to count fields))) most_bytes short,
      read,
      headed,
      no_row_faults table columns fields 1 count each,
    ) refl

records_back : (name : List ℕ) (names : List (List ℕ)) (fields : ℕ → List (List ℕ)) (count : ℕ) (rest : List ℕ)
    → file_of ((name ∷ names) ∷ rows_to count fields) ≡ 105 ∷ 100 ∷ 44 ∷ rest
    → ((i : ℕ) → read_back (fields i) ≡ fields i)
    → records_of (file_of ((name ∷ names) ∷ rows_to count fields)) ≡ (name ∷ names) ∷ rows_to count fields
records_back name names fields count rest begins same =
    file_read rest ((name ∷ names) ∷ rows_to count fields) begins
    ∙ ap (λ (rows : List (List (List ℕ))). (name ∷ names) ∷ rows) (rows_back fields same (range_with_len 1 count))

doctors_back : (seed visits : ℕ) → records_of (file_of (doctor_records seed visits)) ≡ doctor_records seed visits
unfolding fields_text is_blank
doctors_back seed visits =
    records_back (codes "id") (codes "specialty" ∷ codes "country" ∷ []) (doctor_fields seed) (doctors visits) _ refl (λ i. refl)

patients_back : (seed visits : ℕ) → records_of (file_of (patient_records seed visits)) ≡ patient_records seed visits
unfolding fields_text is_blank
patients_back seed visits =
    records_back (codes "id") (codes "age" ∷ codes "name" ∷ []) (patient_fields seed) (patients visits) _ refl (λ i. refl)

visits_back : (seed visits : ℕ) → records_of (file_of (visit_records seed visits)) ≡ visit_records seed visits
unfolding fields_text is_blank
visits_back seed visits =
    records_back (codes "id") (codes "day" ∷ codes "purpose" ∷ codes "doc" ∷ codes "pat" ∷ []) (visit_fields seed visits) visits _ refl (λ i. refl)

-- a header and rows of at most 60 bytes each
file_is_short : (header : List (List ℕ)) (fields : ℕ → List (List ℕ)) (count : ℕ) → length (row_text default_writer header) ≤ 60 → count ≤ most_rows
    → ((i : ℕ) → 1 ≤ i → i < 1 + count → length (row_text default_writer (fields i)) ≤ 60)
    → length (file_of (header ∷ rows_to count fields)) ≤ most_bytes
file_is_short header fields count first few each =
    omega (arith, first, few, not_longer 60 fields 1 count each, length-append (row_text default_writer header) (file_of (rows_to count fields)))

few_doctors : (visits : ℕ) → visits ≤ most_rows → doctors visits ≤ most_rows
few_doctors visits few = omega (arith, few)

few_patients : (visits : ℕ) → visits ≤ most_rows → patients visits ≤ most_rows
few_patients visits few = omega (arith, few)

doctors_are_good : (seed visits : ℕ) → visits ≤ most_rows → file_faults 0 doctor_table.columns (file_of (doctor_records seed visits)) ≡ []
unfolding fields_text is_blank
doctors_are_good seed visits few =
    let count = few_doctors visits few in
    file_is_good 0 doctor_table.columns (codes "id") (codes "specialty" ∷ codes "country" ∷ []) (doctor_fields seed) (doctors visits)
    (doctors_back seed visits)
    (file_is_short (codes "id" ∷ codes "specialty" ∷ codes "country" ∷ []) (doctor_fields seed) (doctors visits) (omega arith) count (λ i low high. doctor_is_short seed i (omega (arith, high, count))))
    refl
    (λ i low high. doctor_is_good seed i low (omega (arith, high, count)))

patients_are_good : (seed visits : ℕ) → visits ≤ most_rows → file_faults 1 patient_table.columns (file_of (patient_records seed visits)) ≡ []
unfolding fields_text is_blank
patients_are_good seed visits few =
    let count = few_patients visits few in
    file_is_good 1 patient_table.columns (codes "id") (codes "age" ∷ codes "name" ∷ []) (patient_fields seed) (patients visits)
    (patients_back seed visits)
    (file_is_short (codes "id" ∷ codes "age" ∷ codes "name" ∷ []) (patient_fields seed) (patients visits) (omega arith) count (λ i low high. patient_is_short seed i (omega (arith, high, count))))
    refl
    (λ i low high. patient_is_good seed i low (omega (arith, high, count)))

visits_are_good : (seed visits : ℕ) → visits ≤ most_rows → file_faults 2 visit_table.columns (file_of (visit_records seed visits)) ≡ []
unfolding fields_text is_blank
visits_are_good seed visits few =
    file_is_good 2 visit_table.columns (codes "id") (codes "day" ∷ codes "purpose" ∷ codes "doc" ∷ codes "pat" ∷ []) (visit_fields seed visits) visits
    (visits_back seed visits)
    (file_is_short (codes "id" ∷ codes "day" ∷ codes "purpose" ∷ codes "doc" ∷ codes "pat" ∷ []) (visit_fields seed visits) visits (omega arith) few (λ i low high. visit_is_short seed visits i few (omega (arith, high, few))))
    refl
    (λ i low high. visit_is_good seed visits i few low (omega (arith, high, few)))

-- the database

abbrev rows_of_fields : (columns : List Column) (fields : ℕ → List (List ℕ)) (count : ℕ) → List Row
rows_of_fields columns fields count = map (λ i. row_spelled columns (fields i)) (range_with_len 1 count)

each_spelled : (columns : List Column) (fields : ℕ → List (List ℕ)) (numbers : List ℕ)
    → map (row_spelled columns) (map fields numbers) ≡ map (λ i. row_spelled columns (fields i)) numbers
each_spelled columns fields [] = refl
each_spelled columns fields (i ∷ numbers) = ap (λ rows. row_spelled columns (fields i) ∷ rows) (each_spelled columns fields numbers)

file_spells : (columns : List Column) (header : List (List ℕ)) (fields : ℕ → List (List ℕ)) (count : ℕ)
    → records_of (file_of (header ∷ rows_to count fields)) ≡ header ∷ rows_to count fields
    → rows_spelled columns (file_of (header ∷ rows_to count fields)) ≡ rows_of_fields columns fields count
file_spells columns header fields count read =
    ap (λ records. map (row_spelled columns) (drop 1 records)) read ∙ each_spelled columns fields (range_with_len 1 count)

abbrev drawn : (seed visits : ℕ) → Database
drawn seed visits =
    rows_of_fields doctor_table.columns (doctor_fields seed) (doctors visits)
    ∷ rows_of_fields patient_table.columns (patient_fields seed) (patients visits)
    ∷ rows_of_fields visit_table.columns (visit_fields seed visits) visits ∷ []

files_spell : (seed visits : ℕ) → database_of clinic_schema (files seed visits) ≡ drawn seed visits
files_spell seed visits =
    rw (
      file_spells doctor_table.columns _ (doctor_fields seed) (doctors visits) (doctors_back seed visits),
      file_spells patient_table.columns _ (patient_fields seed) (patients visits) (patients_back seed visits),
      file_spells visit_table.columns _ (visit_fields seed visits) visits (visits_back seed visits),
    ) refl

-- foreign keys

among : (n most : ℕ) → is_row_among (most + 1) (Number (pos (n % (most + 1) + 1))) ≡ true
among n most = rw (within 1 (n % (most + 1) + 1) (omega arith), within (n % (most + 1) + 1) (most + 1) (key_is_within n most)) refl

no_doctor_references : (database : Database) (seed count : ℕ)
    → table_references database 0 2 doctor_table.columns (rows_of_fields doctor_table.columns (doctor_fields seed) count) ≡ []
unfolding row_reference_faults
no_doctor_references database seed count =
    no_reference_faults database 0 doctor_table.columns (λ i. row_spelled doctor_table.columns (doctor_fields seed i)) 1 count (λ i low high. refl)

no_patient_references : (database : Database) (seed count : ℕ)
    → table_references database 1 2 patient_table.columns (rows_of_fields patient_table.columns (patient_fields seed) count) ≡ []
unfolding row_reference_faults
no_patient_references database seed count =
    no_reference_faults database 1 patient_table.columns (λ i. row_spelled patient_table.columns (patient_fields seed i)) 1 count (λ i low high. refl)

visit_refers : (database : Database) (seed visits i : ℕ) → visits ≤ most_rows → row_count database 0 ≡ doctors visits → row_count database 1 ≡ patients visits
    → row_reference_faults database 2 (i + 1) 0 visit_table.columns (row_spelled visit_table.columns (visit_fields seed visits i)) ≡ []
unfolding row_reference_faults
visit_refers database seed visits i few of_doctors of_patients =
    rw (
      integer ((i + seed) % doctors visits + 1) (key_is_small (i + seed) (visits / 10) (omega (arith, few))),
      integer ((3 * i + seed) % patients visits + 1) (key_is_small (3 * i + seed) (visits / 5) (omega (arith, few))),
      of_doctors,
      of_patients,
      among (i + seed) (visits / 10),
      among (3 * i + seed) (visits / 5),
    ) refl

no_visit_references : (database : Database) (seed visits : ℕ) → visits ≤ most_rows → row_count database 0 ≡ doctors visits → row_count database 1 ≡ patients visits
    → table_references database 2 2 visit_table.columns (rows_of_fields visit_table.columns (visit_fields seed visits) visits) ≡ []
no_visit_references database seed visits few of_doctors of_patients =
    no_reference_faults database 2 visit_table.columns (λ i. row_spelled visit_table.columns (visit_fields seed visits i)) 1 visits
    (λ i low high. visit_refers database seed visits i few of_doctors of_patients)

row_total : (columns : List Column) (fields : ℕ → List (List ℕ)) (count : ℕ) → length (rows_of_fields columns fields count) ≡ count
row_total columns fields count = length-map-range_with_len (λ i. row_spelled columns (fields i)) 1 count

drawn_counts : (seed visits : ℕ) → row_counts (drawn seed visits) ≡ doctors visits ∷ patients visits ∷ visits ∷ []
drawn_counts seed visits =
    rw (
      row_total doctor_table.columns (doctor_fields seed) (doctors visits),
      row_total patient_table.columns (patient_fields seed) (patients visits),
      row_total visit_table.columns (visit_fields seed visits) visits,
    ) refl

no_references : (seed visits : ℕ) → visits ≤ most_rows → references_from (drawn seed visits) 0 clinic_schema (drawn seed visits) ≡ []
unfolding references_from
no_references seed visits few =
    rw (
      no_doctor_references (drawn seed visits) seed (doctors visits),
      no_patient_references (drawn seed visits) seed (patients visits),
      no_visit_references (drawn seed visits) seed visits few
          (row_total doctor_table.columns (doctor_fields seed) (doctors visits))
          (row_total patient_table.columns (patient_fields seed) (patients visits)),
    ) refl

no_file_faults : (seed visits : ℕ) → visits ≤ most_rows → files_faults 0 clinic_schema (files seed visits) ≡ []
unfolding files_faults
no_file_faults seed visits few =
    rw (doctors_are_good seed visits few, patients_are_good seed visits few, visits_are_good seed visits few) refl

pub files_are_good : FilesAreGood
files_are_good seed visits few = record {
  no_fault = rw (no_file_faults seed visits few, files_spell seed visits) (no_references seed visits few);
  counts = ap row_counts (files_spell seed visits) ∙ drawn_counts seed visits;
}
