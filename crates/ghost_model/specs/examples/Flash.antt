-- What the clinic's flash holds, file by file, and what loading it takes.
use Rattle.std.specs.Prelude.{◌≡◌, ℕ, ◌+◌, ◌-◌, ◌*◌, ◌==◌, nat_lt, List, [], ◌∷◌, ◌++◌, codes, length, drop, map, get_or, replicate, if◌then◌else◌}
use Rattle.std.specs.List.{concat}
use Rattle.ghost_model.specs.core.Channel.{Catalog}
use Rattle.ghost_model.specs.core.Split.{Hidden, hidden_of}
use Rattle.ghost_model.specs.forms.Runs.{Stores}
use Rattle.ghost_model.specs.forms.Gaps.{level_bytes}
use Rattle.ghost_model.specs.forms.Layout.{levels_of, above_of, column_file}
use Rattle.ghost_model.specs.laws.ShortWords.{catalog_pages}
use Rattle.ghost_model.specs.forms.Flash.{Holds, HoldsFresh, catalog_page, hidden_cells, AreValues, value_lists, directory_records, subtree_record, id_lists, ids}
use Rattle.ghost_model.specs.forms.Work.{public_written, file_pages, pages_built}
use Rattle.ghost_model.specs.examples.Clinic.{clinic_schema, clinic_catalog, clinic_catalog_one, note_schema, note_catalog, clinic, notes}

abbrev pub hidden_clinic : Hidden
hidden_clinic = hidden_of clinic_schema clinic

abbrev pub hidden_notes : Hidden
hidden_notes = hidden_of note_schema notes

-- a number below 256 as it stands on a page
abbrev pub small : ℕ → List ℕ
small number = 0 ∷ 0 ∷ 0 ∷ number ∷ []

-- a foreign key's cell with a number below 256
abbrev pub key : ℕ → List ℕ
key number = 0x80 ∷ 0 ∷ 0 ∷ 0 ∷ 0 ∷ 0 ∷ 0 ∷ number ∷ []

abbrev pub flu : List ℕ
flu = codes "flu" ++ replicate 5 0

abbrev pub check : List ℕ
check = codes "check" ++ replicate 3 0

abbrev pub ann : List ℕ
ann = codes "Ann" ++ replicate 5 0

abbrev pub bob : List ℕ
bob = codes "Bob" ++ replicate 5 0

-- the values of a column, of which doctor.country, patient.name, visit.purpose, visit.doc and visit.pat are meant
abbrev pub countries : List (List ℕ)
countries = codes "ES" ∷ codes "FR" ∷ []

abbrev pub names : List (List ℕ)
names = ann ∷ bob ∷ []

abbrev pub purposes : List (List ℕ)
purposes = check ∷ flu ∷ []

abbrev pub doctors : List (List ℕ)
doctors = key 1 ∷ key 2 ∷ key 3 ∷ []

pub record CellsOfTheClinic : Type 0 where
  pub country : hidden_cells clinic_schema hidden_clinic 0 2 ≡ codes "FR" ∷ codes "ES" ∷ codes "ES" ∷ []
  pub name : hidden_cells clinic_schema hidden_clinic 1 2 ≡ ann ∷ bob ∷ []
  pub purpose : hidden_cells clinic_schema hidden_clinic 2 2 ≡ flu ∷ check ∷ flu ∷ flu ∷ []
  pub doctor : hidden_cells clinic_schema hidden_clinic 2 3 ≡ key 1 ∷ key 3 ∷ key 3 ∷ key 2 ∷ []
  pub patient : hidden_cells clinic_schema hidden_clinic 2 4 ≡ key 1 ∷ key 2 ∷ key 1 ∷ key 2 ∷ []

pub record IndexesOfTheClinic : Type 0 where
  pub are_countries : AreValues (hidden_cells clinic_schema hidden_clinic 0 2) countries
  pub below_visits :
      map (subtree_record clinic_schema hidden_clinic 2) (ids 4)
      ≡ (small 1 ++ small 1) ∷ (small 3 ++ small 2) ∷ (small 3 ++ small 1) ∷ (small 2 ++ small 2) ∷ []
  pub countries_of_doctors :
      level_bytes (value_lists clinic_catalog hidden_clinic 0 2 countries 0) ≡ 2 ∷ 1 ∷ 1 ∷ []
  pub countries_of_visits :
      level_bytes (value_lists clinic_catalog hidden_clinic 0 2 countries 2) ≡ 2 ∷ 1 ∷ 1 ∷ 1 ∷ []
  pub directory_of_countries :
      directory_records countries (levels_of clinic_schema 0) (value_lists clinic_catalog hidden_clinic 0 2 countries)
      ≡ (codes "ES" ++ (small 0 ++ (small 2 ++ (small 0 ++ small 3))))
      ∷ (codes "FR" ++ (small 2 ++ (small 1 ++ (small 3 ++ small 1)))) ∷ []
  pub directory_of_names :
      directory_records names (levels_of clinic_schema 1) (value_lists clinic_catalog hidden_clinic 1 2 names)
      ≡ (ann ++ (small 0 ++ (small 1 ++ (small 0 ++ small 2))))
      ∷ (bob ++ (small 1 ++ (small 1 ++ (small 2 ++ small 2)))) ∷ []
  pub directory_of_purposes :
      directory_records purposes (levels_of clinic_schema 2) (value_lists clinic_catalog hidden_clinic 2 2 purposes)
      ≡ (check ++ (small 0 ++ small 1)) ∷ (flu ++ (small 1 ++ small 3)) ∷ []
  pub purposes_of_visits :
      level_bytes (value_lists clinic_catalog hidden_clinic 2 2 purposes 2) ≡ 2 ∷ 1 ∷ 2 ∷ 1 ∷ []
  pub doctors_of_visits :
      level_bytes (value_lists clinic_catalog hidden_clinic 2 3 doctors 2) ≡ 1 ∷ 4 ∷ 2 ∷ 1 ∷ []
  pub directory_of_doctors :
      directory_records (replicate 3 []) (above_of clinic_schema 0) (id_lists clinic_catalog hidden_clinic 0)
      ≡ (small 0 ++ small 1) ∷ (small 1 ++ small 1) ∷ (small 2 ++ small 2) ∷ []
  pub visits_of_doctors :
      level_bytes (id_lists clinic_catalog hidden_clinic 0 2) ≡ 1 ∷ 4 ∷ 2 ∷ 1 ∷ []

-- All pages of the clinic: those of the catalog, the gate and its header, and from page 256 on these records, which a page has before
-- bytes 0xFF.
abbrev pub place_of : (first count : ℕ) → List ℕ
place_of first count = small first ++ small count

-- doctor.country, its index (header, directory, doctors, visits), and the id index of doctors (directory, visits)
abbrev pub doctor_files : List (List (List ℕ))
doctor_files =
    (codes "FR" ∷ codes "ES" ∷ codes "ES" ∷ [])
    ∷ (small 2 ∷ [])
    ∷ ((codes "ES" ++ (place_of 0 2 ++ place_of 0 3)) ∷ (codes "FR" ++ (place_of 2 1 ++ place_of 3 1)) ∷ [])
    ∷ ((2 ∷ 1 ∷ 1 ∷ []) ∷ [])
    ∷ ((2 ∷ 1 ∷ 1 ∷ 1 ∷ []) ∷ [])
    ∷ (place_of 0 1 ∷ place_of 1 1 ∷ place_of 2 2 ∷ [])
    ∷ ((1 ∷ 4 ∷ 2 ∷ 1 ∷ []) ∷ [])
    ∷ []

-- the same of patient.name
abbrev pub patient_files : List (List (List ℕ))
patient_files =
    (ann ∷ bob ∷ [])
    ∷ (small 2 ∷ [])
    ∷ ((ann ++ (place_of 0 1 ++ place_of 0 2)) ∷ (bob ++ (place_of 1 1 ++ place_of 2 2)) ∷ [])
    ∷ ((1 ∷ 2 ∷ []) ∷ [])
    ∷ ((1 ∷ 2 ∷ 2 ∷ 2 ∷ []) ∷ [])
    ∷ (place_of 0 2 ∷ place_of 2 2 ∷ [])
    ∷ ((1 ∷ 2 ∷ 2 ∷ 2 ∷ []) ∷ [])
    ∷ []

-- visit.purpose, visit.doc and visit.pat, the doctor and the patient of each visit, and the three indexes
abbrev pub visit_files : List (List (List ℕ))
visit_files =
    (flu ∷ check ∷ flu ∷ flu ∷ [])
    ∷ (key 1 ∷ key 3 ∷ key 3 ∷ key 2 ∷ [])
    ∷ (key 1 ∷ key 2 ∷ key 1 ∷ key 2 ∷ [])
    ∷ ((small 1 ++ small 1) ∷ (small 3 ++ small 2) ∷ (small 3 ++ small 1) ∷ (small 2 ++ small 2) ∷ [])
    ∷ (small 2 ∷ [])
    ∷ ((check ++ place_of 0 1) ∷ (flu ++ place_of 1 3) ∷ [])
    ∷ ((2 ∷ 1 ∷ 2 ∷ 1 ∷ []) ∷ [])
    ∷ (small 3 ∷ [])
    ∷ ((key 1 ++ place_of 0 1) ∷ (key 2 ++ place_of 1 1) ∷ (key 3 ++ place_of 2 2) ∷ [])
    ∷ ((1 ∷ 4 ∷ 2 ∷ 1 ∷ []) ∷ [])
    ∷ (small 2 ∷ [])
    ∷ ((key 1 ++ place_of 0 2) ∷ (key 2 ++ place_of 2 2) ∷ [])
    ∷ ((1 ∷ 2 ∷ 2 ∷ 2 ∷ []) ∷ [])
    ∷ []

abbrev pub filled : List ℕ → List ℕ
filled bytes = bytes ++ replicate (2048 - length bytes) 0xff

-- the public pages behind those of the catalog begin with these bytes on a fresh device
abbrev pub of_gate : (generation which place : ℕ) → List ℕ
of_gate generation which place =
    if place == 64 then which ∷ [] else if place == 128 + 64 * which then small generation ++ small 0 else []

-- pages that hold a catalog of generation 1 and version 2 and these files
abbrev pub page_with : Catalog → (files : List (List (List ℕ))) → (place : ℕ) → List ℕ
page_with cat files place =
    if nat_lt place 64 then catalog_page cat place
    else if nat_lt place 256 then filled (of_gate 1 1 place)
    else filled (concat (get_or files (place - 256) []))

abbrev pub clinic_page : (place : ℕ) → List ℕ
clinic_page place = page_with clinic_catalog (doctor_files ++ (patient_files ++ visit_files)) place

-- pages of which one has another byte at its beginning
abbrev pub changed : (at byte : ℕ) → (place : ℕ) → List ℕ
changed at byte place = if place == at then byte ∷ drop 1 (clinic_page place) else clinic_page place

pub record HoldingsOfTheClinic : Type 0 where
  pub whole : Holds clinic_page clinic_catalog hidden_clinic
  pub another_catalog : Holds (changed 0 0) clinic_catalog hidden_clinic → ⊥
  pub the_other_header : Holds (changed 64 0) clinic_catalog hidden_clinic → ⊥
  pub another_generation : Holds (changed 192 1) clinic_catalog hidden_clinic → ⊥
  pub both_headers : Holds (changed 128 0) clinic_catalog hidden_clinic → ⊥
  pub a_page_behind_the_gate : Holds (changed 65 0) clinic_catalog hidden_clinic → ⊥
  pub another_country : Holds (changed 256 0) clinic_catalog hidden_clinic → ⊥
  pub another_entry_of_an_index : Holds (changed 258 0) clinic_catalog hidden_clinic → ⊥
  pub another_place_of_visits : Holds (changed 261 1) clinic_catalog hidden_clinic → ⊥
  pub another_visit_of_a_doctor : Holds (changed 262 3) clinic_catalog hidden_clinic → ⊥
  pub another_doctor : Holds (changed 273 1) clinic_catalog hidden_clinic → ⊥

-- the gate and the headers of fresh devices
pub record FreshDevices : Type 0 where
  pub six : HoldsFresh (λ place. filled (of_gate 6 0 place)) (record clinic_catalog { generation = 6 })
  pub gate_of_one : (page : ℕ → List ℕ) → HoldsFresh page clinic_catalog → page 64 ≡ 0x01 ∷ replicate 2047 0xff
  pub header_of_one :
      (page : ℕ → List ℕ) → HoldsFresh page clinic_catalog
      → page 192 ≡ 0 ∷ 0 ∷ 0 ∷ 1 ∷ 0 ∷ 0 ∷ 0 ∷ 0 ∷ replicate 2040 0xff
  pub no_header_of_one : (page : ℕ → List ℕ) → HoldsFresh page clinic_catalog → page 128 ≡ replicate 2048 0xff
  pub gate_of_six :
      (page : ℕ → List ℕ) → HoldsFresh page (record clinic_catalog { generation = 6 }) → page 64 ≡ 0x00 ∷ replicate 2047 0xff
  pub header_of_six :
      (page : ℕ → List ℕ) → HoldsFresh page (record clinic_catalog { generation = 6 })
      → page 128 ≡ 0 ∷ 0 ∷ 0 ∷ 6 ∷ 0 ∷ 0 ∷ 0 ∷ 0 ∷ replicate 2040 0xff
  pub no_header_of_six :
      (page : ℕ → List ℕ) → HoldsFresh page (record clinic_catalog { generation = 6 }) → page 192 ≡ replicate 2048 0xff

-- the page of doctor.country
abbrev pub country_page : List ℕ
country_page = codes "FR" ++ (codes "ES" ++ (codes "ES" ++ replicate 2042 0xff))

pub record PagesOfTheClinic : Type 0 where
  pub first_page_is_whole : length (catalog_page clinic_catalog 0) ≡ 2048
  pub second_page : catalog_page clinic_catalog 1 ≡ replicate 2048 0xff
  pub last_page : catalog_page clinic_catalog 63 ≡ replicate 2048 0xff
  pub country :
      Stores (λ _. country_page) (column_file clinic_catalog 0 2) (hidden_cells clinic_schema hidden_clinic 0 2)
  pub another_country :
      Stores (λ _. codes "ES" ++ (codes "ES" ++ (codes "ES" ++ replicate 2042 0xff))) (column_file clinic_catalog 0 2)
      (hidden_cells clinic_schema hidden_clinic 0 2)
      → ⊥
  pub a_byte_after_the_records :
      Stores (λ _. codes "FRESES" ++ 0 ∷ replicate 2041 0xff) (column_file clinic_catalog 0 2)
      (hidden_cells clinic_schema hidden_clinic 0 2)
      → ⊥
  pub for_the_catalog : catalog_pages clinic_catalog ≡ 1
  pub with_the_gate : public_written clinic_catalog ≡ 3
  pub for_the_files : file_pages clinic_catalog hidden_clinic ≡ 27
  pub built : pages_built clinic_catalog hidden_clinic ≡ 31
  pub built_at_version_one : pages_built clinic_catalog_one hidden_clinic ≡ 29
  pub built_for_the_notes : pages_built note_catalog hidden_notes ≡ 8
