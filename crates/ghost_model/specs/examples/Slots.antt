-- What slots of the clinic's files may hold, and what they may not, kind by kind.
use Rattle.std.specs.Prelude.{◌≡◌, Bool, true, false, List, [], ◌∷◌, ◌++◌, codes, ℕ, replicate, Option, Some, None, ◌&&◌, map, flat_map, get_or, filter, nat_lt}
use Rattle.std.specs.List.{list_all}
use Rattle.ghost_model.specs.forms.Runs.{Run}
use Rattle.ghost_model.specs.forms.Gaps.{room_of}
use Rattle.ghost_model.specs.forms.Layout.{File, Cells, Subtrees, IndexHeader, IndexDirectory, IndexLevel, IdDirectory, IdLevel, run_of_file}
use Rattle.ghost_model.specs.laws.ShortWords.{static_files}
use Rattle.ghost_model.specs.forms.Slots.{has_file, may_stand, may_follow, IsDamagedSlot}
use Rattle.ghost_model.specs.examples.Clinic.{clinic_schema, clinic_catalog}
use Rattle.ghost_model.specs.examples.Flash.{doctor_files, patient_files, visit_files, changed, small, key}

abbrev pub stands : File → List ℕ → Bool
stands file bytes = may_stand clinic_catalog file bytes

abbrev pub follows : File → (before : Option (List ℕ)) → List ℕ → Bool
follows file before bytes = may_follow clinic_catalog file before bytes

-- doctor.country and visit.doc; there are 3 doctors, 2 patients and 4 visits
abbrev pub country : File
country = Cells 0 2

abbrev pub doctor_of_visit : File
doctor_of_visit = Cells 2 3

-- a record of the directory of doctor.country: the cell, the place of its doctors and that of its visits
abbrev pub entry : (cell : List ℕ) → (first count other_first other_count : ℕ) → List ℕ
entry cell first count other_first other_count = cell ++ (small first ++ (small count ++ (small other_first ++ small other_count)))

-- such an entry whose doctors, or whose visits, begin in the last bytes of their page, at 1,792 and so many
abbrev pub late : ℕ → List ℕ
late number = 0 ∷ 0 ∷ 7 ∷ number ∷ []

abbrev pub late_doctors : (number count : ℕ) → List ℕ
late_doctors number count = codes "ES" ++ (late number ++ (small count ++ (small 0 ++ small 3)))

abbrev pub late_visits : (number count : ℕ) → List ℕ
late_visits number count = codes "ES" ++ (small 0 ++ (small 2 ++ (late number ++ small count)))

-- the static files of the clinic in order
abbrev pub clinic_files : List File
clinic_files =
    Cells 0 2 ∷ IndexHeader 0 2 ∷ IndexDirectory 0 2 ∷ IndexLevel 0 2 0 ∷ IndexLevel 0 2 1 ∷ IdDirectory 0 ∷ IdLevel 0 0
    ∷ Cells 1 2 ∷ IndexHeader 1 2 ∷ IndexDirectory 1 2 ∷ IndexLevel 1 2 0 ∷ IndexLevel 1 2 1 ∷ IdDirectory 1 ∷ IdLevel 1 0
    ∷ Cells 2 2 ∷ Cells 2 3 ∷ Cells 2 4 ∷ Subtrees 2 ∷ IndexHeader 2 2 ∷ IndexDirectory 2 2 ∷ IndexLevel 2 2 0
    ∷ IndexHeader 2 3 ∷ IndexDirectory 2 3 ∷ IndexLevel 2 3 0 ∷ IndexHeader 2 4 ∷ IndexDirectory 2 4 ∷ IndexLevel 2 4 0 ∷ []

-- the runs of files by those of the layout: level files are the single bytes of the same pages
abbrev pub as_file : File → Run → Run
as_file (IndexLevel table column level) run = room_of run
as_file (IdLevel table level) run = room_of run
as_file file run = run

abbrev pub as_files : List File → List Run → List Run
as_files [] runs = runs
as_files (file ∷ files) [] = []
as_files (file ∷ files) (run ∷ runs) = as_file file run ∷ as_files files runs

-- what stands in the slots of a file: its records, and in a level file, where a code of one byte is a slot, all bytes from each one on
abbrev pub from_each : List ℕ → List (List ℕ)
from_each [] = []
from_each (byte ∷ later) = (byte ∷ later) ∷ from_each later

abbrev pub in_slots : File → (records : List (List ℕ)) → List (List ℕ)
in_slots (IndexLevel table column level) records = flat_map from_each records
in_slots (IdLevel table level) records = flat_map from_each records
in_slots file records = records

-- whether records may stand one after another, and whether what stands in the slots of files may by itself
abbrev pub keeps_order : File → (before : Option (List ℕ)) → (records : List (List ℕ)) → Bool
keeps_order file before [] = true
keeps_order file before (bytes ∷ later) = follows file before bytes && keeps_order file (Some bytes) later

abbrev pub each_stands : List File → (records : List (List (List ℕ))) → Bool
each_stands [] [] = true
each_stands [] (_ ∷ _) = false
each_stands (_ ∷ _) [] = false
each_stands (file ∷ files) (records ∷ later) = list_all (stands file) (in_slots file records) && each_stands files later

pub record RangesOfSlots : Type 0 where
  pub files_of_the_layout :
      map (run_of_file clinic_catalog) clinic_files ≡ as_files clinic_files (filter (λ run. nat_lt 0 run.width) (static_files clinic_catalog))
  pub files_are_there : list_all (has_file clinic_schema) clinic_files ≡ true
  pub all_of_the_clinic : each_stands clinic_files (doctor_files ++ (patient_files ++ visit_files)) ≡ true
  pub a_country : stands country (codes "FR") ≡ true
  pub a_byte_after_the_text : stands country (0 ∷ codes "R") ≡ false
  pub the_last_doctor : stands doctor_of_visit (key 3) ≡ true
  pub no_doctor : stands doctor_of_visit (key 4) ≡ false
  pub a_doctor_and_a_patient : stands (Subtrees 2) (small 3 ++ small 2) ≡ true
  pub no_patient : stands (Subtrees 2) (small 3 ++ small 3) ≡ false
  pub doctor_0 : stands (Subtrees 2) (small 0 ++ small 1) ≡ false
  pub two_values : stands (IndexHeader 0 2) (small 2) ≡ true
  pub more_values_than_rows : stands (IndexHeader 0 2) (small 4) ≡ false
  pub no_value : stands (IndexHeader 0 2) (small 0) ≡ false
  pub spain : stands (IndexDirectory 0 2) (entry (codes "ES") 0 2 0 3) ≡ true
  pub a_value_of_no_text : stands (IndexDirectory 0 2) (entry (codes "E" ++ 31 ∷ []) 0 2 0 3) ≡ false
  pub doctors_up_to_the_end : stands (IndexDirectory 0 2) (late_doctors 254 2) ≡ true
  pub more_doctors_than_bytes : stands (IndexDirectory 0 2) (late_doctors 255 2) ≡ false
  pub visits_up_to_the_end : stands (IndexDirectory 0 2) (late_visits 253 3) ≡ true
  pub more_visits_than_bytes : stands (IndexDirectory 0 2) (late_visits 253 4) ≡ false
  pub the_last_visit : stands (IndexLevel 0 2 1) (4 ∷ []) ≡ true
  pub a_visit_before_others : stands (IndexLevel 0 2 1) (4 ∷ 128 ∷ 0 ∷ []) ≡ true
  pub no_visit : stands (IndexLevel 0 2 1) (5 ∷ []) ≡ false
  pub visit_0 : stands (IndexLevel 0 2 1) (0 ∷ []) ≡ false
  pub a_longer_code : stands (IndexLevel 0 2 1) (128 ∷ 1 ∷ []) ≡ false
  pub half_a_code : stands (IndexLevel 0 2 1) (129 ∷ []) ≡ false
  pub visits_of_a_doctor : stands (IdDirectory 0) (small 2 ++ small 2) ≡ true
  pub more_than_bytes : stands (IdDirectory 0) (late 255 ++ small 2) ≡ false
  pub a_visit_of_a_doctor : stands (IdLevel 0 0) (4 ∷ []) ≡ true
  pub no_visit_of_a_doctor : stands (IdLevel 0 0) (5 ∷ []) ≡ false

pub record OrderOfSlots : Type 0 where
  pub countries_of_the_clinic : keeps_order (IndexDirectory 0 2) None (get_or doctor_files 2 []) ≡ true
  pub doctors_of_the_clinic : keeps_order (IdDirectory 0) None (get_or doctor_files 5 []) ≡ true
  pub names_of_the_clinic : keeps_order (IndexDirectory 1 2) None (get_or patient_files 2 []) ≡ true
  pub patients_of_the_clinic : keeps_order (IdDirectory 1) None (get_or patient_files 5 []) ≡ true
  pub purposes_of_the_clinic : keeps_order (IndexDirectory 2 2) None (get_or visit_files 5 []) ≡ true
  pub doctors_of_visits : keeps_order (IndexDirectory 2 3) None (get_or visit_files 8 []) ≡ true
  pub any_country : follows country (Some (codes "FR")) (codes "ES") ≡ true
  pub spain_first : follows (IndexDirectory 0 2) None (entry (codes "ES") 0 2 0 3) ≡ true
  pub a_gap_at_the_beginning : follows (IndexDirectory 0 2) None (entry (codes "ES") 1 2 0 3) ≡ true
  pub then_france : follows (IndexDirectory 0 2) (Some (entry (codes "ES") 0 2 0 3)) (entry (codes "FR") 2 1 3 1) ≡ true
  pub france_twice : follows (IndexDirectory 0 2) (Some (entry (codes "FR") 0 2 0 3)) (entry (codes "FR") 2 1 3 1) ≡ false
  pub a_gap_between_doctors : follows (IndexDirectory 0 2) (Some (entry (codes "ES") 0 1 0 3)) (entry (codes "FR") 2 1 3 1) ≡ true
  pub visits_twice : follows (IndexDirectory 0 2) (Some (entry (codes "ES") 0 2 0 3)) (entry (codes "FR") 2 1 2 1) ≡ false
  pub the_next_doctor : follows (IdDirectory 0) (Some (small 1 ++ small 1)) (small 2 ++ small 2) ≡ true
  pub a_doctor_too_early : follows (IdDirectory 0) (Some (small 1 ++ small 1)) (small 1 ++ small 2) ≡ false

-- a page of visit.doc on which the third visit is of no doctor
abbrev pub doctor_page : List ℕ
doctor_page = key 1 ++ (key 3 ++ (key 4 ++ (key 2 ++ replicate 2016 0xff)))

-- of a pair of slots that breaks an order the later one is damaged: a page of doctor.country's directory
abbrev pub directory_page : List ℕ
directory_page = entry (codes "FR") 0 2 0 3 ++ (entry (codes "ES") 2 1 3 1 ++ replicate 2012 0xff)

pub record DamagedSlots : Type 0 where
  pub no_such_doctor : IsDamagedSlot clinic_catalog (λ _. doctor_page) 271 2 0x8000000000000004
  pub the_later_of_two : IsDamagedSlot clinic_catalog (λ _. directory_page) 258 1 0x4553000000020000
  -- the level file of doctors in the index of doctor.country with another byte at its beginning
  pub no_code : IsDamagedSlot clinic_catalog (changed 259 0) 259 0 0x000101ffffffffff
  pub more_than_all_doctors : IsDamagedSlot clinic_catalog (changed 259 3) 259 1 0x0101ffffffffffff
