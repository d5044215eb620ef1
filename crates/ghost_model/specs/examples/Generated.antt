-- Clinics drawn from a number: the least one, one of twenty visits, and those of the greatest seed. What some texts of a
-- script are, and how many bytes the longest script has.
use Rattle.std.specs.Prelude.{◌≡◌, ℕ, List, [], ◌∷◌, length, codes, get_or, Ok}
use Rattle.ghost_model.specs.core.Generated.{schema_text, files, text, script}
use Rattle.ghost_model.specs.core.Texts.{texts_of}
use Rattle.ghost_model.specs.refusals.LoadFaults.{load_faults}
use Rattle.ghost_model.specs.readings.SchemaReading.{schema_reading}
use Rattle.ghost_model.specs.examples.Clinic.{clinic_schema}
use Rattle.ghost_model.specs.examples.Databases.{lines, doctors, patients, visits}

-- the files with these rows after their headers
abbrev pub with_rows : (doctor_rows patient_rows visit_rows : List (List ℕ)) → List (List ℕ)
with_rows doctor_rows patient_rows visit_rows = doctors doctor_rows ∷ patients patient_rows ∷ visits visit_rows ∷ []

pub record GeneratedFiles : Type 0 where
  pub schema : schema_reading schema_text ≡ Ok clinic_schema
  pub least : files 0 1
      ≡ with_rows (codes "1,s1,c1" ∷ []) (codes "1,37,n1" ∷ []) (codes "1,31,p7,1,1" ∷ [])
  pub least_of_the_greatest_seed : files 999999999 1
      ≡ with_rows (codes "1,s0,c1" ∷ []) (codes "1,36,n1" ∷ []) (codes "1,40,p6,1,1" ∷ [])
  pub twenty : files 7 20
      ≡ with_rows
      (codes "1,s3,c1" ∷ codes "2,s4,c2" ∷ codes "3,s0,c0" ∷ [])
      (codes "1,44,n1" ∷ codes "2,81,n2" ∷ codes "3,18,n3" ∷ codes "4,55,n4" ∷ codes "5,92,n5" ∷ [])
      (codes "1,38,p6,3,1" ∷ codes "2,69,p5,1,4" ∷ codes "3,100,p4,2,2" ∷ codes "4,131,p3,3,5" ∷ codes "5,162,p2,1,3"
      ∷ codes "6,193,p1,2,1" ∷ codes "7,224,p0,3,4" ∷ codes "8,255,p7,1,2" ∷ codes "9,286,p6,2,5" ∷ codes "10,317,p5,3,3"
      ∷ codes "11,348,p4,1,1" ∷ codes "12,14,p3,2,4" ∷ codes "13,45,p2,3,2" ∷ codes "14,76,p1,1,5" ∷ codes "15,107,p0,2,3"
      ∷ codes "16,138,p7,3,1" ∷ codes "17,169,p6,1,4" ∷ codes "18,200,p5,2,2" ∷ codes "19,231,p4,3,5"
      ∷ codes "20,262,p3,1,3" ∷ [])
  pub visits_of_the_greatest_seed : get_or (files 999999999 9) 2 []
      ≡ visits
      (codes "1,40,p6,1,1" ∷ codes "2,71,p5,1,2" ∷ codes "3,102,p4,1,1" ∷ codes "4,133,p3,1,2" ∷ codes "5,164,p2,1,1"
      ∷ codes "6,195,p1,1,2" ∷ codes "7,226,p0,1,1" ∷ codes "8,257,p7,1,2" ∷ codes "9,288,p6,1,1" ∷ [])
  pub no_fault : load_faults clinic_schema (files 7 20) ≡ []

pub record GeneratedTexts : Type 0 where
  pub first : text 1 ≡ codes "SELECT visit.id, day FROM visit WHERE day < 67 AND purpose = 'p7';"
  pub second : text 2
      ≡ codes "SELECT visit.id, specialty FROM visit, doctor WHERE doc = doctor.id AND specialty = 's2' AND purpose = 'p0';"
  pub third : text 3
      ≡ codes "SELECT visit.id, age, country FROM visit, doctor, patient WHERE doc = doctor.id AND pat = patient.id AND age >= 6 AND country = 'c0';"
  pub fourth : text 4 ≡ codes "SELECT doctor.id, country FROM doctor WHERE specialty <> 's4';"
  pub last : text 40 ≡ codes "SELECT doctor.id, country FROM doctor WHERE specialty <> 's0';"
  pub one_text : script 1 ≡ lines (text 1 ∷ [])
  pub four_texts : script 4 ≡ lines (text 1 ∷ text 2 ∷ text 3 ∷ text 4 ∷ [])
  pub longest : length (script 40) ≡ 3747
  pub forty_texts : length (texts_of (script 40)) ≡ 40
