-- The files of a drawn clinic, one by one.
use Rattle.std.proofs.Common.{◌≡◌, ℕ, List, [], ◌∷◌, ◌++◌, Ok, Err, refl, ap, ◌∙◌}
use Rattle.ghost_model.specs.core.Generated.{doctor_records, patient_records, visit_records, file_of, files}
use Rattle.ghost_model.specs.refusals.LoadFaults.{file_faults, files_faults, references_from}
use Rattle.ghost_model.specs.core.Database.{database_of, rows_spelled}
use Rattle.ghost_model.specs.core.Values.{Database}
use Rattle.ghost_model.specs.examples.Clinic.{clinic_schema, doctor_table, patient_table, visit_table}
use Rattle.ghost_model.specs.core.Schema.{Schema, columns_of}
use Rattle.generated_clinic.specs.Laws.{AreGood}
use Rattle.tree_schema.specs.Faults.{reading_of}
use Rattle.tree_schema.specs.declared.faults.SchemaFault.{SchemaFault}

none_both : {X : Type 0} (first more : List X) → first ++ more ≡ [] → (first ≡ []) × (more ≡ [])
none_both [] more none = (refl, none)
none_both (one ∷ first) more none = let bad : ⊥ = cc in absurd bad

pub record KeepRules (seed visits : ℕ) : Type 0 where
  pub doctors : file_faults 0 doctor_table.columns (file_of (doctor_records seed visits)) ≡ []
  pub patients : file_faults 1 patient_table.columns (file_of (patient_records seed visits)) ≡ []
  pub visits_file : file_faults 2 visit_table.columns (file_of (visit_records seed visits)) ≡ []

pub keep_rules : (seed visits : ℕ) → AreGood seed visits → KeepRules seed visits
unfolding files_faults
keep_rules seed visits good =
    let doctors = file_faults 0 doctor_table.columns (file_of (doctor_records seed visits)) in
    let patients = file_faults 1 patient_table.columns (file_of (patient_records seed visits)) in
    let visits_file = file_faults 2 visit_table.columns (file_of (visit_records seed visits)) in
    let all = none_both (files_faults 0 clinic_schema (files seed visits)) (references_from (database_of clinic_schema (files seed visits)) 0 clinic_schema (database_of clinic_schema (files seed visits))) good.no_fault in
    let first = none_both doctors (patients ++ (visits_file ++ [])) all.0 in
    let second = none_both patients (visits_file ++ []) first.1 in
    let third = none_both visits_file [] second.1 in
    record { doctors = first.0; patients = second.0; visits_file = third.0 }

-- a schema that was read is the one that its text means
pub same_schema : (schema means : Schema) → reading_of (Ok schema) ≡ Ok means → schema ≡ means
same_schema schema means is = cc

pub no_fault : {P : Type 0} (fault : SchemaFault) (means : Schema) → reading_of (Err fault) ≡ Ok means → P
no_fault fault means is = cc

-- three files are told one by one
pub each_of_three : (a b c x y z : List ℕ) → a ∷ b ∷ c ∷ [] ≡ x ∷ y ∷ z ∷ [] → (a ≡ x) × (b ≡ y) × (c ≡ z)
each_of_three a b c x y z same =
    let one : a ≡ x = cc in
    let two : b ≡ y = cc in
    let three : c ≡ z = cc in (one, two, three)

-- a file of the clinic keeps the rules of a schema that is the clinic's
pub keeps : (schema : Schema) (table : ℕ) (file drawn : List ℕ) → schema ≡ clinic_schema → file ≡ drawn → file_faults table (columns_of clinic_schema table) drawn ≡ []
    → file_faults table (columns_of schema table) file ≡ []
keeps schema table file drawn is same good =
    ap (λ (s : Schema). file_faults table (columns_of s table) file) is ∙ (ap (file_faults table (columns_of clinic_schema table)) same ∙ good)

-- the tables that were read one after another are those of the drawn files
pub tables_are : (schema : Schema) (doctors patients visits x y z : List ℕ) (none one two three : Database) → schema ≡ clinic_schema
    → (doctors ≡ x) × (patients ≡ y) × (visits ≡ z) → none ≡ []
    → one ≡ none ++ rows_spelled (columns_of schema 0) doctors ∷ [] → two ≡ one ++ rows_spelled (columns_of schema 1) patients ∷ []
    → three ≡ two ++ rows_spelled (columns_of schema 2) visits ∷ [] → three ≡ database_of clinic_schema (x ∷ y ∷ z ∷ [])
tables_are schema doctors patients visits x y z none one two three is are empty first second third =
    rw (third, second, first, empty, is, are.0, are.1, are.2) refl
