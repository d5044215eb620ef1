-- Items over the clinic, and what it is migrated to.
use Rattle.std.specs.Prelude.{◌≡◌, ℕ, List, [], ◌∷◌, ◌++◌, length, codes, Option, Some, None}
use Rattle.ghost_model.specs.core.Schema.{CharsOrNull, column_kind}
use Rattle.ghost_model.specs.examples.Clinic.{clinic_schema, clinic_catalog, clinic_catalog_one}
use Rattle.ghost_model.specs.forms.Catalog.{catalog_bytes}
use Rattle.ghost_model.specs.forms.Layout.{need}
use Rattle.key_migrate.specs.Items.{migrated, refused_item, with_items}
use Rattle.key_migrate.specs.Results.{migrated_line}

-- the first of these items of the clinic that is not taken
abbrev pub refused : (items : List (List ℕ)) → Option ℕ
refused items = refused_item clinic_schema items

pub record ItemsOfTheClinic : Type 0 where
  pub none : refused [] ≡ None
  pub of_all_tables : refused (codes "doctor.country" ∷ codes "visit.day" ∷ codes "patient.name" ∷ []) ≡ None
  pub of_any_case : refused (codes "Doctor.COUNTRY" ∷ []) ≡ None
  pub identifier : refused (codes "doctor.id" ∷ []) ≡ Some 1
  pub foreign_key : refused (codes "visit.doc" ∷ []) ≡ Some 1
  pub no_point : refused (codes "doctor" ∷ []) ≡ Some 1
  pub nothing : refused ([] ∷ []) ≡ Some 1
  pub blank : refused (codes "doctor. country" ∷ []) ≡ Some 1
  pub no_such_table : refused (codes "nurse.country" ∷ []) ≡ Some 1
  pub no_such_column : refused (codes "doctor.name" ∷ []) ≡ Some 1
  pub two_points : refused (codes "doctor.country." ∷ []) ≡ Some 1
  pub again : refused (codes "doctor.country" ∷ codes "doctor.specialty" ∷ codes "DOCTOR.Country" ∷ []) ≡ Some 3
  pub first_of_two : refused (codes "doctor.country" ∷ codes "visit.pat" ∷ codes "visit.doc" ∷ []) ≡ Some 2
  pub already : refused_item (with_items clinic_schema (codes "doctor.country" ∷ [])) (codes "doctor.country" ∷ []) ≡ Some 1

pub record ClinicMigrated : Type 0 where
  pub renewed : migrated clinic_catalog_one [] ≡ clinic_catalog
  pub again : migrated clinic_catalog [] ≡ clinic_catalog
  pub kind : column_kind (with_items clinic_schema (codes "doctor.country" ∷ [])) 0 2 ≡ Some (CharsOrNull 2)
  pub bytes : length (catalog_bytes (migrated clinic_catalog_one (codes "doctor.country" ∷ []))) ≡ 370
  pub line : migrated_line (migrated clinic_catalog_one (codes "doctor.country" ∷ [])) ≡ codes "= migrated tables 3 rows 9 version 2" ++ 10 ∷ []

-- a purpose that may be NULL makes an appended row a byte wider, so that the two areas for such rows take a block more each
pub record PagesOfTheMigrated : Type 0 where
  pub country : need (migrated clinic_catalog_one (codes "doctor.country" ∷ [])) ≡ 1344
  pub purpose : need (migrated clinic_catalog_one (codes "doctor.country" ∷ codes "visit.purpose" ∷ [])) ≡ 1472
