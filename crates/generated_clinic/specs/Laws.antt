-- What holds of every generated clinic of at most so many visits as a table may have rows, and of every script of at most
-- forty texts.
use Rattle.std.specs.Prelude.{◌≡◌, ◌≤◌, ℕ, [], ◌∷◌, length, map, Ok}
use Rattle.std.specs.List.{range_with_len}
use Rattle.ghost_model.specs.core.Database.{row_counts, database_of}
use Rattle.ghost_model.specs.core.Generated.{files, script, doctors, patients}
use Rattle.ghost_model.specs.core.Texts.{texts_of, most_script_bytes}
use Rattle.ghost_model.specs.refusals.LoadFaults.{load_faults, most_rows}
use Rattle.ghost_model.specs.readings.QueryReading.{reading}
use Rattle.ghost_model.specs.examples.Clinic.{clinic_schema}
use Rattle.generated_clinic.specs.Questions.{question}

-- files that keep every rule, with a row for each doctor, patient and visit
pub record AreGood (seed visits : ℕ) : Type 0 where
  pub no_fault : load_faults clinic_schema (files seed visits) ≡ []
  pub counts : row_counts (database_of clinic_schema (files seed visits)) ≡ doctors visits ∷ patients visits ∷ visits ∷ []

abbrev pub FilesAreGood : Type 0
FilesAreGood = (seed visits : ℕ) → visits ≤ most_rows → AreGood seed visits

-- a script that is not too long, and whose texts mean the queries with their numbers
pub record MeansQuestions (texts : ℕ) : Type 0 where
  pub short : length (script texts) ≤ most_script_bytes
  pub meant : map (reading clinic_schema) (texts_of (script texts)) ≡ map (λ number. Ok (question number)) (range_with_len 1 texts)

abbrev pub TextsAreGood : Type 0
TextsAreGood = (texts : ℕ) → texts ≤ 40 → MeansQuestions texts
