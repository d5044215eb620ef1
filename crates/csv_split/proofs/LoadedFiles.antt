-- The files that are left, and the faults and rows of all.
use Rattle.std.proofs.Common.{◌≡◌, ◌≤◌, ◌<◌, ◌+◌, ◌∙◌, ℕ, List, [], ◌∷◌, ◌++◌, length, drop, get_or, sym, ap, ap₂, refl, append_assoc, append-nil, Option, Result, Ok, Err, IfOk, MatchResult}
use Rattle.std.proofs.lemmas.List.{drop_all}
use Rattle.std.proofs.lemmas.Option.{slice_get-get_or}
use Rattle.ghost_model.specs.refusals.LoadFaults.{LoadFault, file_faults, files_faults}
use Rattle.ghost_model.specs.laws.LoadLaws.{Judges}
use Rattle.ghost_model.specs.core.Schema as schema
use Rattle.ghost_model.specs.core.Values.{Rows, Database}
use Rattle.ghost_model.specs.core.Database.{database_of, rows_spelled}
use Rattle.csv_split.proofs.FieldPlaces.{next}

nowhere : schema.Table
nowhere = record { name = []; columns = [] }

-- the files before `i` have no fault, and spell these tables
pub record AreReadSoFar (tables : schema.Schema) (files : List (List ℕ)) (i : ℕ) (database : Database) : Type 0 where
  pub faults : files_faults 0 tables files ≡ files_faults i (drop i tables) (drop i files)
  pub rows : database_of tables files ≡ database ++ database_of (drop i tables) (drop i files)

pub begin : (tables : schema.Schema) (files : List (List ℕ)) (database : Database) → database ≡ [] → AreReadSoFar tables files 0 database
begin tables files database none = record { faults = refl; rows = ap (λ rows. rows ++ database_of tables files) (sym none) }

columns : (tables : schema.Schema) (i : ℕ) → i < length tables → schema.columns_of tables i ≡ (get_or tables i nowhere).columns
columns tables i within = ap schema.columns_or_none (slice_get-get_or tables i nowhere within)

-- at a file, whose faults are the first
pub file_next : (tables : schema.Schema) (files : List (List ℕ)) (i : ℕ) (database : Database) (file : List ℕ) → AreReadSoFar tables files i database
    → i < length tables → i < length files → file ≡ get_or files i []
    → files_faults 0 tables files ≡ file_faults i (schema.columns_of tables i) file ++ files_faults (i + 1) (drop (i + 1) tables) (drop (i + 1) files)
unfolding files_faults
file_next tables files i database file so_far within here is =
    so_far.faults
    ∙ ap₂ (files_faults i) (next tables i nowhere within) (next files i [] here)
    ∙ ap₂ (λ columns file. file_faults i columns file ++ files_faults (i + 1) (drop (i + 1) tables) (drop (i + 1) files)) (sym (columns tables i within)) (sym is)

-- after one more file
pub file_read : (tables : schema.Schema) (files : List (List ℕ)) (i : ℕ) (database more : Database) (file : List ℕ) (rows : Rows) → AreReadSoFar tables files i database
    → i < length tables → i < length files → file ≡ get_or files i []
    → file_faults i (schema.columns_of tables i) file ≡ [] → rows ≡ rows_spelled (schema.columns_of tables i) file → more ≡ database ++ rows ∷ []
    → AreReadSoFar tables files (i + 1) more
file_read tables files i database more file rows so_far within here is none spelled grown =
    let later = database_of (drop (i + 1) tables) (drop (i + 1) files) in
    record {
      faults = file_next tables files i database file so_far within here is ∙ ap (λ faults. faults ++ files_faults (i + 1) (drop (i + 1) tables) (drop (i + 1) files)) none;
      rows = so_far.rows
          ∙ ap₂ (λ tables files. database ++ database_of tables files) (next tables i nowhere within) (next files i [] here)
          ∙ ap₂ (λ columns file. database ++ (rows_spelled columns file ∷ later)) (sym (columns tables i within)) (sym is)
          ∙ ap (λ rows. database ++ (rows ∷ later)) (sym spelled)
          ∙ sym (append_assoc database (rows ∷ []) later)
          ∙ ap (λ rows. rows ++ later) (sym grown);
    }

-- after the last file
pub all_read : (tables : schema.Schema) (files : List (List ℕ)) (i : ℕ) (database : Database) → AreReadSoFar tables files i database → length tables ≤ i
    → (files_faults 0 tables files ≡ []) × (database ≡ database_of tables files)
unfolding files_faults
all_read tables files i database so_far past =
    let none : drop i tables ≡ [] = drop_all i tables past in (
      so_far.faults ∙ ap (λ tables. files_faults i tables (drop i files)) none,
      sym (so_far.rows ∙ ap (λ tables. database ++ database_of tables (drop i files)) none ∙ append-nil database),
    )

-- the same where the file was read and its table put at the end
pub file_put : (tables : schema.Schema) (files : List (List ℕ)) (i : ℕ) (database more : Database) (file : List ℕ) {E : Type 0} (told : E → Option LoadFault) (read : Result Rows E) → AreReadSoFar tables files i database
    → i < length tables → i < length files → file ≡ get_or files i []
    → Judges told read (file_faults i (schema.columns_of tables i) file) → IfOk read (λ rows. rows ≡ rows_spelled (schema.columns_of tables i) file)
    → MatchResult read (λ rows. more ≡ database ++ rows ∷ []) (λ _. ⊥)
    → AreReadSoFar tables files (i + 1) more
file_put tables files i database more file told (Ok rows) so_far within here is judged spelled grown = file_read tables files i database more file rows so_far within here is judged spelled grown
file_put tables files i database more file told (Err fault) so_far within here is judged spelled grown = absurd grown
