-- What one file more adds to the faults and the rows of the files before it.
use Rattle.std.specs.Prelude.{◌≡◌, ℕ, ◌+◌, ◌<◌, List, [], ◌∷◌, ◌++◌, length, drop}
use Rattle.ghost_model.specs.core.Schema.{Schema, columns_of}
use Rattle.ghost_model.specs.core.Database.{database_of, rows_spelled}
use Rattle.ghost_model.specs.refusals.LoadFaults.{file_faults, files_faults}

pub record AddsItsOwn (schema : Schema) (before : List (List ℕ)) (file : List ℕ) (later : List (List ℕ)) : Type 0 where
  -- its faults come after those of the files before, and before those of the later ones
  pub faults : files_faults 0 schema (before ++ file ∷ later)
      ≡ files_faults 0 schema before
      ++ (file_faults (length before) (columns_of schema (length before)) file
      ++ files_faults (length before + 1) (drop (length before + 1) schema) later)
  -- and its rows are the next table
  pub rows : database_of schema (before ++ file ∷ [])
      ≡ database_of schema before ++ rows_spelled (columns_of schema (length before)) file ∷ []

abbrev pub FilesAreReadInOrder : Type 0
FilesAreReadInOrder =
    (schema : Schema) (before : List (List ℕ)) (file : List ℕ) (later : List (List ℕ)) → length before < length schema
    → AddsItsOwn schema before file later
