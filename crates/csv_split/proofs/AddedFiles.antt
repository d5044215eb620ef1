-- One file after others.
use Rattle.std.proofs.Common.{◌≡◌, ◌<◌, ◌+◌, ◌∙◌, ℕ, suc, List, [], ◌∷◌, ◌++◌, length, drop, sym, ap, ap₂, refl, arith, append_assoc}
use Rattle.ghost_model.specs.refusals.LoadFaults.{file_faults, files_faults}
use Rattle.ghost_model.specs.core.Schema.{Schema, columns_of}
use Rattle.ghost_model.specs.core.Database.{database_of, rows_spelled}
use Rattle.csv_split.specs.ReadingOrder.{AddsItsOwn}

faults_from : (at : ℕ) (schema : Schema) (before : List (List ℕ)) (file : List ℕ) (later : List (List ℕ)) → length before < length schema
    → files_faults at schema (before ++ file ∷ later)
    ≡ files_faults at schema before
    ++ (file_faults (at + length before) (columns_of schema (length before)) file
    ++ files_faults (at + length before + 1) (drop (length before + 1) schema) later)
unfolding files_faults
faults_from at [] before file later within = absurd (omega arith)
faults_from at (d ∷ ds) [] file later within =
    let e : at + 0 ≡ at = omega arith in
    rw e refl
faults_from at (d ∷ ds) (f ∷ fs) file later within =
    let n = length fs in
    let e : at + 1 + n ≡ at + suc n = omega arith in
    let s : suc n + 1 ≡ suc (n + 1) = omega arith in
    ap (λ faults. file_faults at d.columns f ++ faults) (faults_from (at + 1) ds fs file later (omega arith))
    ∙ sym (append_assoc (file_faults at d.columns f) (files_faults (at + 1) ds fs) (file_faults (at + 1 + n) (columns_of ds n) file ++ files_faults (at + 1 + n + 1) (drop (n + 1) ds) later))
    ∙ ap₂ (λ place left. (file_faults at d.columns f ++ files_faults (at + 1) ds fs) ++ (file_faults place (columns_of ds n) file ++ files_faults (place + 1) left later)) e (ap (λ m. drop m (d ∷ ds)) (sym s))

rows_from : (schema : Schema) (before : List (List ℕ)) (file : List ℕ) → length before < length schema
    → database_of schema (before ++ file ∷ []) ≡ database_of schema before ++ rows_spelled (columns_of schema (length before)) file ∷ []
rows_from [] before file within = absurd (omega arith)
rows_from (d ∷ []) [] file within = refl
rows_from (d ∷ (_ ∷ _)) [] file within = refl
rows_from (d ∷ ds) (f ∷ fs) file within = ap (λ rows. rows_spelled d.columns f ∷ rows) (rows_from ds fs file (omega arith))

pub added : (schema : Schema) (before : List (List ℕ)) (file : List ℕ) (later : List (List ℕ)) → length before < length schema → AddsItsOwn schema before file later
added schema before file later within =
    let n = length before in
    let e : 0 + n ≡ n = omega arith in
    record {
      faults = faults_from 0 schema before file later within
          ∙ ap (λ place. files_faults 0 schema before ++ (file_faults place (columns_of schema n) file ++ files_faults (place + 1) (drop (n + 1) schema) later)) e;
      rows = rows_from schema before file within;
    }
