use Rattle.std.proofs.Common.{◌≡◌, ◌∷◌, [], codes}
use Rattle.ghost_model.specs.core.Generated.{file_of, rows_to, patient_fields}
use Rattle.generated_clinic.proofs.files.patients.Given as goal

abbrev pub invariant-loop-before : goal.invariant-loop-before
invariant-loop-before l =
    l.file.items ≡ file_of ((codes "id" ∷ codes "age" ∷ codes "name" ∷ []) ∷ rows_to l.before (patient_fields l.seed))
