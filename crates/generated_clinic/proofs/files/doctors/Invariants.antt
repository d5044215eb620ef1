use Rattle.std.proofs.Common.{◌≡◌, ◌∷◌, [], codes}
use Rattle.ghost_model.specs.core.Generated.{file_of, rows_to, doctor_fields}
use Rattle.generated_clinic.proofs.files.doctors.Given as goal

abbrev pub invariant-loop-before : goal.invariant-loop-before
invariant-loop-before l =
    l.file.items ≡ file_of ((codes "id" ∷ codes "specialty" ∷ codes "country" ∷ []) ∷ rows_to l.before (doctor_fields l.seed))
