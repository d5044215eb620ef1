use Rattle.std.proofs.Common.{◌≡◌, ◌∷◌, [], codes}
use Rattle.ghost_model.specs.core.Generated.{file_of, rows_to, visit_fields}
use Rattle.generated_clinic.proofs.files.visits.Given as goal

abbrev pub invariant-loop-before : goal.invariant-loop-before
invariant-loop-before l =
    l.file.items ≡ file_of ((codes "id" ∷ codes "day" ∷ codes "purpose" ∷ codes "doc" ∷ codes "pat" ∷ []) ∷ rows_to l.before (visit_fields l.seed l.visits))
