use Rattle.std.proofs.Common.{◌∙◌, ◌∷◌, [], codes}
use Rattle.ghost_model.specs.core.Generated.{patient_fields}
use Rattle.generated_clinic.proofs.Written.{patients_begin, row_more}
use Rattle.generated_clinic.proofs.files.patients.Goals as goal

pub loop-before-init : goal.loop-before-init
loop-before-init c = c.in_ok-file.ensures.items ∙ patients_begin (patient_fields c.args.seed)

pub loop-before-preserved : goal.loop-before-preserved
loop-before-preserved c =
    row_more (codes "id" ∷ codes "age" ∷ codes "name" ∷ []) (patient_fields c.args.seed) c.loop-before.before c.loop-before.file.items c.put_patient.new.file.items
    c.loop-before.invariant c.in_ok-put_patient.ensures.row
