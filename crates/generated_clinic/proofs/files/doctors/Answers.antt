use Rattle.std.proofs.Common.{◌∙◌, ◌∷◌, [], codes}
use Rattle.ghost_model.specs.core.Generated.{doctor_fields}
use Rattle.generated_clinic.proofs.Written.{doctors_begin, row_more}
use Rattle.generated_clinic.proofs.files.doctors.Goals as goal

pub loop-before-init : goal.loop-before-init
loop-before-init c = c.in_ok-file.ensures.items ∙ doctors_begin (doctor_fields c.args.seed)

pub loop-before-preserved : goal.loop-before-preserved
loop-before-preserved c =
    row_more (codes "id" ∷ codes "specialty" ∷ codes "country" ∷ []) (doctor_fields c.args.seed) c.loop-before.before c.loop-before.file.items c.put_doctor.new.file.items
    c.loop-before.invariant c.in_ok-put_doctor.ensures.row
