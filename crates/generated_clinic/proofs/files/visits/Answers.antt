use Rattle.std.proofs.Common.{◌∙◌, ◌∷◌, [], codes}
use Rattle.ghost_model.specs.core.Generated.{visit_fields}
use Rattle.generated_clinic.proofs.Written.{visits_begin, row_more}
use Rattle.generated_clinic.proofs.files.visits.Goals as goal

pub loop-before-init : goal.loop-before-init
loop-before-init c = c.in_ok-file.ensures.items ∙ visits_begin (visit_fields c.args.seed c.args.visits)

pub loop-before-preserved : goal.loop-before-preserved
loop-before-preserved c =
    row_more (codes "id" ∷ codes "day" ∷ codes "purpose" ∷ codes "doc" ∷ codes "pat" ∷ []) (visit_fields c.args.seed c.args.visits) c.loop-before.before c.loop-before.file.items c.put_visit.new.file.items
    c.loop-before.invariant c.in_ok-put_visit.ensures.row
