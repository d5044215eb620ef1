use Rattle.std.proofs.Common.{ap, ◌∙◌, ◌++◌, List, ℕ, arith}
use Rattle.generated_clinic.proofs.Written.{then_ok, five_more, visit_line}
use Rattle.generated_clinic.proofs.files.put_visit.Goals as goal

pub returns : goal.returns
returns c =
    let file = c.args.file.now.items in
    record {
      row = then_ok c.put-5.result c.put-5.ensures.text (λ fifth.
          five_more file _ _ _ _ _ _ _ _ _ _
          c.in_ok-put.ensures.text c.in_ok-put-2.ensures.text c.in_ok-put-3.ensures.text c.in_ok-put-4.ensures.text fifth
          ∙ ap (λ (bytes : List ℕ). file ++ bytes)
          (visit_line c.args.seed c.args.visits c.args.identifier _ _ c.requires.small (omega (arith, c.ranges.visits.fits))
          c.doctor_count-doctors.ensures.count c.patient_count-patients.ensures.count));
    }
