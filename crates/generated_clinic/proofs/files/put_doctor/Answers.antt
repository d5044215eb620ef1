use Rattle.std.proofs.Common.{ap, ◌∙◌, ◌++◌, List, ℕ}
use Rattle.generated_clinic.proofs.Written.{then_ok, three_more, doctor_line}
use Rattle.generated_clinic.proofs.files.put_doctor.Goals as goal

pub returns : goal.returns
returns c =
    let file = c.args.file.now.items in
    record {
      row = then_ok c.put-3.result c.put-3.ensures.text (λ third.
          three_more file _ _ _ _ _ _ c.in_ok-put.ensures.text c.in_ok-put-2.ensures.text third
          ∙ ap (λ (bytes : List ℕ). file ++ bytes) (doctor_line c.args.seed c.args.identifier c.requires.small));
    }
