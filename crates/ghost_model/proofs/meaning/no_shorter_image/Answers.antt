use Rattle.std.proofs.Common.{◌≡◌, ◌∙◌, ap, arith, length}
use Rattle.std.specs.Fmt.{digits}
use Rattle.ghost_model.specs.core.Schema.{places_from}
use Rattle.ghost_model.specs.examples.Clinic.{clinic_catalog}
use Rattle.ghost_model.proofs.MeaningLemmas.ImageLengths.{images_are_long}
use Rattle.ghost_model.proofs.meaning.no_shorter_image.Goals as goal

pub returns : goal.returns
unfolding digits places_from
returns c = record {
  last_byte = λ public spells.
      let same : 436 ≡ 437 = ap length spells.spelled ∙ images_are_long clinic_catalog public spells.goes_with in
      absurd (omega (arith, same));
}
