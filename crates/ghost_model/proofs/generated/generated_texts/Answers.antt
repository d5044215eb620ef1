use Rattle.std.proofs.Common.{refl}
use Rattle.std.specs.Fmt.{digits}
use Rattle.ghost_model.specs.readings.TextReading.{parts_after}
use Rattle.ghost_model.proofs.generated.generated_texts.Goals as goal

pub returns : goal.returns
unfolding digits parts_after
returns c = record {
  first = refl;
  second = refl;
  third = refl;
  fourth = refl;
  last = refl;
  one_text = refl;
  four_texts = refl;
  longest = refl;
  forty_texts = refl;
}
