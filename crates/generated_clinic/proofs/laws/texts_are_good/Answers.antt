use Rattle.generated_clinic.proofs.MeantTexts.{texts_are_good}
use Rattle.generated_clinic.proofs.laws.texts_are_good.Goals as goal

pub returns : goal.returns
returns c = record { good = texts_are_good }
