use Rattle.generated_clinic.proofs.Clinics.{files_are_good}
use Rattle.generated_clinic.proofs.laws.files_are_good.Goals as goal

pub returns : goal.returns
returns c = record { good = files_are_good }
