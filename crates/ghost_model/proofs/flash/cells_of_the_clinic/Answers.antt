use Rattle.std.proofs.Common.{refl}
use Rattle.ghost_model.specs.core.Schema.{places_from}
use Rattle.ghost_model.proofs.flash.cells_of_the_clinic.Goals as goal

pub returns : goal.returns
unfolding places_from
returns c = record { country = refl; name = refl; purpose = refl; doctor = refl; patient = refl }
