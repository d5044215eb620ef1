use Rattle.std.proofs.Common.{refl}
use Rattle.ghost_model.specs.core.Schema.{places_from, ancestor}
use Rattle.ghost_model.specs.forms.Runs.{number_in}
use Rattle.ghost_model.proofs.flash.order_of_slots.Goals as goal

pub returns : goal.returns
unfolding places_from ancestor number_in
returns c = record {
  countries_of_the_clinic = refl;
  doctors_of_the_clinic = refl;
  names_of_the_clinic = refl;
  patients_of_the_clinic = refl;
  purposes_of_the_clinic = refl;
  doctors_of_visits = refl;
  any_country = refl;
  spain_first = refl;
  a_gap_at_the_beginning = refl;
  then_france = refl;
  france_twice = refl;
  a_gap_between_doctors = refl;
  visits_twice = refl;
  the_next_doctor = refl;
  a_doctor_too_early = refl;
}
