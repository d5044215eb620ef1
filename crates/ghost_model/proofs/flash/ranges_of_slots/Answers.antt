use Rattle.std.proofs.Common.{refl}
use Rattle.ghost_model.specs.core.Schema.{places_from, ancestor}
use Rattle.ghost_model.specs.forms.Layout.{first_page}
use Rattle.ghost_model.specs.forms.Runs.{number_in}
use Rattle.ghost_model.proofs.flash.ranges_of_slots.Goals as goal

pub returns : goal.returns
unfolding places_from ancestor number_in first_page
returns c = record {
  files_of_the_layout = refl;
  files_are_there = refl;
  all_of_the_clinic = refl;
  a_country = refl;
  a_byte_after_the_text = refl;
  the_last_doctor = refl;
  no_doctor = refl;
  a_doctor_and_a_patient = refl;
  no_patient = refl;
  doctor_0 = refl;
  two_values = refl;
  more_values_than_rows = refl;
  no_value = refl;
  spain = refl;
  a_value_of_no_text = refl;
  doctors_up_to_the_end = refl;
  more_doctors_than_bytes = refl;
  visits_up_to_the_end = refl;
  more_visits_than_bytes = refl;
  the_last_visit = refl;
  a_visit_before_others = refl;
  no_visit = refl;
  visit_0 = refl;
  a_longer_code = refl;
  half_a_code = refl;
  visits_of_a_doctor = refl;
  more_than_bytes = refl;
  a_visit_of_a_doctor = refl;
  no_visit_of_a_doctor = refl;
}
