use Rattle.std.proofs.Common.{refl}
use Rattle.ghost_model.specs.core.Schema.{places_from, ancestor}
use Rattle.ghost_model.specs.forms.Layout.{first_page, files_end}
use Rattle.ghost_model.proofs.layout.layout_of_the_clinic.Goals as goal

pub returns : goal.returns
unfolding ancestor places_from first_page files_end
returns c = record {
  levels_of_doctor = refl;
  levels_of_visit = refl;
  below_visit = refl;
  below_doctor = refl;
  hidden_of_visit = refl;
  country = refl;
  country_header = refl;
  country_directory = refl;
  country_of_doctors = refl;
  country_of_visits = refl;
  doctors = refl;
  doctors_of_visits = refl;
  name = refl;
  purpose = refl;
  doctor_key = refl;
  patient_key = refl;
  below_visits = refl;
  patient_key_header = refl;
  in_order = refl;
  pages_of_structures = refl;
  pages = refl;
  counts = refl;
  widths = refl;
  files_end = refl;
  static_end = refl;
  spool = refl;
  spool_of_doctors = refl;
  spool_end = refl;
  scratch = refl;
  scratch_end = refl;
  appended = refl;
  need = refl;
}
