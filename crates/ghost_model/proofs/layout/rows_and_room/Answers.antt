use Rattle.std.proofs.Common.{refl}
use Rattle.ghost_model.specs.core.Schema.{places_from, ancestor}
use Rattle.ghost_model.specs.forms.Layout.{first_page, files_end}
use Rattle.ghost_model.proofs.layout.rows_and_room.Goals as goal

pub returns : goal.returns
unfolding ancestor places_from first_page files_end
returns c = record {
  root_of_the_clinic = refl;
  visits = refl;
  room_for_visits = refl;
  room_for_doctors = refl;
  room_at_version_one = refl;
  purposes = refl;
  area_of_visits = refl;
  area_of_visits_at_version_one = refl;
  most_visits = refl;
  room_for_most = refl;
  last_area_of_lists = refl;
  appended_visits = refl;
  most_leaf_rows = refl;
  still_most = refl;
  room_for_top_rows = refl;
  nothing_hidden = refl;
  no_page_for_it = refl;
}
