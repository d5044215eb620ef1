use Rattle.std.proofs.Common.{refl}
use Rattle.ghost_model.specs.core.Schema.{places_from, ancestor}
use Rattle.ghost_model.specs.forms.Layout.{first_page, files_end}
use Rattle.ghost_model.proofs.layout.layout_at_version_one.Goals as goal

pub returns : goal.returns
unfolding ancestor places_from first_page files_end
returns c = record {
  pages = refl;
  below_visits = refl;
  files_end = refl;
  static_end = refl;
  spool = refl;
  spool_end = refl;
  scratch = refl;
  scratch_end = refl;
  nothing_appended = refl;
  need_of_the_notes = refl;
  need = refl;
}
