use Rattle.std.proofs.Common.{refl}
use Rattle.std.specs.Fmt.{digits}
use Rattle.ghost_model.specs.core.Schema.{places_from, ancestor}
use Rattle.ghost_model.specs.forms.Layout.{first_page, files_end}
use Rattle.ghost_model.proofs.layout.layouts_of_larger_databases.Goals as goal

pub returns : goal.returns
unfolding ancestor places_from first_page files_end digits
returns c = record {
  catalog = refl;
  remainders_files = refl;
  remainders_static = refl;
  remainders_spool = refl;
  remainders_scratch = refl;
  remainders_appended = refl;
  remainders_need = refl;
  remainders_at_version_one = refl;
  saturated_files = refl;
  saturated_static = refl;
  saturated_spool = refl;
  saturated_scratch = refl;
  saturated_appended = refl;
  saturated_need = refl;
  saturated_at_version_one = refl;
}
