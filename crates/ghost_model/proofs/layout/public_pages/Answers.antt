use Rattle.std.proofs.Common.{refl}
use Rattle.ghost_model.specs.core.Schema.{places_from, ancestor}
use Rattle.ghost_model.specs.forms.Layout.{first_page, files_end}
use Rattle.ghost_model.proofs.layout.public_pages.Goals as goal

pub returns : goal.returns
unfolding ancestor places_from first_page files_end
returns c = record {
  at_version_one = refl;
  at_version_two = refl;
  first_header = refl;
  second_header = refl;
  of_an_odd_generation = refl;
  of_an_even_generation = refl;
}
