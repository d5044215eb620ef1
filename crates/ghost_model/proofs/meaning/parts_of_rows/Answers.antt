use Rattle.std.proofs.Common.{refl}
use Rattle.ghost_model.specs.core.Schema.{places_from}
use Rattle.ghost_model.proofs.meaning.parts_of_rows.Goals as goal

pub returns : goal.returns
unfolding places_from
returns c = record {
  visible = refl;
  hidden = refl;
  again = refl;
  a_value_is_missing = refl;
  a_column_is_missing = refl;
  a_short_part = refl;
  asked = refl;
}
