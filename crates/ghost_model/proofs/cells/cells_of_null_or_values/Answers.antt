use Rattle.std.proofs.Common.{refl}
use Rattle.ghost_model.proofs.cells.cells_of_null_or_values.Goals as goal

pub returns : goal.returns
returns c = record {
  no_integer = refl;
  five = refl;
  lowest = refl;
  no_text = refl;
  cardio = refl;
  an_empty_text = refl;
  no_integer_is_read = refl;
  five_is_read = refl;
  lowest_is_read = refl;
  no_text_is_read = refl;
  cardio_is_read = refl;
  an_empty_text_is_read = refl;
  no_column_of_integers_has_null = refl;
}
