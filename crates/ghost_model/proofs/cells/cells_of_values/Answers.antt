use Rattle.std.proofs.Common.{refl}
use Rattle.ghost_model.proofs.cells.cells_of_values.Goals as goal

pub returns : goal.returns
returns c = record {
  five = refl;
  lowest = refl;
  minus_one = refl;
  highest = refl;
  cardio = refl;
  full_text_has_no_zero = refl;
  five_is_read = refl;
  lowest_is_read = refl;
  cardio_is_read = refl;
  a_byte_after_zero = refl;
  a_byte_past_the_printable = refl;
  a_short_cell = refl;
}
