use Rattle.std.proofs.Common.{refl}
use Rattle.ghost_model.proofs.cells.cells_that_spell_nothing.Goals as goal

pub returns : goal.returns
returns c = record {
  two_before_an_integer = refl;
  two_before_a_text = refl;
  a_byte_behind_zero = refl;
  the_last_byte_behind_zero = refl;
  a_text_behind_zero = refl;
  a_byte_after_the_text = refl;
  an_integer_without_its_first_byte = refl;
  a_byte_too_few = refl;
  a_byte_too_many = refl;
  no_byte = refl;
}
