use Rattle.std.proofs.Common.{refl}
use Rattle.ghost_model.proofs.query_work.numbers_of_work.Goals as goal

pub returns : goal.returns
returns c = record {
  bits_of_zero = refl;
  bits_of_one = refl;
  bits_of_three = refl;
  bits_of_four = refl;
  bits_of_255 = refl;
  bits_of_256 = refl;
  no_list = refl;
  one_list = refl;
  one_identifier_less = refl;
  a_hundred_lists = refl;
  lists_of_few = refl;
  values = refl;
  null_is_a_value = refl;
}
