use Rattle.std.proofs.Common.{refl}
use Rattle.ghost_model.proofs.meaning.values_of_fields.Goals as goal

pub returns : goal.returns
returns c = record {
  empty = refl;
  digits = refl;
  the_word_null = refl;
  a_blank_is_not_empty = refl;
  faults_of_an_empty_field = refl;
  faults_of_the_word_null = refl;
  null_is_of = refl;
  number_is_of = refl;
  text_is_of = refl;
  long_text_is_of = refl;
  null_is_printed_as_nothing = refl;
}
