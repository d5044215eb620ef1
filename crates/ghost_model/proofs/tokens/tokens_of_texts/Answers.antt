use Rattle.std.proofs.Common.{refl}
use Rattle.ghost_model.specs.refusals.Tokens.{tokens_from, quoted_from}
use Rattle.ghost_model.proofs.tokens.tokens_of_texts.Goals as goal

pub returns : goal.returns
unfolding tokens_from quoted_from
returns c = record {
  no_bytes = refl;
  words_without_case = refl;
  int_is_integer = refl;
  words_of_later_grammars_are_no_names = refl;
  in_and_or = refl;
  other_words_are_names = refl;
  a_name_runs_as_far_as_its_bytes = refl;
  a_number_ends_at_a_letter = refl;
  a_number_ends_at_a_point = refl;
  digits_stand_as_written = refl;
  a_sign_is_a_token = refl;
  points_between_names = refl;
  the_longest_sign = refl;
  signs_apart = refl;
  signs_of_one_byte = refl;
  no_such_sign = refl;
  a_literal_keeps_its_case_and_spaces = refl;
  a_doubled_quote = refl;
  quotes_alone = refl;
  literals_apart = refl;
  no_end_of_a_literal = refl;
  a_doubled_quote_is_no_end = refl;
  a_new_line_in_a_literal = refl;
  a_byte_over_126_in_a_literal = refl;
  white_space_is_four_bytes = refl;
  other_bytes_begin_no_token = refl;
}
