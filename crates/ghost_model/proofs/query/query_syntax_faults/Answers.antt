use Rattle.std.proofs.Common.{refl}
use Rattle.ghost_model.specs.refusals.Tokens.{tokens_from, quoted_from}
use Rattle.ghost_model.specs.core.Schema.{places_from}
use Rattle.ghost_model.specs.readings.QueryPlaces.{read_from}
use Rattle.ghost_model.proofs.query.query_syntax_faults.Goals as goal

pub returns : goal.returns
unfolding tokens_from quoted_from places_from read_from
returns c = record {
  nothing = refl;
  no_column = refl;
  no_select = refl;
  no_comma = refl;
  white_space_counts = refl;
  white_space_at_the_end_counts = refl;
  distinct_is_a_name = refl;
  order_is_a_name = refl;
  count_is_reserved = refl;
  star_stands_alone = refl;
  star_after_a_column = refl;
  a_second_point = refl;
  a_fraction = refl;
  a_literal_first = refl;
  two_columns_not_equal = refl;
  two_signs = refl;
  a_sign_before_a_text = refl;
  a_name_after_a_number = refl;
  a_name_in_between = refl;
  between_without_and = refl;
  no_condition = refl;
  no_operator = refl;
  an_or = refl;
  a_third_column = refl;
  a_literal_without_end = refl;
  a_doubled_quote_is_no_end = refl;
  a_quote_in_a_word = refl;
  a_byte_beyond_the_characters = refl;
  another_spelling_of_unequal = refl;
  a_semicolon = refl;
  a_byte_that_begins_no_token = refl;
}
