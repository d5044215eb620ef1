use Rattle.std.proofs.Common.{refl}
use Rattle.ghost_model.specs.readings.TextReading.{parts_after}
use Rattle.ghost_model.proofs.tokens.texts_of_scripts.Goals as goal

pub returns : goal.returns
unfolding parts_after
returns c = record {
  no_bytes = refl;
  one_without_a_semicolon = refl;
  one_with_a_semicolon = refl;
  white_space_is_kept = refl;
  blank_parts_are_no_texts = refl;
  a_byte_that_is_no_white_space = refl;
  a_semicolon_in_a_literal = refl;
  a_doubled_quote = refl;
  one_odd_quote_joins_all = refl;
  quotes_count_over_the_whole_script = refl;
  a_bad_byte_in_a_literal_changes_nothing = refl;
  bytes_within = refl;
  one_byte_over = refl;
  texts_within = refl;
  one_text_over = refl;
}
