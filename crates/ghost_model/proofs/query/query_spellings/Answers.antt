use Rattle.std.proofs.Common.{refl}
use Rattle.ghost_model.specs.refusals.Tokens.{tokens_from, quoted_from}
use Rattle.ghost_model.specs.core.Schema.{places_from}
use Rattle.ghost_model.specs.readings.QueryPlaces.{read_from}
use Rattle.ghost_model.proofs.query.query_spellings.Goals as goal

pub returns : goal.returns
unfolding tokens_from quoted_from places_from read_from
returns c = record {
  star_takes_the_tables_as_they_stand = refl;
  words_without_case = refl;
  between_is_two_conditions = refl;
  between_texts = refl;
  no_space_where_none_is_needed = refl;
  a_sign_is_a_token = refl;
  points_are_tokens = refl;
  a_quote_stands_twice = refl;
  a_quote_counts_once = refl;
  a_join_may_be_repeated = refl;
  columns_may_be_repeated = refl;
  three_tables = refl;
  keys_take_integers = refl;
}
