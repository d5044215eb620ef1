use Rattle.std.proofs.Common.{refl}
use Rattle.ghost_model.specs.refusals.Tokens.{tokens_from, quoted_from}
use Rattle.ghost_model.specs.core.Schema.{places_from}
use Rattle.ghost_model.specs.readings.QueryPlaces.{read_from}
use Rattle.ghost_model.proofs.query.tests_of_null.Goals as goal

pub returns : goal.returns
unfolding tokens_from quoted_from places_from read_from
returns c = record {
  null_and_not_null = refl;
  words_without_case = refl;
  beside_a_comparison = refl;
  of_a_column_without_null = refl;
  null_is_no_literal = refl;
  a_text_after_is = refl;
  a_text_after_not = refl;
  not_without_is = refl;
  not_twice = refl;
  null_is_no_name = refl;
  unknown_column = refl;
  each_counts = refl;
  sixteen = refl;
}
