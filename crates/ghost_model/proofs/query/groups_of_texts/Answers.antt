use Rattle.std.proofs.Common.{refl}
use Rattle.ghost_model.specs.refusals.Tokens.{tokens_from, quoted_from}
use Rattle.ghost_model.specs.core.Schema.{places_from}
use Rattle.ghost_model.specs.readings.QueryPlaces.{read_from}
use Rattle.ghost_model.proofs.query.groups_of_texts.Goals as goal

pub returns : goal.returns
unfolding tokens_from quoted_from places_from read_from
returns c = record {
  a_value_or_null = refl;
  a_list_of_one = refl;
  a_list = refl;
  a_list_in_a_group = refl;
  lists_alone_in_a_group = refl;
  words_without_case = refl;
  no_space_where_none_is_needed = refl;
  a_mixed_group = refl;
  days = refl;
  two_groups = refl;
  countries = refl;
  below_the_top_table = refl;
  two_keys = refl;
  each_literal_has_its_kind = refl;
  each_literal_is_short = refl;
  each_member_has_its_column = refl;
  sixteen_in_a_list = refl;
  seventeen_in_a_list = refl;
  fourteen_beside_between = refl;
  fifteen_beside_between = refl;
  seventeen_in_a_group = refl;
  syntax_before_limit = refl;
}
