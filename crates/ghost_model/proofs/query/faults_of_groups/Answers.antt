use Rattle.std.proofs.Common.{refl}
use Rattle.ghost_model.specs.refusals.Tokens.{tokens_from, quoted_from}
use Rattle.ghost_model.specs.core.Schema.{places_from}
use Rattle.ghost_model.specs.readings.QueryPlaces.{read_from}
use Rattle.ghost_model.proofs.query.faults_of_groups.Goals as goal

pub returns : goal.returns
unfolding tokens_from quoted_from places_from read_from
returns c = record {
  one_member_in_parentheses = refl;
  one_list_in_parentheses = refl;
  an_empty_list = refl;
  no_list = refl;
  not_in = refl;
  or_without_parentheses = refl;
  null_in_a_list = refl;
  nothing_after_a_comma = refl;
  no_comma_in_a_list = refl;
  a_column_in_a_list = refl;
  a_sign_before_a_text = refl;
  a_list_without_end = refl;
  between_in_a_group = refl;
  a_join_in_a_group = refl;
  a_group_in_a_group = refl;
  parentheses_twice = refl;
  and_in_a_group = refl;
  an_empty_group = refl;
  nothing_after_or = refl;
  a_group_without_end = refl;
  or_after_a_group = refl;
  a_group_compared = refl;
  in_is_no_name = refl;
  or_is_no_name = refl;
}
