use Rattle.std.proofs.Common.{refl}
use Rattle.ghost_model.specs.refusals.Tokens.{tokens_from, quoted_from}
use Rattle.ghost_model.specs.core.Schema.{places_from}
use Rattle.ghost_model.specs.readings.QueryPlaces.{read_from}
use Rattle.ghost_model.proofs.query.query_rules_in_order.Goals as goal

pub returns : goal.returns
unfolding tokens_from quoted_from places_from read_from
returns c = record {
  table_before_column = refl;
  qualifier_not_in_from = refl;
  qualified_column_missing = refl;
  column_before_ambiguous = refl;
  column_before_a_repeated_table = refl;
  repeated_table = refl;
  ambiguous_in_a_condition = refl;
  ambiguous_before_kind = refl;
  repeated_table_before_kind = refl;
  number_for_a_text = refl;
  text_for_an_identifier = refl;
  text_for_a_key = refl;
  kind_of_the_higher_bound = refl;
  kind_before_literal = refl;
  below_the_lowest_integer = refl;
  text_too_long = refl;
  higher_bound_too_large = refl;
  literal_before_unlinked = refl;
  leading_zeros = refl;
  two_tops = refl;
  no_join = refl;
  one_join_of_two = refl;
  wrong_identifier = refl;
  no_identifier = refl;
  a_column_with_itself = refl;
  plain_columns = refl;
  keys_of_one_table = refl;
  unlinked_before_two_tables_in_a_group = refl;
  column_before_two_tables_in_a_group = refl;
  ambiguous_before_two_tables_in_a_group = refl;
  kind_before_two_tables_in_a_group = refl;
  literal_before_two_tables_in_a_group = refl;
  two_tables_in_the_last_member = refl;
  two_tables_in_the_second_group = refl;
}
