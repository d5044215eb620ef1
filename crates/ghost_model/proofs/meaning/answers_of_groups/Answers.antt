use Rattle.std.proofs.Common.{refl}
use Rattle.std.specs.Fmt.{digits}
use Rattle.ghost_model.specs.core.Schema.{places_from}
use Rattle.ghost_model.specs.refusals.Tokens.{tokens_from, quoted_from}
use Rattle.ghost_model.specs.readings.QueryPlaces.{read_from}
use Rattle.ghost_model.specs.core.Meaning.{combinations}
use Rattle.ghost_model.proofs.meaning.answers_of_groups.Goals as goal

pub returns : goal.returns
unfolding digits places_from tokens_from quoted_from read_from combinations
returns c = record {
  a_mixed_group = refl;
  a_visible_list = refl;
  a_hidden_list = refl;
  a_group_below = refl;
  a_group_of_two_keys = refl;
  two_groups = refl;
  null_is_an_empty_field = refl;
  tests_of_null = refl;
  null_is_not_unequal = refl;
  a_value_or_null = refl;
  unequal_or_null = refl;
  each_note = refl;
}
