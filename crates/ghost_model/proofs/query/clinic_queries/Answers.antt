use Rattle.std.proofs.Common.{refl}
use Rattle.ghost_model.specs.refusals.Tokens.{tokens_from, quoted_from}
use Rattle.ghost_model.specs.core.Schema.{places_from}
use Rattle.ghost_model.specs.readings.QueryPlaces.{read_from}
use Rattle.ghost_model.proofs.query.clinic_queries.Goals as goal

pub returns : goal.returns
unfolding tokens_from quoted_from places_from read_from
returns c = record {
  visible_and_hidden_over_a_join = refl;
  hidden_alone = refl;
  visible_alone = refl;
  below_the_root = refl;
  identifiers_alone = refl;
  lowest_integer = refl;
  hidden_over_a_join = refl;
  of_the_notes = refl;
  identifiers_of_the_notes = refl;
  top_is_the_root = refl;
  top_is_below_the_root = refl;
  no_top_of_two = refl;
}
