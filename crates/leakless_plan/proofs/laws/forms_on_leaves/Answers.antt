use Rattle.std.proofs.Common.{refl}
use Rattle.std.specs.Fmt.{digits}
use Rattle.ghost_model.specs.core.Schema.{places_from, ancestor}
use Rattle.ghost_model.specs.refusals.Tokens.{tokens_from, quoted_from}
use Rattle.ghost_model.specs.readings.QueryPlaces.{read_from}
use Rattle.leakless_plan.proofs.laws.forms_on_leaves.Goals as goal

pub returns : goal.returns
unfolding digits places_from ancestor tokens_from quoted_from read_from
returns c = record {
  up_to_a_tenth = refl;
  above_a_tenth = refl;
  with_a_hidden_column = refl;
  with_an_identifier = refl;
  with_a_condition_above = refl;
  without_visible_conditions = refl;
  of_the_top_table = refl;
  forced = refl;
  post_forced = refl;
  cross_forced = refl;
  cross_forced_without_a_condition = refl;
}
