use Rattle.std.proofs.Common.{refl}
use Rattle.std.specs.Fmt.{digits}
use Rattle.ghost_model.specs.core.Schema.{places_from, ancestor}
use Rattle.ghost_model.specs.refusals.Tokens.{tokens_from, quoted_from}
use Rattle.ghost_model.specs.readings.QueryPlaces.{read_from}
use Rattle.leakless_plan.proofs.laws.forms_of_groups.Goals as goal

pub returns : goal.returns
unfolding digits places_from ancestor tokens_from quoted_from read_from
returns c = record {
  of_visible_columns = refl;
  with_another = refl;
  of_mixed_columns = refl;
  of_hidden_columns = refl;
}
