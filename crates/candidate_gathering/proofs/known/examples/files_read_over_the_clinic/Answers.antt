use Rattle.std.proofs.Common.{refl}
use Rattle.std.specs.Fmt.{digits}
use Rattle.ghost_model.specs.core.Schema.{places_from, ancestor}
use Rattle.ghost_model.specs.refusals.Tokens.{tokens_from, quoted_from}
use Rattle.ghost_model.specs.readings.QueryPlaces.{read_from}
use Rattle.candidate_gathering.proofs.known.examples.files_read_over_the_clinic.Goals as goal

pub returns : goal.returns
unfolding digits places_from ancestor tokens_from quoted_from read_from
returns c = record {
  a_condition_and_a_reply = refl;
  by_post = refl;
  a_condition_below = refl;
  crossed = refl;
  not_crossed = refl;
  selected_columns = refl;
  a_mixed_group = refl;
  a_hidden_list = refl;
  a_visible_list = refl;
}
