use Rattle.std.proofs.Common.{refl}
use Rattle.std.specs.Fmt.{digits}
use Rattle.ghost_model.specs.forms.Left.{new_fields}
use Rattle.ghost_model.specs.core.Groups.{groups_of}
use Rattle.ghost_model.specs.core.Schema.{places_from, ancestor}
use Rattle.ghost_model.specs.core.Database.{leads_within}
use Rattle.ghost_model.specs.core.Split.{replies_from}
use Rattle.ghost_model.specs.refusals.Tokens.{tokens_from, quoted_from}
use Rattle.ghost_model.specs.readings.QueryPlaces.{read_from}
use Rattle.ghost_model.specs.core.Meaning.{combinations}
use Rattle.ghost_model.proofs.query_work.work_on_the_clinic.Goals as goal

pub returns : goal.returns
unfolding digits places_from ancestor leads_within replies_from tokens_from quoted_from read_from combinations groups_of new_fields
returns c = record {
  a_condition_and_a_reply = refl;
  a_condition_below = refl;
  the_reply_of_the_top_table = refl;
  a_selected_hidden_column = refl;
  identifiers = refl;
  two_replies = refl;
  no_condition = refl;
  no_value = refl;
  another_value = refl;
  a_mixed_group = refl;
  a_column_of_it = refl;
}
