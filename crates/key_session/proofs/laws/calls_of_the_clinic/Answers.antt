use Rattle.std.proofs.Common.{refl}
use Rattle.std.specs.Fmt.{digits}
use Rattle.ghost_model.specs.forms.Left.{new_fields}
use Rattle.ghost_model.specs.core.Groups.{groups_of}
use Rattle.ghost_model.specs.core.Schema.{places_from, ancestor}
use Rattle.ghost_model.specs.core.Database.{leads_within}
use Rattle.ghost_model.specs.core.Split.{replies_from}
use Rattle.ghost_model.specs.refusals.Tokens.{tokens_from, quoted_from}
use Rattle.ghost_model.specs.readings.QueryPlaces.{read_from}
use Rattle.ghost_model.specs.core.Meaning.{combinations}
use Rattle.key_session.proofs.laws.calls_of_the_clinic.Goals as goal

pub returns : goal.returns
unfolding digits groups_of new_fields places_from ancestor leads_within replies_from tokens_from quoted_from read_from combinations
returns c = record {
  one_page = refl;
  no_reply = refl;
  refused = refl;
  a_session = refl;
}
