use Rattle.std.proofs.Common.{refl}
use Rattle.std.specs.Fmt.{digits}
use Rattle.ghost_model.specs.core.Groups.{groups_of}
use Rattle.ghost_model.specs.core.Schema.{places_from, ancestor}
use Rattle.ghost_model.specs.core.Database.{leads_within}
use Rattle.ghost_model.specs.core.Split.{replies_from}
use Rattle.ghost_model.specs.refusals.Tokens.{tokens_from, quoted_from}
use Rattle.ghost_model.specs.readings.QueryPlaces.{read_from}
use Rattle.ghost_model.specs.core.Meaning.{combinations}
use Rattle.key_session.proofs.laws.pages_of_notes.Goals as goal

pub returns : goal.returns
unfolding digits groups_of places_from ancestor leads_within replies_from tokens_from quoted_from read_from combinations
returns c = record {
  identifiers_alone = refl;
  with_a_column = refl;
}
