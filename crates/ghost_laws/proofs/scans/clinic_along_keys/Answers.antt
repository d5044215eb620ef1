use Rattle.std.proofs.Common.{refl}
use Rattle.ghost_model.specs.core.Schema.{places_from}
use Rattle.ghost_model.specs.core.Groups.{groups_of}
use Rattle.ghost_model.specs.refusals.Tokens.{tokens_from, quoted_from}
use Rattle.ghost_model.specs.readings.QueryPlaces.{read_from}
use Rattle.ghost_model.specs.core.Meaning.{combinations}
use Rattle.ghost_model.specs.core.Database.{leads_within}
use Rattle.ghost_model.specs.core.Split.{replies_from}
use Rattle.ghost_laws.proofs.scans.clinic_along_keys.Goals as goal

pub returns : goal.returns
unfolding groups_of places_from tokens_from quoted_from read_from combinations leads_within replies_from
returns c = record {
  means = refl;
  plain = refl;
  along = refl;
  by_true_replies = refl;
  plain_by_false_replies = refl;
  by_false_replies = refl;
  kinds = refl;
  selected = refl;
  lacking = refl;
  of_another_kind = refl;
}
