use Rattle.std.proofs.Common.{refl}
use Rattle.std.specs.Fmt.{digits}
use Rattle.ghost_model.specs.core.Groups.{groups_of}
use Rattle.ghost_model.specs.core.Schema.{places_from}
use Rattle.ghost_model.specs.core.Split.{replies_from}
use Rattle.ghost_model.proofs.meaning.parts_of_the_clinic.Goals as goal

pub returns : goal.returns
unfolding digits places_from replies_from groups_of
returns c = record {
  visible = refl;
  hidden = refl;
  again = refl;
  image_length = refl;
  image_of_doctors = refl;
  reply = refl;
  bytes_of_reply = refl;
  reply_without_columns = refl;
}
