use Rattle.std.proofs.Common.{refl}
use Rattle.std.specs.Fmt.{digits}
use Rattle.hex.specs.Hex.{encode_with, decode_pairs}
use Rattle.ghost_model.specs.core.Groups.{groups_of}
use Rattle.ghost_model.specs.core.Asks.{rows_from}
use Rattle.ghost_model.specs.readings.AskReading.{tests_in}
use Rattle.ghost_model.specs.core.Schema.{places_from}
use Rattle.ghost_model.specs.core.Split.{replies_from}
use Rattle.ghost_model.specs.core.Host.{groups_from, frames_within, bad_with_refusals, said_with_refusals}
use Rattle.ghost_model.proofs.channel.answers_of_the_host.Goals as goal

pub returns : goal.returns
unfolding digits encode_with decode_pairs rows_from tests_in places_from replies_from groups_from said_with_refusals frames_within bad_with_refusals groups_of
returns c = record {
  a_session = refl;
  conditions_are_met = refl;
  another_generation = refl;
  no_row = refl;
  as_many_rows_as_fit = refl;
  nothing_after_a_wrong_serial = refl;
  no_such_table = refl;
  a_second_hello = refl;
  bye_within_a_reply = refl;
  a_frame_of_a_host = refl;
  no_such_kind = refl;
  nothing_is_read_after_bye = refl;
}
