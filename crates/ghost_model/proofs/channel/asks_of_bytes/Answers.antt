use Rattle.std.proofs.Common.{refl}
use Rattle.std.specs.Fmt.{digits}
use Rattle.hex.specs.Hex.{encode_with, decode_pairs}
use Rattle.ghost_model.specs.core.Asks.{rows_from}
use Rattle.ghost_model.specs.readings.AskReading.{tests_in}
use Rattle.ghost_model.specs.core.Schema.{places_from}
use Rattle.ghost_model.specs.core.NextMove.{hear_all, rows_fit}
use Rattle.ghost_model.proofs.channel.asks_of_bytes.Goals as goal

pub returns : goal.returns
unfolding digits encode_with decode_pairs rows_from tests_in places_from hear_all rows_fit
returns c = record {
  an_ask = refl;
  of_nothing = refl;
  no_such_table = refl;
  a_hidden_column = refl;
  the_identifier = refl;
  a_column_twice = refl;
  a_condition_on_the_identifier = refl;
  null = refl;
  a_group = refl;
  a_cell_behind_null = refl;
  no_cell = refl;
  code_0 = refl;
  code_9 = refl;
  code_9_alone = refl;
  code_0_in_a_group = refl;
  code_9_in_a_group = refl;
  a_group_without_its_last = refl;
  last_of_two_without_another = refl;
  seventeen_conditions = refl;
  no_such_cell = refl;
  a_byte_too_many = refl;
  a_byte_too_few = refl;
}
