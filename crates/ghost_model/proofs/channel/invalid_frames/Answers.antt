use Rattle.std.proofs.Common.{refl}
use Rattle.std.specs.Fmt.{digits}
use Rattle.hex.specs.Hex.{encode_with, decode_pairs}
use Rattle.ghost_model.specs.core.Asks.{rows_from}
use Rattle.ghost_model.specs.readings.AskReading.{tests_in}
use Rattle.ghost_model.specs.core.Schema.{places_from}
use Rattle.ghost_model.specs.core.NextMove.{hear_all, rows_fit}
use Rattle.ghost_model.proofs.channel.invalid_frames.Goals as goal

pub returns : goal.returns
unfolding digits encode_with decode_pairs rows_from tests_in places_from hear_all rows_fit
returns c = record { valid_so_far = refl; an_identifier_above_the_rows = refl; identifier_zero = refl; an_identifier_again = refl; a_cell_of_no_value = refl; another_total = refl; a_header_of_another_serial = refl; a_header_of_half_a_row = refl; a_header_of_no_row = refl; a_header_of_the_greatest_length = refl; a_header_past_the_greatest_length = refl; sorry_of_zero = refl; another_byte_of_the_catalog = refl; another_generation = refl; a_last_frame_that_is_not_marked = refl; a_second_hello = refl; a_longer_catalog = refl }
