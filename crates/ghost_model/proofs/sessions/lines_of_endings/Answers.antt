use Rattle.std.proofs.Common.{refl, codes}
use Rattle.std.specs.Fmt.{digits}
use Rattle.hex.specs.Hex.{encode_with, decode_pairs}
use Rattle.ghost_model.specs.core.Asks.{rows_from}
use Rattle.ghost_model.specs.readings.AskReading.{tests_in}
use Rattle.ghost_model.specs.core.Schema.{places_from}
use Rattle.ghost_model.specs.refusals.Tokens.{tokens_from, quoted_from}
use Rattle.ghost_model.specs.readings.QueryPlaces.{read_from}
use Rattle.ghost_model.specs.core.NextMove.{hear_all, rows_fit}
use Rattle.ghost_model.specs.core.Meaning.{combinations}
use Rattle.ghost_model.specs.core.Split.{replies_from}
use Rattle.ghost_model.specs.refusals.QueryMeaning.{Syntax}
use Rattle.ghost_model.specs.core.Lines.{WasRefused, WasBroken}
use Rattle.ghost_model.specs.examples.Channel.{cardio_text, cardio_query}
use Rattle.ghost_model.proofs.sessions.lines_of_endings.Goals as goal

pub returns : goal.returns
unfolding digits encode_with decode_pairs rows_from tests_in places_from hear_all rows_fit tokens_from quoted_from read_from combinations replies_from
returns c = record {
  refused = record { place = 1; numbered = refl; written = codes "SELECT age patient"; stands = refl; reason = WasRefused; lines_are = record { refusal = Syntax 11; refused = refl; line = refl } };
  by_host = record { place = 0; numbered = refl; written = cardio_text; stands = refl; reason = WasBroken; lines_are = record { query = cardio_query; accepted = refl; broken = refl; line = refl } };
  by_link = record { place = 0; numbered = refl; written = cardio_text; stands = refl; reason = WasBroken; lines_are = record { query = cardio_query; accepted = refl; broken = refl; line = refl } };
  by_frame = record { place = 0; numbered = refl; written = cardio_text; stands = refl; reason = WasBroken; lines_are = record { query = cardio_query; accepted = refl; broken = refl; line = refl } };
}
