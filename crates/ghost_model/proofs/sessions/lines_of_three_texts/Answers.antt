use Rattle.std.proofs.Common.{refl, [], ◌∷◌}
use Rattle.std.specs.Fmt.{digits}
use Rattle.hex.specs.Hex.{encode_with, decode_pairs}
use Rattle.ghost_model.specs.core.Asks.{rows_from}
use Rattle.ghost_model.specs.readings.AskReading.{tests_in}
use Rattle.ghost_model.specs.core.Schema.{places_from}
use Rattle.ghost_model.specs.refusals.Tokens.{tokens_from, quoted_from}
use Rattle.ghost_model.specs.readings.QueryPlaces.{read_from}
use Rattle.ghost_model.specs.core.NextMove.{hear_all, rows_fit}
use Rattle.ghost_model.specs.core.Meaning.{combinations}
use Rattle.ghost_model.specs.core.Split.{replies_from}
use Rattle.ghost_model.specs.core.Lines.{WasAnswered, MetFault, OnFlash}
use Rattle.ghost_model.specs.examples.Channel.{cardio_text, cardio_query, late_text, late_query, name_text, name_query}
use Rattle.ghost_model.specs.examples.Sessions.{cardio_row}
use Rattle.ghost_model.proofs.sessions.lines_of_three_texts.Goals as goal

pub returns : goal.returns
unfolding digits encode_with decode_pairs rows_from tests_in places_from hear_all rows_fit tokens_from quoted_from read_from combinations replies_from
returns c = record {
  first = record { place = 0; numbered = refl; written = cardio_text; stands = refl; reason = MetFault OnFlash; lines_are = record { query = cardio_query; accepted = refl; done = refl; given = cardio_row 1 ∷ []; left = cardio_row 3 ∷ []; front = refl; answer = refl } };
  second = record { place = 1; numbered = refl; written = late_text; stands = refl; reason = WasAnswered; lines_are = record { query = late_query; accepted = refl; done = refl; answer = refl } };
  third = record { place = 2; numbered = refl; written = name_text; stands = refl; reason = WasAnswered; lines_are = record { query = name_query; accepted = refl; done = refl; answer = refl } };
}
