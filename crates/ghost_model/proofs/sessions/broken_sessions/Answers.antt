use Rattle.std.proofs.Common.{refl}
use Rattle.std.specs.Fmt.{digits}
use Rattle.hex.specs.Hex.{encode_with, decode_pairs}
use Rattle.ghost_model.specs.core.Asks.{rows_from}
use Rattle.ghost_model.specs.readings.AskReading.{tests_in}
use Rattle.ghost_model.specs.core.Schema.{places_from}
use Rattle.ghost_model.specs.refusals.Tokens.{tokens_from, quoted_from}
use Rattle.ghost_model.specs.readings.QueryPlaces.{read_from}
use Rattle.ghost_model.specs.core.NextMove.{hear_all, rows_fit}
use Rattle.ghost_model.specs.core.Meaning.{combinations}
use Rattle.ghost_model.specs.core.Split.{replies_from}
use Rattle.ghost_model.specs.core.Honest.{AreReplies}
use Rattle.ghost_model.proofs.sessions.broken_sessions.Goals as goal

pub returns : goal.returns
unfolding digits encode_with decode_pairs rows_from tests_in places_from hear_all rows_fit tokens_from quoted_from read_from combinations replies_from AreReplies
returns c = record { ended = refl; ended_is_proper = (refl, (refl, (refl, (refl, (refl, (refl, (refl, (refl, tt)))))))); invalid = refl; invalid_is_proper = (refl, (refl, (refl, (refl, (refl, (refl, (refl, (refl, tt)))))))); zero = refl; zero_is_proper = (refl, (refl, (refl, (refl, (refl, (refl, (refl, (refl, tt)))))))) }
