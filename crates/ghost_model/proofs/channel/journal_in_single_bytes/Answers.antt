use Rattle.std.proofs.Common.{refl}
use Rattle.std.specs.Fmt.{digits}
use Rattle.hex.specs.Hex.{encode_with, decode_pairs}
use Rattle.ghost_model.specs.core.Asks.{rows_from}
use Rattle.ghost_model.specs.readings.AskReading.{tests_in}
use Rattle.ghost_model.specs.core.Schema.{places_from}
use Rattle.ghost_model.specs.core.NextMove.{hear_all, rows_fit}
use Rattle.ghost_model.proofs.channel.journal_in_single_bytes.Goals as goal

pub returns : goal.returns
unfolding digits encode_with decode_pairs rows_from tests_in places_from hear_all rows_fit
returns c = record { proper = (refl, (refl, (refl, (refl, (refl, (refl, (refl, (refl, (refl, (refl, (refl, (refl, (refl, (refl, (refl, (refl, (refl, (refl, (refl, (refl, (refl, (refl, (refl, (refl, (refl, (refl, (refl, (refl, (refl, (refl, (refl, (refl, (refl, (refl, (refl, (refl, (refl, (refl, (refl, (refl, (refl, (refl, (refl, (refl, (refl, (refl, (refl, (refl, (refl, (refl, (refl, (refl, tt)))))))))))))))))))))))))))))))))))))))))))))))))))); sends_the_same = refl }
