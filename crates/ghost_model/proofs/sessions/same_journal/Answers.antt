use Rattle.std.proofs.Common.{refl, [], ◌∷◌, codes}
use Rattle.std.specs.Fmt.{digits}
use Rattle.hex.specs.Hex.{encode_with, decode_pairs}
use Rattle.ghost_model.specs.core.Asks.{rows_from}
use Rattle.ghost_model.specs.readings.AskReading.{tests_in}
use Rattle.ghost_model.specs.core.Schema.{places_from}
use Rattle.ghost_model.specs.refusals.Tokens.{tokens_from, quoted_from}
use Rattle.ghost_model.specs.readings.QueryPlaces.{read_from}
use Rattle.ghost_model.specs.core.NextMove.{hear_all, rows_fit}
use Rattle.ghost_model.specs.core.Meaning.{combinations}
use Rattle.ghost_model.specs.core.Groups.{groups_of}
use Rattle.ghost_model.specs.core.Split.{replies_from}
use Rattle.ghost_model.specs.core.Values.{Text}
use Rattle.ghost_model.specs.core.Query.{Query, compared, Join, Equal}
use Rattle.ghost_model.specs.core.Lines.{WasAnswered}
use Rattle.ghost_model.specs.examples.Meaning.{cardio_on}
use Rattle.ghost_model.specs.examples.Channel.{field, cardio_query}
use Rattle.ghost_model.proofs.sessions.same_journal.Goals as goal

abbrev none_query : Query
none_query = record cardio_query {
  conditions =
      Join (field 2 3) (field 0 0) ∷ compared (field 0 1) Equal (Text (codes "cardio"))
      ∷ compared (field 2 2) Equal (Text (codes "none")) ∷ [];
}

pub returns : goal.returns
unfolding digits encode_with decode_pairs rows_from tests_in places_from hear_all rows_fit tokens_from quoted_from read_from combinations replies_from groups_of
returns c = record {
  proper = (refl, (refl, (refl, (refl, (refl, (refl, (refl, (refl, (refl, (refl, (refl, (refl, tt))))))))))));
  no_row = record { place = 0; numbered = refl; written = cardio_on (codes "none"); stands = refl; reason = WasAnswered; lines_are = record { query = none_query; accepted = refl; done = refl; answer = refl } };
  one_row = record { place = 0; numbered = refl; written = cardio_on (codes "none"); stands = refl; reason = WasAnswered; lines_are = record { query = none_query; accepted = refl; done = refl; answer = refl } };
}
