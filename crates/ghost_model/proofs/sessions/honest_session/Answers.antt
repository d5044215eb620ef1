use Rattle.std.proofs.Common.{refl, [], ◌∷◌}
use Rattle.std.specs.Fmt.{digits}
use Rattle.hex.specs.Hex.{encode_with, decode_pairs}
use Rattle.ghost_model.specs.core.Asks.{rows_from}
use Rattle.ghost_model.specs.readings.AskReading.{tests_in}
use Rattle.ghost_model.specs.core.Schema.{places_from}
use Rattle.ghost_model.specs.refusals.Tokens.{tokens_from, quoted_from}
use Rattle.ghost_model.specs.readings.QueryPlaces.{read_from}
use Rattle.ghost_model.specs.core.NextMove.{hear_all, rows_fit}
use Rattle.ghost_model.specs.core.Meaning.{combinations}
use Rattle.ghost_model.specs.core.Groups.{groups_of}
use Rattle.ghost_model.specs.core.Split.{replies_from}
use Rattle.ghost_model.specs.core.Honest.{AreReplies}
use Rattle.ghost_model.specs.core.Host.{welcomes, groups_from, frames_within, said_with_refusals}
use Rattle.ghost_model.specs.forms.Catalog.{catalog_bytes}
use Rattle.ghost_model.specs.examples.Clinic.{clinic_catalog}
use Rattle.ghost_model.specs.examples.Sessions.{cardio_reply, cardio_replied}
use Rattle.ghost_model.proofs.sessions.honest_session.Goals as goal

pub returns : goal.returns
unfolding digits encode_with decode_pairs rows_from tests_in places_from hear_all rows_fit tokens_from quoted_from read_from combinations replies_from AreReplies groups_from said_with_refusals frames_within groups_of
returns c = record {
  served = record { full = refl; rest = []; said = refl };
  honest = record {
    nothing_breaks_off = refl;
    greeting = welcomes clinic_catalog;
    greets = record { parts = catalog_bytes clinic_catalog ∷ []; cut = refl; whole = refl; frames_are = refl };
    replies = cardio_reply;
    replied = (cardio_reply, [], record { packing = cardio_replied ∷ []; fits = refl; whole = refl; frames_are = refl }, refl, refl);
    rest = [];
    taken_before = refl;
  };
  done = refl;
  rows = refl;
  plain = refl;
}
