-- A session of the clinic in which the host sends its three doctors one row a frame: the reply has as many frames as one
-- can have, and so the key sends as many.
use Rattle.std.specs.Prelude.{◌≡◌, ℕ, List, [], ◌∷◌, length, codes}
use Rattle.ghost_model.specs.core.Channel.{Frame, HelloFrame, AskFrame, MoreFrame, ByeFrame, Journal}
use Rattle.ghost_model.specs.core.Asks.{NumberedAsk, asked_of}
use Rattle.ghost_model.specs.core.Moves.{sent, taken}
use Rattle.ghost_model.specs.core.NextMove.{heard, IsProper, IsFinished}
use Rattle.ghost_model.specs.examples.Clinic.{clinic_catalog, clinic_schema}
use Rattle.ghost_model.specs.examples.Channel.{hex, dialled, sends, takes, welcomed, closed}
use Rattle.session_laws.specs.Bounds.{reply_in, welcomes_in, most_replied}

abbrev pub doctors_texts : List (List ℕ)
doctors_texts = codes "SELECT specialty FROM doctor" ∷ []

abbrev pub doctors_journal : Journal
doctors_journal =
    dialled []
    ∷ sends (HelloFrame 1)
    ∷ takes 8 (codes "1102016e00000000")
    ∷ welcomed clinic_catalog
    ∷ sends (AskFrame 1 (hex (codes "00010100")))
    ∷ takes 8 (codes "1202000c00000001")
    ∷ takes 12 (codes "0000000163617264696f0000")
    ∷ sends (MoreFrame 1)
    ∷ takes 8 (codes "1202000c00000001")
    ∷ takes 12 (codes "000000026e6575726f000000")
    ∷ sends (MoreFrame 1)
    ∷ takes 8 (codes "1202000c00000001")
    ∷ takes 12 (codes "0000000363617264696f0000")
    ∷ sends (MoreFrame 1)
    ∷ takes 8 (codes "1302000400000001")
    ∷ takes 4 (codes "00000003")
    ∷ sends ByeFrame
    ∷ closed
    ∷ []

abbrev pub doctors_asked : List NumberedAsk
doctors_asked = asked_of clinic_schema doctors_texts

abbrev pub doctors_frames : List Frame
doctors_frames = (heard clinic_catalog doctors_asked (taken doctors_journal)).frames

pub record RowByRow : Type 0 where
  pub proper : IsProper clinic_catalog [] doctors_texts doctors_journal
  pub finished : IsFinished doctors_journal
  pub welcomed : length (welcomes_in doctors_frames) ≡ 1
  -- three rows, and DONE
  pub replied : length (reply_in 1 doctors_frames) ≡ 4
  pub most : most_replied clinic_catalog doctors_asked ≡ 4
  pub all : length doctors_frames ≡ 5
  pub sends : length (sent doctors_journal) ≡ 6
