-- The order in which the asks of texts are awaited, whatever host replies.
use Rattle.std.specs.Prelude.{◌≡◌, ℕ, ◌≤◌, true, nat_le, List, length, Some}
use Rattle.std.specs.List.{list_all}
use Rattle.ghost_model.specs.core.Channel.{Catalog}
use Rattle.ghost_model.specs.core.Asks.{NumberedAsk, asked_of}
use Rattle.ghost_model.specs.core.NextMove.{Heard, heard, hear_all}
use Rattle.channel_pump.specs.Sessions.{asked_in}

-- an ask that is awaited is one of a text; none of a later text was ended, and none of an earlier one is awaited after more
-- bytes
pub record IsInOrder (catalog : Catalog) (texts : List (List ℕ)) (now : Heard) (asked : NumberedAsk) : Type 0 where
  pub numbered : 1 ≤ asked.text
  pub within : asked.text ≤ length texts
  pub ended : list_all (λ end. nat_le end.asked.text asked.text) now.ended ≡ true
  pub onward :
      (more : List ℕ) (later : NumberedAsk) → asked_in (hear_all catalog (asked_of catalog.schema texts) now more).awaits ≡ Some later
      → asked.text ≤ later.text

abbrev pub TextsComeInOrder : Type 0
TextsComeInOrder =
    (catalog : Catalog) (texts : List (List ℕ)) (received : List ℕ) (asked : NumberedAsk)
    → asked_in (heard catalog (asked_of catalog.schema texts) received).awaits ≡ Some asked
    → IsInOrder catalog texts (heard catalog (asked_of catalog.schema texts) received) asked
