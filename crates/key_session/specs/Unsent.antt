-- The ask at hand, where it is of a text two or more behind the text that is told next: it is the first of its text, and was not sent.
use Rattle.std.specs.Prelude.{◌≡◌, ℕ, ◌≤◌, ◌+◌, true, nat_lt, List, length, slice_get, Some}
use Rattle.std.specs.List.{list_all}
use Rattle.ghost_model.specs.core.Channel.{Catalog, Journal, AskFrame, Move, Send}
use Rattle.ghost_model.specs.forms.Frames.{frame_bytes}
use Rattle.ghost_model.specs.core.Asks.{NumberedAsk, ask_payload}
use Rattle.ghost_model.specs.core.Moves.{sent}
use Rattle.ghost_model.specs.core.NextMove.{Awaits, AwaitsCatalog, AwaitsReply, AwaitsNothing, next_move}
use Rattle.channel_pump.specs.Sessions.{asked_in}
use Rattle.session_laws.specs.TextEnds.{heard_in}

-- the serial of the ask at hand
abbrev pub serial_at : Awaits → ℕ
serial_at (AwaitsCatalog _) = 0
serial_at (AwaitsReply asked serial later count last) = serial
serial_at AwaitsNothing = 0

-- no ask of its text was ended, its ASK is due behind all frames that were sent, and the next move, where there is one, sends it
pub record IsUnsent (catalog : Catalog) (at : List ℕ) (texts : List (List ℕ)) (journal : Journal) (asked : NumberedAsk) : Type 0 where
  pub first : list_all (λ end. nat_lt end.asked.text asked.text) (heard_in catalog texts journal).ended ≡ true
  pub place : ℕ
  pub due : slice_get (heard_in catalog texts journal).due place ≡ Some (AskFrame (serial_at (heard_in catalog texts journal).awaits) (ask_payload catalog.schema asked.ask))
  pub unsent : length (sent journal) ≤ place
  pub next : (move : Move) → next_move catalog at texts journal ≡ Some move
      → move ≡ Send (frame_bytes (AskFrame (serial_at (heard_in catalog texts journal).awaits) (ask_payload catalog.schema asked.ask)))

-- so it is of every text two or more behind the one that comes next after so many
abbrev pub FarIsUnsent : Catalog → (at : List ℕ) → (texts : List (List ℕ)) → Journal → (count : ℕ) → Type 0
FarIsUnsent catalog at texts journal count =
    (asked : NumberedAsk) → asked_in (heard_in catalog texts journal).awaits ≡ Some asked → count + 3 ≤ asked.text → IsUnsent catalog at texts journal asked
