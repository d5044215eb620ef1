-- How long a channel can become, whatever the other end sends. To an ask of a table of N rows no more than N + 1 valid
-- frames come; what the WELCOME frames carry, joined, begins the catalog's bytes, and there are no more of them than of
-- these bytes; and the key sends one frame at most for each valid frame that came, and HELLO.
use Rattle.std.specs.Prelude.{◌≡◌, ℕ, suc, ◌+◌, ◌≤◌, Bool, true, false, ◌==◌, List, [], ◌++◌, length, map, filter, flat_map, sum, slice_get, Some, ⊤}
use Rattle.ghost_model.specs.core.Channel.{Catalog, count_of, Frame, WelcomeFrame, Journal}
use Rattle.ghost_model.specs.forms.Catalog.{catalog_bytes}
use Rattle.ghost_model.specs.forms.Frames.{serial_of}
use Rattle.ghost_model.specs.core.Asks.{NumberedAsk}
use Rattle.ghost_model.specs.core.Moves.{taken, sent}
use Rattle.ghost_model.specs.core.NextMove.{Awaits, AwaitsReply, EndedAsk, Heard, heard, IsProperWith}

-- the bytes of the catalog that a frame carries
abbrev pub part_of : Frame → List ℕ
part_of (WelcomeFrame last part) = part
part_of _ = []

abbrev pub is_welcome : Frame → Bool
is_welcome (WelcomeFrame last part) = true
is_welcome _ = false

abbrev pub welcomes_in : List Frame → List Frame
welcomes_in frames = filter is_welcome frames

-- the frames of the reply to the ask with this serial
abbrev pub reply_in : (serial : ℕ) → List Frame → List Frame
reply_in serial frames = filter (λ frame. serial_of frame == serial) frames

-- the number of rows of the table that is asked
abbrev pub rows_asked : Catalog → NumberedAsk → ℕ
rows_asked catalog asked = count_of catalog asked.ask.table

-- how many frames come at most to these asks
abbrev pub most_replied : Catalog → List NumberedAsk → ℕ
most_replied catalog asks = sum (map (λ asked. rows_asked catalog asked + 1) asks)

-- a reply that is not ended has a frame less
abbrev pub IsShortSoFar : Catalog → Awaits → List Frame → Type 0
IsShortSoFar catalog (AwaitsReply asked serial later count last) frames =
    length (reply_in serial frames) ≤ rows_asked catalog asked
IsShortSoFar catalog awaits frames = ⊤

pub record AreBounded (catalog : Catalog) (asks : List NumberedAsk) (now : Heard) : Type 0 where
  pub missing : List ℕ
  pub greeting : catalog_bytes catalog ≡ flat_map part_of now.frames ++ missing
  pub welcomes : length (welcomes_in now.frames) ≤ length (catalog_bytes catalog)
  -- asks have the serials 1, 2, 3, ..; what was ended first stands at place 0
  pub replies :
      (place : ℕ) (end : EndedAsk) → slice_get now.ended place ≡ Some end
      → length (reply_in (suc place) now.frames) ≤ rows_asked catalog end.asked + 1
  pub at_hand : IsShortSoFar catalog now.awaits now.frames
  pub all : length now.frames ≤ length (catalog_bytes catalog) + most_replied catalog asks

-- of the valid frames among any bytes, and of what a key sends for them
pub record ChannelsAreBounded : Type 0 where
  pub came : (catalog : Catalog) (asks : List NumberedAsk) (received : List ℕ) → AreBounded catalog asks (heard catalog asks received)
  pub sends :
      (catalog : Catalog) (at : List ℕ) (asks : List NumberedAsk) (journal : Journal) → IsProperWith catalog at asks journal
      → length (sent journal) ≤ length (heard catalog asks (taken journal)).frames + 1
