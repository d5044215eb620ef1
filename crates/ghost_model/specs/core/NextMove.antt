-- The next move of the key, a function of what it knows beforehand and of what came before: the catalog, the address,
-- the texts' asks, and the moves so far with their answers. Nothing of a row, a plan or the key's own storage is in it.
--
-- Received bytes are judged byte by byte. A frame is invalid as soon as its whole header, or else its whole payload,
-- breaks a rule of its place. Each valid frame may make a frame of the key due: HELLO at the start, the first ask once
-- the catalog was welcomed whole, MORE for each ROWS, the next ask for each DONE, the first ask of a later text for each
-- SORRY, and BYE where no ask is left. Asks have the serials 1, 2, 3, .. in the order in which they are sent.
use Rattle.std.specs.Prelude.{◌≡◌, ℕ, ◌+◌, ◌-◌, ◌%◌, Bool, true, false, not, ◌&&◌, ◌||◌, ◌==◌, nat_lt, nat_le, List, [], ◌∷◌, ◌++◌, length, take, drop, filter, flat_map, slice_get, if◌then◌else◌, bytes_eq, Option, Some, None, is_some}
use Rattle.std.specs.List.{list_any}
use Rattle.ghost_model.specs.core.Schema.{Schema, Kind, is_empty}
use Rattle.ghost_model.specs.forms.Cells.{cell_width}
use Rattle.ghost_model.specs.readings.CellReading.{decode_cell}
use Rattle.ghost_model.specs.core.Channel.{Catalog, count_of, Ask, Frame, HelloFrame, AskFrame, MoreFrame, ByeFrame, WelcomeFrame, RowsFrame, DoneFrame, SorryFrame, Move, Dial, Send, Take, Close, Answer, End, Failed, Journal}
use Rattle.ghost_model.specs.forms.Catalog.{catalog_bytes}
use Rattle.ghost_model.specs.forms.Frames.{frame_bytes, frame_in, frame_version, version_in, kind_in, size_in, serial_in, most_payload}
use Rattle.ghost_model.specs.core.Asks.{NumberedAsk, asked_of, RowCells, ask_payload, kinds_of, row_width, rows_in}
use Rattle.ghost_model.specs.core.Moves.{taken, sent}

-- what the key awaits: the bytes of the catalog that are still missing; the reply to an ask with this serial, of which so
-- many rows came, the last with this identifier (0 before the first), and the asks after it; or nothing more
pub data Awaits : Type 0 where
  AwaitsCatalog : (bytes : List ℕ) → Awaits
  AwaitsReply : (asked : NumberedAsk) (serial : ℕ) (later : List NumberedAsk) (count last : ℕ) → Awaits
  AwaitsNothing : Awaits

-- the kinds and lengths that a frame of a reply may have
abbrev pub reply_size_fits : (width kind size : ℕ) → Bool
reply_size_fits width kind size =
    if kind == 18 then nat_lt 0 size && size % width == 0 && nat_le size most_payload
    else if kind == 19 then size == 4
    else kind == 20 && size == 1

-- whether a whole header may stand where this is awaited
abbrev pub header_fits : Catalog → Awaits → List ℕ → Bool
header_fits catalog (AwaitsCatalog bytes) header =
    version_in header == frame_version && kind_in header == 17 && serial_in header == 0 && nat_le 2 (size_in header)
    && nat_le (size_in header) most_payload && nat_le (size_in header) (length bytes + 1)
header_fits catalog (AwaitsReply asked serial later count last) header =
    version_in header == frame_version && serial_in header == serial
    && reply_size_fits (row_width catalog.schema asked.ask) (kind_in header) (size_in header)
header_fits catalog AwaitsNothing header = false

abbrev pub are_cells : List Kind → List ℕ → Bool
are_cells [] bytes = is_empty bytes
are_cells (kind ∷ kinds) bytes =
    is_some (decode_cell kind (take (cell_width kind) bytes)) && are_cells kinds (drop (cell_width kind) bytes)

-- whether identifiers are above the last one, ascend, and are at most the table's number of rows, and cells spell values
unfoldable pub rows_fit : (rows last : ℕ) → List Kind → List RowCells → Bool
rows_fit rows last kinds [] = true
rows_fit rows last kinds (row ∷ later) =
    nat_lt last row.identifier && nat_le row.identifier rows && are_cells kinds row.cells
    && rows_fit rows row.identifier kinds later

-- whether a frame of a reply may come after so many rows, the last with this identifier
abbrev pub reply_fits : Catalog → Ask → (count last : ℕ) → Frame → Bool
reply_fits catalog ask count last (RowsFrame _ payload) =
    rows_fit (count_of catalog ask.table) last (kinds_of catalog.schema ask) (rows_in catalog.schema ask payload)
reply_fits catalog ask count last (DoneFrame _ total) = total == count
reply_fits catalog ask count last (SorryFrame _ code) = not (code == 0)
reply_fits catalog ask count last _ = false

-- the last WELCOME frame, which alone begins with 1, is the one that ends the catalog
abbrev pub greeting_fits : (missing : List ℕ) → Frame → Bool
greeting_fits missing (WelcomeFrame last part) =
    bytes_eq part (take (length part) missing) && last == (if length part == length missing then 1 else 0)
greeting_fits missing _ = false

-- whether a frame whose header fits may come where this is awaited
abbrev pub payload_fits : Catalog → Awaits → Frame → Bool
payload_fits catalog (AwaitsCatalog bytes) frame = greeting_fits bytes frame
payload_fits catalog (AwaitsReply asked serial later count last) frame = reply_fits catalog asked.ask count last frame
payload_fits catalog AwaitsNothing frame = false

-- what the bytes of the frame at hand amount to: header or payload lacks so many bytes, or all is valid, or it is not
pub data Verdict : Type 0 where
  Lacking : (missing : ℕ) → Verdict
  Complete Invalid : Verdict

abbrev pub verdict : Catalog → Awaits → List ℕ → Verdict
verdict catalog awaits part =
    if nat_lt (length part) 8 then Lacking (8 - length part)
    else if not (header_fits catalog awaits part) then Invalid
    else if nat_lt (length part) (8 + size_in part) then Lacking (8 + size_in part - length part)
    else if payload_fits catalog awaits (frame_in part) then Complete
    else Invalid

-- what is awaited next, and the frames of the key that become due
pub record FrameOutcome : Type 0 where
  pub awaits : Awaits
  pub due : List Frame

-- the first of these asks is sent, or BYE where none is left
abbrev pub ask_next : Schema → (serial : ℕ) → List NumberedAsk → FrameOutcome
ask_next schema serial [] = record { awaits = AwaitsNothing; due = ByeFrame ∷ [] }
ask_next schema serial (asked ∷ later) =
    record { awaits = AwaitsReply asked serial later 0 0; due = AskFrame serial (ask_payload schema asked.ask) ∷ [] }

-- these asks without those at their front that are of this text
abbrev pub of_later_texts : (text : ℕ) → List NumberedAsk → List NumberedAsk
of_later_texts text [] = []
of_later_texts text (asked ∷ later) = if asked.text == text then of_later_texts text later else asked ∷ later

abbrev pub last_identifier : (last : ℕ) → List RowCells → ℕ
last_identifier last [] = last
last_identifier last (row ∷ later) = last_identifier row.identifier later

abbrev pub still : Awaits → FrameOutcome
still awaits = record { awaits = awaits; due = [] }

abbrev pub turn_of_greeting : Schema → List NumberedAsk → (missing : List ℕ) → Frame → FrameOutcome
turn_of_greeting schema asks missing (WelcomeFrame _ part) =
    if length part == length missing then ask_next schema 1 asks else still (AwaitsCatalog (drop (length part) missing))
turn_of_greeting schema asks missing _ = still (AwaitsCatalog missing)

abbrev pub turn_of_reply : Schema → NumberedAsk → (serial : ℕ) → (later : List NumberedAsk) → (count last : ℕ) → Frame → FrameOutcome
turn_of_reply schema asked serial later count last (RowsFrame _ payload) =
    let rows = rows_in schema asked.ask payload in
    record { awaits = AwaitsReply asked serial later (count + length rows) (last_identifier last rows); due = MoreFrame serial ∷ [] }
turn_of_reply schema asked serial later count last (DoneFrame _ _) = ask_next schema (serial + 1) later
turn_of_reply schema asked serial later count last (SorryFrame _ _) =
    ask_next schema (serial + 1) (of_later_texts asked.text later)
turn_of_reply schema asked serial later count last _ = still (AwaitsReply asked serial later count last)

-- what a valid frame leads to; `asks` are all asks of the session
abbrev pub after_frame : Catalog → (asks : List NumberedAsk) → Awaits → Frame → FrameOutcome
after_frame catalog asks (AwaitsCatalog bytes) frame = turn_of_greeting catalog.schema asks bytes frame
after_frame catalog asks (AwaitsReply asked serial later count last) frame =
    turn_of_reply catalog.schema asked serial later count last frame
after_frame catalog asks AwaitsNothing frame = still AwaitsNothing

-- how an ask was ended: by DONE, with the bytes of all its rows, or by SORRY with its code
pub data Ending : Type 0 where
  Answered : (rows : List ℕ) → Ending
  Refused : (code : ℕ) → Ending

pub record EndedAsk : Type 0 where
  pub asked : NumberedAsk
  pub ending : Ending

abbrev pub ended : NumberedAsk → Ending → EndedAsk
ended asked ending = record { asked = asked; ending = ending }

-- the bytes of the rows that came of the ask at hand, after a frame
abbrev pub rows_after : (rows : List ℕ) → Frame → List ℕ
rows_after rows (RowsFrame _ payload) = rows ++ payload
rows_after rows _ = []

abbrev pub ended_by : Awaits → (rows : List ℕ) → Frame → List EndedAsk
ended_by (AwaitsReply asked serial later count last) rows (DoneFrame _ _) = ended asked (Answered rows) ∷ []
ended_by (AwaitsReply asked serial later count last) rows (SorryFrame _ code) = ended asked (Refused code) ∷ []
ended_by _ rows _ = []

-- what received bytes amount to: what is awaited, the part of the frame at hand, the valid frames before it, the frames
-- of the key that they make due, the bytes of the rows of the ask at hand, the asks that were ended, in order, and
-- whether the frame at hand is invalid
pub record Heard : Type 0 where
  pub awaits : Awaits
  pub part : List ℕ
  pub frames : List Frame
  pub due : List Frame
  pub rows : List ℕ
  pub ended : List EndedAsk
  pub broken : Bool

abbrev pub heard_frame : Catalog → (asks : List NumberedAsk) → Heard → Frame → Heard
heard_frame catalog asks heard frame =
    let next = after_frame catalog asks heard.awaits frame in
    record {
      awaits = next.awaits;
      part = [];
      frames = heard.frames ++ frame ∷ [];
      due = heard.due ++ next.due;
      rows = rows_after heard.rows frame;
      ended = heard.ended ++ ended_by heard.awaits heard.rows frame;
      broken = false;
    }

abbrev pub heard_as : Catalog → (asks : List NumberedAsk) → Heard → (part : List ℕ) → Verdict → Heard
heard_as catalog asks heard part (Lacking _) = record heard { part = part }
heard_as catalog asks heard part Complete = heard_frame catalog asks heard (frame_in part)
heard_as catalog asks heard part Invalid = record heard { part = part; broken = true }

abbrev pub hear : Catalog → (asks : List NumberedAsk) → Heard → (byte : ℕ) → Heard
hear catalog asks heard byte =
    if heard.broken then heard
    else heard_as catalog asks heard (heard.part ++ byte ∷ []) (verdict catalog heard.awaits (heard.part ++ byte ∷ []))

unfoldable pub hear_all : Catalog → (asks : List NumberedAsk) → Heard → List ℕ → Heard
hear_all catalog asks heard [] = heard
hear_all catalog asks heard (byte ∷ bytes) = hear_all catalog asks (hear catalog asks heard byte) bytes

-- before the first byte
abbrev pub at_first : Catalog → Heard
at_first catalog = record {
  awaits = AwaitsCatalog (catalog_bytes catalog);
  part = [];
  frames = [];
  due = HelloFrame catalog.generation ∷ [];
  rows = [];
  ended = [];
  broken = false;
}

abbrev pub heard : Catalog → (asks : List NumberedAsk) → (received : List ℕ) → Heard
heard catalog asks received = hear_all catalog asks (at_first catalog) received

-- the asks of a text that were ended, whatever ended them
abbrev pub ended_of : Catalog → (asks : List NumberedAsk) → Journal → (text : ℕ) → List EndedAsk
ended_of catalog asks journal text = filter (λ end. end.asked.text == text) (heard catalog asks (taken journal)).ended

-- an invalid frame: its first byte, and the number of bytes taken before it
pub record InvalidFrame : Type 0 where
  pub kind : ℕ
  pub at : ℕ

abbrev pub bytes_before : Heard → ℕ
bytes_before heard = length (flat_map frame_bytes heard.frames)

abbrev pub invalid_frame : Heard → Option InvalidFrame
invalid_frame heard =
    if heard.broken then Some (record { kind = kind_in heard.part; at = bytes_before heard }) else None

abbrev pub is_close : Move → Bool
is_close Close = true
is_close _ = false

-- whether an answer is the end of the stream or a failure
abbrev pub is_stop : Answer → Bool
is_stop End = true
is_stop Failed = true
is_stop _ = false

-- what a journal has led to, as far as the next move goes: whether there is an entry, a Close, an answer that stops the
-- session, the number of frames sent, and what the taken bytes amount to
pub record Standing : Type 0 where
  pub opened : Bool
  pub closed : Bool
  pub stopped : Bool
  pub sent : ℕ
  pub heard : Heard

abbrev pub standing_after : Catalog → (asks : List NumberedAsk) → Journal → Standing
standing_after catalog asks journal = record {
  opened = not (is_empty journal);
  closed = list_any (λ entry. is_close entry.move) journal;
  stopped = list_any (λ entry. is_stop entry.answer) journal;
  sent = length (sent journal);
  heard = heard catalog asks (taken journal);
}

abbrev pub bytes_missing : Verdict → ℕ
bytes_missing (Lacking missing) = missing
bytes_missing _ = 0

-- where all that is due was sent: Close after BYE, and else Take of the bytes that the header or payload at hand lacks
abbrev pub take_or_close : Catalog → Heard → Awaits → Move
take_or_close catalog heard AwaitsNothing = Close
take_or_close catalog heard _ = Take (bytes_missing (verdict catalog heard.awaits heard.part))

abbrev pub send_or : Move → Option Frame → Move
send_or other None = other
send_or other (Some frame) = Send (frame_bytes frame)

-- the next move, by what a journal has led to: the first that applies
abbrev pub move_from : Catalog → (at : List ℕ) → Standing → Option Move
move_from catalog at standing =
    if not standing.opened then Some (Dial at)
    else if standing.closed then None
    else if standing.stopped || standing.heard.broken then Some Close
    else Some (send_or (take_or_close catalog standing.heard standing.heard.awaits) (slice_get standing.heard.due standing.sent))

abbrev pub next_with : Catalog → (at : List ℕ) → (asks : List NumberedAsk) → Journal → Option Move
next_with catalog at asks journal = move_from catalog at (standing_after catalog asks journal)

-- the next move of a session with these texts; none after Close
abbrev pub next_move : Catalog → (at : List ℕ) → (texts : List (List ℕ)) → Journal → Option Move
next_move catalog at texts journal = next_with catalog at (asked_of catalog.schema texts) journal

-- each move is the next move of the entries before it, these being `before` at the first
abbrev pub GoesOn : Catalog → (at : List ℕ) → (asks : List NumberedAsk) → (before : Journal) → Journal → Type 0
GoesOn catalog at asks before [] = Unit {0}
GoesOn catalog at asks before (entry ∷ later) =
    (next_with catalog at asks before ≡ Some entry.move) × GoesOn catalog at asks (before ++ entry ∷ []) later

-- a journal is proper for these asks where each move is the next move of the entries before it
abbrev pub IsProperWith : Catalog → (at : List ℕ) → (asks : List NumberedAsk) → Journal → Type 0
IsProperWith catalog at asks journal = GoesOn catalog at asks [] journal

abbrev pub IsProper : Catalog → (at : List ℕ) → (texts : List (List ℕ)) → Journal → Type 0
IsProper catalog at texts journal = IsProperWith catalog at (asked_of catalog.schema texts) journal

-- a journal is finished where it ends with Close
abbrev pub IsFinished : Journal → Type 0
IsFinished [] = ⊥
IsFinished (entry ∷ []) = entry.move ≡ Close
IsFinished (_ ∷ entry ∷ later) = IsFinished (entry ∷ later)
