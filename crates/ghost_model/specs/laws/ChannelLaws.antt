-- Laws of frames, asks and next moves. Nothing here need be believed: each is proved.
use Rattle.std.specs.Prelude.{◌≡◌, ℕ, ◌+◌, ◌^◌, ◌<◌, Bool, true, false, ◌&&◌, List, [], ◌++◌, length, take, map, flat_map, Some, Ok, ◌%◌, All, ◌*◌, ◌≤◌}
use Rattle.ghost_model.specs.core.Channel.{Frame, Ask, Catalog, Journal}
use Rattle.std.specs.List.{list_all}
use Rattle.ghost_model.specs.core.Schema.{Schema, is_visible}
use Rattle.ghost_model.specs.core.Query.{Query}
use Rattle.ghost_model.specs.readings.QueryReading.{reading}
use Rattle.ghost_model.specs.forms.Frames.{AreBytes, IsFrame, frame_bytes, got_of, Found}
use Rattle.ghost_model.specs.core.Asks.{NumberedAsk, asked_of, RowCells, ask_payload, row_width, rows_in, asks_of, is_proper_ask, row_bytes}
use Rattle.ghost_model.specs.readings.AskReading.{ask_in}
use Rattle.ghost_model.specs.core.Moves.{taken, sent, answers}
use Rattle.ghost_model.specs.laws.ShortWords.{moves, due}
use Rattle.ghost_model.specs.core.NextMove.{Awaits, header_fits, payload_fits, Heard, heard_frame, hear_all, heard, IsProperWith}

-- no frame's spelling is a proper prefix of another's
abbrev pub FramesArePrefixFree : Type 0
FramesArePrefixFree =
    (one other : Frame) (rest : List ℕ) → IsFrame one → IsFrame other → frame_bytes one ++ rest ≡ frame_bytes other
    → rest ≡ []

-- bytes that begin with the spelling of a frame, and what follows it
pub record BeginsWith (bytes : List ℕ) (frame : Frame) : Type 0 where
  pub fits : IsFrame frame
  pub rest : List ℕ
  pub begins : bytes ≡ frame_bytes frame ++ rest

-- a frame is found where bytes begin with its spelling, and only there: reading and spelling are inverse
pub record FramesHaveOneSpelling : Type 0 where
  pub spelled_is_found : (frame : Frame) (rest : List ℕ) → IsFrame frame → got_of (frame_bytes frame ++ rest) ≡ Found frame
  pub found_is_spelled :
      (bytes : List ℕ) (frame : Frame) → AreBytes bytes → got_of bytes ≡ Found frame → BeginsWith bytes frame

-- an ask that a key may send is the one that its payload spells, and no other payload spells it
pub record AsksHaveOneSpelling : Type 0 where
  pub spelled_is_read :
      (schema : Schema) (ask : Ask) → is_proper_ask schema ask ≡ true → ask_in schema (ask_payload schema ask) ≡ Some ask
  pub read_is_proper :
      (schema : Schema) (payload : List ℕ) (ask : Ask) → ask_in schema payload ≡ Some ask → is_proper_ask schema ask ≡ true
  pub read_is_spelled :
      (schema : Schema) (payload : List ℕ) (ask : Ask) → ask_in schema payload ≡ Some ask → ask_payload schema ask ≡ payload

-- whether an ask names visible columns alone
abbrev pub names_visible : Schema → Ask → Bool
names_visible schema ask =
    list_all (is_visible schema ask.table) ask.columns
    && list_all (λ test. is_visible schema ask.table test.column) ask.tests

-- nothing of a hidden column or of an identifier is in an ask
abbrev pub AsksAreVisible : Type 0
AsksAreVisible = (schema : Schema) (query : Query) → list_all (names_visible schema) (asks_of schema query) ≡ true

-- the asks of an accepted text are such as a key may send
abbrev pub AsksAreProper : Type 0
AsksAreProper =
    (schema : Schema) (text : List ℕ) (query : Query) → reading schema text ≡ Ok query
    → list_all (is_proper_ask schema) (asks_of schema query) ≡ true

-- each text has at most one ask for each table
abbrev pub AsksAreFew : Type 0
AsksAreFew = (schema : Schema) (texts : List (List ℕ)) → length schema ≤ 12 → length (asked_of schema texts) ≤ 12 * length texts

-- a row of a reply to an ask: its identifier fits four bytes, and its cells have their widths
pub record IsReplyRow (schema : Schema) (ask : Ask) (row : RowCells) : Type 0 where
  pub identifier : row.identifier < 2 ^ 32
  pub width : 4 + length row.cells ≡ row_width schema ask

-- rows are the ones that their bytes spell, and bytes of whole rows are those of the rows that they spell
pub record RowsHaveOneSpelling : Type 0 where
  pub spelled_are_read :
      (schema : Schema) (ask : Ask) (rows : List RowCells) → All (IsReplyRow schema ask) rows
      → rows_in schema ask (flat_map row_bytes rows) ≡ rows
  pub read_are_spelled :
      (schema : Schema) (ask : Ask) (payload : List ℕ) → AreBytes payload → length payload % row_width schema ask ≡ 0
      → flat_map row_bytes (rows_in schema ask payload) ≡ payload

-- two proper journals for the same catalog, address and asks, as those of the same texts, whose first i answers agree
-- have the same first i + 1 moves, where both have so many: the key's moves tell nothing of what it keeps hidden
abbrev pub TwoWorlds : Type 0
TwoWorlds =
    (catalog : Catalog) (at : List ℕ) (asks : List NumberedAsk) (first second : Journal) (i : ℕ)
    → IsProperWith catalog at asks first → IsProperWith catalog at asks second → i < length first → i < length second
    → answers (take i first) ≡ answers (take i second) → moves (take (i + 1) first) ≡ moves (take (i + 1) second)

-- received bytes are the spellings of the valid frames, joined, and the part of the frame at hand; where that frame is
-- invalid, bytes may follow it
pub record IsSpelled (received : List ℕ) (heard : Heard) : Type 0 where
  pub rest : List ℕ
  pub spelled : received ≡ flat_map frame_bytes heard.frames ++ (heard.part ++ rest)
  pub nothing_more : heard.broken ≡ false → rest ≡ []

abbrev pub ReceivedIsSpelled : Type 0
ReceivedIsSpelled =
    (catalog : Catalog) (asks : List NumberedAsk) (received : List ℕ) → AreBytes received
    → IsSpelled received (heard catalog asks received)

-- a frame may come where this is awaited
pub record IsAwaited (catalog : Catalog) (awaits : Awaits) (frame : Frame) : Type 0 where
  pub fits : IsFrame frame
  pub header : header_fits catalog awaits (frame_bytes frame) ≡ true
  pub payload : payload_fits catalog awaits frame ≡ true

-- the bytes of a frame that may come are heard as this frame
abbrev pub AwaitedIsHeard : Type 0
AwaitedIsHeard =
    (catalog : Catalog) (asks : List NumberedAsk) (before : Heard) (frame : Frame) → before.part ≡ [] → before.broken ≡ false
    → IsAwaited catalog before.awaits frame
    → hear_all catalog asks before (frame_bytes frame) ≡ heard_frame catalog asks before frame

-- what was sent is the first of the frames that are due
pub record IsDue (catalog : Catalog) (asks : List NumberedAsk) (journal : Journal) : Type 0 where
  pub frames : List Frame
  pub sent_are : sent journal ≡ map frame_bytes frames
  pub rest : List Frame
  pub due_are : due catalog asks (taken journal) ≡ frames ++ rest

abbrev pub SentIsDue : Type 0
SentIsDue =
    (catalog : Catalog) (at : List ℕ) (asks : List NumberedAsk) (journal : Journal) → IsProperWith catalog at asks journal
    → IsDue catalog asks journal
