-- What the host sends, a function of what it holds and of the bytes that the key sent. It awaits HELLO first, once; then
-- ASK with the next serial, 1 first, or BYE; after each ROWS it awaits MORE with the ask's serial. HELLO is answered by
-- the WELCOME frames of the host's own catalog, whatever generation it names, each full but the last. ASK and MORE are
-- answered by one frame each: first ROWS, each with as many whole rows as fit, then DONE. At the first frame that is no
-- frame of the key in its place the host stops. So it is as long as its file can be read; a host that cannot read it ends
-- that ask by SORRY instead.
use Rattle.std.specs.Prelude.{ℕ, zero, suc, ◌+◌, ◌-◌, ◌/◌, ◌==◌, Bool, List, [], ◌∷◌, ◌++◌, length, take, drop, get_or, map, flat_map, if◌then◌else◌, Option, Some, None, option_to_list, true, false}
use Rattle.ghost_model.specs.core.Schema.{Schema, is_empty}
use Rattle.ghost_model.specs.core.Channel.{Catalog, Ask, Frame, HelloFrame, AskFrame, MoreFrame, ByeFrame, WelcomeFrame, RowsFrame, DoneFrame, SorryFrame}
use Rattle.ghost_model.specs.forms.Catalog.{catalog_bytes}
use Rattle.ghost_model.specs.forms.Frames.{Got, Found, Bad, got_of, frame_bytes, frame_kind, most_payload}
use Rattle.ghost_model.specs.core.Asks.{RowCells, row_bytes, row_width}
use Rattle.ghost_model.specs.readings.AskReading.{ask_in}
use Rattle.ghost_model.specs.core.Split.{Public, reply_rows}
use Rattle.ghost_model.specs.core.NextMove.{InvalidFrame}

-- what a host holds, as far as the channel goes: its catalog, and for each ask the rows that meet it, ascending
pub record Holding : Type 0 where
  pub catalog : Catalog
  pub rows : Ask → List RowCells

abbrev pub host_of : Catalog → Public → Holding
host_of catalog public = record { catalog = catalog; rows = reply_rows catalog.schema public }

-- so many groups of a list, each of `most` elements but the last
unfoldable pub groups_from : {X : Type 0} → (most count : ℕ) → List X → List (List X)
groups_from most zero xs = []
groups_from most (suc count) xs = take most xs ∷ groups_from most count (drop most xs)

-- a list cut into groups of `most` elements, the last one shorter where it does not come out even
abbrev pub grouped : {X : Type 0} → (most : ℕ) → List X → List (List X)
grouped most xs = groups_from most ((length xs + most - 1) / most) xs

-- the WELCOME frames of these parts of a catalog: the last one begins with 1
abbrev pub welcomes_of : List (List ℕ) → List Frame
welcomes_of [] = []
welcomes_of (part ∷ []) = WelcomeFrame 1 part ∷ []
welcomes_of (part ∷ next ∷ later) = WelcomeFrame 0 part ∷ welcomes_of (next ∷ later)

-- the most bytes of the catalog that one WELCOME frame has
abbrev pub most_part : ℕ
most_part = 2039

abbrev pub welcomes : Catalog → List Frame
welcomes catalog = welcomes_of (grouped most_part (catalog_bytes catalog))

abbrev pub rows_frame : (serial : ℕ) → List RowCells → Frame
rows_frame serial rows = RowsFrame serial (flat_map row_bytes rows)

-- the whole reply to an ask: ROWS frames of as many whole rows as fit, and DONE
abbrev pub reply_to : Holding → (serial : ℕ) → Ask → List Frame
reply_to held serial ask =
    map (rows_frame serial) (grouped (most_payload / row_width held.catalog.schema ask) (held.rows ask))
    ++ DoneFrame serial (length (held.rows ask)) ∷ []

-- where a host stands: it awaits HELLO; ASK with this serial, or BYE; MORE with this serial, these frames of the reply
-- being still to come; or nothing, after BYE
pub data Stand : Type 0 where
  Greeting : Stand
  Listening : (next : ℕ) → Stand
  Replying : (serial : ℕ) (rest : List Frame) → Stand
  Over : Stand

-- a frame of the key is answered by these frames, and the host stands there
pub record Response : Type 0 where
  pub says : List Frame
  pub stand : Stand

abbrev pub after_reply : (serial : ℕ) → (rest : List Frame) → Stand
after_reply serial rest = if is_empty rest then Listening (serial + 1) else Replying serial rest

-- the next frame of a reply is sent
abbrev pub goes_on : (serial : ℕ) → List Frame → Option Response
goes_on serial [] = None
goes_on serial (frame ∷ rest) = Some (record { says = frame ∷ []; stand = after_reply serial rest })

abbrev pub answers_ask : Holding → (serial : ℕ) → Option Ask → Option Response
answers_ask held serial None = None
answers_ask held serial (Some ask) = goes_on serial (reply_to held serial ask)

-- how a frame is answered; a frame that is no frame of the key in its place is not
abbrev pub answer_to : Holding → Stand → Frame → Option Response
answer_to held Greeting (HelloFrame _) = Some (record { says = welcomes held.catalog; stand = Listening 1 })
answer_to held (Listening next) (AskFrame serial payload) =
    if serial == next then answers_ask held serial (ask_in held.catalog.schema payload) else None
answer_to held (Listening next) ByeFrame = Some (record { says = []; stand = Over })
answer_to held (Replying serial rest) (MoreFrame other) = if other == serial then goes_on serial rest else None
answer_to held _ _ = None

abbrev pub refusal : (serial : ℕ) → Response
refusal serial = record { says = SorryFrame serial 1 ∷ []; stand = Listening (serial + 1) }

-- the answer in place of this one where the file cannot be read, to a frame that calls for a frame of a reply
abbrev pub unread : Frame → Option Response → Option Response
unread frame None = None
unread (AskFrame serial _) (Some answered) = Some (refusal serial)
unread (MoreFrame serial) (Some answered) = Some (refusal serial)
unread frame (Some answered) = None

abbrev pub answer_as : (refused : Bool) → Holding → Stand → Frame → Option Response
answer_as false held stand frame = answer_to held stand frame
answer_as true held stand frame = unread frame (answer_to held stand frame)

abbrev pub said_with : (Stand → List Frame) → Option Response → List Frame
said_with later None = []
said_with later (Some answered) = answered.says ++ later answered.stand

-- what a host that stands there says; for each of the first frames it is told whether its answer is refused
unfoldable pub said_with_refusals : Holding → (refused : List Bool) → List Frame → Stand → List Frame
said_with_refusals held refused [] stand = []
said_with_refusals held refused (frame ∷ later) stand =
    said_with (said_with_refusals held (drop 1 refused) later) (answer_as (get_or refused 0 false) held stand frame)

abbrev pub frame_and : (Frame → List Frame) → Got → List Frame
frame_and later (Found frame) = frame ∷ later frame
frame_and later _ = []

-- the frames at the front of some bytes, at most so many
unfoldable pub frames_within : (most : ℕ) → List ℕ → List Frame
frames_within zero bytes = []
frames_within (suc most) bytes = frame_and (λ frame. frames_within most (drop (length (frame_bytes frame)) bytes)) (got_of bytes)

-- the frames that bytes are cut into, up to the first that is not whole or breaks a rule; there are no more than bytes
abbrev pub frames_of : List ℕ → List Frame
frames_of bytes = frames_within (length bytes) bytes

abbrev pub host_says : Holding → (key : List ℕ) → List Frame
host_says held key = said_with_refusals held [] (frames_of key) Greeting

abbrev pub host_sends : Holding → (key : List ℕ) → List ℕ
host_sends held key = flat_map frame_bytes (host_says held key)

abbrev pub bad_rest : (at : ℕ) → Got → Option InvalidFrame
bad_rest at (Bad kind) = Some (record { kind = kind; at = at })
bad_rest at _ = None

abbrev pub refused_or : Frame → (at : ℕ) → (Stand → Option InvalidFrame) → Option Response → Option InvalidFrame
refused_or frame at later None = Some (record { kind = frame_kind frame; at = at })
refused_or frame at later (Some answered) = later answered.stand

-- nothing is read after BYE
abbrev pub unless_over : Stand → Option InvalidFrame → Option InvalidFrame
unless_over Over bad = None
unless_over _ bad = bad

-- the first of the frames that has no answer, or of the bytes after them that begin none, the answers being refused so
unfoldable pub bad_with_refusals : Holding → (rest : List ℕ) → (refused : List Bool) → List Frame → (at : ℕ) → Stand → Option InvalidFrame
bad_with_refusals held rest refused [] at stand = unless_over stand (bad_rest at (got_of rest))
bad_with_refusals held rest refused (frame ∷ later) at stand =
    unless_over stand
    (refused_or frame at (bad_with_refusals held rest (drop 1 refused) later (at + length (frame_bytes frame)))
    (answer_as (get_or refused 0 false) held stand frame))

-- the first frame that is no frame of the key in its place, if there is one: its first byte, and the bytes before it
abbrev pub bad_request : Holding → (key : List ℕ) → Option InvalidFrame
bad_request held key =
    bad_with_refusals held (drop (length (flat_map frame_bytes (frames_of key))) key) [] (frames_of key) 0 Greeting

abbrev pub asks_in_frame : Schema → Frame → List Ask
asks_in_frame schema (AskFrame _ payload) = option_to_list (ask_in schema payload)
asks_in_frame schema _ = []
