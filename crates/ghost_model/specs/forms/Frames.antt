-- Frames as bytes. A frame has a header of 8 bytes and a payload. The header is the kind, the version 2, the length of
-- the payload in 2 bytes and the serial in 4, most significant byte first. Each frame has one spelling. Apart from any
-- place in a session, a header may have one of eight kinds, serial 0 exactly for HELLO, BYE and WELCOME, and a length
-- that its kind has; a payload of WELCOME begins with 0 or 1, and one of SORRY is not 0.
use Rattle.std.specs.Prelude.{◌≡◌, ℕ, ◌+◌, ◌-◌, ◌^◌, ◌<◌, Bool, true, false, not, ◌&&◌, ◌||◌, ◌==◌, nat_lt, nat_le, List, [], ◌∷◌, ◌++◌, length, take, drop, if◌then◌else◌, slice_index}
use Rattle.std.specs.Int.{to_be_bytes, from_be_bytes, w16, w32}
use Rattle.ghost_model.specs.core.Channel.{Frame, HelloFrame, AskFrame, MoreFrame, ByeFrame, WelcomeFrame, RowsFrame, DoneFrame, SorryFrame}

abbrev pub frame_kind : Frame → ℕ
frame_kind (HelloFrame _) = 1
frame_kind (AskFrame _ _) = 2
frame_kind (MoreFrame _) = 3
frame_kind ByeFrame = 4
frame_kind (WelcomeFrame _ _) = 17
frame_kind (RowsFrame _ _) = 18
frame_kind (DoneFrame _ _) = 19
frame_kind (SorryFrame _ _) = 20

abbrev pub serial_of : Frame → ℕ
serial_of (AskFrame serial _) = serial
serial_of (MoreFrame serial) = serial
serial_of (RowsFrame serial _) = serial
serial_of (DoneFrame serial _) = serial
serial_of (SorryFrame serial _) = serial
serial_of _ = 0

abbrev pub payload_of : Frame → List ℕ
payload_of (HelloFrame generation) = to_be_bytes w32 generation
payload_of (AskFrame _ payload) = payload
payload_of (WelcomeFrame last part) = last ∷ part
payload_of (RowsFrame _ payload) = payload
payload_of (DoneFrame _ total) = to_be_bytes w32 total
payload_of (SorryFrame _ code) = code ∷ []
payload_of _ = []

abbrev pub frame_version : ℕ
frame_version = 2

abbrev pub header_bytes : (kind size serial : ℕ) → List ℕ
header_bytes kind size serial = kind ∷ frame_version ∷ (to_be_bytes w16 size ++ to_be_bytes w32 serial)

abbrev pub frame_bytes : Frame → List ℕ
frame_bytes frame = header_bytes (frame_kind frame) (length (payload_of frame)) (serial_of frame) ++ payload_of frame

abbrev pub most_payload : ℕ
most_payload = 2040

-- the lengths that the payload of a kind may have
abbrev pub size_allowed : (kind size : ℕ) → Bool
size_allowed kind size =
    if kind == 1 || kind == 19 then size == 4
    else if kind == 3 || kind == 4 then size == 0
    else if kind == 20 then size == 1
    else if kind == 17 then nat_le 2 size && nat_le size most_payload
    else if kind == 2 then nat_le 3 size && nat_le size most_payload
    else if kind == 18 then nat_le 4 size && nat_le size most_payload
    else false

-- three kinds have the serial 0; the other ones belong to an ask and have its serial
abbrev pub serial_allowed : (kind serial : ℕ) → Bool
serial_allowed kind serial = if kind == 1 || kind == 4 || kind == 17 then serial == 0 else not (serial == 0)

-- the parts of a header, of bytes that have a whole one
abbrev pub kind_in : List ℕ → ℕ
kind_in bytes = slice_index bytes 0

abbrev pub version_in : List ℕ → ℕ
version_in bytes = slice_index bytes 1

abbrev pub size_in : List ℕ → ℕ
size_in bytes = from_be_bytes w16 (take 2 (drop 2 bytes))

abbrev pub serial_in : List ℕ → ℕ
serial_in bytes = from_be_bytes w32 (take 4 (drop 4 bytes))

abbrev pub payload_in : List ℕ → List ℕ
payload_in bytes = take (size_in bytes) (drop 8 bytes)

-- whether a whole header may begin a frame, apart from any place
abbrev pub header_allowed : List ℕ → Bool
header_allowed bytes =
    version_in bytes == frame_version && size_allowed (kind_in bytes) (size_in bytes)
    && serial_allowed (kind_in bytes) (serial_in bytes)

-- whether a whole payload may follow a header of its kind, apart from any place
abbrev pub payload_allowed : (kind : ℕ) → List ℕ → Bool
payload_allowed kind payload =
    if kind == 17 then nat_le (slice_index payload 0) 1
    else if kind == 20 then not (slice_index payload 0 == 0)
    else true

abbrev pub frame_of_parts : (kind serial : ℕ) → List ℕ → Frame
frame_of_parts kind serial payload =
    if kind == 1 then HelloFrame (from_be_bytes w32 (take 4 payload))
    else if kind == 2 then AskFrame serial payload
    else if kind == 3 then MoreFrame serial
    else if kind == 4 then ByeFrame
    else if kind == 17 then WelcomeFrame (slice_index payload 0) (drop 1 payload)
    else if kind == 18 then RowsFrame serial payload
    else if kind == 19 then DoneFrame serial (from_be_bytes w32 (take 4 payload))
    else SorryFrame serial (slice_index payload 0)

abbrev pub frame_in : List ℕ → Frame
frame_in bytes = frame_of_parts (kind_in bytes) (serial_in bytes) (payload_in bytes)

-- what bytes amount to: a frame, a part that lacks so many bytes, or one that breaks a rule, by its first byte
pub data Got : Type 0 where
  Found : Frame → Got
  Short : (missing : ℕ) → Got
  Bad : (kind : ℕ) → Got

abbrev pub got_of : List ℕ → Got
got_of bytes =
    if nat_lt (length bytes) 8 then Short (8 - length bytes)
    else if not (header_allowed bytes) then Bad (kind_in bytes)
    else if nat_lt (length bytes) (8 + size_in bytes) then Short (8 + size_in bytes - length bytes)
    else if payload_allowed (kind_in bytes) (payload_in bytes) then Found (frame_in bytes)
    else Bad (kind_in bytes)

abbrev pub AreBytes : List ℕ → Type 0
AreBytes bytes = (i : ℕ) → slice_index bytes i < 256

-- a number of a frame that stands in its payload in 4 bytes
abbrev pub frame_number : Frame → ℕ
frame_number (HelloFrame generation) = generation
frame_number (DoneFrame _ total) = total
frame_number _ = 0

-- the parts of a frame fit their fields
pub record IsFrame (frame : Frame) : Type 0 where
  pub serial : serial_allowed (frame_kind frame) (serial_of frame) ≡ true
  pub size : size_allowed (frame_kind frame) (length (payload_of frame)) ≡ true
  pub payload : payload_allowed (frame_kind frame) (payload_of frame) ≡ true
  pub bytes : AreBytes (payload_of frame)
  pub serial_fits : serial_of frame < 2 ^ 32
  pub number_fits : frame_number frame < 2 ^ 32
