-- A whole session of a host over a link: what it took, what it sent, and how it ended.
use Rattle.std.specs.Prelude.{◌≡◌, ◌≤◌, ℕ, ◌+◌, min, All, MatchBool, Bool, true, false, not, List, [], ◌∷◌, ◌++◌, length, drop, flat_map, Option, Some, None}
use Rattle.std.specs.List.{list_any, concat}
use Rattle.ghost_model.specs.core.Causes.{Rose, last_count}
use Rattle.ghost_model.specs.core.Channel as channel
use Rattle.ghost_model.specs.core.Channel.{Frame, Close, Made, Journal}
use Rattle.edge_traits.specs.Links.{entry}
use Rattle.ghost_model.specs.forms.Frames.{IsFrame, Short, Found, got_of, frame_bytes, kind_in}
use Rattle.ghost_model.specs.core.Host.{Holding, Stand, Response, frames_of, bad_request, host_sends, answer_to, answer_as}
use Rattle.ghost_model.specs.laws.ShortWords.{said_to, bad_from}
use Rattle.ghost_model.specs.core.Host as host
use Rattle.ghost_model.specs.core.Moves.{taken, sent, answers}
use Rattle.ghost_model.specs.core.NextMove.{InvalidFrame, is_stop}
use Rattle.host_exec.specs.Hosts.{Holds, StandsAs}
use Rattle.host_exec.specs.Refusals.{AreGiven, times, sends_refusing, host_sends_refusing, bad_request_refusing}
use Rattle.host_exec.specs.declared.host.Host.{Host}
use Rattle.host_exec.specs.declared.session.Served.{Served}
use Rattle.host_exec.specs.declared.session.Served.TheVariants.{Bye, Depot, Link, BadRequest}
use Rattle.host_exec.specs.declared.stage.Stage.TheVariants as stage
use Rattle.host_exec.specs.declared.session.Turn.{Turn}
use Rattle.host_exec.specs.declared.session.Turn.TheVariants as turn

-- whether a move of a journal failed, or the stream ended
abbrev pub has_stopped : Journal → Bool
has_stopped journal = list_any is_stop (answers journal)

-- bytes were taken, and no other move was made
pub record Came (Went : Journal → Type 0) (bytes : List ℕ) (stopped : Bool) : Type 0 where
  pub journal : Journal
  pub went : Went journal
  pub sends : sent journal ≡ []
  pub taken_is : taken journal ≡ bytes
  pub stops : has_stopped journal ≡ stopped

-- some bytes were taken, and then a move failed or the stream ended
pub record Lost (Went : Journal → Type 0) : Type 0 where
  pub bytes : List ℕ
  pub came : Came Went bytes true

-- bytes are those of one frame, or they break a rule
pub record IsWhole (bytes : List ℕ) : Type 0 where
  pub not_short : (missing : ℕ) → got_of bytes ≡ Short missing → ⊥
  pub exact : (frame : Frame) → got_of bytes ≡ Found frame → IsFrame frame × (bytes ≡ frame_bytes frame)

-- what a host says to the next bytes of a key
abbrev pub sends_from : Holding → Stand → (key : List ℕ) → List ℕ
sends_from held stand key = flat_map frame_bytes (said_to held (frames_of key) stand)

-- the first frame of the next bytes of a key that is out of its place, so many bytes having come before
abbrev pub bad_in : Holding → Stand → (at : ℕ) → (key : List ℕ) → Option InvalidFrame
bad_in held stand at key = bad_from held (drop (length (flat_map frame_bytes (frames_of key))) key) (frames_of key) at stand

abbrev pub invalid : (kind at : ℕ) → InvalidFrame
invalid kind at = record { kind = kind; at = at }

-- bytes are one frame, and after a farewell alone the host is over
pub record IsOneFrame (bytes : List ℕ) (after : Host) : Type 0 where
  pub frame : Frame
  pub fits : IsFrame frame
  pub spelled : bytes ≡ frame_bytes frame
  pub last : after.stage ≡ stage.Over → frame ≡ channel.ByeFrame

-- bytes have a whole header, of this kind
pub record BeginsAs (kind : ℕ) (bytes : List ℕ) : Type 0 where
  pub long : 8 ≤ length bytes
  pub first : kind_in bytes ≡ kind

-- a frame of a key was answered
pub record HeardAs (held : Holding) (file : List ℕ) (stand : Stand) (bytes : List ℕ) (after : Host) : Type 0 where
  pub frame : Frame
  pub fits : IsFrame frame
  pub spelled : bytes ≡ frame_bytes frame
  pub response : Response
  pub answer : answer_to held stand frame ≡ Some response
  pub stands : StandsAs after file response.says response.stand

-- bytes are no frame of a key in its place
pub record IsRefused (held : Holding) (stand : Stand) (bytes : List ℕ) (kind : ℕ) : Type 0 where
  pub silent : sends_from held stand bytes ≡ []
  pub bad : (at : ℕ) → (stand ≡ host.Over → ⊥) → bad_in held stand at bytes ≡ Some (invalid kind at)

-- of the frames that a host owed these are left, and the others were sent, one send each
pub record SaidTo (file : List ℕ) (owed : List Frame) (stand : Stand) (journal : Journal) (now : Host) : Type 0 where
  pub rest : List Frame
  pub stands : StandsAs now file rest stand
  pub joined : flat_map frame_bytes owed ≡ concat (sent journal) ++ flat_map frame_bytes rest

-- a front of what a host owed was sent
pub record IsFrontOf (owed : List Frame) (journal : Journal) : Type 0 where
  pub rest : List ℕ
  pub joined : flat_map frame_bytes owed ≡ concat (sent journal) ++ rest

-- all that a host owed was sent, or a send failed and a front of it was
abbrev pub Says : (made : Bool) → (file : List ℕ) → (owed : List Frame) → Stand → Journal → Host → Type 0
Says true file owed stand journal now = StandsAs now file [] stand × (flat_map frame_bytes owed ≡ concat (sent journal))
Says false file owed stand journal now = IsFrontOf owed journal

-- a host that owed a frame of a reply sent a refusal instead, which ends the ask
pub record BreaksOff (before after : Host) (journal : Journal) : Type 0 where
  pub serial : ℕ
  pub place : ℕ
  pub count : ℕ
  pub owed : before.stage ≡ stage.Answering serial place count
  pub says : concat (sent journal) ≡ frame_bytes (channel.SorryFrame serial 1)
  pub ended : after.stage ≡ stage.Listening (serial + 1)

-- the frames that a host owed were sent by these moves, or a refusal was, where the count of faults rose
pub record Speaks (Went : Journal → Type 0) (made : Bool) (before now : ℕ) (Stood : (file : List ℕ) → List Frame → Stand → Type 0) (old after : Host) : Type 0 where
  pub journal : Journal
  pub went : Went journal
  pub takes : taken journal ≡ []
  pub stops : has_stopped journal ≡ not made
  pub refused : Bool
  pub counted : MatchBool refused (Rose before now) (now ≡ before)
  pub says : MatchBool refused (BreaksOff old after journal) ((file : List ℕ) (owed : List Frame) (stand : Stand) → Stood file owed stand → Says made file owed stand journal after)

abbrev pub is_lost : Turn → Bool
is_lost (turn.Answered _ _) = false
is_lost turn.Lost = true
is_lost (turn.Bad _) = false

abbrev pub is_answered : Turn → Bool
is_answered (turn.Answered _ _) = true
is_answered turn.Lost = false
is_answered (turn.Bad _) = false

abbrev pub is_bad : Turn → Bool
is_bad (turn.Answered _ _) = false
is_bad turn.Lost = false
is_bad (turn.Bad _) = true

-- whether a reading of the host's file failed
abbrev pub was_refused : Turn → Bool
was_refused (turn.Answered _ refused) = refused
was_refused turn.Lost = false
was_refused (turn.Bad _) = false

-- the bytes of the frame that was answered
abbrev pub size_of : Turn → ℕ
size_of (turn.Answered size _) = size
size_of turn.Lost = 0
size_of (turn.Bad _) = 0

-- a frame was answered, perhaps by a refusal, and the answer was sent
pub record TurnMade (refused : Bool) (held : Holding) (file : List ℕ) (stand : Stand) (journal : Journal) (now : Host) : Type 0 where
  pub frame : Frame
  pub fits : IsFrame frame
  pub taken_is : taken journal ≡ frame_bytes frame
  pub response : Response
  pub answer : answer_as refused held stand frame ≡ Some response
  pub says : concat (sent journal) ≡ flat_map frame_bytes response.says
  pub stands : StandsAs now file [] response.stand

-- a front of what a host says to what was taken was sent
pub record TurnLost (refused : Bool) (held : Holding) (stand : Stand) (journal : Journal) : Type 0 where
  pub rest : List ℕ
  pub joined : sends_refusing held (refused ∷ []) stand (taken journal) ≡ concat (sent journal) ++ rest

-- what was taken is no frame of a key in its place
pub record TurnBad (held : Holding) (stand : Stand) (journal : Journal) (kind : ℕ) : Type 0 where
  pub sends : sent journal ≡ []
  pub refused : IsRefused held stand (taken journal) kind

abbrev pub TurnSaid : Turn → (refused : Bool) → Holding → (file : List ℕ) → Stand → Journal → Host → Type 0
TurnSaid (turn.Answered _ _) refused held file stand journal now = TurnMade refused held file stand journal now
TurnSaid turn.Lost refused held file stand journal now = TurnLost refused held stand journal
TurnSaid (turn.Bad kind) refused held file stand journal now = TurnBad held stand journal kind

-- one frame of a key was taken and answered
pub record Turns (Went : Journal → Type 0) (made : Turn) (before now : ℕ) (Stood : Holding → (file : List ℕ) → Stand → Type 0) (after : Host) : Type 0 where
  pub journal : Journal
  pub went : Went journal
  pub stops : has_stopped journal ≡ is_lost made
  pub counted : is_answered made ≡ true → length (taken journal) ≡ size_of made
  pub cut : is_answered made ≡ true → IsOneFrame (taken journal) after
  pub named : (kind : ℕ) → made ≡ turn.Bad kind → BeginsAs kind (taken journal)
  pub refused : Bool
  pub refuses : MatchBool refused (Rose before now) (now ≡ before)
  pub said : (held : Holding) (file : List ℕ) (stand : Stand) → Stood held file stand → TurnSaid made refused held file stand journal after

-- why a session ended
abbrev pub Ends : Served → (stopped : Bool) → (before now : ℕ) → Type 0
Ends Bye stopped before now = (stopped ≡ false) × (now ≡ before)
Ends Depot stopped before now = (stopped ≡ false) × Rose before now
Ends Link stopped before now = stopped ≡ true
Ends (BadRequest _ _) stopped before now = stopped ≡ false

-- the frame out of its place that ended a session
abbrev pub bad_of : Served → Option InvalidFrame
bad_of Bye = None
bad_of Depot = None
bad_of Link = None
bad_of (BadRequest kind at) = Some (invalid kind at)

-- the last of what a key sent is its farewell
pub record EndsInFarewell (bytes : List ℕ) : Type 0 where
  pub front : List ℕ
  pub last : bytes ≡ front ++ frame_bytes channel.ByeFrame

-- a host that holds this was heard: what was sent is what it sends for what was taken, or a front of that where a move
-- failed; and a frame out of its place ended the session exactly where there is one
pub record SaidAll (held : Holding) (journal : Journal) (ended : Served) : Type 0 where
  pub rest : List ℕ
  pub sends : host_sends held (taken journal) ≡ concat (sent journal) ++ rest
  pub whole : has_stopped journal ≡ false → rest ≡ []
  pub bad : has_stopped journal ≡ false → bad_request held (taken journal) ≡ bad_of ended
  pub farewell : ended ≡ Bye → EndsInFarewell (taken journal)

-- a host that holds this was heard, and some of its answers were refused: what was sent is what it sends so for what was
-- taken, or a front of that where a move failed; and a frame out of its place ended the session exactly where there is one
pub record SaidRefusing (held : Holding) (refused : List Bool) (journal : Journal) (ended : Served) : Type 0 where
  pub rest : List ℕ
  pub sends : host_sends_refusing held refused (taken journal) ≡ concat (sent journal) ++ rest
  pub whole : has_stopped journal ≡ false → rest ≡ []
  pub bad : has_stopped journal ≡ false → bad_request_refusing held refused (taken journal) ≡ bad_of ended
  pub given : has_stopped journal ≡ false → AreGiven held refused (frames_of (taken journal)) host.Greeting

-- whether a session ended by the key's farewell
abbrev pub is_farewell : Served → Bool
is_farewell Bye = true
is_farewell Depot = true
is_farewell Link = false
is_farewell (BadRequest _ _) = false

-- bytes are cut into whole frames, of which the last is the key's farewell
pub record AreFramesToBye (bytes : List ℕ) : Type 0 where
  pub front : List Frame
  pub fits : All IsFrame front
  pub last : bytes ≡ flat_map frame_bytes front ++ frame_bytes channel.ByeFrame

-- of some bytes the ones behind whole frames, of this size, have a whole header of this kind
pub record NamesFrame (bytes : List ℕ) (kind at : ℕ) : Type 0 where
  pub front : List Frame
  pub fits : All IsFrame front
  pub size : length (flat_map frame_bytes front) ≡ at
  pub rest : List ℕ
  pub joined : bytes ≡ flat_map frame_bytes front ++ rest
  pub begins : BeginsAs kind rest

-- a session was served by these moves, of which the last close the link. It went as the host's file says, but for the
-- answers that were refused: each of them raised the count of the depot's faults, which else stayed
pub record Serves (Went : Journal → Type 0) (closing : Journal) (ended : Served) (before now : ℕ) (Stood : Holding → Type 0) : Type 0 where
  pub journal : Journal
  pub front : Journal
  pub closes : journal ≡ front ++ closing
  pub went : Went journal
  pub ends : Ends ended (has_stopped journal) before now
  pub farewell : is_farewell ended ≡ true → AreFramesToBye (taken journal)
  pub named : (kind at : ℕ) → ended ≡ BadRequest kind at → NamesFrame (taken journal) kind at
  pub refused : List Bool
  pub refusals : min (before + times refused) last_count ≤ now
  pub none : times refused ≡ 0 → now ≡ before
  pub refusing : (held : Holding) → Stood held → SaidRefusing held refused journal ended
  pub said : (Rose before now → ⊥) → (held : Holding) → Stood held → SaidAll held journal ended

-- the link is closed
abbrev pub closed : Journal
closed = entry Close Made ∷ []

-- a host holds this by the bytes of its file
pub record HoldsIn (found : (file : List ℕ) → Type 0) (held : Holding) (before : Host) : Type 0 where
  pub file : List ℕ
  pub is : found file
  pub holds : Holds held file before
