-- When a pump stands where a journal leaves the key: its fields are what the journal has led to, for a catalog and the
-- asks of the session.
use Rattle.std.specs.Prelude.{◌≡◌, ℕ, ◌+◌, ◌-◌, ◌^◌, ◌<◌, ◌≤◌, Bool, true, false, List, [], ◌∷◌, length, take, drop, slice_get, min, Option, Some, None}
use Rattle.ghost_model.specs.core.Channel as channel
use Rattle.ghost_model.specs.core.Channel.{Catalog, Journal, Move}
use Rattle.ghost_model.specs.forms.Frames.{kind_in}
use Rattle.ghost_model.specs.core.Asks.{NumberedAsk}
use Rattle.ghost_model.specs.core.Moves.{taken}
use Rattle.ghost_model.specs.core.NextMove as next
use Rattle.ghost_model.specs.core.NextMove.{Awaits, AwaitsCatalog, AwaitsNothing, Heard, Standing, bytes_before, FrameOutcome, standing_after, next_with, heard}
use Rattle.channel_pump.specs.Forms.{Form}
use Rattle.channel_pump.specs.declared.state.Pump.{Pump}
use Rattle.channel_pump.specs.declared.state.Phase.{Phase}
use Rattle.channel_pump.specs.declared.state.Phase.TheVariants.{Greeting, Reply, Over}
use Rattle.channel_pump.specs.declared.state.Stage.{Stage}
use Rattle.channel_pump.specs.declared.state.Stage.TheVariants.{Dialling, Sending, Taking, Closing, Closed}
use Rattle.channel_pump.specs.declared.state.Outgoing.{Outgoing}
use Rattle.channel_pump.specs.declared.state.Outgoing.TheVariants.{Hello, Ask, More, Bye}
use Rattle.channel_pump.specs.declared.state.Cause.{Cause}
use Rattle.channel_pump.specs.declared.state.Cause.TheVariants.{Finished, Link, Protocol}
use Rattle.channel_pump.specs.declared.state.Want.{Want}
use Rattle.channel_pump.specs.declared.state.Want.TheVariants as want
use Rattle.channel_pump.specs.Asked.{AreAsked}
use Rattle.channel_pump.specs.Marks.{AreMarked}

-- the forms, serial, number of rows and last identifier are those of the reply that is awaited
pub record IsReplying (catalog : Catalog) (p : Pump) (asked : NumberedAsk) (serial : ℕ) (later : List NumberedAsk) (count last : ℕ) : Type 0 where
  pub asks : AreAsked catalog p.rest (asked ∷ later)
  pub its_serial : p.serial ≡ serial
  pub its_count : p.count ≡ count
  pub its_last : p.last ≡ last

-- the pump awaits the same
abbrev pub IsAwaiting : Catalog → Pump → Phase → Awaits → Type 0
IsAwaiting catalog p Greeting (AwaitsCatalog bytes) = p.missing ≡ bytes
IsAwaiting catalog p Reply (next.AwaitsReply asked serial later count last) = IsReplying catalog p asked serial later count last
IsAwaiting catalog p Over AwaitsNothing = Unit {0}
IsAwaiting catalog p _ _ = ⊥

-- before the first ask is sent, all asks are left, and the serial is the first one
pub record IsBefore (catalog : Catalog) (asks : List NumberedAsk) (p : Pump) : Type 0 where
  pub all : AreAsked catalog p.rest asks
  pub serial : p.serial ≡ 1

abbrev pub IsFresh : Catalog → List NumberedAsk → Pump → Phase → Type 0
IsFresh catalog asks p Greeting = IsBefore catalog asks p
IsFresh catalog asks p Reply = Unit {0}
IsFresh catalog asks p Over = Unit {0}

abbrev pub first_payload : List Form → List ℕ
first_payload [] = []
first_payload (form ∷ _) = form.payload

-- the frame that is sent
abbrev pub frame_due : Pump → Outgoing → channel.Frame
frame_due p Hello = channel.HelloFrame p.generation
frame_due p Ask = channel.AskFrame p.serial (first_payload p.rest)
frame_due p More = channel.MoreFrame p.serial
frame_due p Bye = channel.ByeFrame

abbrev pub is_over : Phase → Bool
is_over Greeting = false
is_over Reply = false
is_over Over = true

abbrev pub is_bye : Outgoing → Bool
is_bye Hello = false
is_bye Ask = false
is_bye More = false
is_bye Bye = true

abbrev pub is_opened : Stage → Bool
is_opened Dialling = false
is_opened (Sending _) = true
is_opened Taking = true
is_opened (Closing _) = true
is_opened (Closed _) = true

abbrev pub is_closed : Stage → Bool
is_closed Dialling = false
is_closed (Sending _) = false
is_closed Taking = false
is_closed (Closing _) = false
is_closed (Closed _) = true

abbrev pub is_link : Cause → Bool
is_link Finished = false
is_link Link = true
is_link (Protocol _ _) = false

abbrev pub is_protocol : Cause → Bool
is_protocol Finished = false
is_protocol Link = false
is_protocol (Protocol _ _) = true

abbrev pub has_stopped : Stage → Bool
has_stopped Dialling = false
has_stopped (Sending _) = false
has_stopped Taking = false
has_stopped (Closing cause) = is_link cause
has_stopped (Closed cause) = is_link cause

abbrev pub has_broken : Stage → Bool
has_broken Dialling = false
has_broken (Sending _) = false
has_broken Taking = false
has_broken (Closing cause) = is_protocol cause
has_broken (Closed cause) = is_protocol cause

-- a number of bytes, as far as 64 bits count
abbrev pub counted : ℕ → ℕ
counted bytes = min bytes (2 ^ 64 - 1)

pub record IsDialling (p : Pump) (l : Standing) : Type 0 where
  pub phase : is_over p.phase ≡ false
  pub sent : l.sent ≡ 0
  pub due : l.heard.due ≡ channel.HelloFrame p.generation ∷ []
  pub part : l.heard.part ≡ []

pub record IsSending (p : Pump) (outgoing : Outgoing) (l : Standing) : Type 0 where
  pub phase : is_over p.phase ≡ is_bye outgoing
  pub frame : slice_get l.heard.due l.sent ≡ Some (frame_due p outgoing)
  pub last : length l.heard.due ≡ l.sent + 1
  pub part : l.heard.part ≡ []

pub record IsTaking (catalog : Catalog) (p : Pump) (l : Standing) : Type 0 where
  pub phase : is_over p.phase ≡ false
  pub sent : length l.heard.due ≡ l.sent
  pub have : length l.heard.part ≡ p.have
  pub lacks : next.verdict catalog l.heard.awaits l.heard.part ≡ next.Lacking p.lacks

-- an end that was called for: nothing more is awaited, and all frames that were due were sent
pub record IsFinished (p : Pump) (l : Standing) : Type 0 where
  pub phase : is_over p.phase ≡ true
  pub sent : length l.heard.due ≡ l.sent

pub record IsInvalid (kind at : ℕ) (heard : Heard) : Type 0 where
  pub its_kind : kind ≡ kind_in heard.part
  pub its_place : at ≡ counted (bytes_before heard)

-- why a session ends
abbrev pub IsCause : Pump → Standing → Cause → Type 0
IsCause p l Finished = IsFinished p l
IsCause p l Link = Unit {0}
IsCause p l (Protocol kind at) = IsInvalid kind at l.heard

abbrev pub IsStage : Catalog → Pump → Standing → Stage → Type 0
IsStage catalog p l Dialling = IsDialling p l
IsStage catalog p l (Sending outgoing) = IsSending p outgoing l
IsStage catalog p l Taking = IsTaking catalog p l
IsStage catalog p l (Closing cause) = IsCause p l cause
IsStage catalog p l (Closed cause) = IsCause p l cause

-- the pump's fields are what a journal has led to
pub record IsLeft (catalog : Catalog) (asks : List NumberedAsk) (p : Pump) (l : Standing) : Type 0 where
  pub opened : l.opened ≡ is_opened p.stage
  pub closed : l.closed ≡ is_closed p.stage
  pub stopped : l.stopped ≡ has_stopped p.stage
  pub broken : l.heard.broken ≡ has_broken p.stage
  pub awaits : IsAwaiting catalog p p.phase l.heard.awaits
  pub fresh : IsFresh catalog asks p p.phase
  pub before : p.before ≡ counted (bytes_before l.heard)
  pub refused : AreMarked p.refused l.heard.ended
  pub stage : IsStage catalog p l p.stage

-- the pump stands where the journal leaves a session with these asks
abbrev pub IsAfter : Catalog → (asks : List NumberedAsk) → Journal → Pump → Type 0
IsAfter catalog asks journal p = IsLeft catalog asks p (standing_after catalog asks journal)

-- a page begins with the part of the frame at hand
abbrev pub Keeps : Catalog → (asks : List NumberedAsk) → Journal → (page : List ℕ) → Type 0
Keeps catalog asks journal page =
    take (length (heard catalog asks (taken journal)).part) page ≡ (heard catalog asks (taken journal)).part

-- what the pump wants
abbrev pub want_at : Pump → Stage → Want
want_at p Dialling = want.Dial
want_at p (Sending _) = want.Send
want_at p Taking = want.Take p.have p.lacks
want_at p (Closing _) = want.Close
want_at p (Closed _) = want.Closed

abbrev pub want_of : Pump → Want
want_of p = want_at p p.stage

-- what is wanted is this move, or none
abbrev pub IsWanted : (at : List ℕ) → Want → Option Move → Type 0
IsWanted at want.Dial move = move ≡ Some (channel.Dial at)
IsWanted at want.Send move = (bytes : List ℕ) × (move ≡ Some (channel.Send bytes))
IsWanted at (want.Take _ most) move = move ≡ Some (channel.Take most)
IsWanted at want.Close move = move ≡ Some channel.Close
IsWanted at want.Closed move = move ≡ None

-- the pump wants to take so many bytes, or more
abbrev pub IsTakenBy : (n : ℕ) → Want → Type 0
IsTakenBy n want.Dial = ⊥
IsTakenBy n want.Send = ⊥
IsTakenBy n (want.Take _ most) = n ≤ most
IsTakenBy n want.Close = ⊥
IsTakenBy n want.Closed = ⊥

-- the move that is wanted can be done, as a dial, a send and the close
abbrev pub is_done_by : Want → Bool
is_done_by want.Dial = true
is_done_by want.Send = true
is_done_by (want.Take _ _) = false
is_done_by want.Close = true
is_done_by want.Closed = false

-- the move that is wanted can fail, as each but the close
abbrev pub can_fail : Want → Bool
can_fail want.Dial = true
can_fail want.Send = true
can_fail (want.Take _ _) = true
can_fail want.Close = false
can_fail want.Closed = false

-- what a valid frame led to: what is awaited, and the frame that became due
abbrev pub due_at : Pump → Stage → List channel.Frame
due_at p Dialling = []
due_at p (Sending outgoing) = frame_due p outgoing ∷ []
due_at p Taking = []
due_at p (Closing _) = []
due_at p (Closed _) = []

abbrev pub IsGoing : Phase → Stage → Type 0
IsGoing phase Dialling = ⊥
IsGoing phase (Sending outgoing) = is_over phase ≡ is_bye outgoing
IsGoing phase Taking = is_over phase ≡ false
IsGoing phase (Closing _) = ⊥
IsGoing phase (Closed _) = ⊥

pub record IsTurned (catalog : Catalog) (p : Pump) (turn : FrameOutcome) : Type 0 where
  pub awaits : IsAwaiting catalog p p.phase turn.awaits
  pub due : turn.due ≡ due_at p p.stage

-- a move and its answer, as an entry of a journal
abbrev pub entry : Move → channel.Answer → channel.Entry
entry move answer = record { move = move; answer = answer }

-- the entry of a take that was answered by the first so many bytes behind the part in a page
abbrev pub taken_entry : Pump → (page : List ℕ) → (n : ℕ) → channel.Entry
taken_entry p page n = entry (channel.Take p.lacks) (channel.Piece (take n (drop p.have page)))

-- the move that is wanted is a take
abbrev pub is_take : Want → Bool
is_take want.Dial = false
is_take want.Send = false
is_take (want.Take _ _) = true
is_take want.Close = false
is_take want.Closed = false

-- a take fits a page
abbrev pub FitsPage : Want → Type 0
FitsPage want.Dial = Unit {0}
FitsPage want.Send = Unit {0}
FitsPage (want.Take at most) = (0 < most) × (at + most ≤ 2048)
FitsPage want.Close = Unit {0}
FitsPage want.Closed = Unit {0}

abbrev pub cause_at : Stage → Option Cause
cause_at Dialling = None
cause_at (Sending _) = None
cause_at Taking = None
cause_at (Closing cause) = Some cause
cause_at (Closed cause) = Some cause
