-- Where a host stands: what of its frames is still to be said, and where it then stands in the words of the definition.
-- What of a reply is still to come follows from the row of the table at which it goes on.
use Rattle.std.specs.Prelude.{◌≡◌, ◌≤◌, ◌<◌, ◌+◌, ◌-◌, ◌/◌, ℕ, List, [], ◌∷◌, ◌++◌, length, take, drop, map, Option, Some, None, Bool, true, false, ◌==◌, if◌then◌else◌}
use Rattle.ghost_model.specs.core.Channel.{Frame, HelloFrame, ByeFrame, MoreFrame, DoneFrame, SorryFrame}
use Rattle.ghost_model.specs.core.Causes.{Rose}
use Rattle.ghost_model.specs.forms.Frames.{frame_bytes}
use Rattle.ghost_model.specs.core.Asks.{RowCells}
use Rattle.ghost_model.specs.core.Host.{Stand, Response, rows_frame, grouped, most_part, welcomes_of, goes_on}
use Rattle.ghost_model.specs.core.Host as host
use Rattle.host_exec.specs.RowBytes.{Form, replies_at, reply_width}
use Rattle.host_exec.specs.Pieces.{IsAhead}
use Rattle.host_exec.specs.declared.piece.Piece.{Piece}
use Rattle.host_exec.specs.declared.stage.Stage.{Stage}
use Rattle.host_exec.specs.declared.stage.Stage.TheVariants.{Greeting, Welcoming, Listening, Answering, Replying, Over}

-- what a reply is made of: the ask over the bytes of rows, the file, where the rows of the table begin in it, how many there
-- are, and those that were read ahead
pub record Source : Type 0 where
  pub form : Form
  pub file : List ℕ
  pub start : ℕ
  pub rows : ℕ
  pub piece : Piece

-- the rows of the reply that the table gives from a place on
abbrev pub left_from : Source → (place : ℕ) → List RowCells
left_from source place = replies_at source.form source.file source.start place (source.rows - place)

-- the rows that were read ahead are those of the table from a place on
abbrev pub GoesOn : Source → (place : ℕ) → Type 0
GoesOn source place = IsAhead source.form.width source.piece source.file source.start place

-- the rows that one frame has at most
abbrev pub most_rows : Source → ℕ
most_rows source = 2040 / reply_width source.form

-- what is still to come of a reply, so many rows having been sent before
abbrev pub reply_left : (most serial sent : ℕ) → List RowCells → List Frame
reply_left most serial sent rows = map (rows_frame serial) (grouped most rows) ++ DoneFrame serial (sent + length rows) ∷ []

abbrev pub response : List Frame → Stand → Response
response owed stand = record { says = owed; stand = stand }

-- a host with this catalog that replies from this source has these frames still to say, and then stands there
abbrev pub Stands : (catalog : List ℕ) → Source → Stage → (owed : List Frame) → Stand → Type 0
Stands catalog source Greeting owed stand = (owed ≡ []) × (stand ≡ host.Greeting)
Stands catalog source (Welcoming at) owed stand =
    (owed ≡ welcomes_of (grouped most_part (drop at catalog))) × (stand ≡ host.Listening 1)
Stands catalog source (Listening next) owed stand = (owed ≡ []) × (stand ≡ host.Listening next)
Stands catalog source (Answering serial place sent) owed stand =
    (goes_on serial (reply_left (most_rows source) serial sent (left_from source place)) ≡ Some (response owed stand)) × GoesOn source place
Stands catalog source (Replying serial place sent) owed stand =
    (owed ≡ []) × (stand ≡ host.Replying serial (reply_left (most_rows source) serial sent (left_from source place))) × GoesOn source place
Stands catalog source Over owed stand = (owed ≡ []) × (stand ≡ host.Over)

-- the next of the frames was said, in so many bytes of `out`
pub record Says (catalog : List ℕ) (source : Source) (owed : List Frame) (stand : Stand) (size : ℕ) (out : List ℕ) (stage : Stage) : Type 0 where
  pub frame : Frame
  pub rest : List Frame
  pub owed_are : owed ≡ frame ∷ rest
  pub spelled : take size out ≡ frame_bytes frame
  pub stands : Stands catalog source stage rest stand

-- how many bytes of the catalog were said, where it is being said
abbrev pub said_of : Stage → ℕ
said_of (Welcoming at) = at
said_of _ = 0

-- the row of the table at which a reply goes on
abbrev pub place_of : Stage → ℕ
place_of (Answering serial place sent) = place
place_of (Replying serial place sent) = place
place_of _ = 0

-- how many rows of a reply were sent
abbrev pub sent_of : Stage → ℕ
sent_of (Answering serial place sent) = sent
sent_of (Replying serial place sent) = sent
sent_of _ = 0

-- what is kept of a session fits the catalog and the table, of whose rows so many were read ahead
pub record IsWithin (catalog rows ahead : ℕ) (stage : Stage) : Type 0 where
  pub said : said_of stage < catalog
  pub sent : sent_of stage ≤ place_of stage
  pub place : place_of stage + ahead ≤ rows

-- a frame of the key that is no ask leads from one stage to another
abbrev pub turned : Stage → Frame → Option Stage
turned Greeting (HelloFrame _) = Some (Welcoming 0)
turned (Listening _) ByeFrame = Some Over
turned (Replying serial place sent) (MoreFrame other) = if other == serial then Some (Answering serial place sent) else None
turned _ _ = None

-- whether a host has a frame to say
abbrev pub owes : Stage → Bool
owes (Welcoming _) = true
owes (Answering _ _ _) = true
owes _ = false

-- the ask with this serial was ended by a refusal, since the count of faults rose; no depot that is sure of the file has one
pub record Refuses (Sure : Type 0) (before after serial size : ℕ) (out : List ℕ) (stage : Stage) : Type 0 where
  pub rose : Rose before after
  pub unsure : Sure → ⊥
  pub spelled : take size out ≡ frame_bytes (SorryFrame serial 1)
  pub ended : stage ≡ Listening (serial + 1)

-- whether a host may stand here after a frame that it said: it says its catalog further, or awaits a frame of the key
abbrev pub rests : Stage → Bool
rests (Welcoming _) = true
rests (Listening _) = true
rests (Replying _ _ _) = true
rests _ = false
