-- A host in the key's own process: where it stands, and which of the bytes that it said were not taken. Each move of the
-- key on the link to it is made at once: a frame that is sent is answered by frames that are then owed, and a take gets
-- the next owed bytes, as many as it asks for or as there are.
use Rattle.std.specs.Prelude.{◌≡◌, ℕ, List, [], ◌∷◌, ◌++◌, take, drop, flat_map, Some}
use Rattle.ghost_model.specs.core.Channel.{Frame, Move, Dial, Listen, Accept, Send, Take, Close, Answer, Made, Piece, End, Entry, Journal}
use Rattle.ghost_model.specs.forms.Frames.{IsFrame, frame_bytes}
use Rattle.ghost_model.specs.core.Host.{Holding, Stand, Greeting, Response, answer_to}

pub record Desk : Type 0 where
  pub stand : Stand
  pub owed : List ℕ

-- before the first move
abbrev pub first_desk : Desk
first_desk = record { stand = Greeting; owed = [] }

-- a frame was sent, and is answered by what the host holds
pub record Hears (held : Holding) (before : Desk) (bytes : List ℕ) (answer : Answer) (after : Desk) : Type 0 where
  pub made : answer ≡ Made
  pub answers : (frame : Frame) (response : Response) → IsFrame frame → bytes ≡ frame_bytes frame
      → answer_to held before.stand frame ≡ Some response
      → after ≡ record { stand = response.stand; owed = before.owed ++ flat_map frame_bytes response.says }

-- bytes were taken
abbrev pub handed : (most : ℕ) → List ℕ → Answer
handed most [] = End
handed most (byte ∷ owed) = Piece (take most (byte ∷ owed))

pub record Hands (before : Desk) (most : ℕ) (answer : Answer) (after : Desk) : Type 0 where
  pub given : answer ≡ handed most before.owed
  pub rest : after ≡ record { stand = before.stand; owed = drop most before.owed }

pub record Stays (before : Desk) (answer : Answer) (after : Desk) : Type 0 where
  pub made : answer ≡ Made
  pub same : after ≡ before

-- one move
abbrev pub serves_move : Holding → Desk → Move → Answer → Desk → Type 0
serves_move held before (Dial _) answer after = Stays before answer after
serves_move held before (Listen _) answer after = Unit {0}
serves_move held before Accept answer after = Unit {0}
serves_move held before (Send bytes) answer after = Hears held before bytes answer after
serves_move held before (Take most) answer after = Hands before most answer after
serves_move held before Close answer after = Stays before answer after

abbrev pub serves : Holding → Desk → Entry → Desk → Type 0
serves held before entry after = serves_move held before entry.move entry.answer after

-- the moves of a journal, one after another
abbrev pub ServedFrom : Holding → Desk → Journal → Desk → Type 0
ServedFrom held before [] after = before ≡ after
ServedFrom held before (entry ∷ later) after =
    (between : Desk) × serves held before entry between × ServedFrom held between later after
