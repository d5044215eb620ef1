-- What goes over the channel, as data: what both sides know beforehand (the catalog), what the key asks, the frames
-- that carry it, and the moves of one end with their answers.
use Rattle.std.specs.Prelude.{ℕ, Bool, List, slice_index}
use Rattle.ghost_model.specs.core.Schema.{Schema}
use Rattle.ghost_model.specs.core.Query.{Test}

-- schema, number of rows of each table, generation, and version of the format
pub record Catalog : Type 0 where
  pub schema : Schema
  pub counts : List ℕ
  pub generation : ℕ
  pub version : ℕ

-- the number of rows of a table
abbrev pub count_of : Catalog → (table : ℕ) → ℕ
count_of cat table = slice_index cat.counts table

-- a condition of an ask: a test of a visible column of its table, and whether the next one is of its group
pub record ColumnTest : Type 0 where
  pub column : ℕ
  pub test : Test
  pub more : Bool

-- an ask: one table, the columns whose cells are wanted (ascending) and the conditions, of each group of which a row meets one
pub record Ask : Type 0 where
  pub table : ℕ
  pub columns : List ℕ
  pub tests : List ColumnTest

-- frames of the key (HelloFrame to ByeFrame) and of the host (WelcomeFrame to SorryFrame). AskFrame, WelcomeFrame and
-- RowsFrame carry their payload's bytes, WelcomeFrame those after its first byte, which is 1 in the last WELCOME frame
pub data Frame : Type 0 where
  HelloFrame : (generation : ℕ) → Frame
  AskFrame : (serial : ℕ) (payload : List ℕ) → Frame
  MoreFrame : (serial : ℕ) → Frame
  ByeFrame : Frame
  WelcomeFrame : (last : ℕ) (part : List ℕ) → Frame
  RowsFrame : (serial : ℕ) (payload : List ℕ) → Frame
  DoneFrame : (serial : ℕ) (total : ℕ) → Frame
  SorryFrame : (serial : ℕ) (code : ℕ) → Frame

-- a move on the channel, by either end
pub data Move : Type 0 where
  Dial Listen : (at : List ℕ) → Move
  Accept : Move
  Send : (bytes : List ℕ) → Move
  Take : (most : ℕ) → Move
  Close : Move

-- what a move was answered: done, done with a port, a piece of the stream, its end, or a failure
pub data Answer : Type 0 where
  Made : Answer
  Port : ℕ → Answer
  Piece : List ℕ → Answer
  End Failed : Answer

pub record Entry : Type 0 where
  pub move : Move
  pub answer : Answer

-- the moves of one call with their answers, the oldest first
abbrev pub Journal : Type 0
Journal = List Entry
