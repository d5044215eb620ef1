-- What the entries of a session's journal tell: whether a move failed, and how many bytes it sent or took. A link counts
-- its failed calls: the count rose where one of the moves failed, and else it is as it was.
use Rattle.std.specs.Prelude.{◌≡◌, ℕ, ◌+◌, ◌≤◌, Bool, true, false, nat_le, List, [], ◌++◌, length}
use Rattle.std.specs.List.{list_any, list_all}
use Rattle.ghost_model.specs.core.Causes.{Rose}
use Rattle.ghost_model.specs.core.Channel.{Move, Dial, Listen, Accept, Send, Take, Close, Answer, Made, Port, Piece, End, Failed, Entry, Journal}
use Rattle.ghost_model.specs.core.Moves.{piece_of}

-- the bytes that a move sends
abbrev pub bytes_of : Move → List ℕ
bytes_of (Dial _) = []
bytes_of (Listen _) = []
bytes_of Accept = []
bytes_of (Send bytes) = bytes
bytes_of (Take _) = []
bytes_of Close = []

-- whether a move sent or took at most the bytes of one frame
abbrev pub is_short_entry : Entry → Bool
is_short_entry entry = nat_le (length (bytes_of entry.move) + length (piece_of entry.answer)) 2048

abbrev pub is_failure : Answer → Bool
is_failure Made = false
is_failure (Port _) = false
is_failure (Piece _) = false
is_failure End = false
is_failure Failed = true

-- whether a move failed
abbrev pub has_failed : Entry → Bool
has_failed entry = is_failure entry.answer

-- a link's count of failed calls, before and after the moves of a journal
pub record FaultsTell (before now : ℕ) (journal : Journal) : Type 0 where
  pub never_falls : before ≤ now
  pub rose : list_any has_failed journal ≡ true → Rose before now
  pub same : list_any has_failed journal ≡ false → now ≡ before

-- a link went by these moves, none of them longer than a frame, and its count of failed calls tells of them
pub record WentBy (went : Journal → Type 0) (before now : ℕ) (journal : Journal) : Type 0 where
  pub gone : went journal
  pub counts : FaultsTell before now journal
  pub short : list_all is_short_entry journal ≡ true

-- what is told of some moves and of those after them is told of all of them
pub record MovesJoin : Type 0 where
  pub none : (count : ℕ) → FaultsTell count count []
  pub two : (before between now : ℕ) (old made : Journal) → FaultsTell before between old → FaultsTell between now made → FaultsTell before now (old ++ made)
  pub short : (old made : Journal) → list_all is_short_entry old ≡ true → list_all is_short_entry made ≡ true → list_all is_short_entry (old ++ made) ≡ true
