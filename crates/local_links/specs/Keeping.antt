-- A link that keeps a journal of another: each move is made on that one, and its line goes to the end of a file.
use Rattle.std.specs.Prelude.{◌≡◌, ℕ, Bool, true, ◌+◌, nat_le, List, [], length, Option, None, Some, if◌then◌else◌}
use Rattle.std.specs.List.{list_all}
use Rattle.ghost_model.specs.core.Channel.{Move, Dial, Listen, Accept, Send, Take, Close, Entry, Journal}
use Rattle.ghost_model.specs.core.Moves.{lines, piece_of}
use Rattle.edge_traits.specs.Files.{Files}
use Rattle.local_links.specs.Journaling.{Log, log, Extends}
use Rattle.local_links.specs.declared.journaled.Journaled.{Journaled}

-- the bytes that a move sends
abbrev pub bytes_of : Move → List ℕ
bytes_of (Dial _) = []
bytes_of (Listen _) = []
bytes_of Accept = []
bytes_of (Send bytes) = bytes
bytes_of (Take _) = []
bytes_of Close = []

-- a line has room for the bytes of one frame, which were sent or taken
abbrev pub is_short : Entry → Bool
is_short entry = nat_le (length (bytes_of entry.move) + length (piece_of entry.answer)) 2048

-- how many bytes a move asks for
abbrev pub asks_for : Move → ℕ
asks_for (Dial _) = 0
asks_for (Listen _) = 0
asks_for Accept = 0
asks_for (Send _) = 0
asks_for (Take most) = most
asks_for Close = 0

-- whether no more bytes came than were asked for
abbrev pub is_within : Entry → Bool
is_within entry = nat_le (length (piece_of entry.answer)) (asks_for entry.move)

-- where the journal stands
abbrev pub log_of : {L D : Type 0} → (contents : D → Option Files) → (faults append_faults : D → ℕ) → Journaled L D → Log
log_of contents faults append_faults link = log (contents link.depot.now) (faults link.depot.now) (append_faults link.depot.now) link.failed

-- the file that is named, if one is
abbrev pub named : {L D : Type 0} → Journaled L D → Option (List ℕ)
named link = if link.is_named then Some link.name.now else None

-- text was to be added to the file, if one is named
abbrev pub Writes : Option (List ℕ) → (text : List ℕ) → Log → Log → Type 0
Writes None text before after = after ≡ before
Writes (Some name) text before after = Extends name text before after

-- the other link went by these moves, by which no more came than was asked for, and their lines were to be written
pub record Kept {L D : Type 0} (Went : L → Journal → L → Type 0) (contents : D → Option Files) (faults append_faults : D → ℕ) (before : Journaled L D) (journal : Journal) (after : Journaled L D) : Type 0 where
  pub same_link : after.link.ghost_name ≡ before.link.ghost_name
  pub same_depot : after.depot.ghost_name ≡ before.depot.ghost_name
  pub same_name : named after ≡ named before
  pub moved : Went before.link.now journal after.link.now
  pub within : list_all is_within journal ≡ true
  pub wrote : list_all is_short journal ≡ true
      → Writes (named before) (lines journal) (log_of contents faults append_faults before) (log_of contents faults append_faults after)
