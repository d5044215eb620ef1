-- How a link in memory keeps its moves: each with its lengths, and all their bytes one after another.
use Rattle.std.specs.Prelude.{ℕ, ◌+◌, List, [], ◌∷◌, take, drop, Result, Ok, Err}
use Rattle.ghost_model.specs.core.Channel as channel
use Rattle.ghost_model.specs.core.Channel.{Entry, Journal}
use Rattle.edge_traits.specs.Links.{entry, done, listening, gave}
use Rattle.edge_traits.specs.declared.told.Told.{Told}
use Rattle.edge_traits.specs.declared.told.Told.TheVariants.{Dial, Listen, Accept, Send, Take, Close}

-- the bytes that a take gave
abbrev pub given : {E : Type 0} → Result ℕ E → ℕ
given (Ok count) = count
given (Err _) = 0

-- how many bytes are kept of a move: its address, what it sent, or what it took
abbrev pub size_of : Told → ℕ
size_of (Dial size _) = size
size_of (Listen size _) = size
size_of (Accept _) = 0
size_of (Send size _) = size
size_of (Take _ answer) = given answer
size_of Close = 0

-- a move, with its bytes at the front of some bytes
abbrev pub entry_of : Told → List ℕ → Entry
entry_of (Dial size answer) bytes = entry (channel.Dial (take size bytes)) (done answer)
entry_of (Listen size answer) bytes = entry (channel.Listen (take size bytes)) (listening answer)
entry_of (Accept answer) bytes = entry channel.Accept (done answer)
entry_of (Send size answer) bytes = entry (channel.Send (take size bytes)) (done answer)
entry_of (Take most answer) bytes = entry (channel.Take most) (gave answer bytes)
entry_of Close bytes = entry channel.Close channel.Made

-- all moves, with their bytes
abbrev pub entries : List Told → List ℕ → Journal
entries [] bytes = []
entries (told ∷ more) bytes = entry_of told bytes ∷ entries more (drop (size_of told) bytes)

-- how many bytes are kept of all moves
abbrev pub sizes : List Told → ℕ
sizes [] = 0
sizes (told ∷ more) = size_of told + sizes more
