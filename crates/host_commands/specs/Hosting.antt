-- How a call of the host's program went: how far it came, what it printed, and how it ended.
use Rattle.std.specs.Prelude.{◌≡◌, ◌⊎◌, ℕ, Bool, true, false, List, [], ◌∷◌, ◌++◌, Option, None, codes, decimal}
use Rattle.std.specs.List.{list_any}
use Rattle.ghost_model.specs.core.Causes.{Rose}
use Rattle.ghost_model.specs.core.Channel.{Catalog, Answer, Journal, Listen, Accept, Made, Port, End, Failed}
use Rattle.ghost_model.specs.core.Host.{Holding, host_of, bad_request}
use Rattle.ghost_model.specs.core.Moves.{answers, taken}
use Rattle.ghost_model.specs.core.Split.{Public, SpellsImage}
use Rattle.edge_traits.specs.Links.{entry}
use Rattle.edge_traits.specs.Written.{grown, GrowsByFront}
use Rattle.host_exec.specs.Sessions.{Serves, closed, has_stopped}
use Rattle.host_exec.specs.declared.session.Served.{Served}
use Rattle.host_commands.specs.Statuses.{after_session}
use Rattle.host_commands.specs.declared.status.HostStatus.{HostStatus}
use Rattle.host_commands.specs.declared.status.HostStatus.TheVariants as status

-- how far a host came: it did not listen; it could not listen; it got a port and could not print it; it could accept no
-- key; or it served a key by these moves
pub data Course : Type 0 where
  Unopened : Course
  Unheard : Course
  Unprinted : (port : ℕ) → Course
  Uncalled : (port : ℕ) → Course
  Accepted : (port : ℕ) (session : Journal) → Course

-- the moves of a host that is to listen at an address
abbrev pub moves_of : (at : List ℕ) → Course → Journal
moves_of at Unopened = []
moves_of at Unheard = entry (Listen at) Failed ∷ []
moves_of at (Unprinted port) = entry (Listen at) (Port port) ∷ []
moves_of at (Uncalled port) = entry (Listen at) (Port port) ∷ entry Accept Failed ∷ []
moves_of at (Accepted port session) = entry (Listen at) (Port port) ∷ entry Accept Made ∷ session

abbrev pub port_line : (port : ℕ) → List ℕ
port_line port = codes "port " ++ (decimal port ++ 10 ∷ [])

-- what the sink was written: the port that listening gave, before a key is accepted, and nothing else
abbrev pub Prints : Course → (before after : Option (List ℕ)) → Type 0
Prints Unopened before after = after ≡ before
Prints Unheard before after = after ≡ before
Prints (Unprinted port) before after = GrowsByFront before (port_line port) after
Prints (Uncalled port) before after = after ≡ grown before (port_line port)
Prints (Accepted port session) before after = after ≡ grown before (port_line port)

-- why a host did not listen, where the depot's count of faults went from one value to another
abbrev pub EndsEarly : HostStatus → (before now : ℕ) → Type 0
EndsEarly status.Usage before now = now ≡ before
EndsEarly status.NoMemory before now = now ≡ before
EndsEarly status.Depot before now = Rose before now
EndsEarly status.BadVisibleFile before now = now ≡ before
EndsEarly _ before now = ⊥

-- a key was served by these moves, and the status is that of the session
pub record EndsSession (session : Journal) (ended : HostStatus) (before now : ℕ) (Stood : Holding → Type 0) : Type 0 where
  pub served : Served
  pub serves : Serves (λ journal. journal ≡ session) closed served before now Stood
  pub answers : ended ≡ after_session served

-- how a host ended that came so far
abbrev pub Ends : Course → HostStatus → (before now : ℕ) → (Stood : Holding → Type 0) → Type 0
Ends Unopened ended before now Stood = EndsEarly ended before now
Ends Unheard ended before now Stood = (ended ≡ status.Link) × (now ≡ before)
Ends (Unprinted port) ended before now Stood = (ended ≡ status.Sink) × (now ≡ before)
Ends (Uncalled port) ended before now Stood = (ended ≡ status.Link) × (now ≡ before)
Ends (Accepted port session) ended before now Stood = EndsSession session ended before now Stood

-- a host that is to listen at this address went its course: its moves, what it printed, and how it ended
pub record Hosts (Went : Journal → Type 0) (at : List ℕ) (ended : HostStatus) (printed prints : Option (List ℕ)) (before now : ℕ) (Stood : Holding → Type 0) : Type 0 where
  pub course : Course
  pub went : Went (moves_of at course)
  pub tells : Prints course printed prints
  pub ends : Ends course ended before now Stood

abbrev pub is_end : Answer → Bool
is_end End = true
is_end _ = false

-- whether the key's stream ended. After the key's farewell nothing is taken, so where it did it ended early
abbrev pub has_ended : Journal → Bool
has_ended journal = list_any is_end (answers journal)

-- the status is that of the link exactly where its count of failed calls rose or the key's stream ended early
pub record BlamesLink (Went : Journal → Type 0) (ended : HostStatus) (before now : ℕ) : Type 0 where
  pub journal : Journal
  pub went : Went journal
  pub blamed : ended ≡ status.Link → Rose before now ⊎ (has_ended journal ≡ true)
  pub spared : (ended ≡ status.Link → ⊥) → (now ≡ before) × (has_ended journal ≡ false)

-- a host holds what the public part holds whose visible image its file is
pub record HoldsImage (found : (file : List ℕ) → Type 0) (held : Holding) : Type 0 where
  pub file : List ℕ
  pub is : found file
  pub catalog : Catalog
  pub public : Public
  pub spells : SpellsImage catalog public file
  pub holds : held ≡ host_of catalog public

-- where no move failed, and the key's frames were in their places up to its farewell, all was well, or there was no memory
pub record Completes (Went : Journal → Type 0) (held : Holding) (ended : HostStatus) : Type 0 where
  pub journal : Journal
  pub went : Went journal
  pub well : has_stopped journal ≡ false → bad_request held (taken journal) ≡ None
      → (ended ≡ status.Ok) ⊎ (ended ≡ status.NoMemory)
