-- What a move does to a link to a host in the key's own process. The link serves as a host does that holds what its host
-- holds, as long as no reading of the host's file fails, and each frame is sent when nothing is owed: so a key sends
-- them that makes its next moves alone. Over a depot that is sure of the host's file no reading fails.
use Rattle.std.specs.Prelude.{◌≡◌, ◌≤◌, ℕ, ◌+◌, ◌*◌, Bool, true, false, List, [], ◌∷◌, ◌++◌, Option, None, Some}
use Rattle.ghost_model.specs.core.Causes.{Rose}
use Rattle.ghost_model.specs.core.Channel.{Move, Dial, Listen, Accept, Send, Take, Close, Entry, Journal}
use Rattle.ghost_model.specs.core.Host.{Holding}
use Rattle.edge_traits.specs.Files.{Files}
use Rattle.edge_traits.specs.Links.{Steps, faults_after}
use Rattle.host_exec.specs.Hosts.{name_of, steps_of}
use Rattle.session_laws.specs.Serving.{Desk, serves, ServedFrom}
use Rattle.local_links.specs.Desks.{Owes, ReadsWell, size_of}
use Rattle.local_links.specs.declared.host_link.HostLink.{HostLink}

-- the depot that has the host's file, and the count of the link's own faults
abbrev pub depot_of : {D : Type 0} → HostLink D → D
depot_of link = link.depot

abbrev pub faults_of : {D : Type 0} → HostLink D → ℕ
faults_of link = link.faults

-- the depot is sure of the host's file
abbrev pub IsSureLink : {D : Type 0} → (sure : D → List ℕ → Type 0) → HostLink D → Type 0
IsSureLink sure link = sure link.depot (name_of link.host)

-- whether a move is one of a host alone
abbrev pub listens : Move → Bool
listens (Dial _) = false
listens (Listen _) = true
listens Accept = true
listens (Send _) = false
listens (Take _) = false
listens Close = false

-- a link to a host that holds this stands at a desk
abbrev pub IsAt : {D : Type 0} → (contents : D → Option Files) → Holding → HostLink D → Desk → Type 0
IsAt contents held link desk = Owes held (contents link.depot) link.host link.speech desk.owed desk.stand

-- what is sent comes when nothing is owed
abbrev pub comes_free : Desk → Move → Type 0
comes_free desk (Dial _) = Unit {0}
comes_free desk (Listen _) = Unit {0}
comes_free desk Accept = Unit {0}
comes_free desk (Send _) = desk.owed ≡ []
comes_free desk (Take _) = Unit {0}
comes_free desk Close = Unit {0}

-- a move was served, and the link then stands at another desk
pub record Served {D : Type 0} (contents : D → Option Files) (held : Holding) (before : Desk) (made : Entry) (after : HostLink D) : Type 0 where
  pub desk : Desk
  pub serves : serves held before made desk
  pub stands : IsAt contents held after desk

-- what one move does
pub record Moves {D : Type 0} (contents : D → Option Files) (faults : D → ℕ) (sure : D → List ℕ → Type 0) (before : HostLink D) (made : Entry) (after : HostLink D) : Type 0 where
  pub never_falls : faults before.depot ≤ faults after.depot
  pub counted : after.faults ≡ faults_after made.answer before.faults
  -- no move of a key fails
  pub quiet : listens made.move ≡ false → after.faults ≡ before.faults
  pub stays_sure : IsSureLink sure before → IsSureLink sure after
  pub calm : IsSureLink sure before → faults after.depot ≡ faults before.depot
  pub served : ReadsWell (IsSureLink sure before) (faults before.depot) (faults after.depot) → (held : Holding) (desk : Desk)
      → IsAt contents held before desk → comes_free desk made.move → Served contents held desk made after

-- at most so many takes give bytes yet
abbrev pub steps_left : {D : Type 0} → HostLink D → ℕ
steps_left link = steps_of link.host * 4096 + size_of link.speech

-- some of the bytes that were owed were handed out, and the others are still owed
pub record Handed (bytes part : List ℕ) (Owed : List ℕ → Type 0) : Type 0 where
  pub rest : List ℕ
  pub joined : bytes ≡ part ++ rest
  pub owes : Owed rest

-- the next bytes were handed out, or none is owed
abbrev pub HandsOn : (bytes : List ℕ) → (handed : Option ℕ) → (part : ℕ → List ℕ) → (Owed : List ℕ → Type 0) → Type 0
HandsOn bytes None part Owed = Handed bytes [] Owed × (bytes ≡ [])
HandsOn bytes (Some count) part Owed = Handed bytes (part count) Owed

-- each frame of a journal is sent when nothing is owed
abbrev pub SendsFree : Holding → Desk → Journal → Type 0
SendsFree held desk [] = Unit {0}
SendsFree held desk (made ∷ later) = comes_free desk made.move × ((after : Desk) → serves held desk made after → SendsFree held after later)

-- a journal was served from a desk on, and the link then stands at another
pub record IsServed {D : Type 0} (contents : D → Option Files) (held : Holding) (desk : Desk) (journal : Journal) (after : HostLink D) : Type 0 where
  pub last : Desk
  pub served : ServedFrom held desk journal last
  pub stands : IsAt contents held after last

-- by whatever moves such a link went, they were served as by a host that holds what its host holds
abbrev pub SessionsAreServed : {D : Type 0} → (contents : D → Option Files) → (faults : D → ℕ) → (sure : D → List ℕ → Type 0) → Type 0
SessionsAreServed {D} contents faults sure =
    (before after : HostLink D) (journal : Journal) (held : Holding) (desk : Desk) → Steps (Moves contents faults sure) before journal after
    → (Rose (faults before.depot) (faults after.depot) → ⊥) → IsAt contents held before desk → SendsFree held desk journal
    → IsServed contents held desk journal after

-- a journal was served, the depot is as sure of the host's file as before, and its count of faults is the same
pub record IsServedSurely {D : Type 0} (contents : D → Option Files) (faults : D → ℕ) (sure : D → List ℕ → Type 0) (held : Holding) (desk : Desk) (before : HostLink D) (journal : Journal) (after : HostLink D) : Type 0 where
  pub served : IsServed contents held desk journal after
  pub sure_still : IsSureLink sure after
  pub calm : faults after.depot ≡ faults before.depot

-- over a depot that is sure of the host's file they were served so
abbrev pub SureSessionsAreServed : {D : Type 0} → (contents : D → Option Files) → (faults : D → ℕ) → (sure : D → List ℕ → Type 0) → Type 0
SureSessionsAreServed {D} contents faults sure =
    (before after : HostLink D) (journal : Journal) (held : Holding) (desk : Desk) → Steps (Moves contents faults sure) before journal after
    → IsSureLink sure before → IsAt contents held before desk → SendsFree held desk journal
    → IsServedSurely contents faults sure held desk before journal after
