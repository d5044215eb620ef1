-- What a link in memory tells, and what its other end gives.
use Rattle.std.specs.Prelude.{◌≡◌, ℕ, ◌+◌, Bool, true, false, ◌&&◌, nat_lt, nat_le, List, drop, length, min, max, Option, None, Some, Result, OnOk, OnErr, ◌⊎◌, slice_get, slice_index_or, vec_len, vec_capacity}
use Rattle.ghost_model.specs.core.Causes.{last_count}
use Rattle.ghost_model.specs.core.Channel.{Journal}
use Rattle.edge_traits.specs.Scripts.{IsNamed}
use Rattle.edge_traits.specs.Links.{appended}
use Rattle.edge_traits.specs.Told.{entries}
use Rattle.edge_traits.specs.declared.told.ToldMoves.{ToldMoves}
use Rattle.edge_traits.specs.declared.peer.Peer.{Peer}
use Rattle.edge_traits.specs.declared.peer.PeerScript.{PeerScript}
use Rattle.edge_traits.specs.declared.mem_link.MemLink.{MemLink}

abbrev pub told_while : Bool → ToldMoves → Option Journal
told_while true moves = Some (entries moves.list.items moves.bytes.items)
told_while false moves = None

-- the moves that are told, or `None` after the room was too small
abbrev pub told_in : ToldMoves → Option Journal
told_in moves = told_while moves.telling moves

-- the moves are told, and one more with so many bytes has room
abbrev pub has_room : ToldMoves → (size : ℕ) → Bool
has_room moves size =
    moves.telling && (nat_lt (vec_len moves.list) (vec_capacity moves.list) && nat_le (vec_len moves.bytes + size) (vec_capacity moves.bytes))

-- what is told after some moves: those before and these where there is room, and else nothing
abbrev pub told_within : (room : Bool) → Option Journal → Journal → Option Journal
told_within true before more = appended before more
told_within false before more = None

-- how many moves have room, and how many bytes of them
abbrev pub move_room : ToldMoves → ℕ
move_room moves = vec_capacity moves.list

abbrev pub byte_room : ToldMoves → ℕ
byte_room moves = vec_capacity moves.bytes

-- the room is as it was
pub record SameRoom (old new : ToldMoves) : Type 0 where
  pub moves : move_room new ≡ move_room old
  pub bytes : byte_room new ≡ byte_room old

-- the journal that a link tells
abbrev pub journal_of : MemLink → Option Journal
journal_of link = told_in link.moves

-- the bytes that are still to be taken
abbrev pub left_of : Peer → List ℕ
left_of peer = drop peer.at peer.bytes.items

-- how many bytes the next take gives where it has room for so many
abbrev pub next_size : Peer → (room : ℕ) → ℕ
next_size peer room = min (min (max 1 (slice_index_or peer.pieces.items peer.takes room)) room) (length (left_of peer))

-- the other end that did nothing yet
pub record IsNew (script : PeerScript) (peer : Peer) : Type 0 where
  pub bytes : left_of peer ≡ script.bytes.now
  pub pieces : peer.pieces.items ≡ script.pieces.now
  pub no_take : peer.takes ≡ 0
  pub ports : peer.ports.items ≡ script.ports.now
  pub no_port : peer.listens ≡ 0

-- what a script says stays
pub record SamePlan (old new : Peer) : Type 0 where
  pub pieces : new.pieces.items ≡ old.pieces.items
  pub ports : new.ports.items ≡ old.ports.items

-- the port that the next listening is given
abbrev pub next_port : Peer → Option ℕ
next_port peer = slice_get peer.ports.items peer.listens

-- a call of a link that keeps so many bytes goes well exactly where the list of failing calls does not name it, it has
-- room, and there is no other reason to fail
pub record Passes {T E : Type 0} (old : MemLink) (size : ℕ) (Other : Type 0) (result : Result T E) (new : MemLink) : Type 0 where
  pub failed : OnErr result (IsNamed old.script.fails.items new.script.calls ⊎ ((has_room old.moves size ≡ false) ⊎ Other))
  pub unnamed : OnOk result (IsNamed old.script.fails.items new.script.calls → ⊥)
  pub roomy : OnOk result (has_room old.moves size ≡ true)
  pub free : OnOk result (Other → ⊥)
  pub calls : new.script.calls ≡ min (old.script.calls + 1) last_count
  pub fails : new.script.fails ≡ old.script.fails
