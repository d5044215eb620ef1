use Rattle.std.proofs.Common.{vec_len}
use Rattle.std.specs.Vec.{vec_capacity}
use Rattle.edge_traits.proofs.Filling.{Filled}
use Rattle.edge_traits.proofs.room.add.Given as goal

abbrev pub invariant-loop-byte : goal.invariant-loop-byte
invariant-loop-byte l = Filled l.initial.bytes.items l.bytes.items l.piece l.byte-index (vec_len l.initial.bytes) (vec_len l.bytes) (vec_capacity l.initial.bytes) (vec_capacity l.bytes)
