-- Bytes put into reserved room, one after another.
use Rattle.std.proofs.Common.{◌≡◌, ℕ, ◌+◌, ◌≤◌, List, ◌++◌, length, take}

-- so far `index` bytes of the piece were added
pub record Filled (before now piece : List ℕ) (index size_before size_now room_before room_now : ℕ) : Type 0 where
  pub items : now ≡ before ++ take index piece
  pub size : size_now ≡ size_before + index
  pub room : room_now ≡ room_before
  pub fits : size_before + length piece ≤ room_before
