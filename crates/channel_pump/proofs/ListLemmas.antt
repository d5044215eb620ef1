-- Lists that are not empty, and places in a list of bytes.
use Rattle.std.proofs.Common.{◌≡◌, ◌<◌, ◌≤◌, ◌+◌, ◌-◌, ℕ, false, List, [], ◌∷◌, length, drop, arith}
use Rattle.std.proofs.lemmas.List.{length-drop}
use Rattle.ghost_model.specs.core.Schema.{is_empty}

pub not_empty : {X : Type 0} (xs : List X) → is_empty xs ≡ false → 0 < length xs
not_empty [] e = cc
not_empty (x ∷ xs) e = omega arith

pub within_bytes : (bytes : List ℕ) (at count : ℕ) → 0 < count → count ≤ length (drop at bytes) → at + count ≤ length bytes
within_bytes bytes at count some room = let long : length (drop at bytes) ≡ length bytes - at = length-drop at bytes in omega (arith, some, room, long)
