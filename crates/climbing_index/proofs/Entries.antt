-- The places in an entry.
use Rattle.std.proofs.Common.{◌≡◌, ap, sym, ◌∙◌, ℕ, zero, suc, ◌+◌, ◌-◌, ◌*◌, ◌≤◌, true, nat_le, List, [], ◌∷◌, length, take, drop, length-drop, Some, slice_get, arith}
use Rattle.std.proofs.Math.Seq.{take-length}
use Rattle.std.proofs.lemmas.Bool.{and_parts, leb-true}
use Rattle.std.proofs.lemmas.List.{drop-drop}
use Rattle.ghost_model.specs.forms.Slots.{list_end}
use Rattle.climbing_index.specs.declared.directory.LevelFile.{LevelFile}
use Rattle.climbing_index.specs.Directories.{are_places}

-- the list of each level ends within its file
pub ends_within : (levels : List LevelFile) (bytes : List ℕ) → are_places levels bytes ≡ true
    → (level : ℕ) (file : LevelFile) → slice_get levels level ≡ Some file → list_end (drop (8 * level) bytes) ≤ file.count
ends_within [] bytes e level file at = absurd (cc (at))
ends_within (one ∷ levels) bytes e zero file at =
    let both = and_parts (nat_le (list_end bytes) one.count) (are_places levels (drop 8 bytes)) e in
    let here = leb-true (list_end bytes) one.count both.0 in
    let same : one ≡ file = cc in
    let counts = ap (λ (f : LevelFile). f.count) same in
    omega (arith, here, counts)
ends_within (one ∷ levels) bytes e (suc level) file at =
    let both = and_parts (nat_le (list_end bytes) one.count) (are_places levels (drop 8 bytes)) e in
    let rest = ends_within levels (drop 8 bytes) both.1 level file at in
    let n : 8 + 8 * level ≡ 8 * suc level = omega arith in
    let same = ap list_end (drop-drop (8 * level) 8 bytes ∙ ap (λ k. drop k bytes) n) in
    omega (arith, rest, same)

-- what stands from a place on
pub from_place : (bytes : List ℕ) (at : ℕ) → take (length bytes - at) (drop at bytes) ≡ drop at bytes
from_place bytes at = ap (λ n. take n (drop at bytes)) (sym (length-drop at bytes)) ∙ take-length (drop at bytes)
