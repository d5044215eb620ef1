-- An integer and its distance to the lowest give each other, and a distance and its eight bytes do.
use Rattle.std.proofs.Common.{◌≡◌, ℕ, zero, suc, ◌^◌, ◌<◌, ℤ, pos, negsuc, List, [], ◌∷◌, length, get_or, nat_lt, lt-ltb, true, IsTrue, refl, sym, ap, ◌∙◌, arith, w64, ltb-true}
use Rattle.std.specs.List.{list_all}
use Rattle.std.specs.Int.{to_be_bytes, from_be_bytes}
use Rattle.std.proofs.lemmas.Nat.{from_be_bytes-to_be_bytes_8, be_bytes_8}
use Rattle.std.specs.Cmp.{first_so, second_so}
use Rattle.ghost_model.specs.forms.Cells.{above_lowest}
use Rattle.ghost_model.specs.readings.CellReading.{from_lowest}
use Rattle.ghost_model.specs.core.Database.{fits_integer}

pub above_fits : (z : ℤ) → IsTrue (fits_integer z) → above_lowest z < 2 ^ 64
above_fits (pos n) h = let f : n < 2 ^ 63 = ltb-true n (2 ^ 63) h in omega arith
above_fits (negsuc n) h = omega arith

pub from_above : (z : ℤ) → IsTrue (fits_integer z) → from_lowest (above_lowest z) ≡ z
from_above (pos n) h = let f : n < 2 ^ 63 = ltb-true n (2 ^ 63) h in grind arith
from_above (negsuc n) h = let f : n < 2 ^ 63 = ltb-true n (2 ^ 63) h in grind arith

pub above_from : (n : ℕ) → n < 2 ^ 64 → above_lowest (from_lowest n) ≡ n
above_from n h = grind arith

pub from_fits : (n : ℕ) → n < 2 ^ 64 → IsTrue (fits_integer (from_lowest n))
from_fits n h = grind arith

pub byte_at_place : (bytes : List ℕ) → IsTrue (list_all (λ byte. nat_lt byte 256) bytes) → (i : ℕ) → get_or bytes i 0 < 256
byte_at_place [] h i = omega arith
byte_at_place (x ∷ xs) h zero = ltb-true x 256 (first_so _ _ h)
byte_at_place (x ∷ xs) h (suc i) = byte_at_place xs (second_so _ _ h) i

-- bytes, place by place, are bytes
pub bytes_small : (bytes : List ℕ) → ((i : ℕ) → get_or bytes i 0 < 256) → IsTrue (list_all (λ byte. nat_lt byte 256) bytes)
bytes_small [] h = refl
bytes_small (x ∷ xs) h =
    let front : nat_lt x 256 ≡ true = lt-ltb x 256 (h 0) in
    rw (front, bytes_small xs (λ i. h (suc i))) refl

pub spelled_fits : (bytes : List ℕ) → IsTrue (list_all (λ byte. nat_lt byte 256) bytes) → from_be_bytes w64 bytes < 2 ^ 64
spelled_fits bytes h =
    let small = byte_at_place bytes h in
    omega (arith, small 0, small 1, small 2, small 3, small 4, small 5, small 6, small 7)

pub integer_read_back : (n : ℕ) → n < 2 ^ 64 → from_be_bytes w64 (to_be_bytes w64 n) ≡ n
integer_read_back = from_be_bytes-to_be_bytes_8

pub integer_spelled : (bytes : List ℕ) → length bytes ≡ 8 → IsTrue (list_all (λ byte. nat_lt byte 256) bytes)
    → bytes ≡ to_be_bytes w64 (above_lowest (from_lowest (from_be_bytes w64 bytes)))
integer_spelled bytes l h =
    sym (ap (to_be_bytes w64) (above_from _ (spelled_fits bytes h)) ∙ be_bytes_8 bytes _ l (byte_at_place bytes h) refl)
