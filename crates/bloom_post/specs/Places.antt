-- Which bits of a filter belong to an identifier, and where a bit lies.
use Rattle.std.specs.Prelude.{ℕ, ◌-◌, ◌*◌, ◌/◌, ◌%◌, ◌^◌, Bool, List, [], ◌∷◌, get_or, nat_eq}
use Rattle.std.specs.List.{list_any}
use Rattle.std.specs.Int.{bit_at}

-- how many pages a filter has in a pool of so many buffers
abbrev pub pages_of : (buffers : ℕ) → ℕ
pages_of buffers = (buffers - 2) / 3

-- how many bits lie in so many pages
abbrev pub size_of : (pages : ℕ) → ℕ
size_of pages = 16384 * pages

-- an identifier times a factor at 32 bits, without the lowest twelve
abbrev pub spread : (factor id : ℕ) → ℕ
spread factor id = id * factor % 2 ^ 32 / 4096

-- the three bits of an identifier among so many
abbrev pub bits_of : (size id : ℕ) → List ℕ
bits_of size id = (id % size) ∷ (spread 2654435761 id % size) ∷ (spread 2246822519 id % size) ∷ []

-- whether a bit is one of an identifier's
abbrev pub has_bit : (size id bit : ℕ) → Bool
has_bit size id bit = list_any (nat_eq bit) (bits_of size id)

-- whether a bit of a page is set: eight lie in a byte, the lowest first
unfoldable pub is_bit : (bytes : List ℕ) → (place : ℕ) → Bool
is_bit bytes place = nat_eq (bit_at (get_or bytes (place / 8) 0) (place % 8)) 1
