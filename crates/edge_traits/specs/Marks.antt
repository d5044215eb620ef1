-- Marks of pages, one bit each: number b of the list has those of block b, its lowest bit that of the first page.
use Rattle.std.specs.Prelude.{ℕ, ◌/◌, ◌%◌, Bool, List, nat_eq, slice_index}
use Rattle.std.specs.Int.{bit_at}

-- the page is marked
unfoldable pub is_marked : List ℕ → ℕ → Bool
is_marked marks page = nat_eq (bit_at (slice_index marks (page / 64)) (page % 64)) 1
