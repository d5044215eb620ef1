-- What a filter stands for. A filter is the list of its leases.
use Rattle.std.specs.Prelude.{◌≡◌, ℕ, ◌/◌, ◌%◌, ◌<◌, Bool, List, length, get_or}
use Rattle.std.specs.List.{list_any}
use Rattle.page_pool.specs.Pools.{Pool, KeepsOthers, bytes_at, others_out}
use Rattle.bloom_post.specs.Places.{size_of, has_bit, is_bit}

-- whether a bit of a filter is set: its first 16,384 lie in the buffer of its first lease
unfoldable pub is_set : Pool → (filter : List ℕ) → (bit : ℕ) → Bool
is_set pool filter bit = is_bit (bytes_at pool (get_or filter (bit / 16384) 0)) (bit % 16384)

-- a bit is set exactly where it is a bit of one of these identifiers
pub record StandsFor (pool : Pool) (filter : List ℕ) (ids : List ℕ) : Type 0 where
  pub bits :
      (bit : ℕ) → bit < size_of (length filter) → is_set pool filter bit ≡ list_any (λ id. has_bit (size_of (length filter)) id bit) ids

-- the same buffers are out, and those beside these leases' are as they were
pub record KeepsBeside (leases : List ℕ) (before now : Pool) : Type 0 where
  pub out : now.out ≡ before.out
  pub kept : KeepsOthers (others_out before leases) before now
