-- What follows for a filter from what it stands for.
use Rattle.std.specs.Prelude.{◌≡◌, ℕ, ◌<◌, ◌≤◌, true, List, length, get_or}
use Rattle.std.specs.List.{Contains}
use Rattle.page_pool.specs.Pools.{Pool, bytes_at}
use Rattle.bloom_post.specs.Filters.{StandsFor, is_set}

-- it still stands for the same identifiers where its buffers have the same bytes
abbrev pub FiltersStay : Type 0
FiltersStay =
    (before now : Pool) (filter ids : List ℕ)
    → ((i : ℕ) → i < length filter → bytes_at now (get_or filter i 0) ≡ bytes_at before (get_or filter i 0))
    → StandsFor before filter ids → StandsFor now filter ids

-- one of two pages for identifiers among which are those from 1 to 40,000 has every bit set
abbrev pub FillsTwoPages : Type 0
FillsTwoPages =
    (pool : Pool) (filter ids : List ℕ) → length filter ≡ 2 → ((id : ℕ) → 1 ≤ id → id ≤ 40000 → Contains ids id)
    → StandsFor pool filter ids → (bit : ℕ) → bit < 32768 → is_set pool filter bit ≡ true
