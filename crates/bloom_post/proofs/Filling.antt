-- The identifiers from 1 to 40,000 have each of 32,768 bits as the first of one of them.
use Rattle.std.proofs.Common.{◌≡◌, ℕ, zero, suc, ◌%◌, ◌<◌, ◌≤◌, ◌∙◌, ap, sym, true, List, length, eq-eqb, arith}
use Rattle.std.specs.List.{Contains}
use Rattle.std.proofs.lemmas.Bool.{or_left}
use Rattle.page_pool.specs.Pools.{Pool}
use Rattle.bloom_post.specs.Places.{size_of}
use Rattle.bloom_post.specs.Filters.{StandsFor, is_set}
use Rattle.bloom_post.proofs.LeasedBits.{bit_of_member}

set_by :
    (pool : Pool) (filter ids : List ℕ) (id bit : ℕ) → length filter ≡ 2 → Contains ids id → StandsFor pool filter ids → bit < 32768
    → bit ≡ id % 32768 → is_set pool filter bit ≡ true
set_by pool filter ids id bit two has stands within first =
    let size : size_of (length filter) ≡ 32768 = omega (arith, two) in
    bit_of_member pool filter ids id bit stands has (omega (arith, size))
    (or_left _ _ (eq-eqb bit (id % size_of (length filter)) (first ∙ ap (λ m. id % m) (sym size))))

pub every_bit :
    (pool : Pool) (filter ids : List ℕ) → length filter ≡ 2 → ((id : ℕ) → 1 ≤ id → id ≤ 40000 → Contains ids id)
    → StandsFor pool filter ids → (bit : ℕ) → bit < 32768 → is_set pool filter bit ≡ true
every_bit pool filter ids two among stands zero within =
    set_by pool filter ids 32768 zero two (among 32768 (omega arith) (omega arith)) stands within (omega arith)
every_bit pool filter ids two among stands (suc bit) within =
    set_by pool filter ids (suc bit) (suc bit) two (among (suc bit) (omega arith) (omega arith)) stands within (omega arith)
