-- The loan of a buffer's bytes.
use Rattle.std.specs.Prelude.{ℕ, List}
use Rattle.std.specs.Borrow.{Lends, MutBor, Fml, u8, Array}
use Rattle.page_pool.specs.contracts.pool.PagePool.{the_row}
use Rattle.page_pool.specs.Pools.{Pool, written}

-- the pool ends with the last bytes behind a reference in the buffer of a lease
abbrev pub LendsPage : MutBor Pool → (lease : ℕ) → MutBor (List ℕ) → Fml
LendsPage pool lease r = Lends the_row (Array u8 2048) pool r (written pool.now lease)
