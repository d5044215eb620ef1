-- What stays of a pool for those whose leases a call did not use.
use Rattle.std.specs.Prelude.{◌≡◌, ℕ, length}
use Rattle.page_pool.specs.Pools.{Pool, bytes_at, page_at}

-- the same buffers are out
pub record KeepsOut (before now : Pool) : Type 0 where
  pub out : now.out ≡ before.out
  pub size : length now.pages ≡ length before.pages

-- that buffer is as it was
pub record SameBuffer (before now : Pool) (lease : ℕ) : Type 0 where
  pub bytes : bytes_at now lease ≡ bytes_at before lease
  pub filled : page_at now lease ≡ page_at before lease
