-- Page buffers as clauses see them. A lease is the number of its buffer.
use Rattle.std.specs.Prelude.{◌≡◌, ◌≢◌, ℕ, ◌<◌, ◌≤◌, Bool, true, false, not, List, [], ◌∷◌, length, replicate, get_or, slice_set, count_by, Option, Some, None}

pub record Pool : Type 0 where
  -- what each buffer holds
  pub pages : List (List ℕ)
  -- which buffers are out
  pub out : List Bool
  -- the page of the flash that a buffer was filled from, where nothing was written into it since
  pub filled : List (Option ℕ)

abbrev pub bytes_at : Pool → (lease : ℕ) → List ℕ
bytes_at pool lease = get_or pool.pages lease []

abbrev pub page_at : Pool → (lease : ℕ) → Option ℕ
page_at pool lease = get_or pool.filled lease None

-- a buffer is out
pub record IsOut (pool : Pool) (lease : ℕ) : Type 0 where
  pub within : lease < length pool.pages
  pub out : get_or pool.out lease false ≡ true

-- a buffer is not out
pub record IsFree (pool : Pool) (lease : ℕ) : Type 0 where
  pub within : lease < length pool.pages
  pub free : get_or pool.out lease true ≡ false

-- how many buffers are not out
abbrev pub free_count : Pool → ℕ
free_count pool = count_by not pool.out

-- a pool of so many buffers, none of which is out
pub record IsNew (buffers : ℕ) (pool : Pool) : Type 0 where
  pub size : length pool.pages ≡ buffers
  pub out : pool.out ≡ replicate buffers false
  pub free : free_count pool ≡ buffers

-- no buffer of a pool is out, and there are as many as a pool has at least
pub record IsIdle (pool : Pool) : Type 0 where
  pub enough : 8 ≤ length pool.pages
  pub free : free_count pool ≡ length pool.pages

-- after a lease of a buffer, of which no page is known to lie there
abbrev pub leased : Pool → (lease : ℕ) → Pool
leased pool lease = record pool { out = slice_set pool.out lease true; filled = slice_set pool.filled lease None }

-- after a lease was given back
abbrev pub given : Pool → (lease : ℕ) → Pool
given pool lease = record pool { out = slice_set pool.out lease false }

-- after bytes were written into a buffer
abbrev pub written : Pool → (lease : ℕ) → (bytes : List ℕ) → Pool
written pool lease bytes = record pool { pages = slice_set pool.pages lease bytes; filled = slice_set pool.filled lease None }

-- after it was noted that a buffer was filled from a page
abbrev pub noted : Pool → (lease page : ℕ) → Pool
noted pool lease page = record pool { filled = slice_set pool.filled lease (Some page) }

-- the buffer of a lease alone may have changed
pub record ChangesPage (before now : Pool) (lease : ℕ) : Type 0 where
  pub out : now.out ≡ before.out
  pub size : length now.pages ≡ length before.pages
  pub bytes : (other : ℕ) → other ≢ lease → bytes_at now other ≡ bytes_at before other
  pub filled : (other : ℕ) → other ≢ lease → page_at now other ≡ page_at before other

-- each of these leases is out, and no two are one
abbrev pub AreOut : Pool → (leases : List ℕ) → Type 0
AreOut pool [] = Unit {0}
AreOut pool (lease ∷ leases) = IsOut pool lease × AreOut (given pool lease) leases

-- after all of these leases were given back
abbrev pub all_given : Pool → (leases : List ℕ) → Pool
all_given pool [] = pool
all_given pool (lease ∷ leases) = all_given (given pool lease) leases

-- which buffers are out beside these leases
abbrev pub others_out : Pool → (leases : List ℕ) → List Bool
others_out pool leases = (all_given pool leases).out

-- the buffers that are out beside some leases are as they were
pub record KeepsOthers (others : List Bool) (before now : Pool) : Type 0 where
  pub size : length now.pages ≡ length before.pages
  pub bytes : (other : ℕ) → get_or others other false ≡ true → bytes_at now other ≡ bytes_at before other
  pub filled : (other : ℕ) → get_or others other false ≡ true → page_at now other ≡ page_at before other
