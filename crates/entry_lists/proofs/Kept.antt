-- A buffer that is as it was has what reads gave.
use Rattle.std.proofs.Common.{◌≡◌, ℕ, true, List, sym, subst}
use Rattle.std.specs.Prelude.{IfSome, Option, Some, None}
use Rattle.edge_traits.specs.Devices.{Device, GaveSince}
use Rattle.page_pool.specs.Laws.{SameBuffer}
use Rattle.page_pool.specs.Pools.{Pool, bytes_at, page_at}
use Rattle.flash_pages.specs.Reads.{WasGiven}

gave_on :
    (since : ℕ) (before now : Device) (held : Option ℕ) (bytes : List ℕ)
    → ((at page : ℕ) (bytes : List ℕ) → before.gave at page bytes ≡ true → now.gave at page bytes ≡ true)
    → IfSome held (GaveSince since before bytes) → IfSome held (GaveSince since now bytes)
gave_on since before now None bytes gave was = tt
gave_on since before now (Some page) bytes gave was = record { at = was.at; from = was.from; gave = gave was.at page bytes was.gave }

pub was_kept :
    {pool later : Pool} (since : ℕ) (before now : Device) (lease : ℕ) → SameBuffer pool later lease
    → ((at page : ℕ) (bytes : List ℕ) → before.gave at page bytes ≡ true → now.gave at page bytes ≡ true)
    → WasGiven since before pool lease → WasGiven since now later lease
was_kept {pool = pool} {later = later} since before now lease same gave was =
    let D : Option ℕ → Type 0 = λ held. IfSome held (GaveSince since now (bytes_at later lease)) in
    let B : List ℕ → Type 0 = λ bytes. IfSome (page_at pool lease) (GaveSince since now bytes) in
    subst D (sym same.filled) (subst B (sym same.bytes) (gave_on since before now (page_at pool lease) (bytes_at pool lease) gave was))
