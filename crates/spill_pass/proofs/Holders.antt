-- The leases of a writer and of the lists that are merged: what the one does leaves the others theirs.
use Rattle.std.proofs.Common.{◌≡◌, ◌≢◌, ℕ, zero, suc, true, false, List, [], ◌∷◌, subst, get_or}
use Rattle.std.specs.Prelude.{⊤}
use Rattle.page_pool.specs.Pools.{Pool, IsOut, AreOut, KeepsOthers, given, others_out}
use Rattle.page_pool.specs.Laws.{SameBuffer}
use Rattle.page_pool.proofs.Marks.{other_was_out, other_is_another}
use Rattle.page_pool.proofs.Leases.{outs_swapped, all_given_swapped, others_fewer, same_of_others}
use Rattle.id_merge.specs.declared.cursor.Cursor.{Cursor}
use Rattle.id_merge.specs.declared.cursor.Cursor.TheVariants.{List as OfList, Range}
use Rattle.id_merge.specs.Cursors.{cursor_at, leases_of}

-- the lease of a list, if a cursor has one, is another one
abbrev pub IsAnother : (lease : ℕ) → Cursor → Type 0
IsAnother lease (OfList run) = run.lease ≢ lease
IsAnother lease (Range low high) = ⊤

-- the lease of a list, if a cursor has one, is out
abbrev pub HasOut : Pool → Cursor → Type 0
HasOut pool (OfList run) = IsOut pool run.lease
HasOut pool (Range low high) = ⊤

pub out_before : (pool : Pool) (lease : ℕ) (cursor : Cursor) → HasOut (given pool lease) cursor → HasOut pool cursor
out_before pool lease (OfList run) is = record { within = is.within; out = other_was_out pool.out lease run.lease is.out }
out_before pool lease (Range low high) is = tt

pub each_out : (pool : Pool) (cursors : List Cursor) (i : ℕ) → AreOut pool (leases_of cursors) → HasOut pool (cursor_at cursors i)
each_out pool [] zero are = tt
each_out pool [] (suc i) are = tt
each_out pool (OfList run ∷ cursors) zero are = are.0
each_out pool (OfList run ∷ cursors) (suc i) are = out_before pool run.lease (cursor_at cursors i) (each_out (given pool run.lease) cursors i are.1)
each_out pool (Range low high ∷ cursors) zero are = tt
each_out pool (Range low high ∷ cursors) (suc i) are = each_out pool cursors i are

pub another : (pool : Pool) (lease : ℕ) (cursor : Cursor) → HasOut (given pool lease) cursor → IsAnother lease cursor
another pool lease (OfList run) is = other_is_another pool.out lease run.lease is.out
another pool lease (Range low high) is = tt

pub each_another :
    (pool : Pool) (lease : ℕ) (cursors : List Cursor) (i : ℕ) → AreOut pool (lease ∷ leases_of cursors) → IsAnother lease (cursor_at cursors i)
each_another pool lease cursors i are = another pool lease (cursor_at cursors i) (each_out (given pool lease) cursors i are.1)

-- a lease is out beside the others
pub out_beside :
    (pool : Pool) (lease : ℕ) (leases : List ℕ) → AreOut pool (lease ∷ leases) → get_or (others_out pool leases) lease false ≡ true
out_beside pool lease [] are = are.0.out
out_beside pool lease (first ∷ leases) are = out_beside (given pool first) lease leases (outs_swapped pool lease first leases are).1

-- what is out beside all is out beside the others
pub out_beside_fewer :
    (pool : Pool) (lease : ℕ) (leases : List ℕ) (other : ℕ) → get_or (others_out pool (lease ∷ leases)) other false ≡ true
    → get_or (others_out pool leases) other false ≡ true
out_beside_fewer pool lease [] other is = other_was_out pool.out lease other is
out_beside_fewer pool lease (first ∷ leases) other is =
    let P : Pool → Type 0 = λ pool. get_or pool.out other false ≡ true in
    out_beside_fewer (given pool first) lease leases other (subst P (all_given_swapped pool lease first leases) is)

-- a call on the buffers of the others
pub others_move :
    {pool later : Pool} (lease : ℕ) (leases : List ℕ) → KeepsOthers (others_out pool leases) pool later
    → KeepsOthers (others_out pool (lease ∷ leases)) pool later
others_move {pool = pool} lease leases keeps = others_fewer (λ other is. out_beside_fewer pool lease leases other is) keeps

pub same_beside :
    {pool later : Pool} (lease : ℕ) (leases : List ℕ) → AreOut pool (lease ∷ leases) → KeepsOthers (others_out pool leases) pool later
    → SameBuffer pool later lease
same_beside {pool = pool} lease leases are keeps = same_of_others keeps (out_beside pool lease leases are)
