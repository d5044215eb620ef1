-- The leases of several cursors: each is out, and is none of the others'.
use Rattle.std.proofs.Common.{◌≡◌, ◌≢◌, ◌∙◌, ℕ, zero, suc, ◌+◌, ◌<◌, true, false, List, [], ◌∷◌, length, sum_by, ap, sym, refl, subst, get_or, slice_set, arith}
use Rattle.std.proofs.lemmas.List.Sums.{sum_by-cons}
use Rattle.page_pool.specs.Pools.{Pool, IsOut, AreOut, given, others_out}
use Rattle.page_pool.proofs.Marks.{other_was_out, other_is_another}
use Rattle.page_pool.proofs.Leases.{other_out}
use Rattle.flash_pages.specs.declared.cursor.RunCursor.{RunCursor}
use Rattle.id_merge.specs.declared.cursor.Cursor.{Cursor}
use Rattle.id_merge.specs.declared.cursor.Cursor.TheVariants.{List as OfList, Range}
use Rattle.id_merge.specs.Cursors.{cursor_at, leases_of}

pub lease_of_same : (one other : RunCursor) → OfList one ≡ OfList other → one.lease ≡ other.lease
lease_of_same one other is = let same : one ≡ other = cc in ap (λ (run : RunCursor). run.lease) same

-- what a list's cursor holds is out
pub lease_out : (pool : Pool) (cursors : List Cursor) (i : ℕ) (run : RunCursor) → cursor_at cursors i ≡ OfList run → AreOut pool (leases_of cursors) → IsOut pool run.lease
lease_out pool [] zero run is out = absurd (cc)
lease_out pool [] (suc i) run is out = absurd (cc)
lease_out pool (OfList first ∷ cursors) zero run is out =
    let P : ℕ → Type 0 = λ lease. IsOut pool lease in
    let same : first.lease ≡ run.lease = lease_of_same first run is in
    subst P same out.0
lease_out pool (OfList first ∷ cursors) (suc i) run is out =
    let rest = lease_out (given pool first.lease) cursors i run is out.1 in
    record { within = rest.within; out = other_was_out pool.out first.lease run.lease rest.out }
lease_out pool (Range low high ∷ cursors) zero run is out = absurd (cc)
lease_out pool (Range low high ∷ cursors) (suc i) run is out = lease_out pool cursors i run is out

-- two lists at different places have two
pub leases_apart :
    (pool : Pool) (cursors : List Cursor) (i j : ℕ) (run other : RunCursor) → i ≢ j → cursor_at cursors i ≡ OfList run → cursor_at cursors j ≡ OfList other
    → AreOut pool (leases_of cursors) → other.lease ≢ run.lease
leases_apart pool [] zero j run other apart is was out = absurd (cc)
leases_apart pool [] (suc i) j run other apart is was out = absurd (cc)
leases_apart pool (OfList first ∷ cursors) zero zero run other apart is was out = absurd (apart refl)
leases_apart pool (OfList first ∷ cursors) zero (suc j) run other apart is was out =
    let another = other_is_another pool.out first.lease other.lease (lease_out (given pool first.lease) cursors j other was out.1).out in
    λ same. another (same ∙ sym (lease_of_same first run is))
leases_apart pool (OfList first ∷ cursors) (suc i) zero run other apart is was out =
    let another = other_is_another pool.out first.lease run.lease (lease_out (given pool first.lease) cursors i run is out.1).out in
    λ same. another (sym same ∙ sym (lease_of_same first other was))
leases_apart pool (OfList first ∷ cursors) (suc i) (suc j) run other apart is was out =
    leases_apart (given pool first.lease) cursors i j run other (λ same. apart (ap suc same)) is was out.1
leases_apart pool (Range low high ∷ cursors) zero j run other apart is was out = absurd (cc)
leases_apart pool (Range low high ∷ cursors) (suc i) zero run other apart is was out = absurd (cc)
leases_apart pool (Range low high ∷ cursors) (suc i) (suc j) run other apart is was out =
    leases_apart pool cursors i j run other (λ same. apart (ap suc same)) is was out

-- a buffer that is out beside them is none of theirs
pub beside_leases :
    (pool : Pool) (cursors : List Cursor) (i other : ℕ) (run : RunCursor) → cursor_at cursors i ≡ OfList run
    → get_or (others_out pool (leases_of cursors)) other false ≡ true → other ≢ run.lease
beside_leases pool [] zero other run is out = absurd (cc)
beside_leases pool [] (suc i) other run is out = absurd (cc)
beside_leases pool (OfList first ∷ cursors) zero other run is out =
    let another = other_is_another pool.out first.lease other (other_out (given pool first.lease) (leases_of cursors) other out) in
    λ same. another (same ∙ sym (lease_of_same first run is))
beside_leases pool (OfList first ∷ cursors) (suc i) other run is out = beside_leases (given pool first.lease) cursors i other run is out
beside_leases pool (Range low high ∷ cursors) zero other run is out = absurd (cc)
beside_leases pool (Range low high ∷ cursors) (suc i) other run is out = beside_leases pool cursors i other run is out

-- a cursor that takes the place of one over the same list
pub leases_set :
    (cursors : List Cursor) (i : ℕ) (run now : RunCursor) → cursor_at cursors i ≡ OfList run → now.lease ≡ run.lease
    → leases_of (slice_set cursors i (OfList now)) ≡ leases_of cursors
leases_set [] zero run now is same = refl
leases_set [] (suc i) run now is same = refl
leases_set (OfList first ∷ cursors) zero run now is same = ap (λ lease. lease ∷ leases_of cursors) (same ∙ sym (lease_of_same first run is))
leases_set (OfList first ∷ cursors) (suc i) run now is same = ap (λ leases. first.lease ∷ leases) (leases_set cursors i run now is same)
leases_set (Range low high ∷ cursors) zero run now is same = absurd (cc)
leases_set (Range low high ∷ cursors) (suc i) run now is same = leases_set cursors i run now is same

-- what is counted of each of several cursors, where one of them changes
pub sum_same :
    (f g : Cursor → ℕ) (cursors : List Cursor) → ((i : ℕ) → g (cursor_at cursors i) ≡ f (cursor_at cursors i)) → sum_by g cursors ≡ sum_by f cursors
sum_same f g [] same = refl
sum_same f g (first ∷ cursors) same =
    let here : g first ≡ f first = same zero in
    omega (arith, sum_by-cons f first cursors, sum_by-cons g first cursors, here, sum_same f g cursors (λ i. same (suc i)))

pub sum_set :
    (f g : Cursor → ℕ) (cursors : List Cursor) (i : ℕ) (cursor : Cursor) → i < length cursors
    → ((k : ℕ) → k ≢ i → g (cursor_at cursors k) ≡ f (cursor_at cursors k))
    → sum_by g (slice_set cursors i cursor) + f (cursor_at cursors i) ≡ sum_by f cursors + g cursor
sum_set f g [] i cursor within same = absurd (omega arith)
sum_set f g (first ∷ cursors) zero cursor within same =
    let rest = sum_same f g cursors (λ k. same (suc k) (λ (is : suc k ≡ zero). omega (arith, is))) in
    omega (arith, sum_by-cons g cursor cursors, sum_by-cons f first cursors, rest)
sum_set f g (first ∷ cursors) (suc i) cursor within same =
    let here : g first ≡ f first = same zero (λ (is : zero ≡ suc i). omega (arith, is)) in
    let rest = sum_set f g cursors i cursor (omega arith) (λ k apart. same (suc k) (λ (is : suc k ≡ suc i). apart (omega (arith, is)))) in
    omega (arith, sum_by-cons g first (slice_set cursors i cursor), sum_by-cons f first cursors, here, rest)
