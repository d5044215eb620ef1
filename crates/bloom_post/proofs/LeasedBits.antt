-- The bits of a filter, and what a write to the buffer of one of its leases leaves.
use Rattle.std.proofs.Common.{◌≡◌, ◌≢◌, ℕ, zero, suc, ◌+◌, ◌/◌, ◌%◌, ◌<◌, ◌∙◌, ap, sym, subst, inl, inr, Bool, true, false, ◌||◌, refl, List, [], length, get_or, replicate, nat_eq, eq-eqb, ne_eqb, arith}
use Rattle.std.specs.List.{Contains}
use Rattle.std.proofs.lemmas.List.{get_or-set_same, get_or-set_other}
use Rattle.std.proofs.lemmas.List.Folds.{list_any_at}
use Rattle.std.proofs.lemmas.Bool.{cases_eq}
use Rattle.std.proofs.lemmas.Nat.Bits.{bit_at-zero}
use Rattle.std.specs.Int.{bit_at}
use Rattle.page_pool.specs.Pools.{Pool, IsOut, AreOut, KeepsOthers, bytes_at, written, others_out}
use Rattle.page_pool.specs.Laws.{KeepsOut}
use Rattle.page_pool.proofs.Leases.{member_out, members_apart, written_changes, change_keeps_others, others_kept, others_trans, outs_kept}
use Rattle.bloom_post.specs.Places.{size_of, has_bit, is_bit}
use Rattle.bloom_post.specs.Filters.{KeepsBeside, StandsFor, is_set}

-- the buffer of a lease is written
pub lease_out :
    (pool : Pool) (leases : List ℕ) (i lease : ℕ) → lease ≡ get_or leases i 0 → i < length leases → AreOut pool leases → IsOut pool lease
lease_out pool leases i lease at within are = subst (λ other. IsOut pool other) (sym at) (member_out pool leases i 0 within are)

pub written_beside :
    (pool : Pool) (leases : List ℕ) (i lease : ℕ) (bytes : List ℕ) → lease ≡ get_or leases i 0 → i < length leases
    → KeepsBeside leases pool (written pool lease bytes)
written_beside pool leases i lease bytes at within =
    subst (λ other. KeepsBeside leases pool (written pool other bytes)) (sym at) (record {
      out = refl;
      kept = change_keeps_others leases i 0 within (written_changes pool (get_or leases i 0) bytes);
    })

-- and the others are kept by one write after another
pub beside_keeps_out : {before now : Pool} {leases : List ℕ} → KeepsBeside leases before now → KeepsOut before now
beside_keeps_out keeps = record { out = keeps.out; size = keeps.kept.size }

pub beside_outs : {before now : Pool} (leases : List ℕ) → KeepsBeside leases before now → AreOut before leases → AreOut now leases
beside_outs leases keeps are = outs_kept leases (beside_keeps_out keeps) are

pub beside_trans : {a b c : Pool} (leases : List ℕ) → KeepsBeside leases a b → KeepsBeside leases b c → KeepsBeside leases a c
beside_trans {b = b} {c = c} leases first second = record {
  out = second.out ∙ first.out;
  kept =
      others_trans first.kept
      (subst (λ (others : List Bool). KeepsOthers others b c) (others_kept leases (beside_keeps_out first)) second.kept);
}

-- bits in the buffer that was written, and in the others
bits_here :
    (pool : Pool) (filter : List ℕ) (i : ℕ) (bytes : List ℕ) (bit : ℕ) → AreOut pool filter → i < length filter → bit / 16384 ≡ i
    → is_set (written pool (get_or filter i 0) bytes) filter bit ≡ is_bit bytes (bit % 16384)
unfolding is_set
bits_here pool filter i bytes bit are within here =
    ap (λ k. is_bit (bytes_at (written pool (get_or filter i 0) bytes) (get_or filter k 0)) (bit % 16384)) here
    ∙ ap (λ (page : List ℕ). is_bit page (bit % 16384))
    (get_or-set_same pool.pages (get_or filter i 0) bytes [] (member_out pool filter i 0 within are).within)

bits_elsewhere :
    (pool : Pool) (filter : List ℕ) (i : ℕ) (bytes : List ℕ) (bit : ℕ) → AreOut pool filter → i < length filter
    → bit / 16384 < length filter → bit / 16384 ≢ i
    → is_set (written pool (get_or filter i 0) bytes) filter bit ≡ is_set pool filter bit
unfolding is_set
bits_elsewhere pool filter i bytes bit are within low apart =
    ap (λ (page : List ℕ). is_bit page (bit % 16384))
    (get_or-set_other pool.pages (get_or filter i 0) (get_or filter (bit / 16384) 0) bytes []
    (members_apart pool filter (bit / 16384) i 0 low within apart are))

same_places : (other bit : ℕ) → other / 16384 ≡ bit / 16384 → nat_eq (other % 16384) (bit % 16384) ≡ nat_eq other bit
same_places other bit here =
    elim (cases_eq other bit) [
      | inl same ↦ eq-eqb (other % 16384) (bit % 16384) (ap (λ n. n % 16384) same) ∙ sym (eq-eqb other bit same)
      | inr apart ↦ ne_eqb (other % 16384) (bit % 16384) (λ same. apart (omega arith)) ∙ sym (ne_eqb other bit apart)
    ]

-- one bit set
pub bit_set_in :
    (pool : Pool) (filter : List ℕ) (bit : ℕ) (bytes : List ℕ) → AreOut pool filter → bit < size_of (length filter)
    → ((other : ℕ) → is_bit bytes other ≡ (nat_eq other (bit % 16384) || is_bit (bytes_at pool (get_or filter (bit / 16384) 0)) other))
    → (other : ℕ) → other < size_of (length filter)
    → is_set (written pool (get_or filter (bit / 16384) 0) bytes) filter other ≡ (nat_eq other bit || is_set pool filter other)
unfolding is_set
bit_set_in pool filter bit bytes are within set other low =
    elim (cases_eq (other / 16384) (bit / 16384)) [
      | inl here ↦
          bits_here pool filter (bit / 16384) bytes other are (omega arith) here
          ∙ set (other % 16384)
          ∙ ap (λ (t : Bool). t || is_bit (bytes_at pool (get_or filter (bit / 16384) 0)) (other % 16384)) (same_places other bit here)
          ∙ ap (λ k. nat_eq other bit || is_bit (bytes_at pool (get_or filter k 0)) (other % 16384)) (sym here)
      | inr there ↦
          bits_elsewhere pool filter (bit / 16384) bytes other are (omega arith) (omega arith) there
          ∙ sym (ap (λ (t : Bool). t || is_set pool filter other) (ne_eqb other bit (λ same. there (ap (λ n. n / 16384) same))))
    ]

-- a page of zeros
get_or_zeros : (count place : ℕ) → get_or (replicate {A = ℕ} count 0) place 0 ≡ 0
get_or_zeros zero place = refl
get_or_zeros (suc count) zero = refl
get_or_zeros (suc count) (suc place) = get_or_zeros count place

no_bit : (count place : ℕ) → is_bit (replicate {A = ℕ} count 0) place ≡ false
unfolding is_bit
no_bit count place = ap (λ n. nat_eq (bit_at n (place % 8)) 1) (get_or_zeros count (place / 8)) ∙ ap (λ n. nat_eq n 1) (bit_at-zero (place % 8))

pub zero_more :
    {now : Pool} (pool : Pool) (filter : List ℕ) (i count : ℕ) → AreOut pool filter → i < length filter
    → now ≡ written pool (get_or filter i 0) (replicate count 0)
    → ((bit : ℕ) → bit < size_of i → is_set pool filter bit ≡ false)
    → (bit : ℕ) → bit < size_of (i + 1) → is_set now filter bit ≡ false
zero_more pool filter i count are within is unset bit low =
    ap (λ (p : Pool). is_set p filter bit) is
    ∙ elim (cases_eq (bit / 16384) i) [
      | inl here ↦ bits_here pool filter i (replicate count 0) bit are within here ∙ no_bit count (bit % 16384)
      | inr there ↦ bits_elsewhere pool filter i (replicate count 0) bit are within (omega arith) there ∙ unset bit (omega arith)
    ]

-- a bit of an identifier that was added is set
pub bit_of_member :
    (pool : Pool) (filter ids : List ℕ) (id bit : ℕ) → StandsFor pool filter ids → Contains ids id → bit < size_of (length filter)
    → has_bit (size_of (length filter)) id bit ≡ true → is_set pool filter bit ≡ true
bit_of_member pool filter ids id bit stands has within is =
    stands.bits bit within
    ∙ list_any_at (λ (other : ℕ). has_bit (size_of (length filter)) other bit) ids has.0 id has.1
    (ap (λ (other : ℕ). has_bit (size_of (length filter)) other bit) has.2 ∙ is)

-- the bits stay where the bytes do
pub bits_stay :
    (before now : Pool) (filter ids : List ℕ)
    → ((i : ℕ) → i < length filter → bytes_at now (get_or filter i 0) ≡ bytes_at before (get_or filter i 0))
    → StandsFor before filter ids → StandsFor now filter ids
unfolding is_set
bits_stay before now filter ids same stands = record {
  bits = λ bit within.
      ap (λ (page : List ℕ). is_bit page (bit % 16384)) (same (bit / 16384) (omega (arith, within))) ∙ stands.bits bit within;
}
