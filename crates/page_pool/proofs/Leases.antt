-- Laws of leases: what a call on one buffer leaves of the others, and which leases are out after a lease was taken or given.
use Rattle.std.proofs.Common.{◌≡◌, ◌≢◌, ◌∙◌, ℕ, zero, suc, ◌+◌, ◌<◌, Bool, true, false, List, [], ◌∷◌, ◌++◌, length, ap, sym, refl, subst, get_or, slice_set, None, Some, arith}
use Rattle.std.proofs.lemmas.List.{get_or-set_same, get_or-set_other, length-set}
use Rattle.page_pool.specs.Pools.{Pool, IsOut, IsFree, AreOut, ChangesPage, KeepsOthers, leased, given, all_given, others_out, free_count, written, noted, bytes_at, page_at}
use Rattle.page_pool.specs.Laws.{KeepsOut, SameBuffer}
use Rattle.page_pool.proofs.Marks.{given_back, free_within, free_not_out, other_was_out, other_is_another, given_swapped, given_counts}

-- where the same buffers are out, each lease stays out, and those beside it are the same
pub out_kept : {before now : Pool} {lease : ℕ} → KeepsOut before now → IsOut before lease → IsOut now lease
out_kept {lease = lease} keeps is = record {
  within = omega (arith, is.within, keeps.size);
  out = ap (λ o. get_or o lease false) keeps.out ∙ is.out;
}

given_kept : {before now : Pool} (lease : ℕ) → KeepsOut before now → KeepsOut (given before lease) (given now lease)
given_kept lease keeps = record { out = ap (λ o. slice_set o lease false) keeps.out; size = keeps.size }

pub outs_kept : {before now : Pool} (leases : List ℕ) → KeepsOut before now → AreOut before leases → AreOut now leases
outs_kept [] keeps are = tt
outs_kept (lease ∷ leases) keeps are = (out_kept keeps are.0, outs_kept leases (given_kept lease keeps) are.1)

pub all_given_kept :
    {before now : Pool} (leases : List ℕ) → KeepsOut before now → KeepsOut (all_given before leases) (all_given now leases)
all_given_kept [] keeps = keeps
all_given_kept (lease ∷ leases) keeps = all_given_kept leases (given_kept lease keeps)

pub others_kept : {before now : Pool} (leases : List ℕ) → KeepsOut before now → others_out now leases ≡ others_out before leases
others_kept leases keeps = (all_given_kept leases keeps).out

-- a lease of several is out, and two at different places are two
beside : (pool : Pool) (lease other : ℕ) → IsOut (given pool lease) other → IsOut pool other
beside pool lease other is = record { within = is.within; out = other_was_out pool.out lease other is.out }

pub member_out :
    (pool : Pool) (leases : List ℕ) (i d : ℕ) → i < length leases → AreOut pool leases → IsOut pool (get_or leases i d)
member_out pool [] i d within are = absurd (omega arith)
member_out pool (lease ∷ leases) zero d within are = are.0
member_out pool (lease ∷ leases) (suc i) d within are =
    beside pool lease (get_or leases i d) (member_out (given pool lease) leases i d (omega arith) are.1)

pub head_apart :
    (pool : Pool) (lease : ℕ) (leases : List ℕ) (i d : ℕ) → i < length leases → AreOut pool (lease ∷ leases) → get_or leases i d ≢ lease
head_apart pool lease leases i d within are =
    other_is_another pool.out lease (get_or leases i d) (member_out (given pool lease) leases i d within are.1).out

pub members_apart :
    (pool : Pool) (leases : List ℕ) (i j d : ℕ) → i < length leases → j < length leases → i ≢ j → AreOut pool leases
    → get_or leases i d ≢ get_or leases j d
members_apart pool [] i j d low high apart are = absurd (omega arith)
members_apart pool (lease ∷ leases) zero zero d low high apart are = absurd (apart refl)
members_apart pool (lease ∷ leases) zero (suc j) d low high apart are = λ same. head_apart pool lease leases j d (omega arith) are (sym same)
members_apart pool (lease ∷ leases) (suc i) zero d low high apart are = head_apart pool lease leases i d (omega arith) are
members_apart pool (lease ∷ leases) (suc i) (suc j) d low high apart are =
    members_apart (given pool lease) leases i j d (omega arith) (omega arith) (λ same. apart (ap suc same)) are.1

-- a buffer that is out beside some leases is out, and is none of theirs
pub other_out :
    (pool : Pool) (leases : List ℕ) (other : ℕ) → get_or (others_out pool leases) other false ≡ true → get_or pool.out other false ≡ true
other_out pool [] other is = is
other_out pool (lease ∷ leases) other is = other_was_out pool.out lease other (other_out (given pool lease) leases other is)

pub other_apart :
    (pool : Pool) (leases : List ℕ) (other i d : ℕ) → i < length leases → get_or (others_out pool leases) other false ≡ true
    → other ≢ get_or leases i d
other_apart pool [] other i d within is = absurd (omega arith)
other_apart pool (lease ∷ leases) other zero d within is =
    other_is_another pool.out lease other (other_out (given pool lease) leases other is)
other_apart pool (lease ∷ leases) other (suc i) d within is = other_apart (given pool lease) leases other i d (omega arith) is

-- a call on the buffer of one lease leaves those of all others as they were
pub change_keeps_out : {before now : Pool} {lease : ℕ} → ChangesPage before now lease → KeepsOut before now
change_keeps_out changes = record { out = changes.out; size = changes.size }

pub written_changes : (pool : Pool) (lease : ℕ) (bytes : List ℕ) → ChangesPage pool (written pool lease bytes) lease
written_changes pool lease bytes = record {
  out = refl;
  size = length-set pool.pages lease bytes;
  bytes = λ other apart. get_or-set_other pool.pages lease other bytes [] apart;
  filled = λ other apart. get_or-set_other pool.filled lease other None None apart;
}

pub noted_changes : (pool : Pool) (lease page : ℕ) → ChangesPage pool (noted pool lease page) lease
noted_changes pool lease page = record {
  out = refl;
  size = refl;
  bytes = λ other apart. refl;
  filled = λ other apart. get_or-set_other pool.filled lease other (Some page) None apart;
}

pub change_elsewhere : {before now : Pool} {lease other : ℕ} → ChangesPage before now lease → other ≢ lease → SameBuffer before now other
change_elsewhere {other = other} changes apart = record { bytes = changes.bytes other apart; filled = changes.filled other apart }

pub change_of_another :
    {before now : Pool} (leases : List ℕ) (i j d : ℕ) → i < length leases → j < length leases → j ≢ i → AreOut before leases
    → ChangesPage before now (get_or leases i d) → SameBuffer before now (get_or leases j d)
change_of_another {before = before} leases i j d low high apart are changes =
    change_elsewhere changes (members_apart before leases j i d high low apart are)

pub change_keeps_others :
    {before now : Pool} (leases : List ℕ) (i d : ℕ) → i < length leases → ChangesPage before now (get_or leases i d)
    → KeepsOthers (others_out before leases) before now
change_keeps_others {before = before} leases i d within changes = record {
  size = changes.size;
  bytes = λ other is. changes.bytes other (other_apart before leases other i d within is);
  filled = λ other is. changes.filled other (other_apart before leases other i d within is);
}

pub change_trans : {a b c : Pool} {lease : ℕ} → ChangesPage a b lease → ChangesPage b c lease → ChangesPage a c lease
change_trans first second = record {
  out = second.out ∙ first.out;
  size = second.size ∙ first.size;
  bytes = λ other apart. second.bytes other apart ∙ first.bytes other apart;
  filled = λ other apart. second.filled other apart ∙ first.filled other apart;
}

-- several calls leave the buffers beside some leases as they were
pub others_same : (others : List Bool) (pool : Pool) → KeepsOthers others pool pool
others_same others pool = record { size = refl; bytes = λ other is. refl; filled = λ other is. refl }

pub others_trans : {others : List Bool} {a b c : Pool} → KeepsOthers others a b → KeepsOthers others b c → KeepsOthers others a c
others_trans first second = record {
  size = second.size ∙ first.size;
  bytes = λ other is. second.bytes other is ∙ first.bytes other is;
  filled = λ other is. second.filled other is ∙ first.filled other is;
}

-- and those of fewer
pub others_fewer :
    {more fewer : List Bool} {before now : Pool} → ((other : ℕ) → get_or fewer other false ≡ true → get_or more other false ≡ true)
    → KeepsOthers more before now → KeepsOthers fewer before now
others_fewer among keeps = record {
  size = keeps.size;
  bytes = λ other is. keeps.bytes other (among other is);
  filled = λ other is. keeps.filled other (among other is);
}

pub same_of_others :
    {others : List Bool} {before now : Pool} {lease : ℕ} → KeepsOthers others before now → get_or others lease false ≡ true
    → SameBuffer before now lease
same_of_others {lease = lease} keeps is = record { bytes = keeps.bytes lease is; filled = keeps.filled lease is }

-- after a lease, which is none of those that were out
leased_out : (pool : Pool) (lease : ℕ) → IsFree pool lease → IsOut (leased pool lease) lease
leased_out pool lease free = record {
  within = free.within;
  out = get_or-set_same pool.out lease true false (free_within pool.out lease free.free);
}

leased_back : (pool : Pool) (lease : ℕ) → IsFree pool lease → KeepsOut pool (given (leased pool lease) lease)
leased_back pool lease free = record { out = given_back pool.out lease free.free; size = refl }

pub lease_outs :
    {now : Pool} (before : Pool) (lease : ℕ) (leases : List ℕ) → now ≡ leased before lease → IsFree before lease → AreOut before leases
    → AreOut now (lease ∷ leases)
lease_outs before lease leases is free are =
    let P : Pool → Type 0 = λ p. AreOut p (lease ∷ leases) in
    subst P (sym is) (leased_out before lease free, outs_kept leases (leased_back before lease free) are)

pub lease_others_out :
    {now : Pool} (before : Pool) (lease : ℕ) (leases : List ℕ) → now ≡ leased before lease → IsFree before lease
    → others_out now (lease ∷ leases) ≡ others_out before leases
lease_others_out before lease leases is free =
    ap (λ p. others_out p (lease ∷ leases)) is ∙ others_kept leases (leased_back before lease free)

pub lease_keeps_others :
    {now : Pool} (before : Pool) (lease : ℕ) (leases : List ℕ) → now ≡ leased before lease → IsFree before lease
    → KeepsOthers (others_out before leases) before now
lease_keeps_others before lease leases is free = record {
  size = ap (λ p. length p.pages) is;
  bytes = λ other out. ap (λ p. bytes_at p other) is;
  filled = λ other out.
      ap (λ p. page_at p other) is
      ∙ get_or-set_other before.filled lease other None None
      (λ same. free_not_out before.out lease free.free
      (let P : ℕ → Type 0 = λ k. get_or before.out k false ≡ true in subst P same (other_out before leases other out)));
}

-- after the first of some leases was given back
pub give_outs :
    {now : Pool} (before : Pool) (lease : ℕ) (leases : List ℕ) → now ≡ given before lease → AreOut before (lease ∷ leases) → AreOut now leases
give_outs before lease leases is are = let P : Pool → Type 0 = λ p. AreOut p leases in subst P (sym is) are.1

pub give_others_out :
    {now : Pool} (before : Pool) (lease : ℕ) (leases : List ℕ) → now ≡ given before lease → others_out now leases ≡ others_out before (lease ∷ leases)
give_others_out before lease leases is = ap (λ p. others_out p leases) is

pub give_keeps_others :
    {now : Pool} (before : Pool) (lease : ℕ) (others : List Bool) → now ≡ given before lease → KeepsOthers others before now
give_keeps_others before lease others is = record {
  size = ap (λ p. length p.pages) is;
  bytes = λ other out. ap (λ p. bytes_at p other) is;
  filled = λ other out. ap (λ p. page_at p other) is;
}

-- so many leases are so many buffers that are not free
pub all_given_counts :
    (pool : Pool) (leases : List ℕ) → AreOut pool leases → free_count (all_given pool leases) ≡ free_count pool + length leases
all_given_counts pool [] are = omega arith
all_given_counts pool (lease ∷ leases) are =
    omega (arith, all_given_counts (given pool lease) leases are.1, given_counts pool.out lease are.0.out)

-- the order of leases does not matter
pub outs_swapped : (pool : Pool) (a b : ℕ) (leases : List ℕ) → AreOut pool (a ∷ b ∷ leases) → AreOut pool (b ∷ a ∷ leases)
outs_swapped pool a b leases are =
    let apart = other_is_another pool.out a b are.1.0.out in (
      beside pool a b are.1.0,
      (
        record {
          within = are.0.within;
          out = get_or-set_other pool.out b a false false (λ same. apart (sym same)) ∙ are.0.out;
        },
        outs_kept leases (record { out = given_swapped pool.out b a; size = refl }) are.1.1,
      ),
    )

pub all_given_swapped :
    (pool : Pool) (a b : ℕ) (leases : List ℕ) → all_given pool (a ∷ b ∷ leases) ≡ all_given pool (b ∷ a ∷ leases)
all_given_swapped pool a b leases = ap (λ o. all_given (record pool { out = o }) leases) (given_swapped pool.out a b)

pub outs_to_front :
    (pool : Pool) (leases : List ℕ) (lease : ℕ) (later : List ℕ) → AreOut pool (leases ++ lease ∷ later)
    → AreOut pool (lease ∷ (leases ++ later))
outs_to_front pool [] lease later are = are
outs_to_front pool (first ∷ leases) lease later are = outs_swapped pool first lease (leases ++ later) (are.0, outs_to_front (given pool first) leases lease later are.1)

pub outs_from_front :
    (pool : Pool) (leases : List ℕ) (lease : ℕ) (later : List ℕ) → AreOut pool (lease ∷ (leases ++ later))
    → AreOut pool (leases ++ lease ∷ later)
outs_from_front pool [] lease later are = are
outs_from_front pool (first ∷ leases) lease later are =
    let swapped = outs_swapped pool lease first (leases ++ later) are in
    (swapped.0, outs_from_front (given pool first) leases lease later swapped.1)

pub all_given_to_front :
    (pool : Pool) (leases : List ℕ) (lease : ℕ) (later : List ℕ)
    → all_given pool (leases ++ lease ∷ later) ≡ all_given pool (lease ∷ (leases ++ later))
all_given_to_front pool [] lease later = refl
all_given_to_front pool (first ∷ leases) lease later =
    all_given_to_front (given pool first) leases lease later ∙ all_given_swapped pool first lease (leases ++ later)

-- the leases of two holders
pub all_given-append :
    (pool : Pool) (leases later : List ℕ) → all_given pool (leases ++ later) ≡ all_given (all_given pool leases) later
all_given-append pool [] later = refl
all_given-append pool (lease ∷ leases) later = all_given-append (given pool lease) leases later

pub outs_first : (pool : Pool) (leases later : List ℕ) → AreOut pool (leases ++ later) → AreOut pool leases
outs_first pool [] later are = tt
outs_first pool (lease ∷ leases) later are = (are.0, outs_first (given pool lease) leases later are.1)

pub outs_later : (pool : Pool) (leases later : List ℕ) → AreOut pool (leases ++ later) → AreOut (all_given pool leases) later
outs_later pool [] later are = are
outs_later pool (lease ∷ leases) later are = outs_later (given pool lease) leases later are.1

pub outs_joined :
    (pool : Pool) (leases later : List ℕ) → AreOut pool leases → AreOut (all_given pool leases) later → AreOut pool (leases ++ later)
outs_joined pool [] later are rest = rest
outs_joined pool (lease ∷ leases) later are rest = (are.0, outs_joined (given pool lease) leases later are.1 rest)

-- what the first does with its leases leaves the second its own, and their buffers as they were
all_given_size : (pool : Pool) (leases : List ℕ) → length (all_given pool leases).pages ≡ length pool.pages
all_given_size pool [] = refl
all_given_size pool (lease ∷ leases) = all_given_size (given pool lease) leases

pub holder_keeps_outs :
    (before now : Pool) (leases leases' later : List ℕ) → AreOut before (leases ++ later) → AreOut now leases'
    → others_out now leases' ≡ others_out before leases → length now.pages ≡ length before.pages → AreOut now (leases' ++ later)
holder_keeps_outs before now leases leases' later are mine others size =
    outs_joined now leases' later mine
    (outs_kept later
    (record { out = others; size = all_given_size now leases' ∙ size ∙ sym (all_given_size before leases) })
    (outs_later before leases later are))

pub holder_keeps_buffer :
    {before now : Pool} (leases later : List ℕ) (i d : ℕ) → i < length later → AreOut before (leases ++ later)
    → KeepsOthers (others_out before leases) before now → SameBuffer before now (get_or later i d)
holder_keeps_buffer {before = before} leases later i d within are keeps =
    same_of_others keeps (member_out (all_given before leases) later i d within (outs_later before leases later are)).out
