-- Marks of pages, bit by bit: what a write to one number of them does to the marks of its block, and to the others.
use Rattle.std.proofs.Common.{◌≡◌, ◌≢◌, ℕ, zero, suc, ◌*◌, ◌/◌, ◌%◌, ◌^◌, ◌-◌, ◌<◌, ◌∙◌, ap, sym, inl, inr, true, false, refl, List, length, get_or, nat_eq, arith}
use Rattle.std.proofs.Math.ListN.{set, replicate}
use Rattle.std.proofs.lemmas.List.{get_or-set_other, get_or-replicate}
use Rattle.std.proofs.lemmas.Bool.{cases_eq}
use Rattle.std.proofs.lemmas.Grind.{get_or-set_at}
use Rattle.std.proofs.lemmas.Nat.Bits.{bit_at-zero, bit_at_ones, bit_at_clear_same, bit_at_clear_other}
use Rattle.std.specs.Int.{bit_at, bit_not, w64}
use lib.Bits.{bit_and}
use Rattle.edge_traits.specs.Marks.{is_marked}

-- a page of the block whose number was written
pub block_same :
    (marks : List ℕ) (block word page : ℕ) → block < length marks → page / 64 ≡ block
    → is_marked (set marks block word) page ≡ nat_eq (bit_at word (page % 64)) 1
unfolding is_marked
block_same marks block word page within here =
    ap (λ n. nat_eq (bit_at n (page % 64)) 1) (get_or-set_at marks block (page / 64) word 0 here within)

-- a page of another block
pub block_other :
    (marks : List ℕ) (block word page : ℕ) → page / 64 ≢ block → is_marked (set marks block word) page ≡ is_marked marks page
unfolding is_marked
block_other marks block word page apart =
    ap (λ n. nat_eq (bit_at n (page % 64)) 1) (get_or-set_other marks block (page / 64) word 0 apart)

-- a number all of whose bits are set, and one without any
pub block_set :
    (marks : List ℕ) (block page : ℕ) → block < length marks → page / 64 ≡ block
    → is_marked (set marks block (2 ^ 64 - 1)) page ≡ true
block_set marks block page within here =
    block_same marks block (2 ^ 64 - 1) page within here
    ∙ ap (λ n. nat_eq n 1) (bit_at_ones 64 (page % 64) (omega arith))

pub block_cleared :
    (marks : List ℕ) (block page : ℕ) → block < length marks → page / 64 ≡ block
    → is_marked (set marks block 0) page ≡ false
block_cleared marks block page within here =
    block_same marks block 0 page within here ∙ ap (λ n. nat_eq n 1) (bit_at-zero (page % 64))

-- one bit cleared
pub page_cleared :
    (marks : List ℕ) (page : ℕ) → page / 64 < length marks
    → is_marked (set marks (page / 64) (bit_and (get_or marks (page / 64) 0) (bit_not w64 (1 * 2 ^ (page % 64) % 2 ^ 64)))) page ≡ false
page_cleared marks page within =
    block_same marks (page / 64) _ page within refl
    ∙ ap (λ n. nat_eq n 1) (bit_at_clear_same w64 (get_or marks (page / 64) 0) (page % 64) (omega arith))

pub page_kept :
    (marks : List ℕ) (page other : ℕ) → page / 64 < length marks → other ≢ page
    → is_marked (set marks (page / 64) (bit_and (get_or marks (page / 64) 0) (bit_not w64 (1 * 2 ^ (page % 64) % 2 ^ 64)))) other
    ≡ is_marked marks other
unfolding is_marked
page_kept marks page other within apart =
    elim (cases_eq (other / 64) (page / 64)) [
      | inl here ↦
          block_same marks (page / 64) _ other within here
          ∙ ap (λ n. nat_eq n 1) (bit_at_clear_other w64 (get_or marks (page / 64) 0) (page % 64) (omega arith) (other % 64) (omega arith) (λ e. apart (omega arith)))
          ∙ ap (λ n. nat_eq (bit_at (get_or marks n 0) (other % 64)) 1) (sym here)
      | inr there ↦ block_other marks (page / 64) _ other there
    ]

-- marks that are all alike
pub all_marked : (count page : ℕ) → page < 64 * count → is_marked (replicate count (2 ^ 64 - 1)) page ≡ true
unfolding is_marked
all_marked count page within =
    ap (λ n. nat_eq (bit_at n (page % 64)) 1) (get_or-replicate count (page / 64) (2 ^ 64 - 1) 0 (omega arith))
    ∙ ap (λ n. nat_eq n 1) (bit_at_ones 64 (page % 64) (omega arith))

-- a list of zeros has zeros, and is read as zero past its end
get_or_zeros : (count place : ℕ) → get_or (replicate {A = ℕ} count 0) place 0 ≡ 0
get_or_zeros zero place = refl
get_or_zeros (suc count) zero = refl
get_or_zeros (suc count) (suc place) = get_or_zeros count place

pub none_marked : (count page : ℕ) → is_marked (replicate {A = ℕ} count 0) page ≡ false
unfolding is_marked
none_marked count page =
    ap (λ n. nat_eq (bit_at n (page % 64)) 1) (get_or_zeros count (page / 64)) ∙ ap (λ n. nat_eq n 1) (bit_at-zero (page % 64))
