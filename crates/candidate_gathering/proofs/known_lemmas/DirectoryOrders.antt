-- The records of a directory keep their order: at each level a list begins behind the one before it.
use Rattle.std.proofs.Common.{◌≡◌, refl, ap, ap₂, ◌∙◌, ℕ, zero, suc, ◌+◌, ◌^◌, ◌<◌, ◌≤◌, true, ◌&&◌, nat_le, List, [], ◌∷◌, ◌++◌, length, take, drop, get_or, slice_index, arith}
use Rattle.std.proofs.lemmas.Bool.{le-leb}
use Rattle.ghost_model.specs.laws.RunLaws.{NumbersAreRead}
use Rattle.ghost_model.specs.forms.Gaps.{begin_code, filling, level_bytes, list_begin}
use Rattle.ghost_model.specs.forms.Runs.{number_cell, number_in}
use Rattle.ghost_model.specs.forms.Slots.{follow, list_end}
use Rattle.climbing_index.proofs.Codes.{list_ends}
use Rattle.climbing_index.proofs.ListPlaces.{after_both, first_in, places, second_in}

-- the lists up to an entry, of which it is the last
up_to : (entry : ℕ) (lists : List (List ℕ)) → take entry (take (suc entry) lists) ≡ take entry lists
up_to zero lists = refl
up_to (suc entry) [] = refl
up_to (suc entry) (list ∷ lists) = ap (λ ls. list ∷ ls) (up_to entry lists)

its_own : (entry : ℕ) (lists : List (List ℕ)) → get_or (take (suc entry) lists) entry [] ≡ get_or lists entry []
its_own zero [] = refl
its_own zero (list ∷ lists) = refl
its_own (suc entry) [] = refl
its_own (suc entry) (list ∷ lists) = its_own entry lists

so_many : (entry : ℕ) (lists : List (List ℕ)) → entry < length lists → entry < length (take (suc entry) lists)
so_many entry [] low = absurd (omega (arith, low))
so_many zero (list ∷ lists) low = omega arith
so_many (suc entry) (list ∷ lists) low = omega (arith, so_many entry lists (omega (arith, low)))

-- a list does not begin before the place where the one before it ends, were its codes of one byte each
next_begins : (lists : List (List ℕ)) (entry : ℕ) → entry < length lists
    → list_begin lists entry + length (get_or lists entry []) ≤ list_begin lists (suc entry)
next_begins lists entry low =
    let first = take (suc entry) lists in
    let ends = list_ends first entry (so_many entry lists low) in
    let begin : list_begin first entry ≡ list_begin lists entry =
    ap₂ (λ (ls : List (List ℕ)) (l : List ℕ). length (level_bytes ls) + length (filling (length (level_bytes ls)) (begin_code l)))
    (up_to entry lists) (its_own entry lists) in
    let count = ap (λ (l : List ℕ). length l) (its_own entry lists) in
    omega (arith, ends, begin, count)

-- another list comes behind that of an entry, and its file is small
pub record GoesOn (lists : List (List ℕ)) (entry : ℕ) : Type 0 where
  pub next : suc entry < length lists
  pub small : length (level_bytes lists) < 2 ^ 32

module _ (read : NumbersAreRead) (wide : (number : ℕ) → length (number_cell number) ≡ 4) (lists : ℕ → List (List ℕ)) where
  pub follows : (entry : ℕ) (tables : List ℕ) → ((level : ℕ) → level < length tables → GoesOn (lists (slice_index tables level)) entry)
      → follow tables (places read wide lists entry tables) (places read wide lists (suc entry) tables) ≡ true
  follows entry [] each = refl
  follows entry (table ∷ tables) each =
      let own = lists table in
      let here = each 0 (omega arith) in
      let next = here.next in
      let small = here.small in
      let first = list_begin own entry in
      let count = length (get_or own entry []) in
      let later = list_begin own (suc entry) in
      let more = length (get_or own (suc entry) []) in
      let before = places read wide lists entry tables in
      let rest = places read wide lists (suc entry) tables in
      let end = list_ends own entry (omega (arith, next)) in
      let last = list_ends own (suc entry) next in
      let a : list_end ((number_cell first ++ number_cell count) ++ before) ≡ first + count =
      ap₂ (λ n m. n + m) (first_in read wide first count before (omega (arith, end, small))) (second_in read wide first count before (omega (arith, end, small))) in
      let b : number_in ((number_cell later ++ number_cell more) ++ rest) 0 ≡ later = first_in read wide later more rest (omega (arith, last, small)) in
      let same : nat_le (list_end ((number_cell first ++ number_cell count) ++ before)) (number_in ((number_cell later ++ number_cell more) ++ rest) 0) ≡ true =
      ap₂ nat_le a b ∙ le-leb (first + count) later (next_begins own entry (omega (arith, next))) in
      ap (λ t. t && follow tables (drop 8 ((number_cell first ++ number_cell count) ++ before)) (drop 8 ((number_cell later ++ number_cell more) ++ rest))) same
      ∙ (ap₂ (follow tables) (after_both read wide first count before) (after_both read wide later more rest)
      ∙ follows entry tables (λ level low. each (suc level) (omega (arith, low))))
