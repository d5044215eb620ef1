-- Numbers in lists that were kept by a test, and entries of mapped lists.
use Rattle.std.proofs.Common.{◌≡◌, ◌∙◌, refl, ap, sym, ℕ, zero, suc, ◌+◌, ◌-◌, ◌<◌, ◌≤◌, inl, inr, Bool, true, List, [], ◌∷◌, length, drop, filter, map, get_or, slice_get, slice_index, Contains, Some, arith}
use Rattle.std.specs.List.{range_with_len, slice_index_or}
use Rattle.std.proofs.lemmas.Option.{slice_get-get_or, slice_get_within}
use Rattle.std.proofs.lemmas.List.FromFn.{get_or-range_with_len, length-range_with_len}
use Rattle.ghost_model.specs.forms.Flash.{ids}
use Rattle.ghost_model.proofs.MeaningLemmas.OneRow.{Among, among-filter, from_filter}
use Rattle.ghost_model.proofs.MeaningLemmas.Leading.{among_range}

placed : {X : Type 0} (xs : List X) (x : X) (k : ℕ) → k < length xs → slice_index_or xs k x ≡ x → Among x xs
placed [] x k low e = absurd (omega (arith, low))
placed (y ∷ xs) x zero low e = inl e
placed (y ∷ xs) x (suc k) low e = inr (placed xs x k (omega (arith, low)) e)

pub among_of : {X : Type 0} (xs : List X) (x : X) → Contains xs x → Among x xs
among_of xs x held = placed xs x held.0 held.1 held.2

pub contains_of : {X : Type 0} (xs : List X) (x : X) → Among x xs → Contains xs x
contains_of [] x among = absurd among
contains_of (y ∷ xs) x among =
    elim among [
      | inl e ↦ (0, omega arith, e)
      | inr later ↦ (let held = contains_of xs x later in let low = held.1 in (suc held.0, omega (arith, low), held.2))
    ]

from_range : (x a n : ℕ) → Among x (range_with_len a n) → (a ≤ x) × (x < a + n)
from_range x a zero among = absurd among
from_range x a (suc n) among =
    elim among [
      | inl e ↦ (omega (arith, e), omega (arith, e))
      | inr later ↦ (let is = from_range x (a + 1) n later in let low = is.0 in let high = is.1 in (omega (arith, low), omega (arith, high)))
    ]

-- the rows of a table that pass a test
pub record IsKept (p : ℕ → Bool) (count x : ℕ) : Type 0 where
  pub some : 1 ≤ x
  pub within : x ≤ count
  pub passes : p x ≡ true

pub kept_row : (p : ℕ → Bool) (count x : ℕ) → Contains (filter p (ids count)) x → IsKept p count x
kept_row p count x held =
    let from = from_filter p x (ids count) (among_of (filter p (ids count)) x held) in
    let is = from_range x 1 count from.0 in
    let low = is.0 in
    let high = is.1 in
    record { some = low; within = omega (arith, high); passes = from.1 }

pub row_kept : (p : ℕ → Bool) (count x : ℕ) → IsKept p count x → Contains (filter p (ids count)) x
row_kept p count x is =
    let some = is.some in
    let within = is.within in
    contains_of (filter p (ids count)) x (among-filter p x (ids count) (among_range 1 count x some (omega (arith, within))) is.passes)

-- an element of a mapped list
pub mapped_at : {X Y : Type 0} (f : X → Y) (xs : List X) (i : ℕ) (x : X) (d : Y) → slice_get xs i ≡ Some x → get_or (map f xs) i d ≡ f x
mapped_at f [] i x d e = absurd (cc (e))
mapped_at f (y ∷ xs) zero x d e = let same : y ≡ x = cc in ap f same
mapped_at f (y ∷ xs) (suc i) x d e = mapped_at f xs i x d e

pub mapped_get : {X Y : Type 0} (f : X → Y) (xs : List X) (i : ℕ) (d : X) (e : Y) → i < length xs → get_or (map f xs) i e ≡ f (get_or xs i d)
mapped_get f xs i d e low = mapped_at f xs i (get_or xs i d) e (slice_get-get_or xs i d low)

pub mapped_ids : {Y : Type 0} (f : ℕ → Y) (count i : ℕ) (e : Y) → i < count → get_or (map f (ids count)) i e ≡ f (1 + i)
mapped_ids f count i e low =
    let size = length-range_with_len 1 count in
    mapped_get f (ids count) i 0 e (omega (arith, size, low)) ∙ ap f (get_or-range_with_len 1 count i 0 low)

pub mapped_many : {X Y : Type 0} (f : X → Y) (xs : List X) → length (map f xs) ≡ length xs
mapped_many f [] = refl
mapped_many f (x ∷ xs) = ap suc (mapped_many f xs)

pub ids_many : {Y : Type 0} (f : ℕ → Y) (count : ℕ) → length (map f (ids count)) ≡ count
ids_many f count = mapped_many f (ids count) ∙ length-range_with_len 1 count

-- a place of a list, and of one without its first element
pub indexed : (xs : List ℕ) (i x : ℕ) → slice_get xs i ≡ Some x → slice_index xs i ≡ x
indexed xs i x e =
    let low = slice_get_within xs i x e in
    some_is (sym (slice_get-get_or xs i 0 low) ∙ e)
  where
    some_is : {a b : ℕ} → Some a ≡ Some b → a ≡ b
    some_is h = cc

pub indexed_above : (xs : List ℕ) (i x : ℕ) → 1 ≤ i → slice_get xs i ≡ Some x → slice_index (drop 1 xs) (i - 1) ≡ x
indexed_above xs zero x low e = absurd (omega (arith, low))
indexed_above [] (suc i) x low e = absurd (cc (e))
indexed_above (y ∷ xs) (suc i) x low e =
    let same : suc i - 1 ≡ i = omega arith in
    ap (slice_index xs) same ∙ indexed xs i x e

-- within a list it does not matter what stands past its end
pub got : {X : Type 0} (xs : List X) (i : ℕ) (d e : X) → i < length xs → get_or xs i d ≡ get_or xs i e
got [] i d e low = absurd (omega (arith, low))
got (x ∷ xs) zero d e low = refl
got (x ∷ xs) (suc i) d e low = got xs i d e (omega (arith, low))
