-- Ascending lists: how long they are at most, where each identifier is one of some.
use Rattle.std.proofs.Common.{◌≡◌, ◌≢◌, ◌∙◌, ℕ, zero, suc, ◌+◌, ◌<◌, ◌≤◌, ◌⊎◌, inl, inr, List, [], ◌∷◌, length, get_or, sym, refl, subst, arith}
use Rattle.std.specs.List.{concat}
use Rattle.std.proofs.lemmas.Bool.{cases_lt}
use Rattle.std.proofs.lemmas.List.{length-append, length-map, get_or_append_left, get_or-append-add}
use Rattle.ghost_model.specs.forms.Runs.{number_cell}
use Rattle.spill_pass.specs.Merging.{AreAscending, IsOneOf}
use Rattle.candidate_lists.specs.Few.{ListIsFew, ListsAreFew, UnionIsFew}

-- a place that is the last one goes over to another
moved : (place last other : ℕ) → (place < last) ⊎ (last ≤ place) → ℕ
moved place last other (inl below) = place
moved place last other (inr at) = other

moved_below :
    (place last other : ℕ) (is : (place < last) ⊎ (last ≤ place)) → place < suc last → other < suc last → place ≢ other → moved place last other is < last
unfolding moved
moved_below place last other (inl below) within other_within apart = below
moved_below place last other (inr at) within other_within apart =
    elim (cases_lt other last) [
      | inl less ↦ less
      | inr more ↦ let same : place ≡ other = omega (arith, at, within, more, other_within) in absurd (apart same)
    ]

moved_apart :
    (one two last other : ℕ) (is : (one < last) ⊎ (last ≤ one)) (also : (two < last) ⊎ (last ≤ two)) → one < suc last → two < suc last → one ≢ two
    → one ≢ other → two ≢ other → moved one last other is ≢ moved two last other also
unfolding moved
moved_apart one two last other (inl below) (inl less) within two_within apart one_apart two_apart = apart
moved_apart one two last other (inl below) (inr at) within two_within apart one_apart two_apart = one_apart
moved_apart one two last other (inr at) (inl less) within two_within apart one_apart two_apart = λ same. two_apart (sym same)
moved_apart one two last other (inr at) (inr also) within two_within apart one_apart two_apart = λ same.
    let equal : one ≡ two = omega (arith, at, within, also, two_within) in apart equal

-- numbers below one, each given a place below another, no two the same place, are no more than the places
placed_apart :
    (n m : ℕ) (place : (i : ℕ) → i < n → ℕ) → ((i : ℕ) (in_i : i < n) → place i in_i < m)
    → ((i j : ℕ) (in_i : i < n) (in_j : j < n) → i < j → place i in_i ≢ place j in_j) → n ≤ m
placed_apart zero m place below apart = omega arith
placed_apart (suc n) zero place below apart = absurd (omega (arith, below 0 (omega arith)))
placed_apart (suc n) (suc m) place below apart =
    let top : n < suc n = omega arith in
    let last = place n top in
    let up : (i : ℕ) → i < n → i < suc n = λ i in_i. omega (arith, in_i) in
    let at : (i : ℕ) → i < n → ℕ = λ i in_i. place i (up i in_i) in
    let rest : n ≤ m =
    placed_apart n m (λ i in_i. moved (at i in_i) m last (cases_lt (at i in_i) m))
    (λ i in_i. moved_below (at i in_i) m last (cases_lt (at i in_i) m) (below i (up i in_i)) (below n top) (apart i n (up i in_i) top in_i))
    (λ i j in_i in_j less.
    moved_apart (at i in_i) (at j in_j) m last (cases_lt (at i in_i) m) (cases_lt (at j in_j) m) (below i (up i in_i)) (below j (up j in_j))
    (apart i j (up i in_i) (up j in_j) less) (apart i n (up i in_i) top in_i) (apart j n (up j in_j) top in_j)) in
    omega (arith, rest)

-- an ascending list of some of a list's numbers is no longer than that
pub ascending_few :
    (numbers ids : List ℕ) → AreAscending ids → ((i : ℕ) → i < length ids → IsOneOf numbers (get_or ids i 0)) → length ids ≤ length numbers
ascending_few numbers ids ascending one =
    placed_apart (length ids) (length numbers) (λ i within. (one i within).at) (λ i within. (one i within).within)
    (λ i j in_i in_j less same.
    let G : ℕ → Type 0 = λ at. get_or ids i 0 ≡ get_or numbers at 0 in
    let equal : get_or ids i 0 ≡ get_or ids j 0 = subst G same (one i in_i).is ∙ sym (one j in_j).is in
    absurd (omega (arith, equal, ascending i j less in_j)))

-- an identifier of one of some lists is one of all of them together
in_concat : (lists : List (List ℕ)) (at id : ℕ) → at < length lists → IsOneOf (get_or lists at []) id → IsOneOf (concat lists) id
in_concat [] at id within is = absurd (omega (arith, within))
in_concat (ids ∷ lists) zero id within is = record {
  at = is.at;
  within = omega (arith, is.within, length-append ids (concat lists));
  is = is.is ∙ sym (get_or_append_left ids (concat lists) 0 is.at is.within);
}
in_concat (ids ∷ lists) (suc at) id within is =
    let rest = in_concat lists at id (omega (arith, within)) is in
    record {
      at = length ids + rest.at;
      within = omega (arith, rest.within, length-append ids (concat lists));
      is = rest.is ∙ sym (get_or-append-add ids (concat lists) rest.at 0);
    }

pub lists_are_few : ListsAreFew
lists_are_few lists = record {
  few = λ ids ascending are.
      ascending_few (concat lists) ids ascending
      (λ i within. let is = are i within in in_concat lists is.at (get_or ids i 0) is.within is.is);
}

pub one_at : (ids : List ℕ) (i : ℕ) → i < length ids → IsOneOf ids (get_or ids i 0)
one_at ids i within = record { at = i; within = within; is = refl }

pub list_is_few : ListIsFew
list_is_few right page merge run most is most_is =
    let few = most_is.few is.ids is.ascending (λ i within. (is.all (get_or is.ids i 0)).0 (one_at is.ids i within)) in
    omega (arith, few, is.stores.has.count, length-map is.ids number_cell)

pub union_is_few : UnionIsFew
union_is_few page lists run most is most_is =
    let few = most_is.few is.ids is.ascending (λ i within. (is.all (get_or is.ids i 0)).1 (one_at is.ids i within)) in
    omega (arith, few, is.stores.has.count, length-map is.ids number_cell)
