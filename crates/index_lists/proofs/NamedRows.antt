-- Rows that foreign keys name.
use Rattle.std.proofs.Common.{◌≡◌, refl, sym, subst, ℕ, ◌+◌, ◌-◌, ◌<◌, ◌≤◌, ℤ, pos, negsuc, Bool, true, false, ◌&&◌, List, length, map, get_or, take, arith}
use Rattle.std.specs.Prelude.{IsTrue, nat_le}
use Rattle.std.specs.List.{All}
use Rattle.std.proofs.lemmas.Bool.Decides.{nat_tests}
use Rattle.std.proofs.lemmas.List.Elements.{All-get_or, All-map, All-weaker, All-more}
use Rattle.ghost_model.specs.core.Values.{Number}
use Rattle.ghost_model.specs.core.Database.{is_row_among}
use Rattle.index_lists.specs.Ranks.{identifier_of, of_referred}

-- an integer that is the identifier of one of so many rows
pub record IsRow (count : ℕ) (key : ℤ) : Type 0 where
  pub is : key ≡ pos (identifier_of key)
  pub real : 0 < identifier_of key
  pub within : identifier_of key ≤ count

pub row_named : (count : ℕ) (key : ℤ) → is_row_among count (Number key) ≡ true → IsRow count key
row_named count (pos n) h = by_tests n (nat_le 1 n) refl (nat_le n count) refl h
  where
    by_tests : (n : ℕ) (a : Bool) → nat_le 1 n ≡ a → (b : Bool) → nat_le n count ≡ b → (a && b) ≡ true → IsRow count (pos n)
    by_tests n true low true high e = record { is = refl; real = grind (arith, nat_tests, low); within = grind (arith, nat_tests, high) }
    by_tests n true low false high e = absurd (cc e)
    by_tests n false low b high e = absurd (cc e)
row_named count (negsuc n) h = absurd (cc h)

pub places_below : (rows : ℕ) (keys : List ℤ) → All (λ key. IsTrue (is_row_among rows (Number key))) keys
    → All (λ place. place < rows) (map (λ identifier. identifier - 1) (map identifier_of keys))
places_below rows keys named =
    All-map (λ place. place < rows) (λ identifier. identifier - 1) (map identifier_of keys)
    (All-map (λ identifier. identifier - 1 < rows) identifier_of keys
    (All-weaker (λ key. IsTrue (is_row_among rows (Number key))) (λ key. identifier_of key - 1 < rows) (λ key h.
    let row = row_named rows key h in
    omega (arith, row.real, row.within)) keys named))

pub ranks_below : (ranks : List ℕ) (entries : ℕ) (keys : List ℤ) → All (λ key. IsTrue (is_row_among (length ranks) (Number key))) keys
    → All (λ rank. rank < entries) ranks → All (λ rank. rank < entries) (of_referred ranks (map identifier_of keys))
ranks_below ranks entries keys named below =
    let held = λ (identifier : ℕ). get_or ranks (identifier - 1) 0 in
    All-map (λ rank. rank < entries) held (map identifier_of keys)
    (All-map (λ identifier. held identifier < entries) identifier_of keys
    (All-weaker (λ key. IsTrue (is_row_among (length ranks) (Number key))) (λ key. held (identifier_of key) < entries) (λ key h.
    let row = row_named (length ranks) key h in
    All-get_or (λ rank. rank < entries) ranks (identifier_of key - 1) 0 (omega (arith, row.real, row.within)) below) keys named))

row_is : (n count : ℕ) → 0 < n → n ≤ count → IsTrue (is_row_among count (Number (pos n)))
row_is n count real within = grind (arith, nat_tests)

still_named : (count more : ℕ) (key : ℤ) → count ≤ more → IsTrue (is_row_among count (Number key)) → IsTrue (is_row_among more (Number key))
still_named count more key up h =
    let row = row_named count key h in
    subst (λ k. IsTrue (is_row_among more (Number k))) (sym row.is) (row_is (identifier_of key) more row.real (omega (arith, row.within, up)))

-- one key more, and a bound that is no lower
pub named_more :
    (keys : List ℤ) (i count more most : ℕ) → i < length keys → count ≤ more → identifier_of (get_or keys i (pos 0)) ≤ more
    → IsTrue (is_row_among most (Number (get_or keys i (pos 0)))) → All (λ key. IsTrue (is_row_among count (Number key))) (take i keys)
    → All (λ key. IsTrue (is_row_among more (Number key))) (take (i + 1) keys)
named_more keys i count more most low up within is named =
    let row = row_named most (get_or keys i (pos 0)) is in
    let here = subst (λ k. IsTrue (is_row_among more (Number k))) (sym row.is) (row_is (identifier_of (get_or keys i (pos 0))) more row.real within) in
    let before = All-weaker (λ key. IsTrue (is_row_among count (Number key))) (λ key. IsTrue (is_row_among more (Number key))) (λ key h. still_named count more key up h) (take i keys) named in
    All-more (λ key. IsTrue (is_row_among more (Number key))) keys i (pos 0) low before here
