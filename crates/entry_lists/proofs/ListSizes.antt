-- How many identifiers the lists of entries have together.
use Rattle.std.proofs.Common.{◌≡◌, ℕ, zero, suc, ◌+◌, ◌-◌, ◌<◌, ◌≤◌, List, [], ◌∷◌, ◌++◌, length, length-append, take, map, get_or, ap, refl, arith}
use Rattle.std.specs.List.{concat, range_with_len}
use Rattle.std.proofs.lemmas.List.Folds.{concat-append}
use Rattle.climbing_index.specs.declared.search.Group.{Group}
use Rattle.climbing_index.proofs.ListPlaces.{ends}
use Rattle.entry_lists.specs.Laws.{lists_in, lists_of}

-- how many those before an entry have, and those before the next one
abbrev pub before : List (List ℕ) → ℕ → ℕ
before lists entry = length (concat (take entry lists))

pub before_next : (lists : List (List ℕ)) (entry : ℕ) → before lists (suc entry) ≡ before lists entry + length (get_or lists entry [])
before_next [] zero = refl
before_next [] (suc entry) = refl
before_next (list ∷ lists) zero = omega (arith, length-append list (concat (take zero lists)))
before_next (list ∷ lists) (suc entry) =
    omega (arith, length-append list (concat (take (suc entry) lists)), length-append list (concat (take entry lists)), before_next lists entry)

range_size : (lists : List (List ℕ)) (first count : ℕ)
    → before lists first + length (concat (map (λ entry. get_or lists entry []) (range_with_len first count))) ≡ before lists (first + count)
range_size lists first zero = let e : first ≡ first + 0 = omega arith in omega (arith, ap (before lists) e)
range_size lists first (suc count) =
    let own = get_or lists first [] in
    let later = concat (map (λ entry. get_or lists entry []) (range_with_len (first + 1) count)) in
    let next : suc first ≡ first + 1 = omega arith in
    let end : first + 1 + count ≡ first + suc count = omega arith in
    omega (arith, length-append own later, before_next lists first, ap (before lists) next, ap (before lists) end, range_size lists (first + 1) count)

pub rises : (lists : List (List ℕ)) (first later : ℕ) → first ≤ later → before lists first ≤ before lists later
rises lists first later less =
    let end : first + (later - first) ≡ later = omega (arith, less) in
    omega (arith, range_size lists first (later - first), ap (before lists) end)

pub most : (lists : List (List ℕ)) (entry : ℕ) → before lists entry ≤ length (concat lists)
most lists entry = omega (arith, ends lists entry)

second_size : (lists : List (List ℕ)) (end : ℕ) (second : Group) (count : ℕ) → second.count ≡ count → (0 < count → end ≤ second.first)
    → before lists end + length (concat (lists_in lists second)) ≤ length (concat lists)
second_size lists end second zero is apart =
    let none : lists_in lists second ≡ [] = ap (λ n. map (λ entry. get_or lists entry []) (range_with_len second.first n)) is in
    omega (arith, ap (λ (xs : List (List ℕ)). length (concat xs)) none, most lists end)
second_size lists end second (suc count) is apart =
    omega (arith, range_size lists second.first second.count, rises lists end second.first (apart (omega arith)), most lists (second.first + second.count))

pub sizes :
    (lists : List (List ℕ)) (first second : Group) → (0 < first.count → 0 < second.count → first.first + first.count ≤ second.first)
    → length (concat (lists_of lists first second)) ≤ length (concat lists)
sizes lists first second apart = by_count first.count refl
  where
    by_count : (count : ℕ) → first.count ≡ count → length (concat (lists_of lists first second)) ≤ length (concat lists)
    by_count zero is =
        let none : lists_in lists first ≡ [] = ap (λ n. map (λ entry. get_or lists entry []) (range_with_len first.first n)) is in
        let same = ap (λ (xs : List (List ℕ)). length (concat (xs ++ lists_in lists second))) none in
        omega (arith, same, second_size lists 0 second second.count refl (λ some. omega arith))
    by_count (suc count) is =
        let joined = ap (λ (xs : List ℕ). length xs) (concat-append (lists_in lists first) (lists_in lists second)) in
        let both = length-append (concat (lists_in lists first)) (concat (lists_in lists second)) in
        omega (
          arith,
          joined,
          both,
          range_size lists first.first first.count,
          second_size lists (first.first + first.count) second second.count refl (apart (omega (arith, is))),
        )
