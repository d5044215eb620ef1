-- Counting: elements of a list that stand in no two lists, and values each counted once.
use Rattle.std.proofs.Common.{◌≡◌, ◌∙◌, refl, ap, ap₂, sym, subst, ℕ, zero, suc, ◌+◌, ◌<◌, ◌≤◌, inl, inr, Bool, true, false, cond, List, [], ◌∷◌, ◌++◌, length, map, filter, get_or, sum_by, length-append, slice_get, Option, Some, None, arith}
use Rattle.std.specs.Prelude.{count_by, filter_map, ◌||◌}
use Rattle.std.specs.Cmp.{IsEquivalence}
use Rattle.std.specs.List.{concat, cons_option, range_with_len, IsDistinct, AllByRecursion, list_any}
use Rattle.std.specs.Set.{unique_keys}
use Rattle.std.proofs.lemmas.List.Sums.{length-filter, sum_by-cons}
use Rattle.std.proofs.lemmas.Map.Made.{length-le_from_is_member}
use Rattle.ghost_model.specs.core.Values.{Value, Null, Number, Text, Row}
use Rattle.ghost_model.proofs.MeaningLemmas.OneRow.{Among, Distinct, distinct-append, from_map, value_equal, either_true}
use Rattle.ghost_model.specs.forms.QueryWork.{count_values, is_same_value}
use Rattle.condition_lists.proofs.MemberLemmas.{mapped_many}

pub in_range : (x a n : ℕ) → Among x (range_with_len a n) → (a ≤ x) × (x < a + n)
in_range x a zero among = absurd among
in_range x a (suc n) among =
    elim among [
      | inl e ↦ (omega (arith, e), omega (arith, e))
      | inr later ↦ (let is = in_range x (a + 1) n later in let low = is.0 in let high = is.1 in (omega (arith, low), omega (arith, high)))
    ]

range_once : (a n : ℕ) → Distinct (range_with_len a n)
range_once a zero = tt
range_once a (suc n) = (λ among. (let low = (in_range a (a + 1) n among).0 in absurd (omega (arith, low))), range_once (a + 1) n)

-- the places of two ranges of which the second begins behind the first
pub ranges_once : (a n b k : ℕ) → (0 < n → 0 < k → a + n ≤ b) → Distinct (range_with_len a n ++ range_with_len b k)
ranges_once a n b k behind =
    distinct-append (range_with_len a n) (range_with_len b k) (range_once a n) (range_once b k)
    (λ x here there.
    let low = (in_range x a n here).0 in
    let high = (in_range x a n here).1 in
    let from = (in_range x b k there).0 in
    let to = (in_range x b k there).1 in
    let past = behind (omega (arith, low, high)) (omega (arith, from, to)) in
    absurd (omega (arith, high, from, past)))

place_of : {X : Type 0} (d x : X) (xs : List X) → Among x xs → (i : ℕ) × (i < length xs) × (get_or xs i d ≡ x)
place_of d x [] among = absurd among
place_of d x (y ∷ xs) among =
    elim among [
      | inl e ↦ (0, omega arith, e)
      | inr later ↦ (let at = place_of d x xs later in let low = at.1 in (suc at.0, omega (arith, low), at.2))
    ]

pub distinct_by_place : {X : Type 0} (d : X) (xs : List X) → ((i j : ℕ) → i < j → j < length xs → get_or xs i d ≡ get_or xs j d → ⊥) → Distinct xs
distinct_by_place d [] apart = tt
distinct_by_place d (x ∷ xs) apart = (
  (λ among. (let at = place_of d x xs among in let low = at.1 in apart 0 (suc at.0) (omega arith) (omega (arith, low)) (sym at.2))),
  distinct_by_place d xs (λ i j before within. apart (suc i) (suc j) (omega (arith, before)) (omega (arith, within))),
)

pub ascending_once : (xs : List ℕ) → ((i j : ℕ) → i < j → j < length xs → get_or xs i 0 < get_or xs j 0) → Distinct xs
ascending_once xs up =
    distinct_by_place 0 xs (λ i j before within same. (let less = up i j before within in absurd (omega (arith, less, same))))

pub map_once : {X Y : Type 0} (f : X → Y) (xs : List X) → Distinct xs → ((x other : X) → Among x xs → Among other xs → f other ≡ f x → other ≡ x) → Distinct (map f xs)
map_once f [] once one = tt
map_once f (x ∷ xs) once one = (
  (λ among. (let from = from_map f (f x) xs among in once.0 (subst (λ y. Among y xs) (one x from.0 (inl refl) (inr from.1) from.2) from.1))),
  map_once f xs once.1 (λ a b i j. one a b (inr i) (inr j)),
)

-- ---- lists of which none shares an element with another

count_cons : {X : Type 0} (p : X → Bool) (x : X) (xs : List X) → count_by p (x ∷ xs) ≡ cond (p x) 1 0 + count_by p xs
count_cons p x xs = sum_by-cons (λ y. cond (p y) 1 0) x xs

-- at most one of them has it, and none where the test fails
module _ (p : ℕ → ℕ → Bool) (q : ℕ → Bool) (x : ℕ) where
  none_of : (e : ℕ) (es : List ℕ) → p e x ≡ true → ((other : ℕ) → Among other es → p other x ≡ true → other ≡ e) → (Among e es → ⊥) → count_by (λ o. p o x) es ≡ 0
  none_of e [] here one apart = refl
  none_of e (o ∷ es) here one apart = by (p o x) refl (none_of e es here (λ other a. one other (inr a)) (λ a. apart (inr a)))
    where
      by : (b : Bool) → p o x ≡ b → count_by (λ o. p o x) es ≡ 0 → count_by (λ o. p o x) (o ∷ es) ≡ 0
      by true too rest = absurd (apart (inl (one o (inl refl) too)))
      by false fails rest = count_cons (λ o. p o x) o es ∙ ap₂ (λ b n. cond b 1 0 + n) fails rest

  pub one_has : (es : List ℕ) → Distinct es → ((e other : ℕ) → Among e es → Among other es → p e x ≡ true → p other x ≡ true → other ≡ e)
      → ((e : ℕ) → Among e es → p e x ≡ true → q x ≡ true) → count_by (λ e. p e x) es ≤ cond (q x) 1 0
  one_has [] once one passes = omega arith
  one_has (e ∷ es) once one passes = by (p e x) refl (one_has es once.1 (λ a b i j. one a b (inr i) (inr j)) (λ a i. passes a (inr i)))
    where
      by : (b : Bool) → p e x ≡ b → count_by (λ e. p e x) es ≤ cond (q x) 1 0 → count_by (λ e. p e x) (e ∷ es) ≤ cond (q x) 1 0
      by true here rest =
          let none = none_of e es here (λ other a too. one e other (inl refl) (inr a) here too) once.0 in
          let size : count_by (λ e. p e x) (e ∷ es) ≡ 1 + 0 = count_cons (λ e. p e x) e es ∙ ap₂ (λ b n. cond b 1 0 + n) here none in
          let most = ap (λ b. cond b (suc zero) zero) (passes e (inl refl) here) in
          omega (arith, size, most)
      by false fails rest =
          let size : count_by (λ e. p e x) (e ∷ es) ≡ 0 + count_by (λ e. p e x) es = count_cons (λ e. p e x) e es ∙ ap (λ b. cond b 1 0 + count_by (λ e. p e x) es) fails in
          omega (arith, size, rest)

-- counted by lists or by elements
module _ (p : ℕ → ℕ → Bool) where
  by_elements : (es : List ℕ) (x : ℕ) (xs : List ℕ)
      → sum_by (λ e. length (filter (p e) (x ∷ xs))) es ≡ count_by (λ e. p e x) es + sum_by (λ e. length (filter (p e) xs)) es
  by_elements [] x xs = refl
  by_elements (e ∷ es) x xs =
      let more = by_elements es x xs in
      let here : length (filter (p e) (x ∷ xs)) ≡ cond (p e x) 1 0 + length (filter (p e) xs) =
      length-filter (p e) (x ∷ xs) ∙ count_cons (p e) x xs ∙ ap (λ n. cond (p e x) 1 0 + n) (sym (length-filter (p e) xs)) in
      let a = sum_by-cons (λ e. length (filter (p e) (x ∷ xs))) e es in
      let b = sum_by-cons (λ e. length (filter (p e) xs)) e es in
      let c = count_cons (λ e. p e x) e es in
      omega (arith, more, here, a, b, c)

  nothing : (es : List ℕ) → sum_by (λ e. length (filter (p e) [])) es ≡ 0
  nothing [] = refl
  nothing (e ∷ es) = let a = sum_by-cons (λ e. length (filter (p e) [])) e es in let b = nothing es in omega (arith, a, b)

  pub shared : (q : ℕ → Bool) (es xs : List ℕ) → Distinct es
      → ((x e other : ℕ) → Among x xs → Among e es → Among other es → p e x ≡ true → p other x ≡ true → other ≡ e)
      → ((x e : ℕ) → Among x xs → Among e es → p e x ≡ true → q x ≡ true)
      → sum_by (λ e. length (filter (p e) xs)) es ≤ count_by q xs
  shared q es [] once one passes = let e = nothing es in omega (arith, e)
  shared q es (x ∷ xs) once one passes =
      let rest = shared q es xs once (λ y e o a. one y e o (inr a)) (λ y e a. passes y e (inr a)) in
      let here = one_has p q x es once (λ e o i j. one x e o (inl refl) i j) (λ e i. passes x e (inl refl) i) in
      let sums = by_elements es x xs in
      let all = count_cons q x xs in
      omega (arith, rest, here, sums, all)

joined : (g : ℕ → List ℕ) (es : List ℕ) → length (concat (map g es)) ≡ sum_by (λ e. length (g e)) es
joined g [] = refl
joined g (e ∷ es) =
    let a : length (g e ++ concat (map g es)) ≡ length (g e) + length (concat (map g es)) = length-append (g e) (concat (map g es)) in
    let b = sum_by-cons (λ e. length (g e)) e es in
    let c = joined g es in
    omega (arith, a, b, c)

same_sums : {X : Type 0} (f g : X → ℕ) (xs : List X) → ((x : X) → Among x xs → f x ≡ g x) → sum_by f xs ≡ sum_by g xs
same_sums f g [] each = refl
same_sums f g (x ∷ xs) each =
    let here = each x (inl refl) in
    let later = same_sums f g xs (λ y a. each y (inr a)) in
    let a = sum_by-cons f x xs in
    let b = sum_by-cons g x xs in
    omega (arith, here, later, a, b)

-- lists of elements that pass tests, of which no two hold of one element, are together no longer than what passes a weaker one
pub lists_within : (g : ℕ → List ℕ) (p : ℕ → ℕ → Bool) (q : ℕ → Bool) (es xs : List ℕ) → Distinct es → ((e : ℕ) → Among e es → g e ≡ filter (p e) xs)
    → ((x e other : ℕ) → Among x xs → Among e es → Among other es → p e x ≡ true → p other x ≡ true → other ≡ e)
    → ((x e : ℕ) → Among x xs → Among e es → p e x ≡ true → q x ≡ true)
    → length (concat (map g es)) ≤ count_by q xs
lists_within g p q es xs once is one passes =
    let a = joined g es in
    let b = same_sums (λ e. length (g e)) (λ e. length (filter (p e) xs)) es (λ e i. ap length (is e i)) in
    let c = shared p q es xs once one passes in
    omega (arith, a, b, c)

pub same_count : (p q : ℕ → Bool) (xs : List ℕ) → ((x : ℕ) → Among x xs → p x ≡ q x) → count_by p xs ≡ count_by q xs
same_count p q xs each = same_sums (λ x. cond (p x) 1 0) (λ x. cond (q x) 1 0) xs (λ x a. ap (λ b. cond b 1 0) (each x a))

kept_both : (p q : Value → Bool) (o : Option Value) (values : List Value) → ((value : Value) → o ≡ Some value → p value ≡ q value)
    → filter p values ≡ filter q values → filter p (cons_option o values) ≡ filter q (cons_option o values)
kept_both p q None values one rest = rest
kept_both p q (Some value) values one rest = ap₂ (λ b left. cond b (value ∷ left) left) (one value refl) rest

-- two tests of a column's values that agree at each of them
pub same_values : (p q : Value → Bool) (column : ℕ) (rows : List Row)
    → ((place : ℕ) (row : Row) (value : Value) → slice_get rows place ≡ Some row → slice_get row column ≡ Some value → p value ≡ q value)
    → filter p (filter_map (λ row. slice_get row column) rows) ≡ filter q (filter_map (λ row. slice_get row column) rows)
same_values p q column [] each = refl
same_values p q column (row ∷ rows) each =
    kept_both p q (slice_get row column) (filter_map (λ r. slice_get r column) rows) (λ value is. each 0 row value refl is)
    (same_values p q column rows (λ place other value at is. each (suc place) other value at is))

-- ---- values counted once

value_same : (x y : Value) → is_same_value x y ≡ true → x ≡ y
value_same Null Null e = refl
value_same Null (Number n) e = absurd (cc (e))
value_same Null (Text t) e = absurd (cc (e))
value_same (Number n) Null e = absurd (cc (e))
value_same (Text t) Null e = absurd (cc (e))
value_same (Number n) (Number m) e = value_equal (Number n) (Number m) e
value_same (Number n) (Text t) e = value_equal (Number n) (Text t) e
value_same (Text t) (Number n) e = value_equal (Text t) (Number n) e
value_same (Text t) (Text u) e = value_equal (Text t) (Text u) e

member_value : (x : Value) (xs : List Value) → list_any (is_same_value x) xs ≡ true → Among x xs
member_value x [] e = absurd (cc (e))
member_value x (y ∷ xs) e =
    elim (either_true (is_same_value x y) (list_any (is_same_value x) xs) e) [
      | inl here ↦ inl (sym (value_same x y here))
      | inr later ↦ inr (member_value x xs later)
    ]

abbrev uniques : List Value → List Value
uniques = unique_keys is_same_value

kept : (z : Value) (xs : List Value) → Among z xs → Among z (uniques xs)
kept z [] among = absurd among
kept z (x ∷ xs) among = by (list_any (is_same_value x) xs) refl among (λ y. kept y xs)
  where
    by : (b : Bool) → list_any (is_same_value x) xs ≡ b → Among z (x ∷ xs) → ((y : Value) → Among y xs → Among y (uniques xs))
        → Among z (cond b (uniques xs) (x ∷ uniques xs))
    by true e among rest =
        elim among [
          | inl same ↦ subst (λ v. Among v (uniques xs)) same (rest x (member_value x xs e))
          | inr later ↦ rest z later
        ]
    by false e among rest =
        elim among [
          | inl same ↦ inl same
          | inr later ↦ inr (rest z later)
        ]

pub among_map : {X Y : Type 0} (f : X → Y) (x : X) (xs : List X) → Among x xs → Among (f x) (map f xs)
among_map f x [] among = absurd among
among_map f x (y ∷ xs) among =
    elim among [
      | inl same ↦ inl (ap f same)
      | inr later ↦ inr (among_map f x xs later)
    ]

-- distinct keys, each the key of one of some values, are at most as many as these, each counted once
module _ {K : Type 0} (eq : K → K → Bool) (laws : IsEquivalence eq) (same : (a b : K) → eq a b ≡ true → a ≡ b) where
  all_differ : (k : K) (ks : List K) → (Among k ks → ⊥) → AllByRecursion (λ other. eq k other ≡ false) ks
  all_differ k [] apart = tt
  all_differ k (o ∷ ks) apart = (by (eq k o) refl, all_differ k ks (λ a. apart (inr a)))
    where
      by : (b : Bool) → eq k o ≡ b → eq k o ≡ false
      by true e = absurd (apart (inl (sym (same k o e))))
      by false e = e

  distinct : (ks : List K) → Distinct ks → IsDistinct eq ks
  unfolding IsDistinct
  distinct [] once = tt
  distinct (k ∷ ks) once = (all_differ k ks once.0, distinct ks once.1)

  to_member : (k : K) (ks : List K) → Among k ks → list_any (eq k) ks ≡ true
  to_member k [] among = absurd among
  to_member k (o ∷ ks) among =
      elim among [
        | inl e ↦ ap (λ b. b || list_any (eq k) ks) (subst (λ v. eq k v ≡ true) (sym e) (laws.refl k))
        | inr later ↦ (ap (λ b. eq k o || b) (to_member k ks later) ∙ or_true (eq k o))
      ]
    where
      or_true : (b : Bool) → (b || true) ≡ true
      or_true true = refl
      or_true false = refl

  from_member : (k : K) (ks : List K) → list_any (eq k) ks ≡ true → Among k ks
  from_member k [] e = absurd (cc (e))
  from_member k (o ∷ ks) e =
      elim (either_true (eq k o) (list_any (eq k) ks) e) [
        | inl here ↦ inl (sym (same k o here))
        | inr later ↦ inr (from_member k ks later)
      ]

  pub at_most : (ks others : List K) → Distinct ks → ((k : K) → Among k ks → Among k others) → length ks ≤ length others
  at_most ks others once each =
      length-le_from_is_member laws ks others (distinct ks once) (λ k e. to_member k others (each k (from_member k ks e)))

  pub counted : (f : Value → K) (ks : List K) (values : List Value) → Distinct ks → ((k : K) → Among k ks → (v : Value) × Among v values × (k ≡ f v))
      → length ks ≤ count_values values
  counted f ks values once each =
      let few = at_most ks (map f (uniques values)) once (λ k a. let it = each k a in subst (λ o. Among o (map f (uniques values))) (sym it.2) (among_map f it.0 (uniques values) (kept it.0 values it.1))) in
      let size = mapped_many f (uniques values) in
      omega (arith, few, size)
