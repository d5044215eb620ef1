-- Members of lists that are mapped and filtered, and lists of numbers that ascend: those with the same members are the same.
use Rattle.std.proofs.Common.{◌≡◌, refl, sym, ap, ◌∙◌, subst, ℕ, zero, suc, ◌+◌, ◌-◌, ◌<◌, ◌≤◌, Bool, true, false, cond, inl, inr, ◌⊎◌, List, [], ◌∷◌, ◌++◌, filter, map, arith}
use Rattle.std.specs.List.{Contains, range_with_len}
use Rattle.std.specs.List.Sorted.{IsStrictlySortedBy}
use Rattle.std.specs.Ordering.{nat_cmp}
use Rattle.std.specs.declared.cmp.Ordering.TheVariants as order
use Rattle.std.proofs.lemmas.List.{get_or-map, length-map, map-id}
use Rattle.std.proofs.lemmas.List.Elements.{All-contains_itself, All-contains, All-filter, All-map, All-weaker, filter_passes, All-from_recursion}
use Rattle.std.proofs.lemmas.List.FromFn.{length-range_with_len, get_or-range_with_len, map-range_with_len_more}
use Rattle.std.proofs.lemmas.Bool.Decides.{nat_tests}

pub contains_head : {X : Type 0} (x : X) (xs : List X) → Contains (x ∷ xs) x
contains_head x xs = (0, omega arith, refl)

pub contains_later : {X : Type 0} (y : X) (xs : List X) (x : X) → Contains xs x → Contains (y ∷ xs) x
contains_later y xs x h = (suc h.0, omega (arith, h.1), h.2)

pub contains_cases : {X : Type 0} (y : X) (xs : List X) (x : X) → Contains (y ∷ xs) x → (y ≡ x) ⊎ Contains xs x
contains_cases y xs x (zero, low, e) = inl e
contains_cases y xs x (suc k, low, e) = inr (k, omega (arith, low), e)

pub contains_none : {X : Type 0} (x : X) → Contains [] x → ⊥
contains_none x h = omega (arith, h.1)

pub contains_map : {X Y : Type 0} (f : X → Y) (xs : List X) (x : X) → Contains xs x → Contains (map f xs) (f x)
contains_map f xs x h = (h.0, omega (arith, length-map xs f, h.1), get_or-map f xs h.0 x (f x) h.1 ∙ ap f h.2)

-- what a member of a mapped list comes from
pub record ComesFrom {X Y : Type 0} (f : X → Y) (xs : List X) (y : Y) : Type 0 where
  pub from : X
  pub held : Contains xs from
  pub same : f from ≡ y

pub contains_from_map : {X Y : Type 0} (f : X → Y) (xs : List X) (y : Y) → Contains (map f xs) y → ComesFrom f xs y
contains_from_map f xs y h =
    All-contains (ComesFrom f xs) (map f xs) y
    (All-map (ComesFrom f xs) f xs (All-weaker (Contains xs) (λ x. ComesFrom f xs (f x)) (λ x held. record { from = x; held = held; same = refl }) xs (All-contains_itself xs))) h

pub contains_from_filter : {X : Type 0} (p : X → Bool) (xs : List X) (x : X) → Contains (filter p xs) x → Contains xs x
contains_from_filter p xs x h = All-contains (Contains xs) (filter p xs) x (All-filter p (Contains xs) xs (All-contains_itself xs)) h

pub passes_in_filter : {X : Type 0} (p : X → Bool) (xs : List X) (x : X) → Contains (filter p xs) x → p x ≡ true
passes_in_filter p xs x h = All-contains (λ y. p y ≡ true) (filter p xs) x (filter_passes p xs) h

kept_here : {X : Type 0} (b : Bool) (x : X) (xs : List X) → b ≡ true → Contains (cond b (x ∷ xs) xs) x
kept_here true x xs e = contains_head x xs
kept_here false x xs e = absurd (cc e)

kept_later : {X : Type 0} (b : Bool) (y : X) (xs : List X) (x : X) → Contains xs x → Contains (cond b (y ∷ xs) xs) x
kept_later true y xs x h = contains_later y xs x h
kept_later false y xs x h = h

pub contains_filter : {X : Type 0} (p : X → Bool) (xs : List X) (x : X) → Contains xs x → p x ≡ true → Contains (filter p xs) x
contains_filter p [] x h e = absurd (contains_none x h)
contains_filter p (y ∷ xs) x h e =
    elim (contains_cases y xs x h) [
      | inl same ↦ subst (Contains (filter p (y ∷ xs))) same (kept_here (p y) y (filter p xs) (ap p same ∙ e))
      | inr later ↦ kept_later (p y) y (filter p xs) x (contains_filter p xs x later e)
    ]

pub in_range : (a n k : ℕ) → a ≤ k → k < a + n → Contains (range_with_len a n) k
in_range a n k low high =
    let long = length-range_with_len a n in
    let at : k - a < n = omega (arith, low, high) in
    (k - a, omega (arith, long, at), get_or-range_with_len a n (k - a) k at ∙ omega (arith, low))

pub range_bounds : (a n k : ℕ) → Contains (range_with_len a n) k → (a ≤ k) × (k < a + n)
range_bounds a n k h =
    let long = length-range_with_len a n in
    let at : h.0 < n = omega (arith, long, h.1) in
    let is = sym (get_or-range_with_len a n h.0 k at) ∙ h.2 in
    (omega (arith, is), omega (arith, is, at))

above : (x : ℕ) (xs : List ℕ) → IsStrictlySortedBy nat_cmp (x ∷ xs) → (y : ℕ) → Contains xs y → x < y
unfolding IsStrictlySortedBy
above x xs h y held =
    let less = All-contains (λ z. nat_cmp x z ≡ order.Less) xs y (All-from_recursion (λ z. nat_cmp x z ≡ order.Less) xs h.0) held in
    grind (arith, nat_tests, less)

later : (x : ℕ) (xs : List ℕ) → IsStrictlySortedBy nat_cmp (x ∷ xs) → IsStrictlySortedBy nat_cmp xs
unfolding IsStrictlySortedBy
later x xs h = h.1

least : (x y : ℕ) (ys : List ℕ) → IsStrictlySortedBy nat_cmp (y ∷ ys) → Contains (y ∷ ys) x → y ≤ x
least x y ys up held =
    elim (contains_cases y ys x held) [
      | inl same ↦ omega (arith, same)
      | inr far ↦ omega (arith, above y ys up x far)
    ]

among_later : (x : ℕ) (xs ys : List ℕ) → IsStrictlySortedBy nat_cmp (x ∷ xs) → ((k : ℕ) → Contains (x ∷ xs) k → Contains (x ∷ ys) k)
    → (k : ℕ) → Contains xs k → Contains ys k
among_later x xs ys up within k held =
    elim (contains_cases x ys k (within k (contains_later x xs k held))) [
      | inl same ↦ absurd (omega (arith, same, above x xs up k held))
      | inr far ↦ far
    ]

pub same_ascending : (xs ys : List ℕ) → IsStrictlySortedBy nat_cmp xs → IsStrictlySortedBy nat_cmp ys
    → ((k : ℕ) → Contains xs k → Contains ys k) → ((k : ℕ) → Contains ys k → Contains xs k) → xs ≡ ys
same_ascending [] [] up down one other = refl
same_ascending [] (y ∷ ys) up down one other = absurd (contains_none y (other y (contains_head y ys)))
same_ascending (x ∷ xs) [] up down one other = absurd (contains_none x (one x (contains_head x xs)))
same_ascending (x ∷ xs) (y ∷ ys) up down one other =
    let e : x ≡ y = omega (arith, least x y ys down (one x (contains_head x xs)), least y x xs up (other y (contains_head y ys))) in
    let down' : IsStrictlySortedBy nat_cmp (x ∷ ys) = subst (λ z. IsStrictlySortedBy nat_cmp (z ∷ ys)) (sym e) down in
    let one' : (k : ℕ) → Contains (x ∷ xs) k → Contains (x ∷ ys) k = subst (λ z. (k : ℕ) → Contains (x ∷ xs) k → Contains (z ∷ ys) k) (sym e) one in
    let other' : (k : ℕ) → Contains (x ∷ ys) k → Contains (x ∷ xs) k = subst (λ z. (k : ℕ) → Contains (z ∷ ys) k → Contains (x ∷ xs) k) (sym e) other in
    let rest = same_ascending xs ys (later x xs up) (later x ys down') (among_later x xs ys up one') (among_later x ys xs down' other') in
    ap (λ z. z ∷ xs) e ∙ ap (λ zs. y ∷ zs) rest

pub range_more : (n : ℕ) → range_with_len 0 (n + 1) ≡ range_with_len 0 n ++ n ∷ []
range_more n =
    sym (map-id (range_with_len 0 (n + 1))) ∙ (map-range_with_len_more (λ k. k) 0 n n (omega arith) ∙ ap (λ xs. xs ++ n ∷ []) (map-id (range_with_len 0 n)))
