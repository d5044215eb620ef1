-- The combinations of rows of several tables, by identifiers: none stands twice, and where one alone may pass a test, those
-- that pass are this one or none.
use Rattle.std.proofs.Common.{◌≡◌, ◌≢◌, refl, sym, ap, ◌∙◌, subst, ℕ, zero, suc, ◌+◌, ◌<◌, ◌≤◌, inl, inr, Bool, true, false, ◌==◌, nat_eq, List, [], ◌∷◌, ◌++◌, map, filter, flat_map, Option, Some, None, unwrap_or, arith, eqb-true, eq-eqb, if◌then◌else◌}
use Rattle.std.specs.List.{range_with_len}
use Rattle.ghost_model.specs.core.Split.{Hidden}
use Rattle.ghost_model.proofs.MeaningLemmas.OneRow.{Among, Distinct, filter_none, not_equal, from_map, from_append, distinct-append, distinct-cons}
use Rattle.ghost_model.proofs.MeaningLemmas.Picks.{picks, identifiers_of}
use Rattle.ghost_model.specs.core.Meaning.{Pick, pick, combinations}

-- what a test leaves where one element alone may pass it
pub filter_exactly : {X : Type 0} (p : X → Bool) (l : X) (xs : List X) → Distinct xs → Among l xs
    → ((x : X) → Among x xs → p x ≡ true → x ≡ l) → filter p xs ≡ (if p l then l ∷ [] else [])
filter_exactly p l [] d h only = absurd h
filter_exactly p l (x ∷ xs) d (inl same) only =
    let none : filter p xs ≡ [] =
    filter_none p xs (λ y a e. d.0 (subst (λ w. Among w xs) (only y (inr a) e ∙ sym same) a)) in
    subst (λ w. (if p x then x ∷ filter p xs else filter p xs) ≡ (if p w then w ∷ [] else [])) same
    (ap (λ ys. if p x then x ∷ ys else ys) none)
filter_exactly p l (x ∷ xs) d (inr later) only =
    (elim (p x) as (λ v. p x ≡ v → (if v then x ∷ filter p xs else filter p xs) ≡ (if p l then l ∷ [] else [])) [
      | true ↦ λ e. absurd (d.0 (subst (λ w. Among w xs) (sym (only x (inl refl) e)) later))
      | false ↦ λ e. filter_exactly p l xs d.1 later (λ y a. only y (inr a))
    ]) refl

to_left : {X : Type 0} (x : X) (xs ys : List X) → Among x xs → Among x (xs ++ ys)
to_left x [] ys h = absurd h
to_left x (y ∷ xs) ys (inl same) = inl same
to_left x (y ∷ xs) ys (inr later) = inr (to_left x xs ys later)

to_right : {X : Type 0} (x : X) (xs ys : List X) → Among x ys → Among x (xs ++ ys)
to_right x [] ys h = h
to_right x (y ∷ xs) ys h = inr (to_right x xs ys h)

pub to_map : {X Y : Type 0} (f : X → Y) (x : X) (xs : List X) → Among x xs → Among (f x) (map f xs)
to_map f x [] h = absurd h
to_map f x (y ∷ xs) (inl same) = inl (ap f same)
to_map f x (y ∷ xs) (inr later) = inr (to_map f x xs later)

to_flat : {X Y : Type 0} (f : X → List Y) (y : Y) (x : X) (xs : List X) → Among x xs → Among y (f x) → Among y (flat_map f xs)
to_flat f y x [] h a = absurd h
to_flat f y x (z ∷ xs) (inl same) a = to_left y (f z) (flat_map f xs) (subst (λ w. Among y (f w)) (sym same) a)
to_flat f y x (z ∷ xs) (inr later) a = to_right y (f z) (flat_map f xs) (to_flat f y x xs later a)

pub from_flat : {X Y : Type 0} (f : X → List Y) (y : Y) (xs : List X) → Among y (flat_map f xs) → (x : X) × Among x xs × Among y (f x)
from_flat f y [] h = absurd h
from_flat f y (x ∷ xs) h =
    (elim (from_append y (f x) (flat_map f xs) h) [
      | inl a ↦ (x, inl refl, a)
      | inr b ↦ (let r = from_flat f y xs b in (r.0, inr r.1, r.2))
    ])

distinct_flat : {X Y : Type 0} (f : X → List Y) → ((x : X) → Distinct (f x))
    → ((one other : X) (y : Y) → Among y (f one) → Among y (f other) → one ≡ other)
    → (xs : List X) → Distinct xs → Distinct (flat_map f xs)
distinct_flat f each apart [] d = tt
distinct_flat f each apart (x ∷ xs) d =
    distinct-append (f x) (flat_map f xs) (each x) (distinct_flat f each apart xs d.1)
    (λ y a b. let r = from_flat f y xs b in d.0 (subst (λ w. Among w xs) (sym (apart x r.0 y a r.2)) r.1))

-- identifiers
pub identifier_within : (from count identifier : ℕ) → Among identifier (range_with_len from count) → (from ≤ identifier) × (identifier < from + count)
identifier_within from zero identifier h = absurd h
identifier_within from (suc count) identifier (inl same) = (omega (arith, same), omega (arith, same))
identifier_within from (suc count) identifier (inr later) =
    let r = identifier_within (from + 1) count identifier later in
    let low = r.0 in
    let high = r.1 in (omega (arith, low), omega (arith, high))

pub among_identifiers : (from count place : ℕ) → place < count → Among (from + place) (range_with_len from count)
among_identifiers from zero place h = let bad : ⊥ = omega (arith, h) in absurd bad
among_identifiers from (suc count) zero h = inl (let e : from ≡ from + 0 = omega arith in e)
among_identifiers from (suc count) (suc place) h =
    let e : from + 1 + place ≡ from + suc place = omega arith in
    inr (subst (λ n. Among n (range_with_len (from + 1) count)) e (among_identifiers (from + 1) count place (omega (arith, h))))

distinct_identifiers : (from count : ℕ) → Distinct (range_with_len from count)
distinct_identifiers from zero = tt
distinct_identifiers from (suc count) = (
  λ h. (let low = (identifier_within (from + 1) count from h).0 in omega (arith, low)),
  distinct_identifiers (from + 1) count,
)

-- the combination of these rows
abbrev pub picked : (reach : ℕ → ℕ) → List ℕ → List Pick
picked reach tables = map (λ table. pick table (reach table)) tables

module _ (kept : Hidden) where
  distinct_picks : (tables : List ℕ) → Distinct (picks kept tables)
  unfolding combinations
  distinct_picks [] = (λ h. h, tt)
  distinct_picks (table ∷ tables) =
      let rest = picks kept tables in
      distinct_flat (λ identifier. map (λ others. pick table identifier ∷ others) rest)
      (λ identifier. distinct-cons (pick table identifier) rest (distinct_picks tables))
      (λ one other x a b.
      let r = from_map (λ others. pick table one ∷ others) x rest a in
      let q = from_map (λ others. pick table other ∷ others) x rest b in
      ap (λ (l : List Pick). first_identifier l) (r.2 ∙ sym q.2))
      (identifiers_of kept table) (distinct_identifiers 1 _)
    where
      first_identifier : List Pick → ℕ
      first_identifier [] = 0
      first_identifier (one ∷ others) = one.identifier

  -- a row of each of these tables
  abbrev pub IsPicked : List ℕ → List Pick → Type 0
  IsPicked [] x = x ≡ []
  IsPicked (table ∷ tables) [] = ⊥
  IsPicked (table ∷ tables) (one ∷ others) =
      (one.table ≡ table) × Among one.identifier (identifiers_of kept table) × IsPicked tables others

  pub are_picked : (tables : List ℕ) (x : List Pick) → Among x (picks kept tables) → IsPicked tables x
  unfolding combinations
  are_picked [] x (inl same) = sym same
  are_picked [] x (inr none) = absurd none
  are_picked (table ∷ tables) x h =
      let rest = picks kept tables in
      let r = from_flat (λ identifier. map (λ others. pick table identifier ∷ others) rest) x (identifiers_of kept table) h in
      let q = from_map (λ others. pick table r.0 ∷ others) x rest r.2 in
      subst (λ w. IsPicked (table ∷ tables) w) q.2 (refl, r.1, are_picked tables q.0 q.1)

  picked_among : (reach : ℕ → ℕ) (tables : List ℕ) → ((table : ℕ) → Among table tables → Among (reach table) (identifiers_of kept table))
      → Among (picked reach tables) (picks kept tables)
  unfolding combinations
  picked_among reach [] within = inl refl
  picked_among reach (table ∷ tables) within =
      let rest = picks kept tables in
      to_flat (λ identifier. map (λ others. pick table identifier ∷ others) rest) (picked reach (table ∷ tables)) (reach table) (identifiers_of kept table)
      (within table (inl refl))
      (to_map (λ others. pick table (reach table) ∷ others) (picked reach tables) rest (picked_among reach tables (λ other a. within other (inr a))))

-- the row of a table in a combination
abbrev pub chosen_in : List Pick → (table : ℕ) → Option ℕ
chosen_in [] table = None
chosen_in (one ∷ others) table = if one.table == table then Some one.identifier else chosen_in others table

pub chosen_first : (one : Pick) (others : List Pick) → chosen_in (one ∷ others) one.table ≡ Some one.identifier
chosen_first one others = ap (λ v. if v then Some one.identifier else chosen_in others one.table) (eq-eqb one.table one.table refl)

pub chosen_later : (one : Pick) (others : List Pick) (table : ℕ) → one.table ≢ table
    → chosen_in (one ∷ others) table ≡ chosen_in others table
chosen_later one others table differ =
    ap (λ v. if v then Some one.identifier else chosen_in others table) (not_equal one.table table differ)

pub chosen_among : (kept : Hidden) (tables : List ℕ) (x : List Pick) → IsPicked kept tables x → (table identifier : ℕ)
    → chosen_in x table ≡ Some identifier → Among identifier (identifiers_of kept table)
chosen_among kept [] x f table identifier h =
    let e : None ≡ Some identifier = sym (ap (λ w. chosen_in w table) f) ∙ h in
    let bad : ⊥ = cc in absurd bad
chosen_among kept (t ∷ ts) [] f table identifier h = absurd f
chosen_among kept (t ∷ ts) (one ∷ others) f table identifier h =
    (elim (nat_eq one.table table) as (λ v. nat_eq one.table table ≡ v → (if v then Some one.identifier else chosen_in others table) ≡ Some identifier → Among identifier (identifiers_of kept table)) [
      | true ↦ λ e s.
          let it : one.identifier ≡ identifier = ap (λ o. unwrap_or o one.identifier) s in
          let at : t ≡ table = sym f.0 ∙ eqb-true one.table table e in
          subst (λ w. Among identifier (identifiers_of kept w)) at (subst (λ w. Among w (identifiers_of kept t)) it f.1)
      | false ↦ λ e s. chosen_among kept ts others f.2 table identifier s
    ]) refl h

-- the combination of these rows has them
pub picked_has : (reach : ℕ → ℕ) (tables : List ℕ) (table : ℕ) → Among table tables
    → chosen_in (picked reach tables) table ≡ Some (reach table)
picked_has reach [] table h = absurd h
picked_has reach (t ∷ ts) table h =
    (elim (nat_eq t table) as (λ v. nat_eq t table ≡ v → (if v then Some (reach t) else chosen_in (picked reach ts) table) ≡ Some (reach table)) [
      | true ↦ λ e. ap (λ n. Some (reach n)) (eqb-true t table e)
      | false ↦ λ e. (elim h [
        | inl same ↦ (let bad = sym (eq-eqb t table same) ∙ e in let worse : ⊥ = cc in absurd worse)
        | inr later ↦ picked_has reach ts table later
      ])
    ]) refl

-- a combination that has these rows is theirs
pub picked_only : (kept : Hidden) (reach : ℕ → ℕ) (tables : List ℕ) → Distinct tables → (x : List Pick) → IsPicked kept tables x
    → ((table : ℕ) → Among table tables → chosen_in x table ≡ Some (reach table)) → x ≡ picked reach tables
picked_only kept reach [] d x f has = f
picked_only kept reach (t ∷ ts) d [] f has = absurd f
picked_only kept reach (t ∷ ts) d (one ∷ others) f has =
    let first : Some one.identifier ≡ Some (reach t) =
    sym (chosen_first one others) ∙ ap (chosen_in (one ∷ others)) f.0 ∙ has t (inl refl) in
    let row : one.identifier ≡ reach t = ap (λ o. unwrap_or o one.identifier) first in
    let rest =
    picked_only kept reach ts d.1 others f.2
    (λ u h. sym (chosen_later one others u (λ e. d.0 (subst (λ w. Among w ts) (sym e ∙ f.0) h))) ∙ has u (inr h)) in
    λ i. record { table = f.0 i; identifier = row i } ∷ rest i

-- what stays of the combinations with one row of the top table, where a test admits no rows but these of the other tables
pub picked_or_none : (kept : Hidden) (reach : ℕ → ℕ) (one : Pick) (tables : List ℕ) → Distinct tables
    → ((table : ℕ) → Among table tables → Among (reach table) (identifiers_of kept table))
    → (p : List Pick → Bool)
    → ((x : List Pick) → IsPicked kept tables x → p (one ∷ x) ≡ true → (table : ℕ) → Among table tables → chosen_in x table ≡ Some (reach table))
    → filter p (map (λ others. one ∷ others) (picks kept tables))
    ≡ (if p (one ∷ picked reach tables) then (one ∷ picked reach tables) ∷ [] else [])
picked_or_none kept reach one tables d within p only =
    filter_exactly p (one ∷ picked reach tables) (map (λ others. one ∷ others) (picks kept tables))
    (distinct-cons one (picks kept tables) (distinct_picks kept tables))
    (to_map (λ others. one ∷ others) (picked reach tables) (picks kept tables) (picked_among kept reach tables within))
    (λ x a e.
    let r = from_map (λ others. one ∷ others) x (picks kept tables) a in
    let f = are_picked kept tables r.0 r.1 in
    let has = only r.0 f (subst (λ w. p w ≡ true) (sym r.2) e) in
    sym r.2 ∙ ap (λ others. one ∷ others) (picked_only kept reach tables d r.0 f has))
