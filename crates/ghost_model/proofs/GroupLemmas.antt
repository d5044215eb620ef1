-- Groups by walks over their list: what a walk over a list whose last group ends tells, what groups of one element are, and what
-- a group is as a list.
use Rattle.std.proofs.Common.{◌≡◌, Bool, true, false, not, ◌&&◌, ◌||◌, List, [], ◌∷◌, ◌++◌, map, flat_map, refl, sym, ap, ◌∙◌}
use Rattle.std.specs.Prelude.{if◌then◌else◌}
use Rattle.std.specs.List.{list_all, list_any}
use Rattle.ghost_model.specs.core.Groups.{each_of, some_of, before_first, groups_of, each_group, ends}
use Rattle.ghost_model.specs.readings.GroupReading.{passes_from}

and_true : (b : Bool) → b ≡ (b && true)
and_true true = refl
and_true false = refl

or_false : (b : Bool) → (b || false) ≡ b
or_false true = refl
or_false false = refl

or_joined : (a b c : Bool) → (a || (b || c)) ≡ ((a || b) || c)
or_joined true b c = refl
or_joined false b c = refl

true_is_not : true ≡ false → ⊥
true_is_not e = cc

neither : (a b : Bool) → (a || b) ≡ false → (a ≡ false) × (b ≡ false)
neither true b e = absurd (true_is_not e)
neither false b e = (refl, e)

-- a group is a list that is not empty
pub each_is_all : {X : Type 0} (p : X → Bool) (first : X) (others : List X) → each_of p first others ≡ list_all p (first ∷ others)
each_is_all p first [] = and_true (p first)
each_is_all p first (next ∷ others) = ap (λ (b : Bool). p first && b) (each_is_all p next others)

pub some_is_any : {X : Type 0} (p : X → Bool) (first : X) (others : List X) → some_of p first others ≡ list_any p (first ∷ others)
some_is_any p first [] = sym (or_false (p first))
some_is_any p first (next ∷ others) = ap (λ (b : Bool). p first || b) (some_is_any p next others)

pub any_mapped : {X Y : Type 0} (p : Y → Bool) (f : X → Y) (xs : List X) → list_any p (map f xs) ≡ list_any (λ x. p (f x)) xs
any_mapped p f [] = refl
any_mapped p f (x ∷ xs) = ap (λ (b : Bool). p (f x) || b) (any_mapped p f xs)

-- lists whose last group ends
ended_rest : {X : Type 0} (more : X → Bool) (x : X) (xs : List X) → ends more (x ∷ xs) ≡ true → ends more xs ≡ true
ended_rest more x [] e = refl
ended_rest more x (next ∷ xs) e = e

ended_before : {X : Type 0} (more : X → Bool) (x : X) (xs : List X) → more x ≡ false → ends more xs ≡ true → ends more (x ∷ xs) ≡ true
ended_before more x [] e f = ap not e
ended_before more x (next ∷ xs) e f = f

pub ends_joined : {X : Type 0} (more : X → Bool) (xs ys : List X) → ends more xs ≡ true → ends more ys ≡ true → ends more (xs ++ ys) ≡ true
ends_joined more [] ys e f = f
ends_joined more (x ∷ []) [] e f = e
ends_joined more (x ∷ []) (y ∷ ys) e f = f
ends_joined more (x ∷ next ∷ xs) ys e f = ends_joined more (next ∷ xs) ys e f

pub ends_flat : {X Y : Type 0} (more : Y → Bool) (f : X → List Y) (xs : List X) → ((x : X) → ends more (f x) ≡ true) → ends more (flat_map f xs) ≡ true
ends_flat more f [] h = refl
ends_flat more f (x ∷ xs) h = ends_joined more (f x) (flat_map f xs) (h x) (ends_flat more f xs h)

pub ends_alone : {X : Type 0} (more : X → Bool) (xs : List X) → list_any more xs ≡ false → ends more xs ≡ true
ends_alone more [] e = refl
ends_alone more (x ∷ xs) e =
    let both : (more x ≡ false) × (list_any more xs ≡ false) = neither (more x) (list_any more xs) e in
    ended_before more x xs both.0 (ends_alone more xs both.1)

-- each is a group where no element says that another of its group follows
alone_if : {X : Type 0} (passes : X → Bool) (x : X) (groups : List (List X)) (more b : Bool) → more ≡ false → list_all (list_any passes) groups ≡ b
    → list_all (list_any passes) (if more then before_first x groups else (x ∷ []) ∷ groups) ≡ (passes x && b)
alone_if passes x groups true b e f = absurd (true_is_not e)
alone_if passes x groups false b e f =
    ap (λ (c : Bool). c && list_all (list_any passes) groups) (or_false (passes x)) ∙ ap (λ (c : Bool). passes x && c) f

pub each_alone : {X : Type 0} (more passes : X → Bool) (xs : List X) → list_any more xs ≡ false → each_group more passes xs ≡ list_all passes xs
unfolding groups_of
each_alone more passes [] e = refl
each_alone more passes (x ∷ xs) e =
    let both : (more x ≡ false) × (list_any more xs ≡ false) = neither (more x) (list_any more xs) e in
    alone_if passes x (groups_of more xs) (more x) (list_all passes xs) both.0 (each_alone more passes xs both.1)

-- groups of a list that a function gives
before_mapped : {X Y : Type 0} (f : X → Y) (x : X) (groups : List (List X)) → before_first (f x) (map (map f) groups) ≡ map (map f) (before_first x groups)
before_mapped f x [] = refl
before_mapped f x (group ∷ groups) = refl

mapped_if : {X Y : Type 0} (f : X → Y) (x : X) (groups : List (List X)) (others : List (List Y)) (more : Bool) → others ≡ map (map f) groups
    → (if more then before_first (f x) others else (f x ∷ []) ∷ others) ≡ map (map f) (if more then before_first x groups else (x ∷ []) ∷ groups)
mapped_if {Y = Y} f x groups others true e = ap (λ (gs : List (List Y)). before_first (f x) gs) e ∙ before_mapped f x groups
mapped_if {Y = Y} f x groups others false e = ap (λ (gs : List (List Y)). (f x ∷ []) ∷ gs) e

pub groups_mapped : {X Y : Type 0} (more : Y → Bool) (f : X → Y) (xs : List X) → groups_of more (map f xs) ≡ map (map f) (groups_of (λ x. more (f x)) xs)
unfolding groups_of
groups_mapped more f [] = refl
groups_mapped more f (x ∷ xs) = mapped_if f x (groups_of (λ x. more (f x)) xs) (groups_of more (map f xs)) (more (f x)) (groups_mapped more f xs)

each_mapped : {X Y : Type 0} (passes : Y → Bool) (f : X → Y) (groups : List (List X))
    → list_all (list_any passes) (map (map f) groups) ≡ list_all (list_any (λ x. passes (f x))) groups
each_mapped passes f [] = refl
each_mapped passes f (group ∷ groups) =
    ap (λ (b : Bool). b && list_all (list_any passes) (map (map f) groups)) (any_mapped passes f group)
    ∙ ap (λ (b : Bool). list_any (λ x. passes (f x)) group && b) (each_mapped passes f groups)

pub each_group_mapped : {X Y : Type 0} (more passes : Y → Bool) (f : X → Y) (xs : List X)
    → each_group more passes (map f xs) ≡ each_group (λ x. more (f x)) (λ x. passes (f x)) xs
each_group_mapped {Y = Y} more passes f xs =
    ap (λ (groups : List (List Y)). list_all (list_any passes) groups) (groups_mapped more f xs)
    ∙ each_mapped passes f (groups_of (λ x. more (f x)) xs)

pub alone_mapped : {X Y : Type 0} (more passes : Y → Bool) (f : X → Y) (xs : List X) → list_any (λ x. more (f x)) xs ≡ false
    → each_group more passes (map f xs) ≡ list_all (λ x. passes (f x)) xs
alone_mapped more passes f xs e = each_group_mapped more passes f xs ∙ each_alone (λ x. more (f x)) (λ x. passes (f x)) xs e

-- whether groups pass, the first of them also where one of its elements before these passed
with_first : {X : Type 0} → (passes : X → Bool) → (met : Bool) → List (List X) → Bool
with_first passes met [] = true
with_first passes met (group ∷ groups) = (met || list_any passes group) && list_all (list_any passes) groups

first_not_met : {X : Type 0} (passes : X → Bool) (groups : List (List X)) → with_first passes false groups ≡ list_all (list_any passes) groups
unfolding with_first
first_not_met passes [] = refl
first_not_met passes (group ∷ groups) = refl

-- an element before a group that is not empty
before_met : {X : Type 0} (passes : X → Bool) (met : Bool) (x : X) (group : List X) (groups : List (List X))
    → with_first passes met (before_first x (group ∷ groups)) ≡ with_first passes (met || passes x) (group ∷ groups)
unfolding with_first
before_met passes met x group groups =
    ap (λ (b : Bool). b && list_all (list_any passes) groups) (or_joined met (passes x) (list_any passes group))

met_before : {X : Type 0} (passes : X → Bool) (met : Bool) (x y : X) (groups : List (List X)) (more : Bool)
    → with_first passes met (before_first x (if more then before_first y groups else (y ∷ []) ∷ groups))
    ≡ with_first passes (met || passes x) (if more then before_first y groups else (y ∷ []) ∷ groups)
met_before passes met x y [] true = before_met passes met x (y ∷ []) []
met_before passes met x y (group ∷ groups) true = before_met passes met x (y ∷ group) groups
met_before passes met x y groups false = before_met passes met x (y ∷ []) groups

-- a step of a walk
walked_if : {X : Type 0} (more passes : X → Bool) (met : Bool) (x : X) (xs : List X) (b : Bool) → b ≡ more x → ends more (x ∷ xs) ≡ true
    → ((before : Bool) → passes_from more passes before xs ≡ with_first passes before (groups_of more xs))
    → (if b then passes_from more passes (met || passes x) xs else (met || passes x) && passes_from more passes false xs)
    ≡ with_first passes met (if b then before_first x (groups_of more xs) else (x ∷ []) ∷ groups_of more xs)
unfolding groups_of with_first
walked_if more passes met x [] true e f h = absurd (true_is_not (sym f ∙ ap not (sym e)))
walked_if more passes met x (y ∷ ys) true e f h = h (met || passes x) ∙ sym (met_before passes met x y (groups_of more ys) (more y))
walked_if more passes met x xs false e f h =
    ap (λ (b : Bool). (met || passes x) && b) (h false ∙ first_not_met passes (groups_of more xs))
    ∙ ap (λ (b : Bool). (met || b) && list_all (list_any passes) (groups_of more xs)) (sym (or_false (passes x)))

walked : {X : Type 0} (more passes : X → Bool) (met : Bool) (xs : List X) → ends more xs ≡ true
    → passes_from more passes met xs ≡ with_first passes met (groups_of more xs)
unfolding groups_of passes_from with_first
walked more passes met [] e = refl
walked more passes met (x ∷ xs) e =
    walked_if more passes met x xs (more x) refl e (λ before. walked more passes before xs (ended_rest more x xs e))

-- a walk over a list whose last group ends tells whether each of its groups passes
pub walk_is_each : {X : Type 0} (more passes : X → Bool) (xs : List X) → ends more xs ≡ true
    → passes_from more passes false xs ≡ each_group more passes xs
walk_is_each more passes xs e = walked more passes false xs e ∙ first_not_met passes (groups_of more xs)
