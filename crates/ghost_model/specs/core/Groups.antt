-- Groups: several things of which one is to pass. A group is its first element and the others, so none is empty. In a list of
-- the elements of several groups each says whether the next one is of its group.
use Rattle.std.specs.Prelude.{ℕ, ◌+◌, Bool, true, not, ◌&&◌, ◌||◌, List, [], ◌∷◌, if◌then◌else◌}
use Rattle.std.specs.List.{list_any, list_all}

-- whether all elements of a group pass, and whether one does
abbrev pub each_of : {X : Type 0} → (X → Bool) → (first : X) → (others : List X) → Bool
each_of passes first [] = passes first
each_of passes first (next ∷ others) = passes first && each_of passes next others

abbrev pub some_of : {X : Type 0} → (X → Bool) → (first : X) → (others : List X) → Bool
some_of passes first [] = passes first
some_of passes first (next ∷ others) = passes first || some_of passes next others

-- the sum of a group's numbers
abbrev pub sum_of : {X : Type 0} → (X → ℕ) → (first : X) → (others : List X) → ℕ
sum_of number first [] = number first
sum_of number first (next ∷ others) = number first + sum_of number next others

-- an element before the others of the first group
abbrev pub before_first : {X : Type 0} → X → List (List X) → List (List X)
before_first x [] = (x ∷ []) ∷ []
before_first x (group ∷ groups) = (x ∷ group) ∷ groups

-- the groups in a list whose elements say whether the next one is of their group
unfoldable pub groups_of : {X : Type 0} → (more : X → Bool) → List X → List (List X)
groups_of more [] = []
groups_of more (x ∷ xs) = if more x then before_first x (groups_of more xs) else (x ∷ []) ∷ groups_of more xs

-- whether each of these groups has an element that passes
abbrev pub each_group : {X : Type 0} → (more passes : X → Bool) → List X → Bool
each_group more passes xs = list_all (list_any passes) (groups_of more xs)

-- whether the last element says that none of its group follows
abbrev pub ends : {X : Type 0} → (more : X → Bool) → List X → Bool
ends more [] = true
ends more (x ∷ []) = not (more x)
ends more (x ∷ next ∷ xs) = ends more (next ∷ xs)
