-- Which conditions of a query are the key's: each that is tested is gathered or left, and none is both; a group that is gathered has
-- no visible column, and a member alone is not left. Visible groups and joins are neither.
use Rattle.std.proofs.Common.{◌≡◌, refl, sym, ap, ◌∙◌, ℕ, Bool, true, false, not, ◌&&◌, ◌||◌, List, [], ◌∷◌, filter, if◌then◌else◌}
use Rattle.std.specs.List.{list_all}
use Rattle.ghost_model.specs.core.Schema.{Schema, is_visible}
use Rattle.ghost_model.specs.core.Groups.{each_of, some_of}
use Rattle.ghost_model.specs.core.Query.{Query, Field, Member, Condition, OneOf, Join}
use Rattle.ghost_model.specs.core.Values.{Row, Database}
use Rattle.ghost_model.specs.core.Replies.{Reply}
use Rattle.ghost_model.specs.forms.Left.{is_tested, is_gathered, is_left, without_left}
use Rattle.ghost_laws.specs.Scans.{stands_along, holds_or_asked_along, known_along, known_row}

or_none : (b : Bool) → b ≡ (b || false)
or_none true = refl
or_none false = refl

and_none : (b : Bool) → (b && false) ≡ false
and_none true = refl
and_none false = refl

true_is_not : true ≡ false → ⊥
true_is_not e = cc

pub tested_is_either : (schema : Schema) (c : Condition) → is_tested schema c ≡ (is_gathered schema c || is_left schema c)
tested_is_either schema (OneOf first []) = or_none (not (is_visible schema first.field.table first.field.column))
tested_is_either schema (OneOf first (next ∷ others)) = refl
tested_is_either schema (Join one other) = refl

pub never_both : (schema : Schema) (c : Condition) → (is_gathered schema c && is_left schema c) ≡ false
never_both schema (OneOf first []) = and_none (not (is_visible schema first.field.table first.field.column))
never_both schema (OneOf first (next ∷ others)) = refl
never_both schema (Join one other) = refl

pub gathered_is_kept : (schema : Schema) (first : Member) (others : List Member) → is_gathered schema (OneOf first others) ≡ true
    → each_of (λ one. not (is_visible schema one.field.table one.field.column)) first others ≡ true
gathered_is_kept schema first [] e = e
gathered_is_kept schema first (next ∷ others) e = absurd (true_is_not (sym e))

pub alone_is_not_left : (schema : Schema) (only : Member) → is_left schema (OneOf only []) ≡ false
alone_is_not_left schema only = refl

-- what follows uses no more of the two than these say
pub left_is_tested : (schema : Schema) (c : Condition) → is_left schema c ≡ true → is_tested schema c ≡ true
left_is_tested schema c e = tested_is_either schema c ∙ or_right (is_gathered schema c) (is_left schema c) e
  where
    or_right : (a b : Bool) → b ≡ true → (a || b) ≡ true
    or_right true b h = refl
    or_right false b h = h

-- a group that is tested and not left has no visible column
pub unleft_is_kept : (schema : Schema) (first : Member) (others : List Member) → is_tested schema (OneOf first others) ≡ true → is_left schema (OneOf first others) ≡ false
    → each_of (λ one. not (is_visible schema one.field.table one.field.column)) first others ≡ true
unleft_is_kept schema first others tested unleft =
    gathered_is_kept schema first others
    (first_of (is_gathered schema (OneOf first others)) (is_left schema (OneOf first others)) unleft (sym (tested_is_either schema (OneOf first others)) ∙ tested))
  where
    first_of : (a b : Bool) → b ≡ false → (a || b) ≡ true → a ≡ true
    first_of true b e h = refl
    first_of false b e h = absurd (true_is_not (sym h ∙ e))

-- a group is tested where not all of its columns are visible
not_each : (a b c : Bool) → b ≡ not c → (not a || b) ≡ not (a && c)
not_each true b c e = e
not_each false b c e = refl

some_is_not_each : {X : Type 0} (p : X → Bool) (first : X) (others : List X) → some_of (λ x. not (p x)) first others ≡ not (each_of p first others)
some_is_not_each p first [] = refl
some_is_not_each p first (next ∷ others) =
    not_each (p first) (some_of (λ x. not (p x)) next others) (each_of p next others) (some_is_not_each p next others)

pub tested_is_not_visible : (schema : Schema) (first : Member) (others : List Member)
    → is_tested schema (OneOf first others) ≡ not (each_of (λ one. is_visible schema one.field.table one.field.column) first others)
tested_is_not_visible schema first others =
    some_is_not_each (λ (one : Member). is_visible schema one.field.table one.field.column) first others

neither : (a b : Bool) → (a || b) ≡ false → (a ≡ false) × (b ≡ false)
neither true b e = absurd (true_is_not e)
neither false b e = (refl, e)

pub visible_is_neither : (schema : Schema) (first : Member) (others : List Member)
    → each_of (λ one. is_visible schema one.field.table one.field.column) first others ≡ true
    → (is_gathered schema (OneOf first others) ≡ false) × (is_left schema (OneOf first others) ≡ false)
visible_is_neither schema first others visible =
    neither (is_gathered schema (OneOf first others)) (is_left schema (OneOf first others))
    (sym (tested_is_either schema (OneOf first others)) ∙ (tested_is_not_visible schema first others ∙ ap not visible))

pub join_is_neither : (schema : Schema) (one other : Field) → (is_gathered schema (Join one other) ≡ false) × (is_left schema (Join one other) ≡ false)
join_is_neither schema one other = (refl, refl)

-- the conditions that are tested, apart
and_joined : (a b c : Bool) → (a && (b && c)) ≡ ((a && b) && c)
and_joined true b c = refl
and_joined false b c = refl

and_between : (a b c : Bool) → (a && (b && c)) ≡ (b && (a && c))
and_between true b c = refl
and_between false true c = refl
and_between false false c = refl

one_apart : {X : Type 0} (holds : X → Bool) (x : X) (all some rest : List X) (tested gathered left : Bool)
    → tested ≡ (gathered || left) → (gathered && left) ≡ false → list_all holds all ≡ (list_all holds some && list_all holds rest)
    → list_all holds (if tested then x ∷ all else all)
    ≡ (list_all holds (if gathered then x ∷ some else some) && list_all holds (if left then x ∷ rest else rest))
one_apart holds x all some rest tested true true e never h = absurd (true_is_not never)
one_apart holds x all some rest tested true false e never h =
    ap (λ (b : Bool). list_all holds (if b then x ∷ all else all)) e
    ∙ (ap (λ (b : Bool). holds x && b) h ∙ and_joined (holds x) (list_all holds some) (list_all holds rest))
one_apart holds x all some rest tested false true e never h =
    ap (λ (b : Bool). list_all holds (if b then x ∷ all else all)) e
    ∙ (ap (λ (b : Bool). holds x && b) h ∙ and_between (holds x) (list_all holds some) (list_all holds rest))
one_apart holds x all some rest tested false false e never h =
    ap (λ (b : Bool). list_all holds (if b then x ∷ all else all)) e ∙ h

-- what is either of two and never both, apart
pub parts_apart : (whole one other : Condition → Bool) → ((c : Condition) → whole c ≡ (one c || other c)) → ((c : Condition) → (one c && other c) ≡ false)
    → (holds : Condition → Bool) (conditions : List Condition)
    → list_all holds (filter whole conditions) ≡ (list_all holds (filter one conditions) && list_all holds (filter other conditions))
parts_apart whole one other either never holds [] = refl
parts_apart whole one other either never holds (c ∷ conditions) =
    one_apart holds c (filter whole conditions) (filter one conditions) (filter other conditions) (whole c) (one c) (other c) (either c) (never c)
    (parts_apart whole one other either never holds conditions)

pub tested_apart : (schema : Schema) (holds : Condition → Bool) (conditions : List Condition)
    → list_all holds (filter (is_tested schema) conditions)
    ≡ (list_all holds (filter (is_gathered schema) conditions) && list_all holds (filter (is_left schema) conditions))
tested_apart schema holds conditions =
    parts_apart (is_tested schema) (is_gathered schema) (is_left schema) (tested_is_either schema) (never_both schema) holds conditions

-- the conditions of a query without its groups that are left
kept_twice : {X : Type 0} (p keep : X → Bool) (xs : List X) → ((x : X) → p x ≡ true → keep x ≡ true) → filter p (filter keep xs) ≡ filter p xs
kept_twice p keep [] more = refl
kept_twice {X = X} p keep (x ∷ xs) more =
    let later = kept_twice p keep xs more in
    (elim (p x) as (λ v. p x ≡ v → filter p (if keep x then x ∷ filter keep xs else filter keep xs) ≡ (if v then x ∷ filter p xs else filter p xs)) [
      | true ↦ λ e.
          ap (λ (b : Bool). filter p (if b then x ∷ filter keep xs else filter keep xs)) (more x e)
          ∙ (ap (λ (b : Bool). if b then x ∷ filter p (filter keep xs) else filter p (filter keep xs)) e ∙ ap (λ (ys : List X). x ∷ ys) later)
      | false ↦ λ e.
          ((elim (keep x) as (λ v. filter p (if v then x ∷ filter keep xs else filter keep xs) ≡ filter p (filter keep xs)) [
            | true ↦ ap (λ (b : Bool). if b then x ∷ filter p (filter keep xs) else filter p (filter keep xs)) e
            | false ↦ refl
          ]) ∙ later)
    ]) refl

none_kept : {X : Type 0} (p : X → Bool) (xs : List X) → filter p (filter (λ x. not (p x)) xs) ≡ []
none_kept p [] = refl
none_kept p (x ∷ xs) =
    (elim (p x) as (λ v. p x ≡ v → filter p (if not v then x ∷ filter (λ y. not (p y)) xs else filter (λ y. not (p y)) xs) ≡ []) [
      | true ↦ λ e. none_kept p xs
      | false ↦ λ e.
          ap (λ (b : Bool). if b then x ∷ filter p (filter (λ y. not (p y)) xs) else filter p (filter (λ y. not (p y)) xs)) e ∙ none_kept p xs
    ]) refl

gathered_is_not_left : (gathered left : Bool) → (gathered && left) ≡ false → gathered ≡ true → not left ≡ true
gathered_is_not_left true true e h = absurd (true_is_not e)
gathered_is_not_left true false e h = refl
gathered_is_not_left false left e h = absurd (true_is_not (sym h))

pub gathered_without_left : (schema : Schema) (asked : Query)
    → filter (is_gathered schema) (without_left schema asked).conditions ≡ filter (is_gathered schema) asked.conditions
gathered_without_left schema asked =
    kept_twice (is_gathered schema) (λ condition. not (is_left schema condition)) asked.conditions
    (λ c h. gathered_is_not_left (is_gathered schema c) (is_left schema c) (never_both schema c) h)

pub none_left : (schema : Schema) (asked : Query) → filter (is_left schema) (without_left schema asked).conditions ≡ []
none_left schema asked = none_kept (is_left schema) asked.conditions

-- a row without a line in the answer of the query without these groups has none in that of the query
fails_with_more : {X : Type 0} (p keep : X → Bool) (xs : List X) → list_all p (filter keep xs) ≡ false → list_all p xs ≡ false
fails_with_more p keep [] h = absurd (true_is_not h)
fails_with_more p keep (x ∷ xs) h =
    (elim (keep x) as (λ v. list_all p (if v then x ∷ filter keep xs else filter keep xs) ≡ false → (p x && list_all p xs) ≡ false) [
      | true ↦ λ e. and_fails (p x) (list_all p (filter keep xs)) (list_all p xs) (λ f. fails_with_more p keep xs f) e
      | false ↦ λ e. ap (λ (b : Bool). p x && b) (fails_with_more p keep xs e) ∙ and_none (p x)
    ]) h
  where
    and_fails : (a b c : Bool) → (b ≡ false → c ≡ false) → (a && b) ≡ false → (a && c) ≡ false
    and_fails true b c more e = more e
    and_fails false b c more e = refl

no_row : (stands fewer more : Bool) (row : Row) → (fewer ≡ false → more ≡ false)
    → (if stands && fewer then row ∷ [] else []) ≡ [] → (if stands && more then row ∷ [] else []) ≡ []
no_row false fewer more row fails h = refl
no_row true true more row fails h = absurd (one_is_not_none row h)
  where
    one_is_not_none : (r : Row) → r ∷ [] ≡ [] → ⊥
    one_is_not_none r e = cc
no_row true false more row fails h = ap (λ (b : Bool). if b then row ∷ [] else []) (fails refl)

pub no_row_without_left : (schema : Schema) (database : Database) (asked : Query) (given : List Reply) (top identifier : ℕ)
    → known_row schema database (without_left schema asked) given top identifier ≡ [] → known_row schema database asked given top identifier ≡ []
no_row_without_left schema database asked given top identifier h =
    let holds = holds_or_asked_along schema (known_along schema database given top identifier) in
    no_row (list_all (stands_along schema database given top identifier) asked.from)
    (list_all holds (without_left schema asked).conditions) (list_all holds asked.conditions) _
    (λ e. fails_with_more holds (λ condition. not (is_left schema condition)) asked.conditions e) h
