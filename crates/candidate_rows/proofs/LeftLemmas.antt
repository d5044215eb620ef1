-- How groups that are left are tested, member by member.
use Rattle.std.proofs.Common.{◌≡◌, ◌∙◌, ℕ, Bool, true, false, not, ◌&&◌, ◌||◌, List, [], ◌∷◌, ◌++◌, filter, slice_get, Option, None, Some, is_some, if◌then◌else◌, sym, refl, ap, ap₂}
use Rattle.std.specs.List.{list_all, list_any}
use Rattle.ghost_model.specs.core.Schema.{Schema, is_empty}
use Rattle.ghost_model.specs.core.Values.{Value}
use Rattle.ghost_model.specs.core.Query.{Field, Member, GroupMember, members_of_group, Condition, OneOf, Join, members_in}
use Rattle.ghost_model.specs.core.Groups.{some_of, before_first, groups_of, each_group}
use Rattle.ghost_model.specs.core.Meaning.{meets_test}
use Rattle.ghost_laws.specs.Scans.{holds_along}
use Rattle.ghost_base.specs.declared.value.Value.{Value as Literal}
use Rattle.candidate_rows.specs.declared.plan.LeftMember.{LeftMember}
use Rattle.candidate_rows.specs.Plans.{AreLeftMembers, is_left_by}
use Rattle.ghost_model.proofs.MeaningLemmas.OneRow.{both_true}
use Rattle.candidate_rows.specs.Working.{value_in, value_or_zero, meets_in, left_hold}

or_behind : (a b c : Bool) → (a || (b || c)) ≡ ((a || b) || c)
or_behind true b c = refl
or_behind false b c = refl

or_none : (b : Bool) → (b || false) ≡ b
or_none true = refl
or_none false = refl

-- whether each group passes, where one of the first group's members did before
unfoldable pub pass_from : {X : Type 0} → (more passes : X → Bool) → (met : Bool) → List X → Bool
pass_from more passes met [] = true
pass_from more passes met (x ∷ xs) =
    if more x && not (is_empty xs) then pass_from more passes (met || passes x) xs
    else (met || passes x) && pass_from more passes false xs

module _ {X : Type 0} (more passes : X → Bool) where
  abbrev all_from : (met : Bool) → List (List X) → Bool
  all_from met [] = true
  all_from met (group ∷ groups) = (met || list_any passes group) && list_all (list_any passes) groups

  from_none : (groups : List (List X)) → all_from false groups ≡ list_all (list_any passes) groups
  from_none [] = refl
  from_none (group ∷ groups) = refl

  begun : (met : Bool) (x : X) (group : List X) (groups : List (List X)) → all_from (met || passes x) (group ∷ groups) ≡ all_from met (before_first x (group ∷ groups))
  begun met x group groups = ap (λ b. b && list_all (list_any passes) groups) (sym (or_behind met (passes x) (list_any passes group)))

  abbrev IsBegun : (met : Bool) → X → List (List X) → Type 0
  IsBegun met x groups = all_from (met || passes x) groups ≡ all_from met (before_first x groups)

  begun_any : (met : Bool) (x y : X) (ys : List X) → IsBegun met x (groups_of more (y ∷ ys))
  unfolding groups_of
  begun_any met x y ys =
      elim (more y) as (λ b. IsBegun met x (if b then before_first y (groups_of more ys) else (y ∷ []) ∷ groups_of more ys)) [
        | true ↦ first (groups_of more ys)
        | false ↦ begun met x (y ∷ []) (groups_of more ys)
      ]
    where
      first : (groups : List (List X)) → IsBegun met x (before_first y groups)
      first [] = begun met x (y ∷ []) []
      first (group ∷ groups) = begun met x (y ∷ group) groups

  from_groups : (met : Bool) (xs : List X) → pass_from more passes met xs ≡ all_from met (groups_of more xs)
  unfolding pass_from groups_of
  from_groups met [] = refl
  from_groups met (x ∷ []) =
      elim (more x) as (λ b. (if b && false then pass_from more passes (met || passes x) [] else (met || passes x) && pass_from more passes false [])
      ≡ all_from met (if b then before_first x [] else (x ∷ []) ∷ [])) [
        | true ↦ ap (λ b. (met || b) && true) (sym (or_none (passes x)))
        | false ↦ ap (λ b. (met || b) && true) (sym (or_none (passes x)))
      ]
  from_groups met (x ∷ y ∷ ys) =
      elim (more x) as (λ b. (if b && true then pass_from more passes (met || passes x) (y ∷ ys) else (met || passes x) && pass_from more passes false (y ∷ ys))
      ≡ all_from met (if b then before_first x (groups_of more (y ∷ ys)) else (x ∷ []) ∷ groups_of more (y ∷ ys))) [
        | true ↦ from_groups (met || passes x) (y ∷ ys) ∙ begun_any met x y ys
        | false ↦ ap₂ (λ a b. (met || a) && b) (sym (or_none (passes x))) (from_groups false (y ∷ ys) ∙ from_none (groups_of more (y ∷ ys)))
      ]

  pub group_by_group : (xs : List X) → pass_from more passes false xs ≡ each_group more passes xs
  group_by_group xs = from_groups false xs ∙ from_none (groups_of more xs)

  -- member by member
  pub from_last : (met : Bool) (x : X) (xs : List X) → (more x && not (is_empty xs)) ≡ false
      → pass_from more passes met (x ∷ xs) ≡ ((met || passes x) && pass_from more passes false xs)
  unfolding pass_from
  from_last met x xs e =
      ap (λ b. if b then pass_from more passes (met || passes x) xs else (met || passes x) && pass_from more passes false xs) e

  pub from_more : (met : Bool) (x : X) (xs : List X) → (more x && not (is_empty xs)) ≡ true
      → pass_from more passes met (x ∷ xs) ≡ pass_from more passes (met || passes x) xs
  unfolding pass_from
  from_more met x xs e =
      ap (λ b. if b then pass_from more passes (met || passes x) xs else (met || passes x) && pass_from more passes false xs) e

  pub from_end : (met : Bool) → pass_from more passes met [] ≡ true
  unfolding pass_from
  from_end met = refl

-- ---- the groups of a query

abbrev says_more : GroupMember → Bool
says_more one = one.more

abbrev meets_along : (Field → Option Value) → GroupMember → Bool
meets_along value one = meets_test one.member.test (value one.member.field)

some_members : (first : Member) (others : List Member) (rest : List GroupMember) → is_empty (members_of_group first others ++ rest) ≡ false
some_members first [] rest = refl
some_members first (next ∷ others) rest = refl

module _ (value : Field → Option Value) where
  group_from : (met : Bool) (first : Member) (others : List Member) (rest : List GroupMember)
      → pass_from says_more (meets_along value) met (members_of_group first others ++ rest)
      ≡ ((met || some_of (λ one. meets_test one.test (value one.field)) first others) && pass_from says_more (meets_along value) false rest)
  unfolding pass_from
  group_from met first [] rest = refl
  group_from met first (next ∷ others) rest =
      ap (λ b. if not b then pass_from says_more (meets_along value) (met || meets_test first.test (value first.field)) (members_of_group next others ++ rest)
      else (met || meets_test first.test (value first.field)) && pass_from says_more (meets_along value) false (members_of_group next others ++ rest))
      (some_members next others rest)
      ∙ group_from (met || meets_test first.test (value first.field)) next others rest
      ∙ ap (λ b. b && pass_from says_more (meets_along value) false rest)
      (sym (or_behind met (meets_test first.test (value first.field)) (some_of (λ one. meets_test one.test (value one.field)) next others)))

  left_from : (schema : Schema) (sifted : Bool) (conditions : List Condition)
      → pass_from says_more (meets_along value) false (members_in (filter (is_left_by schema sifted) conditions)) ≡ list_all (holds_along value) (filter (is_left_by schema sifted) conditions)
  unfolding pass_from
  left_from schema sifted [] = refl
  left_from schema sifted (OneOf first others ∷ conditions) =
      elim (is_left_by schema sifted (OneOf first others)) as (λ b. pass_from says_more (meets_along value) false (members_in (if b then OneOf first others ∷ filter (is_left_by schema sifted) conditions else filter (is_left_by schema sifted) conditions))
      ≡ list_all (holds_along value) (if b then OneOf first others ∷ filter (is_left_by schema sifted) conditions else filter (is_left_by schema sifted) conditions)) [
        | true ↦ group_from false first others (members_in (filter (is_left_by schema sifted) conditions))
            ∙ ap (λ b. some_of (λ one. meets_test one.test (value one.field)) first others && b) (left_from schema sifted conditions)
        | false ↦ left_from schema sifted conditions
      ]
  left_from schema sifted (Join one other ∷ conditions) = left_from schema sifted conditions

  -- by the values in their places
  abbrev pub are_there : List GroupMember → Bool
  are_there members = list_all (λ (one : GroupMember). is_some (value one.member.field)) members

  value_there : (found : Option Value) (held : Value) → is_some found ≡ true → held ≡ value_or_zero found → Some held ≡ found
  value_there None held there e = absurd (cc (there))
  value_there (Some one) held there e = ap Some e

  module _ (columns : List Field) (values : List Literal)
      (each : (place : ℕ) (field : Field) → slice_get columns place ≡ Some field → value_in values place ≡ value_or_zero (value field)) where
    both_empty : (members : List GroupMember) (left : List LeftMember) → AreLeftMembers columns members left → is_empty left ≡ is_empty members
    both_empty [] [] are = refl
    both_empty [] (_ ∷ _) are = absurd are
    both_empty (_ ∷ _) [] are = absurd are
    both_empty (_ ∷ _) (_ ∷ _) are = refl

    same_from : (met : Bool) (members : List GroupMember) (left : List LeftMember) → AreLeftMembers columns members left → are_there members ≡ true
        → pass_from (λ (one : LeftMember). one.more) (meets_in values) met left ≡ pass_from says_more (meets_along value) met members
    unfolding pass_from
    same_from met [] [] are there = refl
    same_from met [] (_ ∷ _) are there = absurd are
    same_from met (_ ∷ _) [] are there = absurd are
    same_from met (wanted ∷ members) (one ∷ left) are there =
        let both = both_true (is_some (value wanted.member.field)) (are_there members) there in
        let meets : meets_in values one ≡ meets_along value wanted =
        ap₂ (λ test held. meets_test test held) are.0.test_is
        (value_there (value wanted.member.field) (value_in values one.place) both.0 (each one.place wanted.member.field are.0.column_is)) in
        ap₂ (λ (b : Bool) (met_now : Bool). if b then pass_from (λ (one : LeftMember). one.more) (meets_in values) met_now left
        else met_now && pass_from (λ (one : LeftMember). one.more) (meets_in values) false left)
        (ap₂ (λ a b. a && not b) are.0.more_is (both_empty members left are.1)) (ap (λ b. met || b) meets)
        ∙ ap₂ (λ a b. if says_more wanted && not (is_empty members) then a else (met || meets_along value wanted) && b)
        (same_from (met || meets_along value wanted) members left are.1 both.1) (same_from false members left are.1 both.1)

    pub left_holds : (schema : Schema) (sifted : Bool) (conditions : List Condition) (left : List LeftMember) → AreLeftMembers columns (members_in (filter (is_left_by schema sifted) conditions)) left
        → are_there (members_in (filter (is_left_by schema sifted) conditions)) ≡ true
        → left_hold values left ≡ list_all (holds_along value) (filter (is_left_by schema sifted) conditions)
    left_holds schema sifted conditions left are there =
        sym (group_by_group (λ (one : LeftMember). one.more) (meets_in values) left)
        ∙ same_from false (members_in (filter (is_left_by schema sifted) conditions)) left are there
        ∙ left_from schema sifted conditions
