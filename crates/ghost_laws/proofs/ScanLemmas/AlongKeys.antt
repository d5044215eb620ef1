-- The answers of a query that is followed as an accepted one is are found along the foreign keys, and without its groups that are left
-- it is such a query too.
use Rattle.std.proofs.Common.{◌≡◌, refl, ap, ◌∙◌, ℕ, ◌≤◌, Bool, true, false, not, ◌&&◌, ◌||◌, List, [], ◌∷◌, length, filter, Option, Some, None, arith, length-append, if◌then◌else◌}
use Rattle.std.specs.Prelude.{is_some}
use Rattle.std.specs.List.{list_all, list_any}
use Rattle.ghost_model.specs.core.Schema.{Schema, column_at}
use Rattle.ghost_model.specs.core.Query.{Query, Field, Member, Condition, OneOf, Join, members_of, members_in}
use Rattle.ghost_model.specs.refusals.QueryMeaning.{is_reference_to, is_join_of}
use Rattle.ghost_model.specs.forms.Left.{is_left}
use Rattle.ghost_model.proofs.MeaningLemmas.OneRow.{Among, IsLinked, among_is, is_among_to, no_repeat, both_true, either_true}
use Rattle.ghost_model.proofs.SessionLemmas.Members.{each_true}
use Rattle.ghost_laws.specs.Followed.{is_column_from, is_condition_from, IsFollowed, WithoutLeftIsFollowed}
use Rattle.ghost_laws.specs.Scans.{AnswersFollowKeys, KnownAnswersFollowKeys, FollowedAnswersFollowKeys, FollowedKnownAnswersFollowKeys}
use Rattle.ghost_laws.proofs.ScanLemmas.Accepted.{pass_each, each_with, StandsFrom, IsJoinOrTest, HasConditions}
use Rattle.ghost_laws.proofs.ScanLemmas.Columns.{HasColumn}
use Rattle.ghost_laws.proofs.ScanLemmas.Rows.{answers_follow}
use Rattle.ghost_laws.proofs.ScanLemmas.KnownRows.{known_answers_follow}
use Rattle.ghost_laws.proofs.ScanLemmas.Followed.{accepted_queries_are_followed}

-- what a query that is followed is
there_is : {X : Type 0} (o : Option X) → is_some o ≡ true → (x : X) × (o ≡ Some x)
there_is None h = let bad : ⊥ = cc in absurd bad
there_is (Some x) h = (x, refl)

module _ (schema : Schema) (asked : Query) (top : ℕ) (followed : IsFollowed schema asked top) where
  column_is : (f : Field) → is_column_from schema asked.from f ≡ true → Among f.table asked.from × HasColumn schema f
  column_is f h =
      let both = both_true _ (is_some (column_at schema f.table f.column)) h in
      (is_among_to f.table asked.from both.0, there_is (column_at schema f.table f.column) both.1)

  condition_is : (c : Condition) → is_condition_from schema asked.from c ≡ true → StandsFrom asked.from c × IsJoinOrTest schema c
  condition_is (OneOf first others) h = (
    each_with (λ (one : Member). Among one.field.table asked.from) (first ∷ others)
        (λ one a. (column_is one.field (each_true (λ (it : Member). is_column_from schema asked.from it.field) one first others h a)).0),
    tt,
  )
  condition_is (Join one other) h =
      let both = both_true (is_column_from schema asked.from one && is_column_from schema asked.from other) (is_reference_to schema one other || is_reference_to schema other one) h in
      let columns = both_true (is_column_from schema asked.from one) (is_column_from schema asked.from other) both.0 in (
        ((column_is one columns.0).0, (column_is other columns.1).0),
        either_true (is_reference_to schema one other) (is_reference_to schema other one) both.1,
      )

  pub followed_conditions : HasConditions schema asked
  followed_conditions = record {
    from = λ c a. (condition_is c (pass_each (is_condition_from schema asked.from) asked.conditions followed.conditions c a)).0;
    joins = λ c a. (condition_is c (pass_each (is_condition_from schema asked.from) asked.conditions followed.conditions c a)).1;
  }

  pub followed_linked : IsLinked schema asked top
  followed_linked = record {
    distinct = no_repeat asked.from followed.once;
    upward = λ table a differ.
        let up = followed.parents table (among_is table asked.from a) differ in
        record { above = up.above; is_parent = up.is_parent; stands = is_among_to up.above asked.from up.stands; joined = followed.joined table (among_is table asked.from a) differ };
  }

  pub followed_selected : (f : Field) → Among f asked.select → Among f.table asked.from × HasColumn schema f
  followed_selected f a = column_is f (pass_each (is_column_from schema asked.from) asked.select followed.selected f a)

pub followed_answers_follow_keys : FollowedAnswersFollowKeys
followed_answers_follow_keys schema tree database is asked top at_top followed =
    answers_follow schema tree database is asked top at_top (followed_linked schema asked top followed) (followed_conditions schema asked top followed)
    (λ f a. (followed_selected schema asked top followed f a).0) (λ f a. (followed_selected schema asked top followed f a).1)

pub followed_known_answers_follow_keys : FollowedKnownAnswersFollowKeys
followed_known_answers_follow_keys schema tree database is given asked top at_top followed =
    known_answers_follow schema tree database is given asked top at_top (followed_linked schema asked top followed) (followed_conditions schema asked top followed)
    (λ f a. (followed_selected schema asked top followed f a).0)

pub answers_follow_keys : AnswersFollowKeys
answers_follow_keys schema tree database is text asked means top at_top =
    followed_answers_follow_keys schema tree database is asked top at_top (accepted_queries_are_followed schema tree text asked means top at_top)

pub known_answers_follow_keys : KnownAnswersFollowKeys
known_answers_follow_keys schema tree database is text asked means given top at_top =
    followed_known_answers_follow_keys schema tree database is given asked top at_top (accepted_queries_are_followed schema tree text asked means top at_top)

-- ---- without the groups that are left

kept_pass : {X : Type 0} (p keep : X → Bool) (xs : List X) → list_all p xs ≡ true → list_all p (filter keep xs) ≡ true
kept_pass p keep [] h = refl
kept_pass p keep (x ∷ xs) h =
    let both = both_true (p x) (list_all p xs) h in
    let later = kept_pass p keep xs both.1 in
    (elim (keep x) as (λ v. list_all p (if v then x ∷ filter keep xs else filter keep xs) ≡ true) [
      | true ↦ ap (λ (b : Bool). b && list_all p (filter keep xs)) both.0 ∙ later
      | false ↦ later
    ])

joins_kept : (schema : Schema) (table : ℕ) (conditions : List Condition)
    → list_any (is_join_of schema table) (filter (λ condition. not (is_left schema condition)) conditions) ≡ list_any (is_join_of schema table) conditions
joins_kept schema table [] = refl
joins_kept schema table (Join left right ∷ conditions) =
    ap (λ (b : Bool). is_join_of schema table (Join left right) || b) (joins_kept schema table conditions)
joins_kept schema table (OneOf first others ∷ conditions) =
    let kept = filter (λ condition. not (is_left schema condition)) conditions in
    (elim (is_left schema (OneOf first others)) as (λ v. list_any (is_join_of schema table) (if not v then OneOf first others ∷ kept else kept) ≡ list_any (is_join_of schema table) conditions) [
      | true ↦ joins_kept schema table conditions
      | false ↦ joins_kept schema table conditions
    ])

fewer_members : (keep : Condition → Bool) (conditions : List Condition) → length (members_in (filter keep conditions)) ≤ length (members_in conditions)
fewer_members keep [] = omega arith
fewer_members keep (c ∷ conditions) =
    let later = fewer_members keep conditions in
    let whole = length-append (members_of c) (members_in conditions) in
    let kept = length-append (members_of c) (members_in (filter keep conditions)) in
    (elim (keep c) as (λ v. length (members_in (if v then c ∷ filter keep conditions else filter keep conditions)) ≤ length (members_in (c ∷ conditions))) [
      | true ↦ omega (arith, later, whole, kept)
      | false ↦ omega (arith, later, whole)
    ])

pub without_left_is_followed : WithoutLeftIsFollowed
without_left_is_followed schema asked top followed =
    let keep : Condition → Bool = λ condition. not (is_left schema condition) in
    record {
      top_stands = followed.top_stands;
      once = followed.once;
      below = followed.below;
      parents = followed.parents;
      joined = λ table a differ. joins_kept schema table asked.conditions ∙ followed.joined table a differ;
      selected = followed.selected;
      conditions = kept_pass (is_condition_from schema asked.from) keep asked.conditions followed.conditions;
      groups = kept_pass _ keep asked.conditions followed.groups;
      few_selected = followed.few_selected;
      few_members = (let fewer = fewer_members keep asked.conditions in let few = followed.few_members in omega (arith, fewer, few));
    }
