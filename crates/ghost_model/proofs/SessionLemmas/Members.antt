-- The members of a group: what holds of each or of one of them, and the groups that tests of a table are.
use Rattle.std.proofs.Common.{◌≡◌, inl, inr, Bool, true, false, ◌&&◌, ◌||◌, List, [], ◌∷◌, ◌++◌, map, ◌∙◌, ap, sym, subst, refl}
use Rattle.std.specs.Prelude.{if◌then◌else◌}
use Rattle.std.specs.List.{list_all, list_any}
use Rattle.ghost_model.specs.core.Schema.{is_empty}
use Rattle.ghost_model.specs.core.Query.{Member, members_of_group}
use Rattle.ghost_model.specs.core.Channel.{ColumnTest}
use Rattle.ghost_model.specs.core.Asks.{column_test}
use Rattle.ghost_model.specs.core.Groups.{each_of, some_of, before_first, groups_of, each_group}
use Rattle.ghost_model.proofs.ChannelLemmas.Tests.{BothHold, both_hold, hold_both}
use Rattle.ghost_model.proofs.MeaningLemmas.OneRow.{Among}
use Rattle.ghost_model.proofs.SessionLemmas.Accepted.{Each}

pub left_true : (a b : Bool) → a ≡ true → (a || b) ≡ true
left_true a b h = ap (λ (v : Bool). v || b) h

pub right_true : (a b : Bool) → b ≡ true → (a || b) ≡ true
right_true true b h = refl
right_true false b h = h

pub any_true : {X : Type 0} (p : X → Bool) (x : X) (xs : List X) → Among x xs → p x ≡ true → list_any p xs ≡ true
any_true p x [] among h = absurd among
any_true p x (y ∷ ys) (inl same) h = left_true (p y) (list_any p ys) (subst (λ z. p z ≡ true) (sym same) h)
any_true p x (y ∷ ys) (inr later) h = right_true (p y) (list_any p ys) (any_true p x ys later h)

pub some_true :
    {X : Type 0} (p : X → Bool) (x first : X) (others : List X) → Among x (first ∷ others) → p x ≡ true
    → some_of p first others ≡ true
some_true p x first [] (inl same) h = subst (λ z. p z ≡ true) (sym same) h
some_true p x first [] (inr none) h = absurd none
some_true p x first (next ∷ others) (inl same) h = left_true (p first) (some_of p next others) (subst (λ z. p z ≡ true) (sym same) h)
some_true p x first (next ∷ others) (inr later) h = right_true (p first) (some_of p next others) (some_true p x next others later h)

pub some_agree :
    {X : Type 0} (p q : X → Bool) (first : X) (others : List X) → ((x : X) → Among x (first ∷ others) → p x ≡ q x)
    → some_of p first others ≡ some_of q first others
some_agree p q first [] same = same first (inl refl)
some_agree p q first (next ∷ others) same =
    ap (λ (b : Bool). b || some_of p next others) (same first (inl refl))
    ∙ ap (λ (b : Bool). q first || b) (some_agree p q next others (λ x a. same x (inr a)))

pub each_true :
    {X : Type 0} (p : X → Bool) (x first : X) (others : List X) → each_of p first others ≡ true → Among x (first ∷ others)
    → p x ≡ true
each_true p x first [] h (inl same) = subst (λ z. p z ≡ true) same h
each_true p x first [] h (inr none) = absurd none
each_true p x first (next ∷ others) h (inl same) =
    let both : BothHold (p first) (each_of p next others) = both_hold _ _ h in subst (λ z. p z ≡ true) same both.one
each_true p x first (next ∷ others) h (inr later) =
    let both : BothHold (p first) (each_of p next others) = both_hold _ _ h in each_true p x next others both.other later

pub true_of_each :
    {X : Type 0} (p : X → Bool) (first : X) (others : List X) → ((x : X) → Among x (first ∷ others) → p x ≡ true)
    → each_of p first others ≡ true
true_of_each p first [] h = h first (inl refl)
true_of_each p first (next ∷ others) h = hold_both (p first) (each_of p next others) (h first (inl refl)) (true_of_each p next others (λ x a. h x (inr a)))

-- groups of a list, where two tests agree on its elements
module _ {X : Type 0} (more p q : X → Bool) where
  abbrev Alike : List (List X) → Type 0
  Alike groups = Each (λ (group : List X). list_any p group ≡ list_any q group) groups

  before_alike : (x : X) (groups : List (List X)) → p x ≡ q x → Alike groups → Alike (before_first x groups)
  before_alike x [] same alike = (ap (λ (b : Bool). b || false) same, tt)
  before_alike x (group ∷ groups) same alike =
      (ap (λ (b : Bool). b || list_any p group) same ∙ ap (λ (b : Bool). q x || b) alike.0, alike.1)

  begun_alike :
      (b : Bool) (x : X) (groups : List (List X)) → p x ≡ q x → Alike groups
      → Alike (if b then before_first x groups else (x ∷ []) ∷ groups)
  begun_alike true x groups same alike = before_alike x groups same alike
  begun_alike false x groups same alike = (ap (λ (b : Bool). b || false) same, alike)

  groups_alike : (xs : List X) → Each (λ x. p x ≡ q x) xs → Alike (groups_of more xs)
  unfolding groups_of
  groups_alike [] same = tt
  groups_alike (x ∷ xs) same = begun_alike (more x) x (groups_of more xs) same.0 (groups_alike xs same.1)

  all_alike : (groups : List (List X)) → Alike groups → list_all (list_any p) groups ≡ list_all (list_any q) groups
  all_alike [] alike = refl
  all_alike (group ∷ groups) alike =
      ap (λ (b : Bool). b && list_all (list_any p) groups) alike.0 ∙ ap (λ (b : Bool). list_any q group && b) (all_alike groups alike.1)

  pub each_group_agrees : (xs : List X) → Each (λ x. p x ≡ q x) xs → each_group more p xs ≡ each_group more q xs
  each_group_agrees xs same = all_alike (groups_of more xs) (groups_alike xs same)

pub no_group_fails : {X : Type 0} (more p : X → Bool) (xs : List X) → is_empty xs ≡ true → each_group more p xs ≡ true
unfolding groups_of
no_group_fails more p [] e = refl
no_group_fails more p (x ∷ xs) e = absurd (cc)

abbrev pub says_more : ColumnTest → Bool
says_more test = test.more

-- the tests of a group before others are its group before theirs
tests_are_group :
    (first : Member) (others : List Member) (rest : List ColumnTest)
    → groups_of says_more (map column_test (members_of_group first others) ++ rest) ≡ map column_test (members_of_group first others) ∷ groups_of says_more rest
unfolding groups_of
tests_are_group first [] rest = refl
tests_are_group first (next ∷ others) rest = ap (λ (groups : List (List ColumnTest)). before_first (column_test (record { member = first; more = true })) groups) (tests_are_group next others rest)

-- one of a group's tests passes where one of its members does
one_passes :
    (p : ColumnTest → Bool) (q : Member → Bool) → ((test : ColumnTest) (one : Member) → test.column ≡ one.field.column → test.test ≡ one.test → p test ≡ q one)
    → (first : Member) (others : List Member) → list_any p (map column_test (members_of_group first others)) ≡ some_of q first others
one_passes p q same first [] = or_none _ ∙ same _ first refl refl
  where
    or_none : (b : Bool) → (b || false) ≡ b
    or_none true = refl
    or_none false = refl
one_passes p q same first (next ∷ others) =
    ap (λ (b : Bool). b || list_any p (map column_test (members_of_group next others))) (same _ first refl refl)
    ∙ ap (λ (b : Bool). q first || b) (one_passes p q same next others)

pub group_then :
    (p : ColumnTest → Bool) (q : Member → Bool) → ((test : ColumnTest) (one : Member) → test.column ≡ one.field.column → test.test ≡ one.test → p test ≡ q one)
    → (first : Member) (others : List Member) (rest : List ColumnTest)
    → each_group says_more p (map column_test (members_of_group first others) ++ rest) ≡ (some_of q first others && each_group says_more p rest)
group_then p q same first others rest =
    ap (λ (groups : List (List ColumnTest)). list_all (list_any p) groups) (tests_are_group first others rest)
    ∙ ap (λ (b : Bool). b && each_group says_more p rest) (one_passes p q same first others)
