-- No term says that the next one is of its group, while no group of several members is a term.
use Rattle.std.proofs.Common.{◌≡◌, ◌∙◌, refl, ap, ap₂, sym, ℕ, zero, suc, ◌+◌, Bool, true, false, not, ◌&&◌, List, [], ◌∷◌, ◌++◌, filter, take, drop, slice_get, Some, if◌then◌else◌, arith}
use Rattle.std.specs.Prelude.{◌||◌}
use Rattle.std.specs.List.{list_all, list_any}
use Rattle.ghost_model.specs.core.Channel.{Catalog}
use Rattle.ghost_model.specs.core.Groups.{before_first, each_group, ends, groups_of}
use Rattle.ghost_model.specs.core.Query.{Condition, OneOf, Join, members_in}
use Rattle.ghost_model.proofs.MeaningLemmas.OneRow.{both_true, neither_true}
use Rattle.condition_lists.specs.declared.term.Term.{Term}
use Rattle.condition_lists.specs.declared.term.GroupTerm.{GroupTerm}
use Rattle.condition_lists.specs.Terms.{AreTermsOf, IsAloneAt, is_listed, listed_members, says_more}
use Rattle.condition_lists.specs.Laws.{AreLone}
use Rattle.condition_lists.proofs.TermLemmas.{all_listed}

lone_in : (cat : Catalog) (top : ℕ) (conditions : List Condition) → list_all (is_listed cat.schema top) conditions ≡ true → (tables : List ℕ) (terms : List GroupTerm)
    → AreTermsOf cat top (members_in conditions) tables terms → AreLone terms
lone_in cat top [] listed [] [] are = refl
lone_in cat top [] listed [] (term ∷ terms) are = absurd are
lone_in cat top [] listed (table ∷ tables) [] are = absurd are
lone_in cat top [] listed (table ∷ tables) (term ∷ terms) are = ap₂ (λ a b. a || b) are.0.lone (lone_in cat top [] refl tables terms are.1)
lone_in cat top (OneOf first [] ∷ conditions) listed tables [] are = absurd are
lone_in cat top (OneOf first [] ∷ conditions) listed tables (term ∷ terms) are =
    ap₂ (λ a b. a || b) are.0.more_is
    (lone_in cat top conditions (both_true (is_listed cat.schema top (OneOf first [])) (list_all (is_listed cat.schema top) conditions) listed).1 tables terms are.1)
lone_in cat top (OneOf first (next ∷ others) ∷ conditions) listed tables terms are = absurd (cc (listed))
lone_in cat top (Join one other ∷ conditions) listed tables terms are = absurd (cc (listed))

pub lone_terms : (cat : Catalog) (top : ℕ) (conditions : List Condition) (tables : List ℕ) (terms : List GroupTerm)
    → AreTermsOf cat top (listed_members cat.schema top conditions) tables terms → AreLone terms
lone_terms cat top conditions tables terms are = lone_in cat top (filter (is_listed cat.schema top) conditions) (all_listed cat.schema top conditions) tables terms are

-- the first of them say it neither
pub first_lone : (at : ℕ) (terms : List GroupTerm) → AreLone terms → AreLone (take at terms)
first_lone zero terms lone = refl
first_lone (suc at) [] lone = refl
first_lone (suc at) (term ∷ terms) lone =
    let both = neither_true (says_more term) (list_any says_more terms) lone in
    ap₂ (λ a b. a || b) both.0 (first_lone at terms both.1)

-- each is a group by itself
pub each_alone : (p : GroupTerm → Bool) (terms : List GroupTerm) → AreLone terms → each_group says_more p terms ≡ list_all p terms
unfolding groups_of
each_alone p [] lone = refl
each_alone p (term ∷ terms) lone =
    let both = neither_true (says_more term) (list_any says_more terms) lone in
    ap (λ b. list_all (list_any p) (if b then before_first term (groups_of says_more terms) else (term ∷ []) ∷ groups_of says_more terms)) both.0
    ∙ ap₂ (λ a b. a && b) (one_alone (p term)) (each_alone p terms both.1)
  where
    one_alone : (b : Bool) → (b || false) ≡ b
    one_alone true = refl
    one_alone false = refl

pub lone_ends : (terms : List GroupTerm) → AreLone terms → ends says_more terms ≡ true
lone_ends [] lone = refl
lone_ends (term ∷ []) lone = ap not (neither_true (says_more term) false lone).0
lone_ends (term ∷ next ∷ terms) lone = lone_ends (next ∷ terms) (neither_true (says_more term) (list_any says_more (next ∷ terms)) lone).1

lone_at : (terms : List GroupTerm) → AreLone terms → (at : ℕ) (term : GroupTerm) → slice_get terms at ≡ Some term → says_more term ≡ false
lone_at [] lone at term e = absurd (cc (e))
lone_at (x ∷ terms) lone zero term e = let same : x ≡ term = cc in ap says_more (sym same) ∙ (neither_true (says_more x) (list_any says_more terms) lone).0
lone_at (x ∷ terms) lone (suc at) term e = lone_at terms (neither_true (says_more x) (list_any says_more terms) lone).1 at term e

pub alone_at : (terms : List GroupTerm) → AreLone terms → (at : ℕ) (term : GroupTerm) → slice_get terms at ≡ Some term → IsAloneAt terms at term.term
alone_at terms lone at term e = record {
  is = e ∙ ap (λ b. Some (record { term = term.term; more = b })) (lone_at terms lone at term e);
  begins = lone_ends (take at terms) (first_lone at terms lone);
}

-- ---- one group more

module _ {X : Type 0} (more : X → Bool) where
  -- some elements make a group
  pub record HasGroup (xs : List X) : Type 0 where
    pub first : List X
    pub others : List (List X)
    pub are : groups_of more xs ≡ first ∷ others

  has_group : (x : X) (xs : List X) → HasGroup (x ∷ xs)
  unfolding groups_of
  has_group x xs = by (more x) refl (groups_of more xs) refl
    where
      by : (b : Bool) → more x ≡ b → (groups : List (List X)) → groups_of more xs ≡ groups → HasGroup (x ∷ xs)
      by true e [] is = record { first = x ∷ []; others = []; are = ap₂ (λ b gs. if b then before_first x gs else (x ∷ []) ∷ gs) e is }
      by true e (group ∷ groups) is = record { first = x ∷ group; others = groups; are = ap₂ (λ b gs. if b then before_first x gs else (x ∷ []) ∷ gs) e is }
      by false e groups is = record { first = x ∷ []; others = groups; are = ap₂ (λ b gs. if b then before_first x gs else (x ∷ []) ∷ gs) e is }

  pub groups_join : (xs ys : List X) → ends more xs ≡ true → groups_of more (xs ++ ys) ≡ groups_of more xs ++ groups_of more ys
  unfolding groups_of
  groups_join [] ys e = refl
  groups_join (x ∷ []) ys e = by (more x) e
    where
      by : (b : Bool) → not b ≡ true
          → (if b then before_first x (groups_of more ys) else (x ∷ []) ∷ groups_of more ys) ≡ (if b then before_first x [] else (x ∷ []) ∷ []) ++ groups_of more ys
      by true e = absurd (cc (e))
      by false e = refl
  groups_join (x ∷ next ∷ xs) ys e =
      let rest = groups_join (next ∷ xs) ys e in
      let has = has_group next xs in
      ap (λ gs. if more x then before_first x gs else (x ∷ []) ∷ gs) (rest ∙ ap (λ gs. gs ++ groups_of more ys) has.are)
      ∙ by (more x) has.first has.others
      ∙ ap (λ gs. (if more x then before_first x gs else (x ∷ []) ∷ gs) ++ groups_of more ys) (sym has.are)
    where
      by : (b : Bool) (first : List X) (others : List (List X))
          → (if b then before_first x ((first ∷ others) ++ groups_of more ys) else (x ∷ []) ∷ ((first ∷ others) ++ groups_of more ys))
          ≡ (if b then before_first x (first ∷ others) else (x ∷ []) ∷ first ∷ others) ++ groups_of more ys
      by true first others = refl
      by false first others = refl

all_joined : {X : Type 0} (p : X → Bool) (xs ys : List X) → list_all p (xs ++ ys) ≡ (list_all p xs && list_all p ys)
all_joined p [] ys = refl
all_joined p (x ∷ xs) ys = ap (λ b. p x && b) (all_joined p xs ys) ∙ grouped (p x) (list_all p xs) (list_all p ys)
  where
    grouped : (a b c : Bool) → (a && (b && c)) ≡ ((a && b) && c)
    grouped true b c = refl
    grouped false b c = refl

one_taken : {X : Type 0} (xs : List X) (at : ℕ) (x : X) → slice_get xs at ≡ Some x → take (at + 1) xs ≡ take at xs ++ x ∷ []
one_taken [] at x e = absurd (cc (e))
one_taken (y ∷ xs) zero x e = let same : y ≡ x = cc in ap (λ z. z ∷ []) same
one_taken (y ∷ xs) (suc at) x e =
    let next : suc at + 1 ≡ suc (at + 1) = omega arith in
    ap (λ n. take n (y ∷ xs)) next ∙ ap (λ zs. y ∷ zs) (one_taken xs at x e)

pub one_group_more : (p : GroupTerm → Bool) (terms : List GroupTerm) (at : ℕ) (term : Term) → IsAloneAt terms at term
    → each_group says_more p (take (at + 1) terms) ≡ (each_group says_more p (take at terms) && p (record { term = term; more = false }))
unfolding groups_of
one_group_more p terms at term alone =
    let one : GroupTerm = record { term = term; more = false } in
    ap (each_group says_more p) (one_taken terms at one alone.is)
    ∙ ap (list_all (list_any p)) (groups_join says_more (take at terms) (one ∷ []) alone.begins)
    ∙ all_joined (list_any p) (groups_of says_more (take at terms)) ((one ∷ []) ∷ [])
    ∙ ap (λ b. each_group says_more p (take at terms) && b) (both_alone (p one))
  where
    both_alone : (b : Bool) → ((b || false) && true) ≡ b
    both_alone true = refl
    both_alone false = refl

ends_by : (terms : List GroupTerm) (last : GroupTerm) → says_more last ≡ false → ends says_more (terms ++ last ∷ []) ≡ true
ends_by [] last e = ap not e
ends_by (one ∷ []) last e = ap not e
ends_by (one ∷ next ∷ terms) last e = ends_by (next ∷ terms) last e

split_at : {X : Type 0} (n : ℕ) (xs : List X) → xs ≡ take n xs ++ drop n xs
split_at zero xs = refl
split_at (suc n) [] = refl
split_at (suc n) (x ∷ xs) = ap (λ ys. x ∷ ys) (split_at n xs)

-- where one element of each group passes, one that is a group by itself does
pub one_group_passes : (p : GroupTerm → Bool) (terms : List GroupTerm) (at : ℕ) (term : Term) → IsAloneAt terms at term
    → each_group says_more p terms ≡ true → p (record { term = term; more = false }) ≡ true
one_group_passes p terms at term alone all =
    let one : GroupTerm = record { term = term; more = false } in
    let first = take (at + 1) terms in
    let behind = drop (at + 1) terms in
    let end : ends says_more first ≡ true = ap (ends says_more) (one_taken terms at one alone.is) ∙ ends_by (take at terms) one refl in
    let both : (each_group says_more p first && list_all (list_any p) (groups_of says_more behind)) ≡ true =
    sym (all_joined (list_any p) (groups_of says_more first) (groups_of says_more behind))
    ∙ ap (list_all (list_any p)) (sym (groups_join says_more first behind end))
    ∙ ap (each_group says_more p) (sym (split_at (at + 1) terms)) ∙ all in
    let passes = (both_true (each_group says_more p first) (list_all (list_any p) (groups_of says_more behind)) both).0 in
    (both_true (each_group says_more p (take at terms)) (p one) (sym (one_group_more p terms at term alone) ∙ passes)).1
