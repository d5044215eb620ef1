-- Each term is that of a member of one of the conditions, or that of the reply of one of the tables.
use Rattle.std.proofs.Common.{◌≡◌, ◌∙◌, refl, ap, sym, subst, ℕ, Bool, true, false, zero, suc, inl, inr, List, [], ◌∷◌, slice_get, Some}
use Rattle.std.specs.Prelude.{◌⊎◌, ◌||◌}
use Rattle.ghost_model.specs.core.Channel.{Catalog}
use Rattle.ghost_model.specs.core.Query.{Member, GroupMember, members_of_group, members_of, Condition, members_in}
use Rattle.ghost_model.specs.core.Groups.{some_of}
use Rattle.ghost_model.proofs.MeaningLemmas.OneRow.{Among, from_append}
use Rattle.condition_lists.specs.declared.term.GroupTerm.{GroupTerm}
use Rattle.condition_lists.specs.Terms.{AreTermsOf, IsTermOf, IsTermOfMember, IsLoneReplyTermOf}
use Rattle.condition_lists.proofs.MemberLemmas.{contains_of}

same : {a b : GroupTerm} → Some a ≡ Some b → a ≡ b
same h = cc

module _ (cat : Catalog) (top : ℕ) where
  pub record OfOne (members : List GroupMember) (term : GroupTerm) : Type 0 where
    pub one : GroupMember
    pub among : Among one members
    pub is : IsTermOfMember cat top one term

  pub record OfTable (tables : List ℕ) (term : GroupTerm) : Type 0 where
    pub table : ℕ
    pub among : Among table tables
    pub is : IsLoneReplyTermOf cat top table term

  later_one : (c : GroupMember) (members : List GroupMember) (tables : List ℕ) (term : GroupTerm) → OfOne members term ⊎ OfTable tables term → OfOne (c ∷ members) term ⊎ OfTable tables term
  later_one c members tables term is = elim is [
    | inl one ↦ inl (record { one = one.one; among = inr one.among; is = one.is })
    | inr other ↦ inr other
  ]

  later_table : (t : ℕ) (tables : List ℕ) (term : GroupTerm) → OfOne [] term ⊎ OfTable tables term → OfOne [] term ⊎ OfTable (t ∷ tables) term
  later_table t tables term is = elim is [
    | inl one ↦ inl one
    | inr other ↦ inr (record { table = other.table; among = inr other.among; is = other.is })
  ]

  pub found : (members : List GroupMember) (tables : List ℕ) (terms : List GroupTerm) → AreTermsOf cat top members tables terms
      → (place : ℕ) (term : GroupTerm) → slice_get terms place ≡ Some term → OfOne members term ⊎ OfTable tables term
  found [] [] [] are place term e = absurd (cc (e))
  found [] [] (x ∷ terms) are place term e = absurd are
  found [] (t ∷ tables) [] are place term e = absurd are
  found [] (t ∷ tables) (x ∷ terms) are zero term e = inr (record { table = t; among = inl refl; is = subst (IsLoneReplyTermOf cat top t) (same e) are.0 })
  found [] (t ∷ tables) (x ∷ terms) are (suc place) term e = later_table t tables term (found [] tables terms are.1 place term e)
  found (c ∷ members) tables [] are place term e = absurd are
  found (c ∷ members) tables (x ∷ terms) are zero term e = inl (record { one = c; among = inl refl; is = subst (IsTermOfMember cat top c) (same e) are.0 })
  found (c ∷ members) tables (x ∷ terms) are (suc place) term e = later_one c members tables term (found members tables terms are.1 place term e)

  -- the condition that a member is of
  pub record OfCondition (conditions : List Condition) (term : GroupTerm) : Type 0 where
    pub condition : Condition
    pub among : Among condition conditions
    pub is : IsTermOf cat top condition term.term

  pub its_condition : (conditions : List Condition) (term : GroupTerm) → OfOne (members_in conditions) term → OfCondition conditions term
  its_condition [] term of = absurd of.among
  its_condition (c ∷ conditions) term of =
      elim (from_append of.one (members_of c) (members_in conditions) of.among) [
        | inl here ↦ record { condition = c; among = inl refl; is = record { one = of.one; among = contains_of (members_of c) of.one here; is = of.is.is } }
        | inr later ↦ (
            let its = its_condition conditions term (record { one = of.one; among = later; is = of.is }) in
            record { condition = its.condition; among = inr its.among; is = its.is })
      ]

-- a member of a group that passes
pub member_passes : (p : Member → Bool) (first : Member) (others : List Member) (one : GroupMember) → Among one (members_of_group first others) → p one.member ≡ true
    → some_of p first others ≡ true
member_passes p first [] one among e = elim among [
  | inl same ↦ subst (λ (x : GroupMember). p x.member ≡ true) (sym same) e
  | inr none ↦ absurd none
]
member_passes p first (next ∷ others) one among e = elim among [
  | inl same ↦ ap (λ b. b || some_of p next others) (subst (λ (x : GroupMember). p x.member ≡ true) (sym same) e)
  | inr later ↦ ap (λ b. p first || b) (member_passes p next others one later e) ∙ whatever (p first)
]
  where
    whatever : (b : Bool) → (b || true) ≡ true
    whatever true = refl
    whatever false = refl
