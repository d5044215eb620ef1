-- What an accepted query says of its conditions and of its selected columns, each alone.
use Rattle.std.proofs.Common.{◌≡◌, ℕ, ◌⊎◌, inl, inr, Bool, true, false, not, ◌||◌, List, [], ◌∷◌, map, filter, flat_map, sym, subst, refl, Option, Some, None, option_map, is_none}
use Rattle.std.specs.Prelude.{option_to_list}
use Rattle.std.specs.List.{list_all, list_any}
use Rattle.ghost_model.specs.core.Schema.{Schema, is_table, column_named}
use Rattle.ghost_model.specs.core.Query.{Query, Field, Member, Condition, OneOf, Join, compared, AtMost, AtLeast, top_of, tested}
use Rattle.ghost_model.specs.refusals.QueryGrammar.{ColumnText, Bare, Qualified, MemberText, ConditionText, Alone, AnyOf, LiesBetween, Joins}
use Rattle.ghost_model.specs.refusals.QueryMeaning.{field, value_of_literal, table_named, fields_named, meanings, tests_of_member, member_column, members_meant, group_of, conditions_of, resolved, is_reference_to, is_proper, lacks_join, Means}
use Rattle.ghost_model.proofs.QueryReadingLemmas.{kept_rules}
use Rattle.ghost_model.proofs.MeaningLemmas.OneRow.{Among, from_filter, from_map, either_true, neither_true, both_true}
use Rattle.ghost_model.proofs.SessionLemmas.Accepted.{Each, each_is}
use Rattle.ghost_laws.proofs.ScanLemmas.Choices.{from_flat}

pub pass_each : {X : Type 0} (p : X → Bool) (xs : List X) → list_all p xs ≡ true → (x : X) → Among x xs → p x ≡ true
pass_each p [] h x a = absurd a
pass_each p (y ∷ ys) h x (inl same) = subst (λ w. p w ≡ true) same (both_true (p y) (list_all p ys) h).0
pass_each p (y ∷ ys) h x (inr later) = pass_each p ys (both_true (p y) (list_all p ys) h).1 x later

module _ (schema : Schema) (from : List ℕ) where
  named_from : (table : ℕ) (o : Option ℕ) (one : Field) → Among table from → Among one (option_to_list (option_map (field table) o)) → Among one.table from
  named_from table None one h a = absurd a
  named_from table (Some column) one h (inl same) = subst (λ (f : Field). Among f.table from) same h
  named_from table (Some column) one h (inr none) = absurd none

  pub meant_from : (column : ColumnText) (one : Field) → Among one (meanings schema from column) → Among one.table from
  meant_from (Bare name) one a =
      let r = from_flat (fields_named schema name) one from a in
      named_from r.0 (column_named schema r.0 name) one r.1 r.2
  meant_from (Qualified table name) one a =
      let r = from_flat (fields_named schema name) one (filter (λ other. is_table other (table_named schema table)) from) a in
      named_from r.0 (column_named schema r.0 name) one (from_filter (λ other. is_table other (table_named schema table)) r.0 from r.1).0 r.2

pub each_with : {X : Type 0} (P : X → Type 0) (xs : List X) → ((x : X) → Among x xs → P x) → Each P xs
each_with P [] h = tt
each_with P (x ∷ xs) h = (h x (inl refl), each_with P xs (λ y a. h y (inr a)))

-- it holds of each column of a condition
abbrev pub With : (Field → Type 0) → Condition → Type 0
With P (OneOf first others) = Each (λ (one : Member). P one.field) (first ∷ others)
With P (Join one other) = P one × P other

module _ (schema : Schema) (from : List ℕ) (P : Field → Type 0) (meant : (column : ColumnText) (one : Field) → Among one (meanings schema from column) → P one) where
  compared_with : (column : ColumnText) (f : Field → List Condition) → ((one : Field) (c : Condition) → P one → Among c (f one) → With P c)
      → (c : Condition) → Among c (flat_map f (meanings schema from column)) → With P c
  compared_with column f each c a =
      let r = from_flat f c (meanings schema from column) a in
      each r.0 c (meant column r.0 r.1) r.2

  group_with : (members : List Member) → ((one : Member) → Among one members → P one.field) → (c : Condition) → Among c (group_of members) → With P c
  group_with [] h c a = absurd a
  group_with (first ∷ others) h c (inl same) =
      subst (With P) same (each_with (λ (one : Member). P one.field) (first ∷ others) h)
  group_with (first ∷ others) h c (inr none) = absurd none

  member_with : (text : MemberText) (one : Member) → Among one (members_meant schema from text) → P one.field
  member_with text one a =
      let column = member_column text in
      let r = from_flat (λ found. map (tested found) (tests_of_member text)) one (meanings schema from column) a in
      let q = from_map (tested r.0) one (tests_of_member text) r.2 in
      subst (λ (it : Member). P it.field) q.2 (meant column r.0 r.1)

  condition_with : (text : ConditionText) (c : Condition) → Among c (conditions_of schema from text) → With P c
  condition_with (Alone member) c a = group_with (members_meant schema from member) (member_with member) c a
  condition_with (AnyOf first second others) c a =
      group_with (flat_map (members_meant schema from) (first ∷ second ∷ others))
      (λ one b. (let r = from_flat (members_meant schema from) one (first ∷ second ∷ others) b in member_with r.0 one r.2)) c a
  condition_with (LiesBetween column low high) c a =
      compared_with column (λ one. compared one AtLeast (value_of_literal low) ∷ compared one AtMost (value_of_literal high) ∷ [])
      (λ one d h b. (elim b [
        | inl same ↦ subst (With P) same (h, tt)
        | inr later ↦ (elim later [ inl same ↦ subst (With P) same (h, tt) | inr none ↦ absurd none ])
      ])) c a
  condition_with (Joins left right) c a =
      compared_with left (λ one. map (Join one) (meanings schema from right))
      (λ one d h b. (let r = from_map (Join one) d (meanings schema from right) b in subst (With P) r.2 (h, meant right r.0 r.1))) c a

  pub conditions_with : (texts : List ConditionText) (c : Condition) → Among c (flat_map (conditions_of schema from) texts) → With P c
  conditions_with texts c a =
      let r = from_flat (conditions_of schema from) c texts a in
      condition_with r.0 c r.2

-- the columns of a condition are of FROM tables
abbrev pub StandsFrom : List ℕ → Condition → Type 0
StandsFrom from c = With (λ (one : Field). Among one.table from) c

pub member_from : (from : List ℕ) (first : Member) (others : List Member) (one : Member) → StandsFrom from (OneOf first others)
    → Among one (first ∷ others) → Among one.field.table from
member_from from first others one stands among =
    each_is (λ (it : Member). Among it.field.table from) one (first ∷ others) stands among

-- a join is one of a foreign key and the identifier that it names, either side first
abbrev pub IsJoinOrTest : Schema → Condition → Type 0
IsJoinOrTest schema (OneOf first others) = Unit {0}
IsJoinOrTest schema (Join one other) = (is_reference_to schema one other ≡ true) ⊎ (is_reference_to schema other one ≡ true)

pub record HasConditions (schema : Schema) (asked : Query) : Type 0 where
  pub from : (c : Condition) → Among c asked.conditions → StandsFrom asked.from c
  pub joins : (c : Condition) → Among c asked.conditions → IsJoinOrTest schema c

proper_join : (schema : Schema) (c : Condition) → is_proper schema c ≡ true → IsJoinOrTest schema c
proper_join schema (OneOf first others) h = tt
proper_join schema (Join one other) h = either_true (is_reference_to schema one other) (is_reference_to schema other one) h

not_false : (b : Bool) → not b ≡ false → b ≡ true
not_false true h = refl
not_false false h = let bad : ⊥ = cc in absurd bad

pub has_conditions : (schema : Schema) (text : List ℕ) (asked : Query) → Means schema text asked → HasConditions schema asked
has_conditions schema text asked means =
    let it : Query = resolved schema means.tree in
    let joined = neither_true (not (list_all (is_proper schema) it.conditions) || is_none (top_of schema it)) (list_any (lacks_join schema it) it.from) (kept_rules schema text means.tree means.keeps).linked in
    let proper = neither_true (not (list_all (is_proper schema) it.conditions)) (is_none (top_of schema it)) joined.0 in
    let all = not_false (list_all (is_proper schema) it.conditions) proper.0 in
    subst (λ (q : Query). HasConditions schema q) (sym means.means) (record {
      from = λ c a. conditions_with schema it.from (λ (one : Field). Among one.table it.from) (meant_from schema it.from) means.tree.conditions c a;
      joins = λ c a. proper_join schema c (pass_each (is_proper schema) it.conditions all c a);
    })
