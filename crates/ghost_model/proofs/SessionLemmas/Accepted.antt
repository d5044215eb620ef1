-- What an accepted query says of its columns: each is of a table that the query is from, those of a group are of one table,
-- and a join is between columns that are not visible.
use Rattle.std.proofs.Common.{◌≡◌, ℕ, inl, inr, Bool, true, false, not, ◌&&◌, ◌||◌, List, [], ◌∷◌, ◌++◌, map, filter, flat_map, sym, ◌∙◌, ap, subst, refl, Option, Some, None, option_map, is_none, length, nat_lt}
use Rattle.std.specs.Prelude.{◌==◌, option_to_list, option_and_then}
use Rattle.std.specs.List.{list_all, list_any}
use Rattle.std.proofs.lemmas.Bool.{eqb-true, eq-eqb}
use Rattle.ghost_model.specs.core.Schema.{Schema, Column, columns_of, column_at, places_where, is_table, is_shown, is_visible, column_named}
use Rattle.ghost_model.specs.laws.SchemaTrees.{IsTree}
use Rattle.ghost_model.specs.core.Query.{Query, Field, Test, Member, Condition, OneOf, Join, tested, compared, AtMost, AtLeast, is_among, top_of}
use Rattle.ghost_model.specs.refusals.QueryGrammar.{ColumnText, Bare, Qualified, MemberText, ConditionText, Alone, AnyOf, LiesBetween, Joins, Selection, All, Columns, QueryText}
use Rattle.ghost_model.specs.refusals.QueryMeaning.{field, value_of_literal, table_named, fields_named, fields_of, meanings, tests_of_member, member_column, members_meant, group_of, conditions_of, is_of_one_table, selected_fields, resolved, has_repeat, is_reference_to, is_proper, lacks_join, columns_in, Means}
use Rattle.ghost_model.proofs.QueryReadingLemmas.{kept_rules}
use Rattle.ghost_model.proofs.ChannelLemmas.Tests.{false_is_not, BothHold, both_hold}
use Rattle.ghost_model.proofs.MeaningLemmas.OneRow.{Among, Distinct, from_filter, child_is, either_true, neither_true}

-- it holds of each element
abbrev pub Each : {X : Type 0} → (X → Type 0) → List X → Type 0
Each P [] = Unit {0}
Each P (x ∷ xs) = P x × Each P xs

pub each_is : {X : Type 0} (P : X → Type 0) (x : X) (xs : List X) → Each P xs → Among x xs → P x
each_is P x [] e h = absurd h
each_is P x (y ∷ ys) e (inl same) = subst P same e.0
each_is P x (y ∷ ys) e (inr later) = each_is P x ys e.1 later

each_joined : {X : Type 0} (P : X → Type 0) (xs ys : List X) → Each P xs → Each P ys → Each P (xs ++ ys)
each_joined P [] ys e f = f
each_joined P (x ∷ xs) ys e f = (e.0, each_joined P xs ys e.1 f)

each_flat : {X Y : Type 0} (P : Y → Type 0) (f : X → List Y) (xs : List X) → ((x : X) → Among x xs → Each P (f x)) → Each P (flat_map f xs)
each_flat P f [] h = tt
each_flat P f (x ∷ xs) h = each_joined P (f x) (flat_map f xs) (h x (inl refl)) (each_flat P f xs (λ y a. h y (inr a)))

each_mapped : {X Y : Type 0} (P : Y → Type 0) (Q : X → Type 0) (f : X → Y) (xs : List X) → ((x : X) → Q x → P (f x)) → Each Q xs → Each P (map f xs)
each_mapped P Q f [] h e = tt
each_mapped P Q f (x ∷ xs) h e = (h x e.0, each_mapped P Q f xs h e.1)

each_any : {X : Type 0} (P : X → Type 0) (xs : List X) → ((x : X) → P x) → Each P xs
each_any P [] h = tt
each_any P (x ∷ xs) h = (h x, each_any P xs h)

module _ (schema : Schema) (from : List ℕ) where
  abbrev pub IsFrom : Field → Type 0
  IsFrom one = Among one.table from

  -- a group is of columns of one table
  abbrev pub ComparesFrom : Condition → Type 0
  ComparesFrom (OneOf first others) = Among first.field.table from × Each (λ (one : Member). one.field.table ≡ first.field.table) others
  ComparesFrom (Join one other) = Unit {0}

  named_from : (table : ℕ) (o : Option ℕ) → Among table from → Each IsFrom (option_to_list (option_map (field table) o))
  named_from table None h = tt
  named_from table (Some column) h = (h, tt)

  meanings_from : (column : ColumnText) → Each IsFrom (meanings schema from column)
  meanings_from (Bare name) = each_flat IsFrom (fields_named schema name) from (λ table h. named_from table (column_named schema table name) h)
  meanings_from (Qualified table name) =
      each_flat IsFrom (fields_named schema name) (filter (λ other. is_table other (table_named schema table)) from)
      (λ other h. named_from other (column_named schema other name) (from_filter (λ one. is_table one (table_named schema table)) other from h).0)

  -- the first column of a group
  BeginsFrom : Condition → Type 0
  BeginsFrom (OneOf first others) = IsFrom first.field
  BeginsFrom (Join one other) = Unit {0}

  two_from : (fields : List Field) (f : Field → List Condition) → ((one : Field) → IsFrom one → Each BeginsFrom (f one)) → Each IsFrom fields → Each BeginsFrom (flat_map f fields)
  two_from fields f h e = each_flat BeginsFrom f fields (λ one a. h one (each_is IsFrom one fields e a))

  joins_from : (one : Field) (others : List Field) → Each BeginsFrom (map (Join one) others)
  unfolding BeginsFrom
  joins_from one [] = tt
  joins_from one (other ∷ others) = (tt, joins_from one others)

  tests_from : (one : Field) → IsFrom one → (tests : List Test) → Each (λ (member : Member). IsFrom member.field) (map (tested one) tests)
  tests_from one h [] = tt
  tests_from one h (test ∷ tests) = (h, tests_from one h tests)

  members_from : (member : MemberText) → Each (λ (one : Member). IsFrom one.field) (members_meant schema from member)
  members_from member =
      each_flat (λ (one : Member). IsFrom one.field) (λ meant. map (tested meant) (tests_of_member member)) (meanings schema from (member_column member))
      (λ meant a. tests_from meant (each_is IsFrom meant (meanings schema from (member_column member)) (meanings_from (member_column member)) a) (tests_of_member member))

  group_from : (members : List Member) → Each (λ (one : Member). IsFrom one.field) members → Each BeginsFrom (group_of members)
  unfolding BeginsFrom
  group_from [] e = tt
  group_from (first ∷ others) e = (e.0, tt)

  conditions_from : (condition : ConditionText) → Each BeginsFrom (conditions_of schema from condition)
  unfolding BeginsFrom
  conditions_from (Alone member) = group_from (members_meant schema from member) (members_from member)
  conditions_from (AnyOf first second others) =
      group_from (flat_map (members_meant schema from) (first ∷ second ∷ others))
      (each_flat (λ (one : Member). IsFrom one.field) (members_meant schema from) (first ∷ second ∷ others) (λ member a. members_from member))
  conditions_from (LiesBetween column low high) =
      two_from (meanings schema from column) (λ meant. compared meant AtLeast (value_of_literal low) ∷ compared meant AtMost (value_of_literal high) ∷ []) (λ one h. (h, (h, tt))) (meanings_from column)
  conditions_from (Joins left right) =
      each_flat BeginsFrom (λ meant. map (Join meant) (meanings schema from right)) (meanings schema from left)
      (λ one a. joins_from one (meanings schema from right))

  same_tables : (table : ℕ) (others : List Member) → list_all (λ one. one.field.table == table) others ≡ true → Each (λ (one : Member). one.field.table ≡ table) others
  same_tables table [] h = tt
  same_tables table (one ∷ others) h =
      let both : BothHold (one.field.table == table) (list_all (λ other. other.field.table == table) others) = both_hold _ _ h in
      (eqb-true one.field.table table both.one, same_tables table others both.other)

  compares_from : (condition : Condition) → BeginsFrom condition → is_of_one_table condition ≡ true → ComparesFrom condition
  unfolding BeginsFrom
  compares_from (OneOf first others) e h = (e, same_tables first.field.table others h)
  compares_from (Join one other) e h = tt

  each_compares : (conditions : List Condition) → Each BeginsFrom conditions → list_all is_of_one_table conditions ≡ true → Each ComparesFrom conditions
  each_compares [] e h = tt
  each_compares (condition ∷ conditions) e h =
      let both : BothHold (is_of_one_table condition) (list_all is_of_one_table conditions) = both_hold _ _ h in
      (compares_from condition e.0 both.one, each_compares conditions e.1 both.other)

  all_conditions_from : (conditions : List ConditionText) → list_all is_of_one_table (flat_map (conditions_of schema from) conditions) ≡ true
      → Each ComparesFrom (flat_map (conditions_of schema from) conditions)
  all_conditions_from conditions h =
      each_compares (flat_map (conditions_of schema from) conditions)
      (each_flat BeginsFrom (conditions_of schema from) conditions (λ condition a. conditions_from condition)) h

  fields_from : (table : ℕ) (columns : List ℕ) → Among table from → Each IsFrom (map (field table) columns)
  fields_from table [] h = tt
  fields_from table (column ∷ columns) h = (h, fields_from table columns h)

  selected_from : (selection : Selection) → Each IsFrom (selected_fields schema from selection)
  selected_from All = each_flat IsFrom (fields_of schema) from (λ table h. fields_from table (places_where (λ column. true) (columns_of schema table)) h)
  selected_from (Columns column more) = each_flat IsFrom (meanings schema from) (column ∷ more) (λ one a. meanings_from one)

-- a join is of a foreign key and an identifier
abbrev pub IsUnseen : Schema → Field → Type 0
IsUnseen schema one = is_visible schema one.table one.column ≡ false

and_false : (a b : Bool) → b ≡ false → (a && b) ≡ false
and_false true b e = e
and_false false b e = refl

abbrev pub JoinsUnseen : Schema → Condition → Type 0
JoinsUnseen schema (OneOf first others) = Unit {0}
JoinsUnseen schema (Join one other) = IsUnseen schema one × IsUnseen schema other

module _ (schema : Schema) (tree : IsTree schema) where
  key_in : (key : Field) (table : ℕ) (o : Option Column) → column_at schema key.table key.column ≡ o → is_table table (option_and_then (λ (column : Column). column.child) o) ≡ true → is_shown o ≡ false
  key_in key table None at h = absurd (false_is_not h)
  key_in key table (Some declared) at h =
      ap not (tree.references_are_hidden key.table key.column table declared at (child_is table declared.child h))

  key_unseen : (key identifier : Field) → is_reference_to schema key identifier ≡ true → IsUnseen schema key × IsUnseen schema identifier
  key_unseen key identifier h =
      let both : BothHold (is_table identifier.table (option_and_then (λ (column : Column). column.child) (column_at schema key.table key.column))) (identifier.column == 0) = both_hold _ _ h in (
        and_false (nat_lt 0 key.column) (is_shown (column_at schema key.table key.column)) (key_in key identifier.table (column_at schema key.table key.column) refl both.one),
        ap (λ (n : ℕ). nat_lt 0 n && is_shown (column_at schema identifier.table n)) (eqb-true identifier.column 0 both.other),
      )

  join_unseen : (condition : Condition) → is_proper schema condition ≡ true → JoinsUnseen schema condition
  join_unseen (OneOf first others) h = tt
  join_unseen (Join left right) h =
      (elim (either_true (is_reference_to schema left right) (is_reference_to schema right left) h) [
        | inl e ↦ key_unseen left right e
        | inr e ↦ (let k = key_unseen right left e in (k.1, k.0))
      ])

  joins_unseen : (conditions : List Condition) → list_all (is_proper schema) conditions ≡ true → Each (JoinsUnseen schema) conditions
  joins_unseen [] h = tt
  joins_unseen (condition ∷ conditions) h =
      let both : BothHold (is_proper schema condition) (list_all (is_proper schema) conditions) = both_hold _ _ h in
      (join_unseen condition both.one, joins_unseen conditions both.other)

among_is : (x : ℕ) (xs : List ℕ) → Among x xs → is_among xs x ≡ true
among_is x [] h = absurd h
among_is x (y ∷ ys) (inl same) = ap (λ (v : Bool). v || is_among ys x) (eq-eqb y x same)
among_is x (y ∷ ys) (inr later) = either (y == x) (is_among ys x) (among_is x ys later)
  where
    either : (a b : Bool) → b ≡ true → (a || b) ≡ true
    either true b h = refl
    either false b h = h

no_repeat : (xs : List ℕ) → has_repeat xs ≡ false → Distinct xs
no_repeat [] h = tt
no_repeat (x ∷ xs) h =
    let p = neither_true (is_among xs x) (has_repeat xs) h in
    ((λ a. false_is_not (sym p.0 ∙ among_is x xs a)), no_repeat xs p.1)

not_false : (b : Bool) → not b ≡ false → b ≡ true
not_false true h = refl
not_false false h = absurd (false_is_not (sym h))

-- what an accepted query says of its columns
pub record IsSound (schema : Schema) (asked : Query) : Type 0 where
  pub distinct : Distinct asked.from
  pub compared : Each (ComparesFrom schema asked.from) asked.conditions
  pub joined : Each (JoinsUnseen schema) asked.conditions
  pub chosen : Each (IsFrom schema asked.from) asked.select

sound_tree : (schema : Schema) (tree : IsTree schema) (text : QueryText)
    → has_repeat (resolved schema text).from ≡ false → list_all (is_proper schema) (resolved schema text).conditions ≡ true
    → list_all is_of_one_table (resolved schema text).conditions ≡ true → IsSound schema (resolved schema text)
sound_tree schema tree text once proper one_table = record {
  distinct = no_repeat (resolved schema text).from once;
  compared = all_conditions_from schema (resolved schema text).from text.conditions one_table;
  joined = joins_unseen schema tree (resolved schema text).conditions proper;
  chosen = selected_from schema (resolved schema text).from text.selection;
}

pub query_is_sound : (schema : Schema) (text : List ℕ) (asked : Query) → IsTree schema → Means schema text asked → IsSound schema asked
query_is_sound schema text asked tree means =
    let it : Query = resolved schema means.tree in
    let kept = kept_rules schema text means.tree means.keeps in
    let once = neither_true (has_repeat it.from) (list_any (λ column. nat_lt 1 (length (meanings schema it.from column))) (columns_in means.tree)) kept.one_meaning in
    let joined = neither_true (not (list_all (is_proper schema) it.conditions) || is_none (top_of schema it)) (list_any (lacks_join schema it) it.from) kept.linked in
    let proper = neither_true (not (list_all (is_proper schema) it.conditions)) (is_none (top_of schema it)) joined.0 in
    subst (λ (q : Query). IsSound schema q) (sym means.means) (sound_tree schema tree means.tree once.0 (not_false _ proper.0) kept.of_one_table)
