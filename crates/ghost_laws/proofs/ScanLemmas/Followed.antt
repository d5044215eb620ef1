-- What a loop over the rows of the top table may rely on.
use Rattle.std.proofs.Common.{◌≡◌, refl, sym, ap, ◌∙◌, subst, ℕ, zero, suc, ◌+◌, ◌≤◌, Bool, true, false, ◌||◌, inl, inr, List, [], ◌∷◌, ◌++◌, length, map, flat_map, sum_by, ◌⊎◌, arith, append-nil, append_assoc, length-append, nat_lt}
use Rattle.std.specs.Prelude.{is_some}
use Rattle.std.proofs.lemmas.Bool.{ltb-false}
use Rattle.std.proofs.lemmas.List.Concat.{flat_map-append}
use Rattle.std.proofs.lemmas.List.{length-map}
use Rattle.std.proofs.lemmas.List.Sums.{sum_by-cons}
use Rattle.std.specs.List.{list_all, list_any, range_with_len}
use Rattle.ghost_model.specs.core.Schema.{Schema}
use Rattle.ghost_model.specs.core.Values.{Row}
use Rattle.ghost_model.specs.core.Query.{Query, Field, Member, GroupMember, Condition, OneOf, Join, compared, members_of, members_of_group, members_in, AtMost, AtLeast, tested}
use Rattle.ghost_model.specs.refusals.QueryMeaning.{has_repeat, is_of_one_table, is_reference_to, value_of_literal, meanings, tests_of_member, member_column, members_meant, group_of, conditions_of, selection_columns, condition_columns, columns_in, literal_conditions, selected_count, resolved, Means}
use Rattle.ghost_model.specs.refusals.QueryGrammar.{ColumnText, MemberText, ConditionText, Alone, AnyOf, LiesBetween, Joins}
use Rattle.ghost_model.proofs.QueryReadingLemmas.{kept_rules}
use Rattle.ghost_model.proofs.ChannelLemmas.Tests.{hold_both}
use Rattle.ghost_model.proofs.MeaningLemmas.OneRow.{Among, among_is, is_among_to, neither_true, query_is_linked}
use Rattle.ghost_model.proofs.SessionLemmas.Accepted.{each_is, query_is_sound}
use Rattle.ghost_model.proofs.SessionLemmas.Members.{true_of_each}
use Rattle.ghost_laws.specs.Followed.{is_column_from, is_condition_from, AcceptedQueriesAreFollowed, RowsComeOneByOne}
use Rattle.ghost_laws.proofs.ScanLemmas.Keys.{below_top}
use Rattle.ghost_laws.proofs.ScanLemmas.Accepted.{With, has_conditions, IsJoinOrTest}
use Rattle.ghost_laws.proofs.ScanLemmas.KnownRows.{top_is_from}
use Rattle.ghost_laws.proofs.ScanLemmas.Columns.{HasColumn, conditions_have, select_has}
use Rattle.ghost_laws.proofs.ScanLemmas.Lines.{select_few}

all_pass : {X : Type 0} (p : X → Bool) (xs : List X) → ((x : X) → Among x xs → p x ≡ true) → list_all p xs ≡ true
all_pass p [] h = refl
all_pass p (x ∷ xs) h = hold_both _ _ (h x (inl refl)) (all_pass p xs (λ y a. h y (inr a)))

either_way : (a b : Bool) → (a ≡ true) ⊎ (b ≡ true) → (a || b) ≡ true
either_way true b h = refl
either_way false b (inl e) = let bad : ⊥ = cc in absurd bad
either_way false b (inr e) = e

module _ (schema : Schema) (from : List ℕ) where
  column_from : (one : Field) → Among one.table from → HasColumn schema one → is_column_from schema from one ≡ true
  column_from one a has = hold_both _ _ (among_is one.table from a) (ap is_some has.1)

  condition_from : (c : Condition) → With (λ (one : Field). Among one.table from) c → With (HasColumn schema) c → IsJoinOrTest schema c
      → is_condition_from schema from c ≡ true
  condition_from (OneOf first others) a has join =
      true_of_each (λ (one : Member). is_column_from schema from one.field) first others
      (λ one among.
      column_from one.field (each_is (λ (it : Member). Among it.field.table from) one (first ∷ others) a among)
      (each_is (λ (it : Member). HasColumn schema it.field) one (first ∷ others) has among))
  condition_from (Join one other) a has join =
      hold_both _ _ (hold_both _ _ (column_from one a.0 has.0) (column_from other a.1 has.1))
      (either_way (is_reference_to schema one other) (is_reference_to schema other one) join)

-- the members that a text's conditions are are no more than it writes
none_of_joins : (one : Field) (others : List Field) → length (members_in (map (Join one) others)) ≤ 0
none_of_joins one [] = omega arith
none_of_joins one (other ∷ others) = none_of_joins one others

few_of_meanings : {X : Type 0} (size : List X → ℕ) (f : Field → List X) (most : ℕ) → size [] ≤ most → ((one : Field) → size (f one) ≤ most)
    → (meant : List Field) → nat_lt 1 (length meant) ≡ false → size (flat_map f meant) ≤ most
few_of_meanings size f most none short [] few = none
few_of_meanings {X = X} size f most none short (one ∷ []) few =
    subst (λ (xs : List X). size xs ≤ most) (sym (append-nil (f one))) (short one)
few_of_meanings size f most none short (one ∷ other ∷ meant) few =
    let many = ltb-false 1 (length (one ∷ other ∷ meant)) few in absurd (omega arith)

group_length : (first : Member) (others : List Member) → length (members_of_group first others) ≡ length (first ∷ others)
group_length first [] = refl
group_length first (next ∷ others) = ap suc (group_length next others)

few_of_group : (members : List Member) (most : ℕ) → length members ≤ most → length (members_in (group_of members)) ≤ most
few_of_group [] most few = few
few_of_group (first ∷ others) most few =
    let size = ap (λ (xs : List GroupMember). length xs) (append-nil (members_of_group first others)) ∙ group_length first others in
    omega (arith, size, few)

none_of_both : {X : Type 0} (p : X → Bool) (xs ys : List X) → list_any p (xs ++ ys) ≡ false
    → (list_any p xs ≡ false) × (list_any p ys ≡ false)
none_of_both p [] ys e = (refl, e)
none_of_both p (x ∷ xs) ys e =
    let one = neither_true (p x) (list_any p (xs ++ ys)) e in
    let later = none_of_both p xs ys one.1 in
    (ap (λ (b : Bool). b || list_any p xs) one.0 ∙ later.0, later.1)

module _ (schema : Schema) (from : List ℕ) where
  abbrev has_many : ColumnText → Bool
  has_many column = nat_lt 1 (length (meanings schema from column))

  few_of_member : (member : MemberText) → has_many (member_column member) ≡ false
      → length (members_meant schema from member) ≤ length (tests_of_member member)
  few_of_member member e =
      few_of_meanings (λ (xs : List Member). length xs) (λ meant. map (tested meant) (tests_of_member member)) (length (tests_of_member member)) (omega arith)
      (λ one. let size = length-map (tests_of_member member) (tested one) in omega (arith, size)) (meanings schema from (member_column member)) e

  few_of_members : (texts : List MemberText) → list_any has_many (map member_column texts) ≡ false
      → length (flat_map (members_meant schema from) texts) ≤ sum_by (λ member. length (tests_of_member member)) texts
  few_of_members [] e = omega arith
  few_of_members (member ∷ texts) e =
      let both = neither_true (has_many (member_column member)) (list_any has_many (map member_column texts)) e in
      let one = few_of_member member both.0 in
      let later = few_of_members texts both.1 in
      let whole = sum_by-cons (λ (it : MemberText). length (tests_of_member it)) member texts in
      let size = length-append (members_meant schema from member) (flat_map (members_meant schema from) texts) in
      omega (arith, one, later, whole, size)

  few_of_condition : (c : ConditionText) → list_any has_many (condition_columns c) ≡ false
      → length (members_in (conditions_of schema from c)) ≤ literal_conditions c
  few_of_condition (Alone member) e =
      few_of_group (members_meant schema from member) (length (tests_of_member member))
      (few_of_member member (neither_true (has_many (member_column member)) false e).0)
  few_of_condition (AnyOf first second others) e =
      few_of_group (flat_map (members_meant schema from) (first ∷ second ∷ others)) (literal_conditions (AnyOf first second others))
      (few_of_members (first ∷ second ∷ others) e)
  few_of_condition (LiesBetween column low high) e =
      few_of_meanings (λ (cs : List Condition). length (members_in cs)) (λ meant. compared meant AtLeast (value_of_literal low) ∷ compared meant AtMost (value_of_literal high) ∷ []) 2
      (omega arith) (λ one. omega arith) (meanings schema from column) (neither_true (has_many column) false e).0
  few_of_condition (Joins left right) e =
      few_of_meanings (λ (cs : List Condition). length (members_in cs)) (λ meant. map (Join meant) (meanings schema from right)) 0 (omega arith) (λ one. none_of_joins one (meanings schema from right))
      (meanings schema from left) (neither_true (has_many left) (list_any has_many (right ∷ [])) e).0

  few_of_conditions : (texts : List ConditionText) → list_any has_many (flat_map condition_columns texts) ≡ false
      → length (members_in (flat_map (conditions_of schema from) texts)) ≤ sum_by literal_conditions texts
  few_of_conditions [] e = omega arith
  few_of_conditions (c ∷ texts) e =
      let both = none_of_both has_many (condition_columns c) (flat_map condition_columns texts) e in
      let one = few_of_condition c both.0 in
      let later = few_of_conditions texts both.1 in
      let whole = sum_by-cons literal_conditions c texts in
      let size =
      ap (λ (members : List GroupMember). length members)
      (flat_map-append members_of (conditions_of schema from c) (flat_map (conditions_of schema from) texts))
      ∙ length-append (members_in (conditions_of schema from c)) (members_in (flat_map (conditions_of schema from) texts)) in
      omega (arith, one, later, whole, size)

few_members_from : (schema : Schema) (text : List ℕ) (asked : Query) → Means schema text asked
    → length (members_in asked.conditions) ≤ 16
few_members_from schema text asked means =
    let it : Query = resolved schema means.tree in
    let kept = kept_rules schema text means.tree means.keeps in
    let written = sum_by literal_conditions means.tree.conditions in
    let columns = flat_map condition_columns means.tree.conditions in
    let limits = neither_true _ (nat_lt 32 (selected_count schema means.tree means.tree.selection)) kept.limits in
    let within = ltb-false 16 written (neither_true _ (nat_lt 16 written) limits.0).1 in
    let once = neither_true (has_repeat it.from) (list_any (has_many schema it.from) (columns_in means.tree)) kept.one_meaning in
    let clear = none_of_both (has_many schema it.from) (selection_columns means.tree.selection) columns once.1 in
    let few = few_of_conditions schema it.from means.tree.conditions clear.1 in
    subst (λ (q : Query). length (members_in q.conditions) ≤ 16) (sym means.means) (omega (arith, within, few))

no_repeat_from : (schema : Schema) (text : List ℕ) (asked : Query) → Means schema text asked → has_repeat asked.from ≡ false
no_repeat_from schema text asked means =
    let it : Query = resolved schema means.tree in
    let once = neither_true (has_repeat it.from) (list_any (λ column. nat_lt 1 (length (meanings schema it.from column))) (columns_in means.tree)) (kept_rules schema text means.tree means.keeps).one_meaning in
    subst (λ (q : Query). has_repeat q.from ≡ false) (sym means.means) once.0

pub accepted_queries_are_followed : AcceptedQueriesAreFollowed
accepted_queries_are_followed schema tree text asked means top at_top =
    let linked = query_is_linked schema text asked top means at_top in
    let sound = query_is_sound schema text asked tree means in
    let conditions = has_conditions schema text asked means in
    record {
      top_stands = among_is top asked.from (top_is_from schema asked top at_top);
      once = no_repeat_from schema text asked means;
      below = λ table a. below_top schema tree asked top linked table (is_among_to table asked.from a);
      parents = λ table a differ.
          let up = linked.upward table (is_among_to table asked.from a) differ in
          record { above = up.above; is_parent = up.is_parent; stands = among_is up.above asked.from up.stands };
      joined = λ table a differ. (linked.upward table (is_among_to table asked.from a) differ).joined;
      selected = all_pass (is_column_from schema asked.from) asked.select
          (λ one a. column_from schema asked.from one (each_is (λ (f : Field). Among f.table asked.from) one asked.select sound.chosen a) (select_has schema text asked means one a));
      conditions = all_pass (is_condition_from schema asked.from) asked.conditions
          (λ c a. condition_from schema asked.from c (conditions.from c a) (conditions_have schema text asked means c a) (conditions.joins c a));
      groups = subst (λ (q : Query). list_all is_of_one_table q.conditions ≡ true) (sym means.means) (kept_rules schema text means.tree means.keeps).of_one_table;
      few_selected = select_few schema text asked means;
      few_members = few_members_from schema text asked means;
    }

one_more : (rows : ℕ → List Row) (from count : ℕ)
    → flat_map rows (range_with_len from (suc count)) ≡ flat_map rows (range_with_len from count) ++ rows (from + count)
one_more rows from zero = let e : from ≡ from + 0 = omega arith in append-nil (rows from) ∙ ap rows e
one_more rows from (suc count) =
    let e : from + 1 + count ≡ from + suc count = omega arith in
    let later = flat_map rows (range_with_len (from + 1) count) in
    ap (λ (xs : List Row). rows from ++ xs) (one_more rows (from + 1) count)
    ∙ (sym (append_assoc (rows from) later (rows (from + 1 + count))) ∙ ap (λ n. (rows from ++ later) ++ rows n) e)

pub rows_come_one_by_one : RowsComeOneByOne
rows_come_one_by_one = record {
  none = λ rows. refl;
  more = λ rows count. let e : 1 + count ≡ suc count = omega arith in one_more rows 1 count ∙ ap (λ n. flat_map rows (range_with_len 1 count) ++ rows n) e;
}
