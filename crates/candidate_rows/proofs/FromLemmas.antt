-- The tables that a plan tests or selects of are FROM tables, and rows of the top table lead to a row of each.
use Rattle.std.proofs.Common.{◌≡◌, ◌∙◌, ℕ, zero, suc, ◌-◌, ◌<◌, ◌≤◌, inl, inr, Bool, true, false, not, ◌&&◌, ◌||◌, nat_eq, nat_lt, List, [], ◌∷◌, ◌++◌, length, get_or, slice_get, slice_set, slice_index, map, take, filter, flat_map, replicate, Option, Some, None, option_and_then, if◌then◌else◌, sym, subst, refl, ap, ap₂, arith}
use Rattle.std.specs.List.{list_all, list_any}
use Rattle.std.proofs.lemmas.Bool.{eqb-true, eqb-false}
use Rattle.std.proofs.lemmas.Bool.Decides.{nat_tests}
use Rattle.std.proofs.lemmas.List.{get_or-set_same, get_or-set_other, length-map, length-set}
use Rattle.ghost_model.specs.core.Schema.{Schema, parent, ancestor, is_visible, first_of, IsAtOrBelow}
use Rattle.ghost_model.specs.core.Values.{Value, Row, Database}
use Rattle.ghost_model.specs.core.Channel.{Catalog}
use Rattle.ghost_model.specs.core.Database.{row_counts, row_of, rows_of, reference_column}
use Rattle.ghost_model.specs.core.Query.{Query, Field, Member, GroupMember, members_of_group, members_in, Condition, OneOf, Join, is_among, top_of}
use Rattle.ghost_model.specs.core.Groups.{each_of, some_of}
use Rattle.ghost_model.specs.core.Meaning.{meets_test}
use Rattle.ghost_model.specs.core.Replies.{Reply}
use Rattle.ghost_model.specs.forms.Layout.{descendants_of}
use Rattle.ghost_model.specs.laws.LayoutLaws.{LevelsAreAncestors}
use Rattle.ghost_model.specs.laws.SchemaTrees.{IsTree}
use Rattle.ghost_model.specs.laws.QueryLaws.{OneReading}
use Rattle.ghost_model.specs.laws.MeaningLaws.{LeadsFollowKeys, RowsLeadToRows}
use Rattle.ghost_model.proofs.MeaningLemmas.OneRow.{Among, among_is, from_filter, both_true, neither_true}
use Rattle.ghost_model.proofs.MeaningLemmas.Leading.{first_step, no_step, way_is_short, table_with_parent, get_within, to_itself_within, told_place, first_some, not_to_false}
use Rattle.ghost_model.proofs.FlashLemmas.Values.{count_there}
use Rattle.ghost_model.proofs.SessionLemmas.Members.{each_true, true_of_each, some_true}
use Rattle.ghost_laws.specs.Followed.{IsFollowed, AcceptedQueriesAreFollowed, is_column_from, is_condition_from}
use Rattle.ghost_laws.specs.Scans.{known_along, stands_along, holds_along, holds_or_asked_along, is_kept_row}
use Rattle.ghost_laws.proofs.ScanLemmas.Accepted.{pass_each}
use Rattle.edge_traits.specs.Devices.{Device}
use Rattle.visible_spool.specs.declared.half.Half.{Half}
use Rattle.candidate_rows.specs.Rows.{AreReadable}
use Rattle.visible_spool.specs.declared.search.Search.TheVariants.{New}
use Rattle.spj_parse.specs.Resolved.{IsMeant, joins_of, join_to, join_with, join_by, keys_between, is_group}
use Rattle.candidate_rows.specs.declared.plan.Hop.{Hop}
use Rattle.candidate_rows.specs.declared.plan.Test.{Test}
use Rattle.candidate_rows.specs.declared.plan.Check.{Check}
use Rattle.candidate_rows.specs.declared.plan.Check.TheVariants.{Stands, Holds}
use Rattle.candidate_rows.specs.declared.plan.RowPlan.{RowPlan}
use Rattle.candidate_rows.specs.declared.plan.SubtreeFile.{SubtreeFile}
use Rattle.candidate_rows.specs.declared.next.Next.TheVariants as next
use Rattle.candidate_rows.specs.declared.next.Follow.{Follow}
use Rattle.candidate_rows.specs.declared.work.RowWork.{RowWork}
use Rattle.candidate_rows.specs.declared.plan.Known.{Known}
use Rattle.candidate_rows.specs.Orders.{is_look_up, looks_up}
use Rattle.ghost_model.specs.forms.Left.{is_same_field, new_fields}
use Rattle.ghost_laws.specs.Asking.{is_asked, is_tested, is_gathered, is_left, columns_left, without_left, is_shown_of, is_compared_of}
use Rattle.ghost_laws.proofs.AskingLemmas.{tested_apart, parts_apart, tested_is_either, never_both, left_is_tested, tested_is_not_visible}
use Rattle.flash_layout.specs.Ranges.{IsRowOf, Suffices}
use Rattle.candidate_rows.specs.Plans.{IsPlan, IsHop, IsHopOrNone, AreHops, HasWays, test_meets, check_meets, conditions_tested, is_by_itself, is_settled, is_left_by, members_left_by, has_below, is_below_top, needs_below, columns_needed}
use Rattle.candidate_rows.specs.Working.{Knows, StandsFor, IsWorking, IsLedTo, IsSifted, HasKeysBut, passes, told, look_of, reached_at, way_to, way_by, along_hop, from_row, go_on, spread_from, is_replied}
use Rattle.candidate_rows.specs.Steps.{row_known}
use Rattle.candidate_rows.specs.Laws.{TestsAreThoseOfAnswers, RowsSiftedOutAreNoAnswers, RowsThatStandNotAreNoAnswers, LeftGroupsAddNoRows}
use Rattle.candidate_rows.proofs.StepLemmas.{IsNowhere, Wanted, tested, selected, known_at, sought_new, searching_new}
use Rattle.candidate_rows.proofs.SubtreeLemmas.{below_there, has_descendant, some_among}
use Rattle.candidate_rows.proofs.TellLemmas.{conditions_pass, holds_at_place}
use Rattle.candidate_rows.proofs.ValueLemmas.{seen}

-- ---- lists

pub or_left : (a b : Bool) → a ≡ true → (a || b) ≡ true
or_left true b e = refl
or_left false b e = cc

pub or_right : (a b : Bool) → b ≡ true → (a || b) ≡ true
or_right true b e = refl
or_right false b e = e

pub of_either : (a b : Bool) → a ≡ false → (a || b) ≡ true → b ≡ true
of_either true b e h = absurd (cc (e))
of_either false b e h = h

pub among_of : (x : ℕ) (xs : List ℕ) → is_among xs x ≡ true → Among x xs
among_of x [] e = absurd (cc (e))
among_of x (y ∷ xs) e = by (nat_eq y x) refl (λ h. among_of x xs h) e
  where
    by : (b : Bool) → nat_eq y x ≡ b → (is_among xs x ≡ true → Among x xs) → (nat_eq y x || is_among xs x) ≡ true → Among x (y ∷ xs)
    by true same rest h = inl (eqb-true y x same)
    by false same rest h = inr (rest (of_either (nat_eq y x) (is_among xs x) same h))

pub any_among : {X : Type 0} (p : X → Bool) (xs : List X) (x : X) → Among x xs → p x ≡ true → list_any p xs ≡ true
any_among p [] x among e = absurd among
any_among p (y ∷ xs) x (inl same) e = ap (λ b. b || list_any p xs) (ap p same ∙ e)
any_among p (y ∷ xs) x (inr later) e = or_right (p y) (list_any p xs) (any_among p xs x later e)

pub all_each : {X : Type 0} (p : X → Bool) (xs : List X) → ((x : X) → Among x xs → p x ≡ true) → list_all p xs ≡ true
all_each p [] each = refl
all_each p (x ∷ xs) each = ap₂ (λ a b. a && b) (each x (inl refl)) (all_each p xs (λ y a. each y (inr a)))

all_filtered : {X : Type 0} (p q : X → Bool) (xs : List X) → ((x : X) → Among x xs → q x ≡ false → p x ≡ true) → list_all p (filter q xs) ≡ list_all p xs
all_filtered p q [] each = refl
all_filtered p q (x ∷ xs) each = by (q x) refl (all_filtered p q xs (λ y a. each y (inr a)))
  where
    by : (b : Bool) → q x ≡ b → list_all p (filter q xs) ≡ list_all p xs → list_all p (if b then x ∷ filter q xs else filter q xs) ≡ (p x && list_all p xs)
    by true e rest = ap (λ b. p x && b) rest
    by false e rest = rest ∙ sym (ap (λ b. b && list_all p xs) (each x (inl refl) e))

-- ---- FROM tables

abbrev pub is_from : List ℕ → Condition → Bool
is_from from (OneOf first others) = each_of (λ one. is_among from one.field.table) first others
is_from from (Join one other) = true

all_both : {X : Type 0} (p : X → Bool) (xs ys : List X) → list_all p xs ≡ true → list_all p ys ≡ true → list_all p (xs ++ ys) ≡ true
all_both p [] ys a b = b
all_both p (x ∷ xs) ys a b =
    let both = both_true (p x) (list_all p xs) a in
    ap₂ (λ c d. c && d) both.0 (all_both p xs ys both.1 b)

module _ (p : Condition → Bool) (joined : (one other : Field) → p (Join one other) ≡ true) where
  one_join : (table holder : ℕ) (key : Option ℕ) → list_all p (join_by table holder key) ≡ true
  one_join table holder None = refl
  one_join table holder (Some column) = ap (λ b. b && true) (joined _ _)

  joins_with : (schema : Schema) (from : List ℕ) (table : ℕ) (holder : Option ℕ) → list_all p (join_with schema from table holder) ≡ true
  joins_with schema from table None = refl
  joins_with schema from table (Some holder) =
      elim (is_among from holder) as (λ b. list_all p (if b then join_by table holder (first_of (keys_between schema holder table)) else []) ≡ true) [
        | true ↦ one_join table holder (first_of (keys_between schema holder table))
        | false ↦ refl
      ]

  pub joins_pass : (schema : Schema) (from tables : List ℕ) → list_all p (flat_map (join_to schema from) tables) ≡ true
  joins_pass schema from [] = refl
  joins_pass schema from (table ∷ tables) =
      all_both p (join_to schema from table) (flat_map (join_to schema from) tables) (joins_with schema from table (parent schema table)) (joins_pass schema from tables)

members_from : (schema : Schema) (from : List ℕ) (conditions : List Condition) → list_all (is_condition_from schema from) conditions ≡ true
    → list_all (is_from from) (filter is_group conditions) ≡ true
members_from schema from [] all = refl
members_from schema from (OneOf first others ∷ conditions) all =
    let both = both_true (is_condition_from schema from (OneOf first others)) (list_all (is_condition_from schema from) conditions) all in
    let of_from : each_of (λ (one : Member). is_among from one.field.table) first others ≡ true =
    true_of_each (λ one. is_among from one.field.table) first others
    (λ one among. (both_true (is_among from one.field.table) _ (each_true (λ one. is_column_from schema from one.field) one first others both.0 among)).0) in
    ap₂ (λ c d. c && d) of_from (members_from schema from conditions both.1)
members_from schema from (Join one other ∷ conditions) all =
    members_from schema from conditions (both_true (is_condition_from schema from (Join one other)) (list_all (is_condition_from schema from) conditions) all).1

pub conditions_of : (schema : Schema) (asked : Query) (text : List ℕ) (read : IsMeant schema text asked) (top : ℕ) → IsFollowed schema read.meant top
    → list_all (is_from asked.from) asked.conditions ≡ true
conditions_of schema asked text read top follows =
    ap (λ (q : Query). list_all (is_from q.from) q.conditions) read.once
    ∙ all_both (is_from read.meant.from) (joins_of schema read.meant.from) (filter is_group read.meant.conditions)
    (joins_pass (is_from read.meant.from) (λ one other. refl) schema read.meant.from read.meant.from)
    (members_from schema read.meant.from read.meant.conditions follows.conditions)

-- the columns of each group are those of FROM tables
abbrev pub is_group_from : Schema → List ℕ → Condition → Bool
is_group_from schema from (OneOf first others) = each_of (λ one. is_column_from schema from one.field) first others
is_group_from schema from (Join one other) = true

groups_from : (schema : Schema) (from : List ℕ) (conditions : List Condition) → list_all (is_condition_from schema from) conditions ≡ true
    → list_all (is_group_from schema from) (filter is_group conditions) ≡ true
groups_from schema from [] all = refl
groups_from schema from (OneOf first others ∷ conditions) all =
    let both = both_true (is_condition_from schema from (OneOf first others)) (list_all (is_condition_from schema from) conditions) all in
    ap₂ (λ c d. c && d) both.0 (groups_from schema from conditions both.1)
groups_from schema from (Join one other ∷ conditions) all =
    groups_from schema from conditions (both_true (is_condition_from schema from (Join one other)) (list_all (is_condition_from schema from) conditions) all).1

pub group_columns : (schema : Schema) (asked : Query) (text : List ℕ) (read : IsMeant schema text asked) (top : ℕ) → IsFollowed schema read.meant top
    → list_all (is_group_from schema asked.from) asked.conditions ≡ true
group_columns schema asked text read top follows =
    ap (λ (q : Query). list_all (is_group_from schema q.from) q.conditions) read.once
    ∙ all_both (is_group_from schema read.meant.from) (joins_of schema read.meant.from) (filter is_group read.meant.conditions)
    (joins_pass (is_group_from schema read.meant.from) (λ one other. refl) schema read.meant.from read.meant.from)
    (groups_from schema read.meant.from read.meant.conditions follows.conditions)

-- ---- the columns that are needed

-- what each member of a group that a plan leaves passes, all of them do
module _ (schema : Schema) (sifted : Bool) (p : Member → Bool) where
  abbrev EachLeft : List Condition → Type 0
  EachLeft conditions =
      (first : Member) (others : List Member) → Among (OneOf first others) conditions → is_left_by schema sifted (OneOf first others) ≡ true
      → (one : Member) → Among one (first ∷ others) → p one ≡ true

  members_pass : (first : Member) (others : List Member) (rest : List GroupMember) → ((one : Member) → Among one (first ∷ others) → p one ≡ true)
      → list_all (λ (one : GroupMember). p one.member) rest ≡ true → list_all (λ (one : GroupMember). p one.member) (members_of_group first others ++ rest) ≡ true
  members_pass first [] rest each all = ap₂ (λ a b. a && b) (each first (inl refl)) all
  members_pass first (next ∷ others) rest each all =
      ap₂ (λ a b. a && b) (each first (inl refl)) (members_pass next others rest (λ one a. each one (inr a)) all)

  pub left_pass : (conditions : List Condition) → EachLeft conditions → list_all (λ (one : GroupMember). p one.member) (members_in (filter (is_left_by schema sifted) conditions)) ≡ true
  left_pass [] each = refl
  left_pass (OneOf first others ∷ conditions) each =
      by (is_left_by schema sifted (OneOf first others)) refl (left_pass conditions (λ f os a. each f os (inr a)))
    where
      by : (b : Bool) → is_left_by schema sifted (OneOf first others) ≡ b → list_all (λ (one : GroupMember). p one.member) (members_in (filter (is_left_by schema sifted) conditions)) ≡ true
          → list_all (λ (one : GroupMember). p one.member) (members_in (if b then OneOf first others ∷ filter (is_left_by schema sifted) conditions else filter (is_left_by schema sifted) conditions)) ≡ true
      by true e rest = members_pass first others (members_in (filter (is_left_by schema sifted) conditions)) (each first others (inl refl) e) rest
      by false e rest = rest
  left_pass (Join one other ∷ conditions) each = left_pass conditions (λ f os a. each f os (inr a))

new_pass : (p : Field → Bool) (before fields : List Field) → list_all p fields ≡ true → list_all p (new_fields before fields) ≡ true
unfolding new_fields
new_pass p before [] all = refl
new_pass p before (one ∷ fields) all =
    let both = both_true (p one) (list_all p fields) all in
    elim (list_any (is_same_field one) before) as (λ b. list_all p (if b then new_fields before fields else one ∷ new_fields (one ∷ before) fields) ≡ true) [
      | true ↦ new_pass p before fields both.1
      | false ↦ ap₂ (λ a b. a && b) both.0 (new_pass p (one ∷ before) fields both.1)
    ]

mapped_pass : (p : Field → Bool) (members : List GroupMember) → list_all (λ (one : GroupMember). p one.member.field) members ≡ true
    → list_all p (map (λ (one : GroupMember). one.member.field) members) ≡ true
mapped_pass p [] all = refl
mapped_pass p (one ∷ members) all =
    let both = both_true (p one.member.field) (list_all (λ (one : GroupMember). p one.member.field) members) all in
    ap₂ (λ a b. a && b) both.0 (mapped_pass p members both.1)

pub needed_pass : (schema : Schema) (asked : Query) (sifted : Bool) (p : Field → Bool) → list_all p asked.select ≡ true
    → EachLeft schema sifted (λ one. p one.field) asked.conditions → list_all p (columns_needed schema asked sifted) ≡ true
needed_pass schema asked sifted p all each =
    let members = members_left_by schema asked sifted in
    let fields = map (λ (one : GroupMember). one.member.field) members in
    all_both p asked.select (new_fields asked.select fields) all
    (new_pass p asked.select fields (mapped_pass p members (left_pass schema sifted (λ one. p one.field) asked.conditions each)))

-- ---- look-ups

any_at : {X : Type 0} (p : X → Bool) (xs : List X) (i : ℕ) (x : X) → slice_get xs i ≡ Some x → p x ≡ true → list_any p xs ≡ true
any_at p [] i x e h = absurd (cc (e))
any_at p (y ∷ xs) zero x e h = let same : y ≡ x = cc in ap (λ b. b || list_any p xs) (ap p same ∙ h)
any_at p (y ∷ xs) (suc i) x e h = ap (λ b. p y || b) (any_at p xs i x e h) ∙ by (p y)
  where
    by : (b : Bool) → (b || true) ≡ true
    by true = refl
    by false = refl

itself_equal : (n : ℕ) → nat_eq n n ≡ true
itself_equal n = grind (arith, nat_tests)

unmet_among : (q : ℕ → Bool) (table : ℕ) (from : List ℕ) → is_among from table ≡ true → q table ≡ true → list_all (λ t. not (nat_eq t table)) (filter q from) ≡ false
unmet_among q table [] among h = absurd (cc (among))
unmet_among q table (t ∷ from) among h = by (nat_eq t table) (λ a. unmet_among q table from a h) refl among
  where
    rest_unmet : (b : Bool) → list_all (λ t. not (nat_eq t table)) (filter q from) ≡ false
        → list_all (λ t. not (nat_eq t table)) (if b then t ∷ filter q from else filter q from) ≡ false
    rest_unmet false e = e
    rest_unmet true e = ap (λ b. not (nat_eq t table) && b) e ∙ none (not (nat_eq t table))
      where
        none : (b : Bool) → (b && false) ≡ false
        none true = refl
        none false = refl

    by : (b : Bool) → (is_among from table ≡ true → list_all (λ t. not (nat_eq t table)) (filter q from) ≡ false) → nat_eq t table ≡ b → (b || is_among from table) ≡ true
        → list_all (λ t. not (nat_eq t table)) (if q t then t ∷ filter q from else filter q from) ≡ false
    by true later e a =
        ap (λ b. list_all (λ t. not (nat_eq t table)) (if b then t ∷ filter q from else filter q from)) (ap q (eqb-true t table e) ∙ h)
        ∙ ap (λ b. not b && list_all (λ t. not (nat_eq t table)) (filter q from)) e
    by false later e a = rest_unmet (q t) (later a)

unlooked_meet : (table : ℕ) (tests : List Test) → list_any (looks_up table) tests ≡ false → list_all (test_meets (λ t. not (nat_eq t table)) (λ _. true)) tests ≡ true
unlooked_meet table [] none = refl
unlooked_meet table (test ∷ tests) none =
    let both = neither_true (looks_up table test) (list_any (looks_up table) tests) none in
    ap₂ (λ a b. a && b) (by test.check refl both.0) (unlooked_meet table tests both.1)
  where
    by : (check : Check) → test.check ≡ check → looks_up table test ≡ false → test_meets (λ t. not (nat_eq t table)) (λ _. true) test ≡ true
    by (Stands number) e h =
        ap (check_meets (λ t. not (nat_eq t table)) (λ _. true) test.known.field) e
        ∙ ap not (sym (ap (λ c. is_look_up c && nat_eq test.known.field.table table) e) ∙ h)
    by (Holds wanted) e h = ap (check_meets (λ t. not (nat_eq t table)) (λ _. true) test.known.field) e

pub among_fails : (p : ℕ → Bool) (tables : List ℕ) (table : ℕ) → is_among tables table ≡ true → p table ≡ false → list_all p tables ≡ false
among_fails p [] table e h = absurd (cc (e))
among_fails p (first ∷ tables) table e h = by (nat_eq first table) refl (λ a. among_fails p tables table a h) e
  where
    later : (a b : Bool) → b ≡ false → (a && b) ≡ false
    later true b e = e
    later false b e = refl

    by : (b : Bool) → nat_eq first table ≡ b → (is_among tables table ≡ true → list_all p tables ≡ false) → (b || is_among tables table) ≡ true
        → (p first && list_all p tables) ≡ false
    by true same rest a = ap (λ b. b && list_all p tables) (ap p (eqb-true first table same) ∙ h)
    by false same rest a = later (p first) (list_all p tables) (rest a)

-- the row of the top table
pub row_of_top : (cat : Catalog) (page : ℕ → List ℕ) (asked : Query) (database : Database) (half : Half) (given : List Reply) → Knows page cat asked database half given
    → (top identifier : ℕ) → IsRowOf cat top identifier → (r : Row) × (row_of database top identifier ≡ Some r)
row_of_top cat page asked database half given knows top identifier row =
    let some = row.some in
    let within = row.within in
    let size = ap (λ (ns : List ℕ). slice_index ns top) (sym knows.counts) ∙ count_there database top in
    let same : suc (identifier - 1) ≡ identifier = omega (arith, some) in
    let r = get_within (rows_of database top) (identifier - 1) (omega (arith, size, some, within)) in
    (r.0, ap (row_of database top) (sym same) ∙ r.1)

-- what all FROM tables pass
pub each_from : (p : ℕ → Bool) (from : List ℕ) (table : ℕ) → list_all p from ≡ true → is_among from table ≡ true → p table ≡ true
each_from p from table all among = by (p table) refl
  where
    clash : {b : Bool} → b ≡ true → b ≡ false → ⊥
    clash t f = cc

    by : (b : Bool) → p table ≡ b → b ≡ true
    by true e = refl
    by false e = absurd (clash all (among_fails p from table among e))

-- ---- conditions that the indexes have the rows of, and groups that are left

untested_holds : (schema : Schema) (value : Field → Option Value) (condition : Condition) → is_tested schema condition ≡ false → holds_or_asked_along schema value condition ≡ true
untested_holds schema value (OneOf first others) e =
    ap (λ b. if b then true else some_of (λ one. meets_test one.test (value one.field)) first others)
    (shown (each_of (λ one. is_visible schema one.field.table one.field.column) first others) (sym (tested_is_not_visible schema first others) ∙ e))
  where
    shown : (b : Bool) → not b ≡ false → b ≡ true
    shown true e = refl
    shown false e = cc
untested_holds schema value (Join one other) e = refl

tested_holds_along : (schema : Schema) (value : Field → Option Value) (condition : Condition) → is_tested schema condition ≡ true
    → holds_or_asked_along schema value condition ≡ holds_along value condition
tested_holds_along schema value (OneOf first others) e =
    ap (λ b. if b then true else some_of (λ one. meets_test one.test (value one.field)) first others)
    (not_shown (each_of (λ one. is_visible schema one.field.table one.field.column) first others) (sym (tested_is_not_visible schema first others) ∙ e))
  where
    not_shown : (b : Bool) → not b ≡ true → b ≡ false
    not_shown true e = cc
    not_shown false e = refl
tested_holds_along schema value (Join one other) e = absurd (cc (e))

left_along : (schema : Schema) (value : Field → Option Value) (left : Condition → Bool) → ((c : Condition) → left c ≡ true → is_tested schema c ≡ true)
    → (conditions : List Condition) → list_all (holds_or_asked_along schema value) (filter left conditions) ≡ list_all (holds_along value) (filter left conditions)
left_along schema value left within [] = refl
left_along schema value left within (condition ∷ conditions) = by (left condition) refl (left_along schema value left within conditions)
  where
    by : (b : Bool) → left condition ≡ b
        → list_all (holds_or_asked_along schema value) (filter left conditions) ≡ list_all (holds_along value) (filter left conditions)
        → list_all (holds_or_asked_along schema value) (if b then condition ∷ filter left conditions else filter left conditions)
        ≡ list_all (holds_along value) (if b then condition ∷ filter left conditions else filter left conditions)
    by true e rest = ap₂ (λ a b. a && b) (tested_holds_along schema value condition (within condition e)) rest
    by false e rest = rest

pub conditions_apart : (schema : Schema) (value : Field → Option Value) (conditions : List Condition)
    → list_all (holds_or_asked_along schema value) conditions
    ≡ (list_all (holds_or_asked_along schema value) (filter (is_gathered schema) conditions) && list_all (holds_along value) (filter (is_left schema) conditions))
conditions_apart schema value conditions =
    sym (all_filtered (holds_or_asked_along schema value) (is_tested schema) conditions (λ c a e. untested_holds schema value c e))
    ∙ tested_apart schema (holds_or_asked_along schema value) conditions
    ∙ ap (λ b. list_all (holds_or_asked_along schema value) (filter (is_gathered schema) conditions) && b)
    (left_along schema value (is_left schema) (left_is_tested schema) conditions)

-- ---- conditions that are settled before the values are there, and groups that a plan leaves

settled_is_tested : (schema : Schema) (sifted : Bool) (condition : Condition) → is_settled schema sifted condition ≡ true → is_tested schema condition ≡ true
settled_is_tested schema true condition e = tested_is_either schema condition ∙ or_left (is_gathered schema condition) (is_left schema condition) e
settled_is_tested schema false (OneOf first []) e = e
settled_is_tested schema false (OneOf first (next ∷ others)) e = absurd (cc (e))
settled_is_tested schema false (Join one other) e = e

pub left_by_is_tested : (schema : Schema) (sifted : Bool) (condition : Condition) → is_left_by schema sifted condition ≡ true → is_tested schema condition ≡ true
left_by_is_tested schema sifted condition e = (both_true (is_tested schema condition) (not (is_settled schema sifted condition)) e).0

conditions_by : (schema : Schema) (sifted : Bool) (value : Field → Option Value) (conditions : List Condition)
    → list_all (holds_or_asked_along schema value) conditions
    ≡ (list_all (holds_or_asked_along schema value) (filter (is_settled schema sifted) conditions) && list_all (holds_along value) (filter (is_left_by schema sifted) conditions))
conditions_by schema sifted value conditions =
    sym (all_filtered (holds_or_asked_along schema value) (is_tested schema) conditions (λ c a e. untested_holds schema value c e))
    ∙ parts_apart (is_tested schema) (is_settled schema sifted) (is_left_by schema sifted)
    (λ c. either (is_tested schema c) (is_settled schema sifted c) (settled_is_tested schema sifted c))
    (λ c. never (is_tested schema c) (is_settled schema sifted c)) (holds_or_asked_along schema value) conditions
    ∙ ap (λ b. list_all (holds_or_asked_along schema value) (filter (is_settled schema sifted) conditions) && b)
    (left_along schema value (is_left_by schema sifted) (left_by_is_tested schema sifted) conditions)
  where
    either : (a b : Bool) → (b ≡ true → a ≡ true) → a ≡ (b || (a && not b))
    either true true within = refl
    either true false within = refl
    either false true within = within refl
    either false false within = refl

    never : (a b : Bool) → (b && (a && not b)) ≡ false
    never true true = refl
    never true false = refl
    never false true = refl
    never false false = refl

-- a plan whose rows are known to meet what the indexes have the rows of leaves the groups that are left by them
left_by_sifted : (schema : Schema) (conditions : List Condition) → filter (is_left_by schema true) conditions ≡ filter (is_left schema) conditions
left_by_sifted schema [] = refl
left_by_sifted schema (condition ∷ conditions) =
    ap₂ (λ (b : Bool) (later : List Condition). if b then condition ∷ later else later)
    (same (is_tested schema condition) (is_gathered schema condition) (is_left schema condition) (tested_is_either schema condition) (never_both schema condition))
    (left_by_sifted schema conditions)
  where
    same : (a b c : Bool) → a ≡ (b || c) → (b && c) ≡ false → (a && not b) ≡ c
    same a true c e n = ap (λ t. t && false) e ∙ sym n
    same a false c e n = by a c e
      where
        by : (a c : Bool) → a ≡ c → (a && true) ≡ c
        by true c e = e
        by false c e = e

pub needed_sifted : (schema : Schema) (asked : Query) (sifted : Bool) → sifted ≡ true → columns_needed schema asked sifted ≡ asked.select ++ columns_left schema asked
needed_sifted schema asked true e =
    ap (λ (conditions : List Condition). asked.select ++ new_fields asked.select (map (λ (one : GroupMember). one.member.field) (members_in conditions)))
    (left_by_sifted schema asked.conditions)
needed_sifted schema asked false e = absurd (cc (e))

-- a query without its groups that are left has all conditions that the indexes have the rows of
pub gathered_stay : (schema : Schema) (conditions : List Condition)
    → filter (is_gathered schema) (filter (λ condition. not (is_left schema condition)) conditions) ≡ filter (is_gathered schema) conditions
gathered_stay schema [] = refl
gathered_stay schema (condition ∷ conditions) = by (is_left schema condition) refl (gathered_stay schema conditions)
  where
    never : (a b : Bool) → (a && b) ≡ false → b ≡ true → a ≡ false
    never true b both e = sym e ∙ both
    never false b both e = refl

    by : (b : Bool) → is_left schema condition ≡ b
        → filter (is_gathered schema) (filter (λ c. not (is_left schema c)) conditions) ≡ filter (is_gathered schema) conditions
        → filter (is_gathered schema) (if not b then condition ∷ filter (λ c. not (is_left schema c)) conditions else filter (λ c. not (is_left schema c)) conditions)
        ≡ (if is_gathered schema condition then condition ∷ filter (is_gathered schema) conditions else filter (is_gathered schema) conditions)
    by true e rest =
        rest ∙ sym (ap (λ b. if b then condition ∷ filter (is_gathered schema) conditions else filter (is_gathered schema) conditions)
        (never (is_gathered schema condition) (is_left schema condition) (never_both schema condition) e))
    by false e rest = ap (λ (held : List Condition). if is_gathered schema condition then condition ∷ held else held) rest

pub none_left : (schema : Schema) (conditions : List Condition) → filter (is_left schema) (filter (λ condition. not (is_left schema condition)) conditions) ≡ []
none_left schema [] = refl
none_left schema (condition ∷ conditions) = by (is_left schema condition) refl (none_left schema conditions)
  where
    by : (b : Bool) → is_left schema condition ≡ b → filter (is_left schema) (filter (λ c. not (is_left schema c)) conditions) ≡ []
        → filter (is_left schema) (if not b then condition ∷ filter (λ c. not (is_left schema c)) conditions else filter (λ c. not (is_left schema c)) conditions) ≡ []
    by true e rest = rest
    by false e rest =
        ap (λ b. if b then condition ∷ filter (is_left schema) (filter (λ c. not (is_left schema c)) conditions) else filter (is_left schema) (filter (λ c. not (is_left schema c)) conditions)) e ∙ rest

module _ (cat : Catalog) (asked : Query) (plan : RowPlan) (plan_is : IsPlan cat asked plan) (text : List ℕ) (read : IsMeant cat.schema text asked)
    (tree : IsTree cat.schema) (one : OneReading) (accepted : AcceptedQueriesAreFollowed) where
  pub follows : IsFollowed cat.schema read.meant plan.top
  follows =
      let top_is : top_of cat.schema read.meant ≡ Some plan.top = ap (top_of cat.schema) (sym read.once) ∙ plan_is.top_is text read in
      accepted cat.schema tree text read.meant ((one.meaning cat.schema text read.meant).0 read.reads) plan.top top_is

  pub from_same : asked.from ≡ read.meant.from
  from_same = ap (λ (q : Query). q.from) read.once

  pub below_top : (table : ℕ) → is_among asked.from table ≡ true → IsAtOrBelow cat.schema plan.top table
  below_top table among = follows.below table (ap (λ from. is_among from table) (sym from_same) ∙ among)

  conditions_from : list_all (is_from asked.from) asked.conditions ≡ true
  conditions_from = conditions_of cat.schema asked text read plan.top follows

  tests_from : list_all (test_meets (is_among asked.from) (is_from asked.from)) plan.tests.items ≡ true
  tests_from =
      plan_is.tests (is_among asked.from) (is_from asked.from)
      ∙ ap₂ (λ a b. a && b)
      (all_each (is_among asked.from) (filter (is_asked cat.schema asked) asked.from)
      (λ x a. among_is x asked.from (from_filter (is_asked cat.schema asked) x asked.from a).0))
      (conditions_pass cat.schema asked (is_from asked.from) plan.sifted
      (all_each (is_from asked.from) (filter (is_by_itself cat.schema) asked.conditions)
      (λ c a. pass_each (is_from asked.from) asked.conditions conditions_from c (from_filter (is_by_itself cat.schema) c asked.conditions a).0)))

  test_from : (test : Test) → test_meets (is_among asked.from) (is_from asked.from) test ≡ true → is_among asked.from test.known.field.table ≡ true
  test_from test met = by test.check refl
    where
      by : (check : Check) → test.check ≡ check → is_among asked.from test.known.field.table ≡ true
      by (Stands number) e = sym (ap (check_meets (is_among asked.from) (is_from asked.from) test.known.field) e) ∙ met
      by (Holds wanted) e = sym (ap (check_meets (is_among asked.from) (is_from asked.from) test.known.field) e) ∙ met

  -- the columns of a group are columns of FROM tables, and where a visible one stands in it, its table is asked for
  pub member_from : (first : Member) (others : List Member) → Among (OneOf first others) asked.conditions → (one : Member) → Among one (first ∷ others)
      → is_column_from cat.schema asked.from one.field ≡ true
  member_from first others among one a =
      each_true (λ other. is_column_from cat.schema asked.from other.field) one first others
      (pass_each (is_group_from cat.schema asked.from) asked.conditions (group_columns cat.schema asked text read plan.top follows) (OneOf first others) among) a

  pub member_asked : (first : Member) (others : List Member) → Among (OneOf first others) asked.conditions → (one : Member) → Among one (first ∷ others)
      → is_visible cat.schema one.field.table one.field.column ≡ true → is_asked cat.schema asked one.field.table ≡ true
  member_asked first others among one a visible =
      or_right (list_any (is_shown_of cat.schema one.field.table) asked.select) (list_any (is_compared_of cat.schema one.field.table) asked.conditions)
      (any_among (is_compared_of cat.schema one.field.table) asked.conditions (OneOf first others) among
      (some_true (λ other. is_shown_of cat.schema one.field.table other.field) one first others a
      (ap₂ (λ b c. b && c) (itself_equal one.field.table) visible)))

  needed_from : (i : ℕ) (field : Field) → slice_get (columns_needed cat.schema asked plan.sifted) i ≡ Some field → is_among asked.from field.table ≡ true
  needed_from i field there =
      let all : list_all (is_column_from cat.schema asked.from) asked.select ≡ true =
      ap (λ (q : Query). list_all (is_column_from cat.schema q.from) q.select) read.once ∙ follows.selected in
      (both_true (is_among asked.from field.table) _
      (holds_at_place (is_column_from cat.schema asked.from) (columns_needed cat.schema asked plan.sifted) i field
      (needed_pass cat.schema asked plan.sifted (is_column_from cat.schema asked.from) all (λ first others among left one a. member_from first others among one a)) there)).0

  abbrev asked_if_shown : Field → Bool
  asked_if_shown field = not (is_visible cat.schema field.table field.column) || is_asked cat.schema asked field.table

  if_shown : (field : Field) → (is_visible cat.schema field.table field.column ≡ true → is_asked cat.schema asked field.table ≡ true) → asked_if_shown field ≡ true
  if_shown field is = by (is_visible cat.schema field.table field.column) is
    where
      by : (b : Bool) → (b ≡ true → is_asked cat.schema asked field.table ≡ true) → (not b || is_asked cat.schema asked field.table) ≡ true
      by true h = h refl
      by false h = refl

  selected_asked : (field : Field) → Among field asked.select → is_visible cat.schema field.table field.column ≡ true → is_asked cat.schema asked field.table ≡ true
  selected_asked field among visible =
      ap (λ b. b || list_any (is_compared_of cat.schema field.table) asked.conditions)
      (any_among (is_shown_of cat.schema field.table) asked.select field among (ap₂ (λ b c. b && c) (itself_equal field.table) visible))

  needed_asked : (i : ℕ) (field : Field) → slice_get (columns_needed cat.schema asked plan.sifted) i ≡ Some field → is_visible cat.schema field.table field.column ≡ true
      → is_asked cat.schema asked field.table ≡ true
  needed_asked i field there visible =
      by (is_visible cat.schema field.table field.column) visible
      (holds_at_place asked_if_shown (columns_needed cat.schema asked plan.sifted) i field
      (needed_pass cat.schema asked plan.sifted asked_if_shown (all_each asked_if_shown asked.select (λ one a. if_shown one (selected_asked one a)))
      (λ first others among left one a. if_shown one.field (member_asked first others among one a))) there)
    where
      by : (b : Bool) → b ≡ true → (not b || is_asked cat.schema asked field.table) ≡ true → is_asked cat.schema asked field.table ≡ true
      by true e h = h
      by false e h = absurd (cc (e))

  -- the row of a table of which the value of a visible column is put is looked up
  pub selected_looked_up : (place : ℕ) (known : Known) → slice_get plan.columns.items place ≡ Some known → is_replied known.source ≡ true
      → list_any (looks_up known.field.table) plan.tests.items ≡ true
  selected_looked_up place known held replied =
      let at = known_at cat (columns_needed cat.schema asked plan.sifted) plan.columns.items place known plan_is.columns held in
      let table = known.field.table in
      let same : at.field.table ≡ table = ap (λ (f : Field). f.table) (sym at.is.field_is) in
      let visible = seen cat table known.field.column known.source at.is.source_is ∙ replied in
      let is : is_asked cat.schema asked table ≡ true =
      ap (is_asked cat.schema asked) (sym same)
      ∙ needed_asked place at.field at.there (ap (λ (f : Field). is_visible cat.schema f.table f.column) (sym at.is.field_is) ∙ visible) in
      let among : is_among asked.from table ≡ true = ap (is_among asked.from) (sym same) ∙ needed_from place at.field at.there in
      let missed = plan_is.tests (λ t. not (nat_eq t table)) (λ _. true)
      ∙ ap (λ b. b && list_all (λ _. true) (conditions_tested cat.schema asked plan.sifted)) (unmet_among (is_asked cat.schema asked) table asked.from among is) in
      by table (list_any (looks_up table) plan.tests.items) refl missed
    where
      by : (table : ℕ) (b : Bool) → list_any (looks_up table) plan.tests.items ≡ b → list_all (test_meets (λ t. not (nat_eq t table)) (λ _. true)) plan.tests.items ≡ false → b ≡ true
      by table true e missed = refl
      by table false e missed = absurd (clash (unlooked_meet table plan.tests.items e) missed)
        where
          clash : {b : Bool} → b ≡ true → b ≡ false → ⊥
          clash t f = cc

  pub wanted_below : (work : RowWork) (table : ℕ) → Wanted plan work table → IsAtOrBelow cat.schema plan.top table
  wanted_below work table (tested test there e) =
      subst (IsAtOrBelow cat.schema plan.top) e
      (below_top test.known.field.table (test_from test (holds_at_place (test_meets (is_among asked.from) (is_from asked.from)) plan.tests.items work.at test tests_from there)))
  wanted_below work table (selected known there e) =
      let at = known_at cat (columns_needed cat.schema asked plan.sifted) plan.columns.items work.put known plan_is.columns there in
      let same : at.field.table ≡ table = ap (λ (f : Field). f.table) (sym at.is.field_is) ∙ e in
      subst (IsAtOrBelow cat.schema plan.top) same (below_top at.field.table (needed_from work.put at.field at.there))

  -- ---- the tests are those of the answer

  module _ (page : ℕ → List ℕ) (database : Database) (half : Half) (given : List Reply) (identifier : ℕ) (knows : Knows page cat asked database half given)
      (row : IsRowOf cat plan.top identifier) (sifted : IsSifted cat asked database given identifier plan) (keys : LeadsFollowKeys cat.schema database) where
    top_row : (r : Row) × (row_of database plan.top identifier ≡ Some r)
    top_row = row_of_top cat page asked database half given knows plan.top identifier row

    pub unasked_stands : (table : ℕ) → Among table asked.from → is_asked cat.schema asked table ≡ false → stands_along cat.schema database given plan.top identifier table ≡ true
    unasked_stands table among none =
        let below = below_top table (among_is table asked.from among) in
        let lands = keys.lands plan.top table identifier top_row.0 below top_row.1 in
        ap₂ is_kept_row lands.led (knows.of_asked table none)

    -- the conditions of which there are tests, and the groups that are left by the plan, hold exactly where all conditions do
    conditions_along : (b : Bool)
        → (b ≡ true → list_all (holds_or_asked_along cat.schema (known_along cat.schema database given plan.top identifier)) (filter (is_gathered cat.schema) asked.conditions) ≡ true)
        → list_all (holds_or_asked_along cat.schema (known_along cat.schema database given plan.top identifier)) asked.conditions
        ≡ (list_all (holds_or_asked_along cat.schema (known_along cat.schema database given plan.top identifier)) (conditions_tested cat.schema asked b)
        && list_all (holds_along (known_along cat.schema database given plan.top identifier)) (filter (is_left_by cat.schema b) asked.conditions))
    conditions_along true held =
        conditions_by cat.schema true (known_along cat.schema database given plan.top identifier) asked.conditions
        ∙ ap (λ b. b && list_all (holds_along (known_along cat.schema database given plan.top identifier)) (filter (is_left_by cat.schema true) asked.conditions)) (held refl)
    conditions_along false held = conditions_by cat.schema false (known_along cat.schema database given plan.top identifier) asked.conditions

    tests_same : list_all (passes cat.schema database given plan.top identifier) plan.tests.items
        ≡ (list_all (stands_along cat.schema database given plan.top identifier) asked.from
        && list_all (holds_or_asked_along cat.schema (known_along cat.schema database given plan.top identifier)) (conditions_tested cat.schema asked plan.sifted))
    tests_same =
        plan_is.tests (stands_along cat.schema database given plan.top identifier) (holds_or_asked_along cat.schema (known_along cat.schema database given plan.top identifier))
        ∙ ap (λ b. b && list_all (holds_or_asked_along cat.schema (known_along cat.schema database given plan.top identifier)) (conditions_tested cat.schema asked plan.sifted))
        (all_filtered (stands_along cat.schema database given plan.top identifier) (is_asked cat.schema asked) asked.from unasked_stands)

    -- a row that meets all tests stands in all replies
    pub all_stand : list_all (passes cat.schema database given plan.top identifier) plan.tests.items ≡ true
        → list_all (stands_along cat.schema database given plan.top identifier) asked.from ≡ true
    all_stand met = (both_true (list_all (stands_along cat.schema database given plan.top identifier) asked.from) _ (sym tests_same ∙ met)).0

    pub same_row : row_known cat asked database given identifier plan
        ≡ (if list_all (passes cat.schema database given plan.top identifier) plan.tests.items
        && list_all (holds_along (known_along cat.schema database given plan.top identifier)) (filter (is_left_by cat.schema plan.sifted) asked.conditions)
        then told (known_along cat.schema database given plan.top identifier) asked.select ∷ [] else [])
    same_row =
        let value = known_along cat.schema database given plan.top identifier in
        let stands = list_all (stands_along cat.schema database given plan.top identifier) asked.from in
        let of_tests = list_all (holds_or_asked_along cat.schema value) (conditions_tested cat.schema asked plan.sifted) in
        let left = list_all (holds_along value) (filter (is_left_by cat.schema plan.sifted) asked.conditions) in
        ap (λ b. if b then told value asked.select ∷ [] else [])
        (ap (λ b. stands && b) (conditions_along plan.sifted sifted)
        ∙ in_turn stands of_tests left
        ∙ ap (λ b. b && left) (sym tests_same))
      where
        in_turn : (a b c : Bool) → (a && (b && c)) ≡ ((a && b) && c)
        in_turn true b c = refl
        in_turn false b c = refl

pub tests_are : OneReading → AcceptedQueriesAreFollowed → RowsLeadToRows → TestsAreThoseOfAnswers
tests_are one accepted rows page cat asked database half given identifier plan knows plan_is row sifted =
    same_row cat asked plan plan_is knows.text knows.meant knows.tree one accepted page database half given identifier knows row sifted (rows cat.schema database knows.tree knows.is)

-- ---- rows that are not in the answer

-- what not all of some elements pass, not all elements do
filter_fails : {X : Type 0} (p q : X → Bool) (xs : List X) → list_all p (filter q xs) ≡ false → list_all p xs ≡ false
filter_fails p q [] e = e
filter_fails p q (x ∷ xs) e = by (q x) (filter_fails p q xs) e
  where
    later : (a b : Bool) → b ≡ false → (a && b) ≡ false
    later true b e = e
    later false b e = refl

    here : (a b c : Bool) → (b ≡ false → c ≡ false) → (a && b) ≡ false → (a && c) ≡ false
    here true b c rest h = rest h
    here false b c rest h = refl

    by : (b : Bool) → (list_all p (filter q xs) ≡ false → list_all p xs ≡ false) → list_all p (if b then x ∷ filter q xs else filter q xs) ≡ false
        → (p x && list_all p xs) ≡ false
    by true rest h = here (p x) (list_all p (filter q xs)) (list_all p xs) rest h
    by false rest h = later (p x) (list_all p xs) (rest h)

pub sifted_out : RowsSiftedOutAreNoAnswers
sifted_out cat asked database given identifier plan fails =
    let holds = holds_or_asked_along cat.schema (known_along cat.schema database given plan.top identifier) in
    ap (λ b. if list_all (stands_along cat.schema database given plan.top identifier) asked.from && b
    then told (known_along cat.schema database given plan.top identifier) asked.select ∷ [] else [])
    (filter_fails holds (is_gathered cat.schema) (without_left cat.schema asked).conditions (ap (list_all holds) (gathered_stay cat.schema asked.conditions) ∙ fails))
    ∙ ap (λ b. if b then told (known_along cat.schema database given plan.top identifier) asked.select ∷ [] else [])
    (none (list_all (stands_along cat.schema database given plan.top identifier) asked.from))
  where
    none : (b : Bool) → (b && false) ≡ false
    none true = refl
    none false = refl

pub left_add_none : LeftGroupsAddNoRows
left_add_none cat asked database given identifier plan none =
    let holds = holds_or_asked_along cat.schema (known_along cat.schema database given plan.top identifier) in
    by (list_all (stands_along cat.schema database given plan.top identifier) asked.from) (list_all holds (filter (λ c. not (is_left cat.schema c)) asked.conditions))
    (list_all holds asked.conditions) (told (known_along cat.schema database given plan.top identifier) asked.select) none
    (filter_fails holds (λ c. not (is_left cat.schema c)) asked.conditions)
  where
    by : (a b c : Bool) (row : Row) → (if a && b then row ∷ [] else []) ≡ [] → (b ≡ false → c ≡ false) → (if a && c then row ∷ [] else []) ≡ []
    by true true c row e fails = absurd (cc (e))
    by true false c row e fails = ap (λ d. if d then row ∷ [] else []) (fails refl)
    by false b c row e fails = refl

pub stands_not : RowsThatStandNotAreNoAnswers
stands_not cat asked database given identifier table plan among fails =
    let holds = holds_or_asked_along cat.schema (known_along cat.schema database given plan.top identifier) in
    ap (λ b. if b && list_all holds asked.conditions then told (known_along cat.schema database given plan.top identifier) asked.select ∷ [] else [])
    (among_fails (stands_along cat.schema database given plan.top identifier) asked.from table among fails)

-- ---- there is a way to each table that is tested or selected of

no_reference : (schema : Schema) → (table above : ℕ) → parent schema table ≡ Some above → reference_column schema above table ≡ None → ⊥
no_reference schema table above up none =
    let f = told_place _ 0 schema above up in
    let at_above : f.0 ≡ above = (let e = f.2 in omega arith) in
    let c = first_some _ (not_to_false _ f.4) in
    let held = ap (slice_get schema) (sym at_above) ∙ f.3 in
    let found : reference_column schema above table ≡ Some c.0 = ap (option_and_then _) held ∙ c.1 in
    clash found none
  where
    clash : {o : Option ℕ} {x : ℕ} → o ≡ Some x → o ≡ None → ⊥
    clash s n = cc

follow_none : (to : ℕ) (hop : Hop) (row : Option ℕ) (further : Option Follow) → from_row to hop row further ≡ None → (row ≡ None) × (further ≡ None)
follow_none to hop None further e = (refl, e)
follow_none to hop (Some identifier) further e = absurd (cc (e))

pub way_there : (cat : Catalog) (hops : List (Option Hop)) (reached : List (Option ℕ)) (top identifier : ℕ) → AreHops cat hops → get_or reached top None ≡ Some identifier
    → (steps most table : ℕ) → ancestor cat.schema steps table ≡ Some top → get_or reached table None ≡ None → steps ≤ most → way_to hops reached most table ≡ None → ⊥
way_there cat hops reached top identifier are here zero most table up none few e =
    let same = no_step cat.schema top table up in
    clash (ap (λ t. get_or reached t None) (sym same) ∙ here) none
  where
    clash : {o : Option ℕ} {x : ℕ} → o ≡ Some x → o ≡ None → ⊥
    clash s n = cc
way_there cat hops reached top identifier are here (suc steps) zero table up none few e = absurd (omega (arith, few))
way_there cat hops reached top identifier are here (suc steps) (suc most) table up none few e =
    let above = first_step cat.schema steps top table up in
    by above.0 above.1 above.2 (get_or hops table None) refl
    (λ other a r w. way_there cat hops reached top identifier are here steps most other a r (omega (arith, few)) w) e
  where
    some_is : {a b : ℕ} → Some a ≡ Some b → a ≡ b
    some_is h = cc

    by : (above : ℕ) → parent cat.schema table ≡ Some above → ancestor cat.schema steps above ≡ Some top → (found : Option Hop) → get_or hops table None ≡ found
        → ((other : ℕ) → ancestor cat.schema steps other ≡ Some top → get_or reached other None ≡ None → way_to hops reached most other ≡ None → ⊥)
        → along_hop table found reached (λ a. way_to hops reached most a) ≡ None → ⊥
    by above p a None there rest h =
        let no : IsHopOrNone cat table None = subst (IsHopOrNone cat table) there (are table) in
        no_reference cat.schema table above p (sym (ap (option_and_then (λ b. reference_column cat.schema b table)) p) ∙ no)
    by above p a (Some hop) there rest h =
        let hop_is : IsHop cat table hop = subst (IsHopOrNone cat table) there (are table) in
        let same : above ≡ hop.above = some_is (sym p ∙ hop_is.above_is) in
        let both = follow_none table hop (get_or reached hop.above None) (way_to hops reached most hop.above) h in
        rest hop.above (subst (λ t. ancestor cat.schema steps t ≡ Some top) same a) both.0 both.1

index_within : (counts : List ℕ) (table identifier : ℕ) → 1 ≤ identifier → identifier ≤ slice_index counts table → table < length counts
index_within [] table identifier some within = absurd (omega (arith, some, within))
index_within (count ∷ counts) zero identifier some within = omega arith
index_within (count ∷ counts) (suc table) identifier some within = let later = index_within counts table identifier some within in omega (arith, later)

go_none : (way : Option Follow) → go_on way ≡ next.Nowhere → way ≡ None
go_none None e = refl
go_none (Some follow) e = absurd (cc (e))

never_from : (is_below : Bool) (identifier : ℕ) → spread_from is_below (Some identifier) ≡ next.Nowhere → is_below ≡ false
never_from false identifier e = refl
never_from true identifier e = absurd (cc (e))

-- what is needed of another table than the top one is found
apart_from_top : (table top : ℕ) → (table ≡ top → ⊥) → not (nat_eq table top) ≡ true
apart_from_top table top apart = by (nat_eq table top) refl
  where
    by : (b : Bool) → nat_eq table top ≡ b → not b ≡ true
    by true e = absurd (apart (eqb-true table top e))
    by false e = refl

wanted_needs : (plan : RowPlan) (work : RowWork) (table : ℕ) → Wanted plan work table → (table ≡ plan.top → ⊥)
    → needs_below plan.top plan.tests.items plan.columns.items ≡ true
wanted_needs plan work table (tested test there e) apart =
    or_left (list_any (λ one. is_below_top plan.top one.known) plan.tests.items) (list_any (is_below_top plan.top) plan.columns.items)
    (any_at (λ one. is_below_top plan.top one.known) plan.tests.items work.at test there (ap (λ t. not (nat_eq t plan.top)) e ∙ apart_from_top table plan.top apart))
wanted_needs plan work table (selected known there e) apart =
    or_right (list_any (λ one. is_below_top plan.top one.known) plan.tests.items) (list_any (is_below_top plan.top) plan.columns.items)
    (any_at (is_below_top plan.top) plan.columns.items work.put known there (ap (λ t. not (nat_eq t plan.top)) e ∙ apart_from_top table plan.top apart))

pub nowhere_never : OneReading → AcceptedQueriesAreFollowed → LevelsAreAncestors → (page : ℕ → List ℕ) (cat : Catalog) (asked : Query) (database : Database) (half : Half) (given : List Reply) (identifier : ℕ) (plan : RowPlan) (work : RowWork)
    → Knows page cat asked database half given → IsPlan cat asked plan → StandsFor page cat asked database half given identifier plan work → IsNowhere plan work → ⊥
nowhere_never one accepted levels page cat asked database half given identifier plan work knows plan_is stands is =
    let below = wanted_below cat asked plan plan_is knows.text knows.meant knows.tree one accepted work is.table is.wanted in
    by plan.keys refl plan_is.ways below.0 below.1
  where
    clash : {A : Type 0} {o : Option A} {x : A} → o ≡ Some x → o ≡ None → ⊥
    clash s n = cc

    no_both : {b : Bool} → b ≡ true → b ≡ false → ⊥
    no_both t f = cc

    apart : is.table ≡ plan.top → ⊥
    apart same = clash stands.top (ap (reached_at work) (sym same) ∙ is.unreached)

    by_hops : AreHops cat plan.hops.items → (steps : ℕ) → ancestor cat.schema steps is.table ≡ Some plan.top → way_to plan.hops.items work.reached 12 is.table ≡ None → ⊥
    by_hops hops zero up none = way_there cat plan.hops.items work.reached plan.top identifier hops stands.top 0 12 is.table up is.unreached (omega arith) none
    by_hops hops (suc steps) up none =
        let above = first_step cat.schema steps plan.top is.table up in
        let there = table_with_parent cat.schema knows.tree is.table above.0 above.1 in
        let short = way_is_short cat.schema knows.tree (suc steps) plan.top is.table there up in
        let few = knows.tree.few_tables in
        way_there cat plan.hops.items work.reached plan.top identifier hops stands.top (suc steps) 12 is.table up is.unreached (omega (arith, short, few)) none

    -- a table that is not the top one is among those below it
    among : (steps : ℕ) → ancestor cat.schema steps is.table ≡ Some plan.top → is_among (descendants_of cat.schema plan.top) is.table ≡ true
    among zero up = absurd (apart (sym (no_step cat.schema plan.top is.table up)))
    among (suc steps) up =
        let above = first_step cat.schema steps plan.top is.table up in
        has_descendant levels cat.schema knows.tree steps plan.top is.table (table_with_parent cat.schema knows.tree is.table above.0 above.1) up

    -- so there are such tables
    has : (steps : ℕ) → ancestor cat.schema steps is.table ≡ Some plan.top → has_below cat.schema plan.top ≡ true
    has steps up =
        let here = index_within cat.counts plan.top identifier stands.row.some stands.row.within in
        let counts : length (row_counts database) ≡ length cat.counts = ap length knows.counts in
        below_there cat.schema plan.top (omega (arith, here, counts, knows.is.tables, length-map database (λ (rows : List Row). length rows)))
        (some_among (descendants_of cat.schema plan.top) is.table (among steps up))

    by : (found : Option SubtreeFile) → plan.keys ≡ found → HasWays cat plan found → (steps : ℕ) → ancestor cat.schema steps is.table ≡ Some plan.top → ⊥
    by None e (inl hops) steps up =
        by_hops hops steps up (go_none (way_to plan.hops.items work.reached 12 is.table) (sym (ap (way_by plan work is.table) e) ∙ is.no_way))
    by None e (inr none) steps up =
        no_both (ap₂ (λ a b. a && b) (wanted_needs plan work is.table is.wanted apart) (has steps up)) none
    by (Some file) e file_is steps up =
        no_both (ap (λ (tables : List ℕ). is_among tables is.table) file_is.below_are ∙ among steps up)
        (never_from (is_among file.below.items is.table) identifier
        (sym (ap (spread_from (is_among file.below.items is.table)) stands.top) ∙ sym (ap (way_by plan work is.table) e) ∙ is.no_way))

-- the table of a look-up is one of FROM that is asked for
pub record IsAskedOf (cat : Catalog) (asked : Query) (table : ℕ) : Type 0 where
  pub among : is_among asked.from table ≡ true
  pub is : is_asked cat.schema asked table ≡ true

pub look_asked : (cat : Catalog) (asked : Query) (plan : RowPlan) → IsPlan cat asked plan → (at number : ℕ) (test : Test) → slice_get plan.tests.items at ≡ Some test
    → test.check ≡ Stands number → IsAskedOf cat asked test.known.field.table
look_asked cat asked plan plan_is at number test there e =
    let all : list_all (test_meets (λ t. is_among asked.from t && is_asked cat.schema asked t) (λ _. true)) plan.tests.items ≡ true =
    plan_is.tests (λ t. is_among asked.from t && is_asked cat.schema asked t) (λ _. true)
    ∙ ap₂ (λ a b. a && b)
    (all_each (λ t. is_among asked.from t && is_asked cat.schema asked t) (filter (is_asked cat.schema asked) asked.from) (λ x a. one x a))
    (all_true (conditions_tested cat.schema asked plan.sifted)) in
    let met = holds_at_place (test_meets (λ t. is_among asked.from t && is_asked cat.schema asked t) (λ _. true)) plan.tests.items at test all there in
    let both = both_true (is_among asked.from test.known.field.table) (is_asked cat.schema asked test.known.field.table)
    (sym (ap (check_meets (λ t. is_among asked.from t && is_asked cat.schema asked t) (λ _. true) test.known.field) e) ∙ met) in
    record { among = both.0; is = both.1 }
  where
    one : (x : ℕ) → Among x (filter (is_asked cat.schema asked) asked.from) → (is_among asked.from x && is_asked cat.schema asked x) ≡ true
    one x a =
        let from = from_filter (is_asked cat.schema asked) x asked.from a in
        ap₂ (λ a b. a && b) (among_is x asked.from from.0) from.1

    all_true : (xs : List Condition) → list_all (λ _. true) xs ≡ true
    all_true [] = refl
    all_true (x ∷ xs) = all_true xs

-- ---- the beginning

itself : (schema : Schema) (table : ℕ) → ancestor schema 0 table ≡ Some table
unfolding ancestor
itself schema table = refl

none_in : (n table : ℕ) → get_or {A = Option ℕ} (replicate n None) table None ≡ None
none_in zero table = refl
none_in (suc n) zero = refl
none_in (suc n) (suc table) = none_in n table

pub begin_stands : (page : ℕ → List ℕ) (cat : Catalog) (asked : Query) (database : Database) (half : Half) (given : List Reply) (identifier : ℕ) (plan : RowPlan) (work : RowWork)
    → IsPlan cat asked plan → IsRowOf cat plan.top identifier → IsSifted cat asked database given identifier plan → HasKeysBut page cat database plan
    → work.at ≡ 0 → work.put ≡ 0 → work.reached ≡ slice_set (replicate 12 None) plan.top (Some identifier) → work.search ≡ New
    → StandsFor page cat asked database half given identifier plan work
begin_stands page cat asked database half given identifier plan work plan_is row sifted keys at_is put_is reached_are search_is =
    let low = index_within cat.counts plan.top identifier row.some row.within in
    let few = plan_is.few_tables in
    let within : plan.top < 12 = below low few in
    let first = get_or-set_same (replicate 12 None) plan.top (Some identifier) None within in
    record {
      sought = sought_new page half (look_of plan work) work.search search_is;
      row = row;
      sifted = sifted;
      keys = keys;
      top = ap (λ (r : List (Option ℕ)). get_or r plan.top None) reached_are ∙ first;
      rows = λ table reached there. one_row within first table reached (nat_eq table plan.top) refl (sym (ap (λ (r : List (Option ℕ)). get_or r table None) reached_are) ∙ there);
      met = ap (λ n. list_all (passes cat.schema database given plan.top identifier) (take n plan.tests.items)) at_is;
      values = λ place known held there. absurd (none_there place known
          (sym (ap₂ (λ n m. nat_lt place n || (is_replied known.source && list_any (looks_up known.field.table) (take m plan.tests.items))) put_is at_is) ∙ there));
    }
  where
    below : {a b : ℕ} → a < b → b ≤ 12 → a < 12
    below low few = omega (arith, low, few)

    none_there : (place : ℕ) (known : Known) → (nat_lt place 0 || (is_replied known.source && list_any (looks_up known.field.table) (take 0 plan.tests.items))) ≡ true → ⊥
    none_there place known e = by (nat_lt place 0) (is_replied known.source) (grind (arith, nat_tests)) e
      where
        by : (a b : Bool) → a ≡ false → (a || (b && false)) ≡ true → ⊥
        by true b h f = cc
        by false true h f = cc
        by false false h f = cc

    some_is : {a b : ℕ} → Some a ≡ Some b → a ≡ b
    some_is h = cc

    is_itself : (reached : ℕ) → identifier ≡ reached → IsLedTo cat.schema database plan.top identifier plan.top reached
    is_itself reached e = record {
      below = (0, itself cat.schema plan.top);
      led = to_itself_within cat.schema database cat.schema plan.top identifier plan.top refl ∙ ap Some e;
    }

    clash : {o : Option ℕ} {x : ℕ} → o ≡ Some x → o ≡ None → ⊥
    clash s n = cc

    one_row : plan.top < 12 → get_or (slice_set (replicate 12 None) plan.top (Some identifier)) plan.top None ≡ Some identifier → (table reached : ℕ) (b : Bool) → nat_eq table plan.top ≡ b
        → get_or (slice_set (replicate 12 None) plan.top (Some identifier)) table None ≡ Some reached → IsLedTo cat.schema database plan.top identifier table reached
    one_row within first table reached true e there =
        let it = eqb-true table plan.top e in
        let same : identifier ≡ reached = some_is (sym first ∙ ap (λ t. get_or (slice_set (replicate 12 None) plan.top (Some identifier)) t None) (sym it) ∙ there) in
        subst (λ t. IsLedTo cat.schema database plan.top identifier t reached) (sym it) (is_itself reached same)
    one_row within first table reached false e there =
        absurd (clash (sym (get_or-set_other (replicate 12 None) plan.top table (Some identifier) None (eqb-false table plan.top e)) ∙ there) (none_in 12 table))

-- what it needs
set_is_row : (cat : Catalog) (reached : List (Option ℕ)) (top identifier : ℕ) → IsRowOf cat top identifier → top < length reached
    → ((table : ℕ) → get_or reached table None ≡ None) → (table one : ℕ) (b : Bool) → nat_eq table top ≡ b
    → get_or (slice_set reached top (Some identifier)) table None ≡ Some one → IsRowOf cat table one
set_is_row cat reached top identifier row within none table one true e there =
    let it = eqb-true table top e in
    let same : identifier ≡ one = row_same (sym (get_or-set_same reached top (Some identifier) None within) ∙ ap (λ t. get_or (slice_set reached top (Some identifier)) t None) (sym it) ∙ there) in
    subst (λ t. IsRowOf cat t one) (sym it) (subst (IsRowOf cat top) same row)
  where
    row_same : {a b : ℕ} → Some a ≡ Some b → a ≡ b
    row_same h = cc
set_is_row cat reached top identifier row within none table one false e there =
    absurd (clash_row (sym (get_or-set_other reached top table (Some identifier) None (eqb-false table top e)) ∙ there) (none table))
  where
    clash_row : {o : Option ℕ} {x : ℕ} → o ≡ Some x → o ≡ None → ⊥
    clash_row s n = cc

set_is_below : (cat : Catalog) (reached : List (Option ℕ)) (top identifier : ℕ)
    → ((table : ℕ) → get_or reached table None ≡ None) → (table one : ℕ) (b : Bool) → nat_eq table top ≡ b
    → get_or (slice_set reached top (Some identifier)) table None ≡ Some one → IsAtOrBelow cat.schema top table
set_is_below cat reached top identifier none table one true e there =
    subst (IsAtOrBelow cat.schema top) (sym (eqb-true table top e)) (0, itself cat.schema top)
set_is_below cat reached top identifier none table one false e there =
    absurd (clash_below (sym (get_or-set_other reached top table (Some identifier) None (eqb-false table top e)) ∙ there) (none table))
  where
    clash_below : {o : Option ℕ} {x : ℕ} → o ≡ Some x → o ≡ None → ⊥
    clash_below s n = cc

pub begin_working : (cat : Catalog) (asked : Query) (device : Device) (half : Half) (identifier : ℕ) (plan : RowPlan) (work : RowWork)
    → IsPlan cat asked plan → Suffices cat device → AreReadable device half → IsRowOf cat plan.top identifier → work.at ≡ 0 → work.put ≡ 0
    → work.reached ≡ slice_set (replicate 12 None) plan.top (Some identifier) → work.search ≡ New → length work.values.items ≡ length plan.columns.items
    → IsWorking cat asked device half plan work
begin_working cat asked device half identifier plan work plan_is enough readable row at_is put_is reached_are search_is size =
    let low = index_within cat.counts plan.top identifier row.some row.within in
    let few = plan_is.few_tables in
    record {
      plan_is = plan_is;
      suffices = enough;
      replies = readable;
      place = omega (arith, at_is);
      tables = ap length reached_are ∙ length-set (replicate 12 None) plan.top (Some identifier);
      puts = omega (arith, put_is);
      places = size;
      rows = λ table one there. set_is_row cat (replicate 12 None) plan.top identifier row (below low few) (λ t. none_in 12 t) table one (nat_eq table plan.top) refl
          (sym (ap (λ (r : List (Option ℕ)). get_or r table None) reached_are) ∙ there);
      below = λ none table one there. set_is_below cat (replicate 12 None) plan.top identifier (λ t. none_in 12 t) table one (nat_eq table plan.top) refl
          (sym (ap (λ (r : List (Option ℕ)). get_or r table None) reached_are) ∙ there);
      search = searching_new half (look_of plan work) work.search search_is;
    }
  where
    below : {a b : ℕ} → a < b → b ≤ 12 → a < 12
    below low few = omega (arith, low, few)
