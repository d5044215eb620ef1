-- What rows cost where the replies are those of an honest host, and which of them are rows of the answer then.
use Rattle.std.proofs.Common.{◌≡◌, ◌∙◌, ℕ, zero, suc, ◌+◌, ◌-◌, ◌≤◌, inl, inr, Bool, true, false, not, ◌&&◌, ◌||◌, nat_eq, cond, List, [], ◌∷◌, ◌++◌, length, filter, map, flat_map, count_by, slice_index, Contains, Option, Some, None, is_some, option_and_then, unwrap_or, if◌then◌else◌, sym, subst, refl, ap, ap₂, arith}
use Rattle.std.specs.Prelude.{sum_by}
use Rattle.std.specs.List.{list_all, list_any, range_with_len}
use Rattle.std.proofs.lemmas.Bool.{eqb-true, eq-eqb}
use Rattle.std.proofs.lemmas.List.{length-map}
use Rattle.std.proofs.lemmas.List.Filters.{sum_by-filter_both}
use Rattle.std.proofs.lemmas.List.Sums.{sum_by-cons}
use Rattle.ghost_model.specs.core.Schema.{Schema, is_visible, places_of}
use Rattle.ghost_model.specs.core.Values.{Value, Row, Database}
use Rattle.ghost_model.specs.core.Channel.{Catalog, Ask}
use Rattle.ghost_model.specs.core.Database.{leads, row_count, row_of, rows_of}
use Rattle.ghost_model.specs.core.Query.{Query, Field, Member, GroupMember, members_of_group, members_in, Condition, OneOf, Join, is_among, top_of}
use Rattle.ghost_model.specs.core.Groups.{some_of, each_group}
use Rattle.ghost_model.specs.laws.ShortWords as short
use Rattle.ghost_model.specs.core.Asks as asks
use Rattle.ghost_model.specs.core.Asks.{ask_for, asks_of, is_needed}
use Rattle.ghost_model.specs.core.Meaning.{answer, no_value}
use Rattle.ghost_model.specs.core.Replies.{Reply, reply_about, row_replied, hidden_value, known_value, stands_in}
use Rattle.ghost_model.specs.core.Split.{RowValues, Hidden, public_of, hidden_of, value_at}
use Rattle.ghost_model.specs.forms.Layout.{is_hidden}
use Rattle.ghost_model.specs.forms.QueryWork.{bits, honest_rows, row_work}
use Rattle.ghost_model.specs.laws.MeaningLaws.{LeadsFollowKeys, RowsLeadToRows}
use Rattle.ghost_model.specs.laws.QueryLaws.{OneReading}
use Rattle.ghost_model.specs.laws.SchemaTrees.{IsTree}
use Rattle.ghost_model.specs.laws.SessionLaws.{whole_reply, whole_replies}
use Rattle.ghost_model.specs.refusals.QueryMeaning.{has_repeat}
use Rattle.ghost_model.proofs.GroupLemmas.{each_is_all, some_is_any}
use Rattle.ghost_model.proofs.MeaningLemmas.OneRow.{Among, among-filter, among_is, from_filter, from_map, both_true, neither_true}
use Rattle.ghost_model.proofs.MeaningLemmas.Leading.{get_within}
use Rattle.ghost_model.proofs.FlashLemmas.Values.{count_there}
use Rattle.ghost_model.proofs.SessionLemmas.Members.{no_group_fails, says_more}
use Rattle.ghost_model.proofs.SessionLemmas.Whole.{holds_in, stands_in_is}
use Rattle.ghost_laws.specs.Followed.{IsFollowed, AcceptedQueriesAreFollowed, WithoutLeftIsFollowed, is_column_from}
use Rattle.ghost_laws.specs.Scans.{known_along, stands_along, holds_or_asked_along, is_kept_row, holds_along, led_value, row_along, known_row, FollowedAnswersFollowKeys}
use Rattle.ghost_laws.proofs.ScanLemmas.Accepted.{pass_each}
use Rattle.spj_parse.specs.Laws.{JoinsCountOnce}
use Rattle.spj_parse.specs.Resolved.{IsMeant, is_group, joins_of, linked}
use Rattle.visible_spool.specs.declared.half.Half.{Half}
use Rattle.visible_spool.specs.declared.search.Search.TheVariants.{New}
use Rattle.visible_spool.specs.Halves.{reply_of}
use Rattle.candidate_rows.specs.declared.plan.Hop.{Hop}
use Rattle.candidate_rows.specs.declared.plan.Source.{Source}
use Rattle.candidate_rows.specs.declared.plan.Source.TheVariants as source
use Rattle.candidate_rows.specs.declared.plan.Known.{Known}
use Rattle.candidate_rows.specs.declared.plan.Check.{Check}
use Rattle.candidate_rows.specs.declared.plan.Check.TheVariants.{Stands, Holds}
use Rattle.candidate_rows.specs.declared.plan.Test.{Test}
use Rattle.candidate_rows.specs.declared.plan.RowPlan.{RowPlan}
use Rattle.candidate_rows.specs.declared.plan.SubtreeFile.{SubtreeFile}
use Rattle.candidate_rows.specs.Orders.{is_look_up, looks_up}
use Rattle.ghost_model.specs.forms.Left.{is_same_field, new_fields}
use Rattle.ghost_laws.specs.Asking.{is_asked, is_gathered, is_left, members_left, columns_left, without_left, is_shown_of, is_compared_of}
use Rattle.candidate_rows.specs.Plans.{IsPlan, IsPlanOfCandidates, IsSource, AreKnowns, test_meets, check_meets, conditions_tested, needs_below, needs_ways, has_below, is_below_top}
use Rattle.candidate_rows.specs.Rows.{HoldsReplies}
use Rattle.flash_layout.specs.Ranges.{IsRowOf}
use Rattle.candidate_rows.specs.Working.{Knows, told}
use Rattle.candidate_rows.specs.Steps.{row_known}
use Rattle.candidate_rows.specs.Laws.{RecordsAreWanted, is_of_other, compares_other, wants_below}
use Rattle.candidate_rows.specs.Costs.{look_calls, value_calls, source_calls, check_calls, test_calls, most_ways, row_calls}
use Rattle.candidate_rows.specs.CostLaws.{is_visible_group, AreAllRows, RowsCostTheirWork, RowsThatMeetAllAreAnswers, HonestAnswersAreWhole}
use Rattle.candidate_rows.proofs.AskLemmas.{none_about, mapped, asked_by, ask_stands, no_tests}
use Rattle.candidate_rows.proofs.FromLemmas.{all_each, is_from, conditions_of, follows, from_same, below_top, joins_pass, or_left, or_right, of_either, among_of, any_among, unasked_stands, conditions_apart, needed_sifted, gathered_stay, none_left}
use Rattle.candidate_rows.proofs.WholeLemmas.{row_same as whole_row}
use Rattle.ghost_laws.proofs.ScanLemmas.Rows.{same_for_identifiers}
use Rattle.candidate_rows.proofs.TestLemmas.{count_cons}

-- ---- lists

contains_of : {X : Type 0} (xs : List X) (x : X) → Among x xs → Contains xs x
contains_of [] x among = absurd among
contains_of (y ∷ xs) x among =
    elim among [
      | inl e ↦ (0, omega arith, e)
      | inr later ↦ (let held = contains_of xs x later in let low = held.1 in (suc held.0, omega (arith, low), held.2))
    ]

clash : {b : Bool} → b ≡ true → b ≡ false → ⊥
clash t f = cc

itself : (n : ℕ) → nat_eq n n ≡ true
itself n = eq-eqb n n refl

-- one that passes a test, where all pass another
module _ {X : Type 0} (p q : X → Bool) where
  pub record BothPass : Type 0 where
    pub one : X
    pub first : p one ≡ true
    pub second : q one ≡ true

  any_all : (xs : List X) → list_all p xs ≡ true → list_any q xs ≡ true → BothPass
  any_all [] all any = absurd (cc (any))
  any_all (x ∷ xs) all any =
      let both = both_true (p x) (list_all p xs) all in
      by both.0 (q x) refl (λ h. any_all xs both.1 h) any
    where
      by : p x ≡ true → (b : Bool) → q x ≡ b → (list_any q xs ≡ true → BothPass) → (q x || list_any q xs) ≡ true → BothPass
      by here true e rest h = record { one = x; first = here; second = e }
      by here false e rest h = rest (of_either (q x) (list_any q xs) e h)

all_mapped : {X : Type 0} (p q : X → Bool) (xs : List X) → ((x : X) → p x ≡ true → q x ≡ true) → list_all p xs ≡ true → list_all q xs ≡ true
all_mapped p q [] each all = refl
all_mapped p q (x ∷ xs) each all =
    let both = both_true (p x) (list_all p xs) all in
    ap₂ (λ a b. a && b) (each x both.0) (all_mapped p q xs each both.1)

sum_same : {X : Type 0} (f g : X → ℕ) (xs : List X) → ((x : X) → Among x xs → f x ≡ g x) → sum_by f xs ≡ sum_by g xs
sum_same f g [] each = refl
sum_same f g (x ∷ xs) each =
    sum_by-cons f x xs ∙ ap₂ (λ a b. a + b) (each x (inl refl)) (sum_same f g xs (λ y among. each y (inr among))) ∙ sym (sum_by-cons g x xs)

count_kept : {X : Type 0} (p q : X → Bool) (xs : List X) → count_by p (filter q xs) ≤ count_by p xs
count_kept p q [] = omega arith
count_kept p q (x ∷ xs) = by (q x) (count_kept p q xs) (count_cons p x xs)
  where
    more : (c : ℕ) {a b n : ℕ} → a ≤ b → n ≡ c + b → a ≤ n
    more c rest cons = omega (arith, rest, cons)

    both : (c : ℕ) {a b n m : ℕ} → a ≤ b → n ≡ c + b → m ≡ c + a → m ≤ n
    both c rest cons kept = omega (arith, rest, cons, kept)

    by : (b : Bool) → count_by p (filter q xs) ≤ count_by p xs → count_by p (x ∷ xs) ≡ cond (p x) 1 0 + count_by p xs
        → count_by p (if b then x ∷ filter q xs else filter q xs) ≤ count_by p (x ∷ xs)
    by true rest cons = both (cond (p x) 1 0) rest cons (count_cons p x (filter q xs))
    by false rest cons = more (cond (p x) 1 0) rest cons

-- numbers that are not repeated stand once at most
count_none : (x : ℕ) (xs : List ℕ) → is_among xs x ≡ false → count_by (λ one. nat_eq one x) xs ≡ 0
count_none x [] none = refl
count_none x (y ∷ xs) none =
    let both = neither_true (nat_eq y x) (is_among xs x) none in
    count_cons (λ one. nat_eq one x) y xs ∙ ap₂ (λ b n. cond b 1 0 + n) both.0 (count_none x xs both.1)

count_once : (x : ℕ) (xs : List ℕ) → has_repeat xs ≡ false → count_by (λ one. nat_eq one x) xs ≤ 1
count_once x [] once = omega arith
count_once x (y ∷ xs) once =
    let both = neither_true (is_among xs y) (has_repeat xs) once in
    by (nat_eq y x) refl both.0 (count_once x xs both.1) (count_cons (λ one. nat_eq one x) y xs)
  where
    one : {n m : ℕ} → n ≡ 1 + m → m ≡ 0 → n ≤ 1
    one cons none = omega (arith, cons, none)

    later : {n m : ℕ} → n ≡ 0 + m → m ≤ 1 → n ≤ 1
    later cons rest = omega (arith, cons, rest)

    by : (b : Bool) → nat_eq y x ≡ b → is_among xs y ≡ false → count_by (λ one. nat_eq one x) xs ≤ 1
        → count_by (λ one. nat_eq one x) (y ∷ xs) ≡ cond (nat_eq y x) 1 0 + count_by (λ one. nat_eq one x) xs → count_by (λ one. nat_eq one x) (y ∷ xs) ≤ 1
    by true e none rest cons =
        one (cons ∙ ap (λ c. cond c 1 0 + count_by (λ one. nat_eq one x) xs) e) (count_none x xs (ap (is_among xs) (sym (eqb-true y x e)) ∙ none))
    by false e none rest cons = later (cons ∙ ap (λ c. cond c 1 0 + count_by (λ one. nat_eq one x) xs) e) rest

-- ---- tests that look rows of asked tables up, each table once

abbrev is_about : (table : ℕ) → Ask → Bool
is_about table ask = nat_eq table ask.table

abbrev is_looked : List Ask → Test → Bool
is_looked asks test = is_look_up test.check && list_any (is_about test.known.field.table) asks

module _ (half : Half) where
  looked_costs : (table : ℕ) (test : Test) → looks_up table test ≡ true → test_calls half New test ≡ look_calls half table
  looked_costs table test e =
      let both = both_true (is_look_up test.check) (nat_eq test.known.field.table table) e in
      by test.check both.0 ∙ ap (look_calls half) (eqb-true test.known.field.table table both.1)
    where
      by : (check : Check) → is_look_up check ≡ true → check_calls half New test.known.field.table test.known.source check ≡ look_calls half test.known.field.table
      by (Stands number) h = refl
      by (Holds wanted) h = absurd (cc (h))

  none_looked : (table : ℕ) (tests : List Test) → count_by (looks_up table) tests ≡ 0 → sum_by (test_calls half New) (filter (looks_up table) tests) ≡ 0
  none_looked table [] none = refl
  none_looked table (test ∷ tests) none = by (looks_up table test) refl (λ h. none_looked table tests h) (sym (count_cons (looks_up table) test tests) ∙ none)
    where
      by : (b : Bool) → looks_up table test ≡ b → (count_by (looks_up table) tests ≡ 0 → sum_by (test_calls half New) (filter (looks_up table) tests) ≡ 0)
          → cond (looks_up table test) 1 0 + count_by (looks_up table) tests ≡ 0
          → sum_by (test_calls half New) (if b then test ∷ filter (looks_up table) tests else filter (looks_up table) tests) ≡ 0
      by true e rest h = absurd (some (count_by (looks_up table) tests) (sym (ap (λ c. cond c 1 0 + count_by (looks_up table) tests) e) ∙ h))
        where
          some : (n : ℕ) → 1 + n ≡ 0 → ⊥
          some n h = omega (arith, h)
      by false e rest h = rest (none_left (count_by (looks_up table) tests) (sym (ap (λ c. cond c 1 0 + count_by (looks_up table) tests) e) ∙ h))
        where
          none_left : (n : ℕ) → 0 + n ≡ 0 → n ≡ 0
          none_left n h = omega (arith, h)

  one_looked : (table : ℕ) (tests : List Test) → count_by (looks_up table) tests ≤ 1 → sum_by (test_calls half New) (filter (looks_up table) tests) ≤ look_calls half table
  one_looked table [] once = omega arith
  one_looked table (test ∷ tests) once =
      by (looks_up table test) refl (λ h. one_looked table tests h) (subst (λ n. n ≤ 1) (count_cons (looks_up table) test tests) once)
    where
      by : (b : Bool) → looks_up table test ≡ b → (count_by (looks_up table) tests ≤ 1 → sum_by (test_calls half New) (filter (looks_up table) tests) ≤ look_calls half table)
          → cond (looks_up table test) 1 0 + count_by (looks_up table) tests ≤ 1
          → sum_by (test_calls half New) (if b then test ∷ filter (looks_up table) tests else filter (looks_up table) tests) ≤ look_calls half table
      by true e rest h =
          let none : count_by (looks_up table) tests ≡ 0 = none_left (count_by (looks_up table) tests) (subst (λ c. cond c 1 0 + count_by (looks_up table) tests ≤ 1) e h) in
          all (sum_by-cons (test_calls half New) test (filter (looks_up table) tests)) (looked_costs table test e) (none_looked table tests none)
        where
          none_left : (n : ℕ) → 1 + n ≤ 1 → n ≡ 0
          none_left n h = omega (arith, h)

          all : {s f r l : ℕ} → s ≡ f + r → f ≡ l → r ≡ 0 → s ≤ l
          all cons here later = omega (arith, cons, here, later)
      by false e rest h = rest (later (count_by (looks_up table) tests) (subst (λ c. cond c 1 0 + count_by (looks_up table) tests ≤ 1) e h))
        where
          later : (n : ℕ) → 0 + n ≤ 1 → n ≤ 1
          later n h = omega (arith, h)

  not_this : (ask : Ask) (asks : List Ask) (test : Test) → is_looked (ask ∷ asks) test ≡ true → looks_up ask.table test ≡ false → is_looked asks test ≡ true
  not_this ask asks test looked apart =
      let both = both_true (is_look_up test.check) (nat_eq test.known.field.table ask.table || list_any (is_about test.known.field.table) asks) looked in
      ap₂ (λ a b. a && b) both.0
      (of_either (nat_eq test.known.field.table ask.table) (list_any (is_about test.known.field.table) asks)
      (sym (ap (λ b. b && nat_eq test.known.field.table ask.table) both.0) ∙ apart) both.1)

  rest_looked : (ask : Ask) (asks : List Ask) (tests : List Test) → list_all (is_looked (ask ∷ asks)) tests ≡ true
      → list_all (is_looked asks) (filter (λ test. not (looks_up ask.table test)) tests) ≡ true
  rest_looked ask asks [] all = refl
  rest_looked ask asks (test ∷ tests) all =
      let both = both_true (is_looked (ask ∷ asks) test) (list_all (is_looked (ask ∷ asks)) tests) all in
      by (looks_up ask.table test) refl both.0 (rest_looked ask asks tests both.1)
    where
      by : (b : Bool) → looks_up ask.table test ≡ b → is_looked (ask ∷ asks) test ≡ true → list_all (is_looked asks) (filter (λ one. not (looks_up ask.table one)) tests) ≡ true
          → list_all (is_looked asks) (if not b then test ∷ filter (λ one. not (looks_up ask.table one)) tests else filter (λ one. not (looks_up ask.table one)) tests) ≡ true
      by true e looked rest = rest
      by false e looked rest = ap₂ (λ a b. a && b) (not_this ask asks test looked e) rest

  tests_within : (asks : List Ask) (tests : List Test) → list_all (is_looked asks) tests ≡ true → ((table : ℕ) → count_by (looks_up table) tests ≤ 1)
      → sum_by (test_calls half New) tests ≤ sum_by (λ ask. look_calls half ask.table) asks
  tests_within [] [] all once = omega arith
  tests_within [] (test ∷ tests) all once = absurd (none (is_look_up test.check) (list_all (is_looked []) tests) all)
    where
      none : (a b : Bool) → ((a && false) && b) ≡ true → ⊥
      none true b h = cc
      none false b h = cc
  tests_within (ask ∷ asks) tests all once =
      let rest = tests_within asks (filter (λ test. not (looks_up ask.table test)) tests) (rest_looked ask asks tests all)
      (λ table. (let kept = count_kept (looks_up table) (λ test. not (looks_up ask.table test)) tests in let low = once table in at_most kept low)) in
      sums (sum_by-filter_both (looks_up ask.table) (λ test. not (looks_up ask.table test)) (λ test. refl) (test_calls half New) tests)
      (one_looked ask.table tests (once ask.table)) rest (sum_by-cons (λ (one : Ask). look_calls half one.table) ask asks)
    where
      at_most : {a b : ℕ} → a ≤ b → b ≤ 1 → a ≤ 1
      at_most kept low = omega (arith, kept, low)

      sums : {a b t l r s : ℕ} → a + b ≡ t → a ≤ l → b ≤ r → s ≡ l + r → t ≤ s
      sums both first rest cons = omega (arith, both, first, rest, cons)

-- ---- selected columns

value_within : (cat : Catalog) (known : Known) (wanted : Field) → IsSource cat known.field.table known.field.column known.source
    → is_hidden cat.schema known.field.table known.field.column ≡ is_hidden cat.schema wanted.table wanted.column
    → value_calls known ≤ cond (is_hidden cat.schema wanted.table wanted.column) 1 0
value_within cat known wanted is same = by known.source is
  where
    by : (from : Source) → IsSource cat known.field.table known.field.column from → source_calls from ≤ cond (is_hidden cat.schema wanted.table wanted.column) 1 0
    by source.Absent h = omega arith
    by source.Identifier h = omega arith
    by source.Reply h = omega arith
    by (source.File file number) h = subst (λ b. 1 ≤ cond b 1 0) (sym h.hidden ∙ same) (omega arith)

values_within : (cat : Catalog) (fields : List Field) (knowns : List Known) → AreKnowns cat fields knowns
    → sum_by value_calls knowns ≤ count_by (λ column. is_hidden cat.schema column.table column.column) fields
values_within cat [] [] are = omega arith
values_within cat [] (_ ∷ _) are = absurd are
values_within cat (_ ∷ _) [] are = absurd are
values_within cat (field ∷ fields) (known ∷ knowns) are =
    sums (sum_by-cons value_calls known knowns) (count_cons (λ column. is_hidden cat.schema column.table column.column) field fields)
    (value_within cat known field are.0.source_is (ap (λ (f : Field). is_hidden cat.schema f.table f.column) are.0.field_is)) (values_within cat fields knowns are.1)
  where
    sums : {s c v w a b : ℕ} → s ≡ v + a → c ≡ w + b → v ≤ w → a ≤ b → s ≤ c
    sums sum count here later = omega (arith, sum, count, here, later)

-- ---- the work of a row

few_ways : (keys : Option SubtreeFile) (hops : List (Option Hop)) → hops ≡ [] → most_ways keys hops ≤ 1
few_ways (Some file) hops none = omega arith
few_ways None [] none = omega arith
few_ways None (hop ∷ hops) none = absurd (cc (none))

columns_sifted : (cat : Catalog) (asked : Query) (plan : RowPlan) → IsPlanOfCandidates cat asked plan
    → AreKnowns cat (asked.select ++ columns_left cat.schema asked) plan.columns.items
columns_sifted cat asked plan is =
    subst (λ (fields : List Field). AreKnowns cat fields plan.columns.items) (needed_sifted cat.schema asked plan.sifted is.is_sifted) is.is.columns

module _ (cat : Catalog) (asked : Query) (plan : RowPlan) (is : IsPlanOfCandidates cat asked plan) where
  abbrev tables : List ℕ
  tables = filter (is_asked cat.schema asked) asked.from

  looks_met : list_all (test_meets (is_among tables) (λ _. false)) plan.tests.items ≡ true
  looks_met =
      is.is.tests (is_among tables) (λ _. false)
      ∙ ap₂ (λ a b. a && b) (all_each (is_among tables) tables (λ x among. among_is x tables among))
      (ap (λ b. list_all (λ _. false) (conditions_tested cat.schema asked b)) is.is_sifted)

  one_looks : (test : Test) → test_meets (is_among tables) (λ _. false) test ≡ true → is_looked (asks_of cat.schema asked) test ≡ true
  one_looks test met = by test.check met
    where
      by : (check : Check) → check_meets (is_among tables) (λ _. false) test.known.field check ≡ true
          → (is_look_up check && list_any (is_about test.known.field.table) (asks_of cat.schema asked)) ≡ true
      by (Holds wanted) h = absurd (cc (h))
      by (Stands number) h =
          let table = test.known.field.table in
          let found = from_filter (is_asked cat.schema asked) table asked.from (among_of table tables h) in
          any_among (is_about table) (asks_of cat.schema asked) (ask_for cat.schema asked table)
          (ask_stands cat.schema asked table (among_is table asked.from found.0) found.1) (itself table)

  all_look : list_all (is_looked (asks_of cat.schema asked)) plan.tests.items ≡ true
  all_look = all_mapped (test_meets (is_among tables) (λ _. false)) (is_looked (asks_of cat.schema asked)) plan.tests.items one_looks looks_met

  module _ (text : List ℕ) (read : IsMeant cat.schema text asked) (tree : IsTree cat.schema) (one : OneReading) (accepted : AcceptedQueriesAreFollowed) where
    looked_once : (table : ℕ) → count_by (looks_up table) plan.tests.items ≤ 1
    looked_once table =
        let once : has_repeat asked.from ≡ false = ap has_repeat (from_same cat asked plan is.is text read tree one accepted) ∙ (follows cat asked plan is.is text read tree one accepted).once in
        at_most (is.is.once table) (count_once table asked.from once)
      where
        at_most : {a b : ℕ} → a ≤ b → b ≤ 1 → a ≤ 1
        at_most first second = omega (arith, first, second)

    module _ (page : ℕ → List ℕ) (database : Database) (half : Half) (given : List Reply) (holds : HoldsReplies page cat.schema asked half given)
        (honest : AreAllRows cat.schema database asked given) where
      look_costs : (ask : Ask) → Among ask (asks_of cat.schema asked) → look_calls half ask.table ≡ bits (length (honest_rows cat.schema database ask)) + 3
      look_costs ask among =
          let its = holds ask.table (whole_reply cat.schema (public_of cat.schema database) ask) (honest ask (contains_of (asks_of cat.schema asked) ask among)) in
          let count : (reply_of half ask.table).run.count ≡ length (honest_rows cat.schema database ask) =
          its.holds.has.count ∙ sym (length-map its.rows _) ∙ ap length (sym its.are) in
          ap (λ n. bits n + 3) count

      pub row_costs : row_calls half plan + 1 ≤ row_work cat.schema database asked
      row_costs =
          sums (tests_within half (asks_of cat.schema asked) plan.tests.items all_look looked_once)
          (sum_same (λ (ask : Ask). look_calls half ask.table) (λ ask. bits (length (honest_rows cat.schema database ask)) + 3) (asks_of cat.schema asked) look_costs)
          (values_within cat (asked.select ++ columns_left cat.schema asked) plan.columns.items (columns_sifted cat asked plan is)) (few_ways plan.keys plan.hops.items is.no_hops)
        where
          sums : {t l h v s w : ℕ} → t ≤ l → l ≡ h → v ≤ s → w ≤ 1 → t + v + w + 1 ≤ 2 + (s + h)
          sums tests looks values ways = omega (arith, tests, looks, values, ways)

pub rows_cost : OneReading → AcceptedQueriesAreFollowed → RowsCostTheirWork
rows_cost one accepted page cat asked database half given plan tree text read is holds honest =
    row_costs cat asked plan is text read tree one accepted page database half given holds honest

-- ---- records that are wanted

any_mapped : {X : Type 0} (p q : X → Bool) (xs : List X) → ((x : X) → p x ≡ true → q x ≡ true) → list_any p xs ≡ true → list_any q xs ≡ true
any_mapped p q [] each any = any
any_mapped p q (x ∷ xs) each any = by (p x) refl (λ h. any_mapped p q xs each h) any
  where
    later : (b : Bool) → (b || true) ≡ true
    later true = refl
    later false = refl

    by : (b : Bool) → p x ≡ b → (list_any p xs ≡ true → list_any q xs ≡ true) → (p x || list_any p xs) ≡ true → (q x || list_any q xs) ≡ true
    by true e rest h = ap (λ b. b || list_any q xs) (each x e)
    by false e rest h = ap (λ b. q x || b) (rest (of_either (p x) (list_any p xs) e h)) ∙ later (q x)

others_selected : (cat : Catalog) (top : ℕ) (fields : List Field) (knowns : List Known) → AreKnowns cat fields knowns
    → list_any (is_below_top top) knowns ≡ list_any (is_of_other top) fields
others_selected cat top [] [] are = refl
others_selected cat top [] (_ ∷ _) are = absurd are
others_selected cat top (_ ∷ _) [] are = absurd are
others_selected cat top (field ∷ fields) (known ∷ knowns) are =
    ap₂ (λ a b. a || b) (ap (λ (f : Field). not (nat_eq f.table top)) are.0.field_is) (others_selected cat top fields knowns are.1)

shown_other : (schema : Schema) (top table : ℕ) → not (nat_eq table top) ≡ true → (field : Field) → is_shown_of schema table field ≡ true → is_of_other top field ≡ true
shown_other schema top table other field shown =
    let at = both_true (nat_eq field.table table) (is_visible schema field.table field.column) shown in
    ap (λ t. not (nat_eq t top)) (eqb-true field.table table at.0) ∙ other

compared_other : (schema : Schema) (top table : ℕ) → not (nat_eq table top) ≡ true → (condition : Condition) → is_compared_of schema table condition ≡ true
    → compares_other schema top condition ≡ true
compared_other schema top table other (OneOf first others) compared =
    some_is_any (λ one. is_of_other top one.field && (is_visible schema one.field.table one.field.column || is_left schema (OneOf first others))) first others
    ∙ any_mapped (λ (one : Member). is_shown_of schema table one.field)
    (λ one. is_of_other top one.field && (is_visible schema one.field.table one.field.column || is_left schema (OneOf first others))) (first ∷ others)
    (λ one shown.
    let at = both_true (nat_eq one.field.table table) (is_visible schema one.field.table one.field.column) shown in
    ap₂ (λ a b. a && (b || is_left schema (OneOf first others))) (shown_other schema top table other one.field shown) at.1)
    (sym (some_is_any (λ one. is_shown_of schema table one.field) first others) ∙ compared)
compared_other schema top table other (Join left right) compared = absurd (cc (compared))

-- a column of another table in a group that is left
any_either : {X : Type 0} (p : X → Bool) (xs ys : List X) → list_any p (xs ++ ys) ≡ (list_any p xs || list_any p ys)
any_either p [] ys = refl
any_either p (x ∷ xs) ys = ap (λ b. p x || b) (any_either p xs ys) ∙ by (p x) (list_any p xs) (list_any p ys)
  where
    by : (a b c : Bool) → (a || (b || c)) ≡ ((a || b) || c)
    by true b c = refl
    by false b c = refl

new_any : (p : Field → Bool) (before fields : List Field) → list_any p (new_fields before fields) ≡ true → list_any p fields ≡ true
unfolding new_fields
new_any p before [] e = e
new_any p before (one ∷ fields) e = by (list_any (is_same_field one) before) (new_any p before fields) (new_any p (one ∷ before) fields) e
  where
    by : (b : Bool) → (list_any p (new_fields before fields) ≡ true → list_any p fields ≡ true)
        → (list_any p (new_fields (one ∷ before) fields) ≡ true → list_any p fields ≡ true)
        → list_any p (if b then new_fields before fields else one ∷ new_fields (one ∷ before) fields) ≡ true → (p one || list_any p fields) ≡ true
    by true rest other h = or_right (p one) (list_any p fields) (rest h)
    by false rest other h = here (p one) h
      where
        here : (b : Bool) → (b || list_any p (new_fields (one ∷ before) fields)) ≡ true → (b || list_any p fields) ≡ true
        here true h = refl
        here false h = other h

members_any : (p : Field → Bool) (first : Member) (others : List Member) (rest : List GroupMember)
    → list_any p (map (λ (one : GroupMember). one.member.field) (members_of_group first others ++ rest))
    ≡ (some_of (λ one. p one.field) first others || list_any p (map (λ (one : GroupMember). one.member.field) rest))
members_any p first [] rest = refl
members_any p first (next ∷ others) rest =
    ap (λ b. p first.field || b) (members_any p next others rest)
    ∙ by (p first.field) (some_of (λ one. p one.field) next others) (list_any p (map (λ (one : GroupMember). one.member.field) rest))
  where
    by : (a b c : Bool) → (a || (b || c)) ≡ ((a || b) || c)
    by true b c = refl
    by false b c = refl

left_other : (schema : Schema) (top : ℕ) (conditions : List Condition)
    → list_any (is_of_other top) (map (λ (one : GroupMember). one.member.field) (members_in (filter (is_left schema) conditions))) ≡ true
    → list_any (compares_other schema top) conditions ≡ true
left_other schema top [] e = e
left_other schema top (OneOf first others ∷ conditions) e = by (is_left schema (OneOf first others)) refl (left_other schema top conditions) e
  where
    here : is_left schema (OneOf first others) ≡ true → some_of (λ one. is_of_other top one.field) first others ≡ true → compares_other schema top (OneOf first others) ≡ true
    here left some =
        some_is_any (λ one. is_of_other top one.field && (is_visible schema one.field.table one.field.column || is_left schema (OneOf first others))) first others
        ∙ any_mapped (λ (one : Member). is_of_other top one.field)
        (λ one. is_of_other top one.field && (is_visible schema one.field.table one.field.column || is_left schema (OneOf first others))) (first ∷ others)
        (λ one other. ap₂ (λ a b. a && b) other (or_right (is_visible schema one.field.table one.field.column) (is_left schema (OneOf first others)) left))
        (sym (some_is_any (λ one. is_of_other top one.field) first others) ∙ some)

    either : (a : Bool) → some_of (λ one. is_of_other top one.field) first others ≡ a → is_left schema (OneOf first others) ≡ true
        → (list_any (is_of_other top) (map (λ (one : GroupMember). one.member.field) (members_in (filter (is_left schema) conditions))) ≡ true → list_any (compares_other schema top) conditions ≡ true)
        → (a || list_any (is_of_other top) (map (λ (one : GroupMember). one.member.field) (members_in (filter (is_left schema) conditions)))) ≡ true
        → (compares_other schema top (OneOf first others) || list_any (compares_other schema top) conditions) ≡ true
    either true some left rest h = or_left (compares_other schema top (OneOf first others)) (list_any (compares_other schema top) conditions) (here left some)
    either false some left rest h = or_right (compares_other schema top (OneOf first others)) (list_any (compares_other schema top) conditions) (rest h)

    by : (b : Bool) → is_left schema (OneOf first others) ≡ b
        → (list_any (is_of_other top) (map (λ (one : GroupMember). one.member.field) (members_in (filter (is_left schema) conditions))) ≡ true → list_any (compares_other schema top) conditions ≡ true)
        → list_any (is_of_other top) (map (λ (one : GroupMember). one.member.field) (members_in (if b then OneOf first others ∷ filter (is_left schema) conditions else filter (is_left schema) conditions))) ≡ true
        → (compares_other schema top (OneOf first others) || list_any (compares_other schema top) conditions) ≡ true
    by true left rest h =
        either (some_of (λ one. is_of_other top one.field) first others) refl left rest (sym (members_any (is_of_other top) first others (members_in (filter (is_left schema) conditions))) ∙ h)
    by false left rest h = or_right (compares_other schema top (OneOf first others)) (list_any (compares_other schema top) conditions) (rest h)
left_other schema top (Join one other ∷ conditions) e = left_other schema top conditions e

needed_other : (schema : Schema) (asked : Query) (top : ℕ) → list_any (is_of_other top) (asked.select ++ columns_left schema asked) ≡ true → wants_below schema asked top ≡ true
needed_other schema asked top e =
    by (list_any (is_of_other top) asked.select) (sym (any_either (is_of_other top) asked.select (columns_left schema asked)) ∙ e)
  where
    by : (b : Bool) → (b || list_any (is_of_other top) (columns_left schema asked)) ≡ true → (b || list_any (compares_other schema top) asked.conditions) ≡ true
    by true h = refl
    by false h =
        left_other schema top asked.conditions
        (new_any (is_of_other top) asked.select (map (λ (one : GroupMember). one.member.field) (members_left schema asked)) h)

asked_other : (schema : Schema) (asked : Query) (top table : ℕ) → not (nat_eq table top) ≡ true → is_asked schema asked table ≡ true → wants_below schema asked top ≡ true
asked_other schema asked top table other e = by (list_any (is_shown_of schema table) asked.select) refl e
  where
    later : (b : Bool) → (b || true) ≡ true
    later true = refl
    later false = refl

    by : (b : Bool) → list_any (is_shown_of schema table) asked.select ≡ b → (b || list_any (is_compared_of schema table) asked.conditions) ≡ true → wants_below schema asked top ≡ true
    by true shown h =
        ap (λ b. b || list_any (compares_other schema top) asked.conditions)
        (any_mapped (is_shown_of schema table) (is_of_other top) asked.select (shown_other schema top table other) shown)
    by false shown h =
        ap (λ b. list_any (is_of_other top) asked.select || b)
        (any_mapped (is_compared_of schema table) (compares_other schema top) asked.conditions (compared_other schema top table other) h)
        ∙ later (list_any (is_of_other top) asked.select)

pub records_wanted : RecordsAreWanted
records_wanted cat asked plan file is there =
    let needed : needs_ways cat plan ≡ true = sym is.keys_are ∙ ap is_some there in
    let below = (both_true (needs_below plan.top plan.tests.items plan.columns.items) (has_below cat.schema plan.top) needed).0 in
    by (list_any (λ test. is_below_top plan.top test.known) plan.tests.items) refl below
  where
    one_wanted : (test : Test) → check_meets (is_among (filter (is_asked cat.schema asked) asked.from)) (λ _. false) test.known.field test.check ≡ true
        → is_below_top plan.top test.known ≡ true → wants_below cat.schema asked plan.top ≡ true
    one_wanted test met other = by_check test.check met
      where
        by_check : (check : Check) → check_meets (is_among (filter (is_asked cat.schema asked) asked.from)) (λ _. false) test.known.field check ≡ true
            → wants_below cat.schema asked plan.top ≡ true
        by_check (Holds wanted) h = absurd (cc (h))
        by_check (Stands number) h =
            let table = test.known.field.table in
            let found = from_filter (is_asked cat.schema asked) table asked.from (among_of table (filter (is_asked cat.schema asked) asked.from) h) in
            asked_other cat.schema asked plan.top table other found.1

    by : (b : Bool) → list_any (λ test. is_below_top plan.top test.known) plan.tests.items ≡ b → (b || list_any (is_below_top plan.top) plan.columns.items) ≡ true
        → wants_below cat.schema asked plan.top ≡ true
    by true tested h =
        (let found = any_all (test_meets (is_among (filter (is_asked cat.schema asked) asked.from)) (λ _. false)) (λ test. is_below_top plan.top test.known) plan.tests.items
        (looks_met cat asked plan is) tested in
        one_wanted found.one found.first found.second)
    by false tested h =
        needed_other cat.schema asked plan.top (sym (others_selected cat plan.top (asked.select ++ columns_left cat.schema asked) plan.columns.items (columns_sifted cat asked plan is)) ∙ h)

-- ---- replies by their tables

whole_about : (schema : Schema) (database : Database) (asked : Query) (table : ℕ) (asks : List Ask) → ((ask : Ask) → Among ask asks → ask ≡ ask_for schema asked ask.table)
    → Among (ask_for schema asked table) asks
    → reply_about table (map (whole_reply schema (public_of schema database)) asks) ≡ Some (whole_reply schema (public_of schema database) (ask_for schema asked table))
whole_about schema database asked table [] each among = absurd among
whole_about schema database asked table (first ∷ asks) each among =
    by (nat_eq first.table table) refl among (λ later. whole_about schema database asked table asks (λ ask a. each ask (inr a)) later)
  where
    by : (b : Bool) → nat_eq first.table table ≡ b → Among (ask_for schema asked table) (first ∷ asks)
        → (Among (ask_for schema asked table) asks → reply_about table (map (whole_reply schema (public_of schema database)) asks) ≡ Some (whole_reply schema (public_of schema database) (ask_for schema asked table)))
        → (if b then Some (whole_reply schema (public_of schema database) first) else reply_about table (map (whole_reply schema (public_of schema database)) asks))
        ≡ Some (whole_reply schema (public_of schema database) (ask_for schema asked table))
    by true same among rest =
        ap (λ ask. Some (whole_reply schema (public_of schema database) ask)) (each first (inl refl) ∙ ap (ask_for schema asked) (eqb-true first.table table same))
    by false same (inl here) rest = absurd (clash (ap (λ (ask : Ask). nat_eq ask.table table) here ∙ itself table) same)
    by false same (inr later) rest = rest later

ask_is : (schema : Schema) (asked : Query) (ask : Ask) → Among ask (asks_of schema asked) → ask ≡ ask_for schema asked ask.table
ask_is schema asked ask among =
    let needed = from_filter is_needed ask (map (ask_for schema asked) (filter (short.is_from asked) (places_of schema))) among in
    let made = from_map (ask_for schema asked) ask (filter (short.is_from asked) (places_of schema)) needed.0 in
    let at : made.0 ≡ ask.table = ap (λ (one : Ask). one.table) made.2 in
    sym made.2 ∙ ap (ask_for schema asked) at

asks_of_whole : (schema : Schema) (database : Database) (asks : List Ask) → map (λ (reply : Reply). reply.ask) (map (whole_reply schema (public_of schema database)) asks) ≡ asks
asks_of_whole schema database [] = refl
asks_of_whole schema database (ask ∷ asks) = ap (λ later. ask ∷ later) (asks_of_whole schema database asks)

none_whole : (schema : Schema) (database : Database) (asked : Query) (table : ℕ) → is_asked schema asked table ≡ false
    → reply_about table (whole_replies schema (public_of schema database) asked) ≡ None
none_whole schema database asked table none =
    none_about (whole_replies schema (public_of schema database) asked) table (λ reply among. by reply among (nat_eq reply.ask.table table) refl)
  where
    by : (reply : Reply) → Among reply (whole_replies schema (public_of schema database) asked) → (b : Bool) → nat_eq reply.ask.table table ≡ b → b ≡ false
    by reply among false e = refl
    by reply among true e =
        let is = asked_by schema asked reply.ask
        (subst (λ asks. Among reply.ask asks) (asks_of_whole schema database (asks_of schema asked)) (mapped (whole_replies schema (public_of schema database) asked) reply among)) in
        absurd (clash (ap (is_asked schema asked) (sym (eqb-true reply.ask.table table e)) ∙ is) none)

module _ (schema : Schema) (asked : Query) (text : List ℕ) (read : IsMeant schema text asked) (top : ℕ) (follow : IsFollowed schema read.meant top) where
  shown_from : (table : ℕ) (field : Field) → is_column_from schema asked.from field ≡ true → is_shown_of schema table field ≡ true → is_among asked.from table ≡ true
  shown_from table field from shown =
      let at = both_true (nat_eq field.table table) (is_visible schema field.table field.column) shown in
      ap (is_among asked.from) (sym (eqb-true field.table table at.0)) ∙ (both_true (is_among asked.from field.table) _ from).0

  compared_from : (table : ℕ) (condition : Condition) → is_from asked.from condition ≡ true → is_compared_of schema table condition ≡ true → is_among asked.from table ≡ true
  compared_from table (OneOf first others) from compared =
      (let found = any_all (λ (one : Member). is_among asked.from one.field.table) (λ one. is_shown_of schema table one.field) (first ∷ others)
      (sym (each_is_all (λ one. is_among asked.from one.field.table) first others) ∙ from)
      (sym (some_is_any (λ one. is_shown_of schema table one.field) first others) ∙ compared) in
      let at = both_true (nat_eq found.one.field.table table) (is_visible schema found.one.field.table found.one.field.column) found.second in
      ap (is_among asked.from) (sym (eqb-true found.one.field.table table at.0)) ∙ found.first)
  compared_from table (Join left right) from compared = absurd (cc (compared))

  asked_from : (table : ℕ) → is_asked schema asked table ≡ true → is_among asked.from table ≡ true
  asked_from table e = by (list_any (is_shown_of schema table) asked.select) refl e
    where
      selected : list_all (is_column_from schema asked.from) asked.select ≡ true
      selected = ap (λ (q : Query). list_all (is_column_from schema q.from) q.select) read.once ∙ follow.selected

      by : (b : Bool) → list_any (is_shown_of schema table) asked.select ≡ b → (b || list_any (is_compared_of schema table) asked.conditions) ≡ true → is_among asked.from table ≡ true
      by true shown h = (let found = any_all (is_column_from schema asked.from) (is_shown_of schema table) asked.select selected shown in shown_from table found.one found.first found.second)
      by false shown h =
          (let found = any_all (is_from asked.from) (is_compared_of schema table) asked.conditions (conditions_of schema asked text read top follow) h in
          compared_from table found.one found.first found.second)

  module _ (database : Database) (given : List Reply) (honest : AreAllRows schema database asked given)
      (of_asked : (table : ℕ) → is_asked schema asked table ≡ false → reply_about table given ≡ None) where
    pub same_about : (table : ℕ) → reply_about table given ≡ reply_about table (whole_replies schema (public_of schema database) asked)
    same_about table = by (is_asked schema asked table) refl
      where
        by : (b : Bool) → is_asked schema asked table ≡ b → reply_about table given ≡ reply_about table (whole_replies schema (public_of schema database) asked)
        by false e = of_asked table e ∙ sym (none_whole schema database asked table e)
        by true e =
            let among = ask_stands schema asked table (asked_from table e) e in
            honest (ask_for schema asked table) (contains_of (asks_of schema asked) (ask_for schema asked table) among)
            ∙ sym (whole_about schema database asked table (asks_of schema asked) (λ ask a. ask_is schema asked ask a) among)

-- ---- rows of the answer

module _ (cat : Catalog) (asked : Query) (plan : RowPlan) (plan_is : IsPlan cat asked plan) (page : ℕ → List ℕ) (database : Database) (half : Half) (given : List Reply)
    (knows : Knows page cat asked database half given) (honest : AreAllRows cat.schema database asked given)
    (one : OneReading) (accepted : AcceptedQueriesAreFollowed) (keys : LeadsFollowKeys cat.schema database) (identifier : ℕ) (row : IsRowOf cat plan.top identifier) where
  follow : IsFollowed cat.schema knows.meant.meant plan.top
  follow = follows cat asked plan plan_is knows.text knows.meant knows.tree one accepted

  top_row : (r : Row) × (row_of database plan.top identifier ≡ Some r)
  top_row =
      let some = row.some in
      let within = row.within in
      let size = ap (λ (ns : List ℕ). slice_index ns plan.top) (sym knows.counts) ∙ count_there database plan.top in
      let same : suc (identifier - 1) ≡ identifier = omega (arith, some) in
      let r = get_within (rows_of database plan.top) (identifier - 1) (omega (arith, size, some, within)) in
      (r.0, ap (row_of database plan.top) (sym same) ∙ r.1)

  whole_stands : (table reached : ℕ) (r : Row) → row_of database table reached ≡ Some r → Among table asked.from → list_any (is_visible_group cat.schema table) asked.conditions ≡ false
      → stands_in reached (reply_about table given) ≡ true
  whole_stands table zero r there among none = absurd (cc (there))
  whole_stands table (suc place) r there among none =
      ap (stands_in (suc place)) (same_about cat.schema asked knows.text knows.meant plan.top follow database given honest knows.of_asked table)
      ∙ stands_in_is cat.schema database knows.is asked table place r there among
      ∙ ap (each_group says_more (holds_in cat.schema database knows.is asked r)) (no_tests cat.schema asked.conditions table none)
      ∙ no_group_fails says_more (holds_in cat.schema database knows.is asked r) [] refl

  unlisted_stands : (table : ℕ) → Among table asked.from → list_any (is_visible_group cat.schema table) asked.conditions ≡ false
      → stands_along cat.schema database given plan.top identifier table ≡ true
  unlisted_stands table among none =
      let below = below_top cat asked plan plan_is knows.text knows.meant knows.tree one accepted table (among_is table asked.from among) in
      let lands = keys.lands plan.top table identifier top_row.0 below top_row.1 in
      ap (λ o. is_kept_row o (reply_about table given)) lands.led ∙ whole_stands table lands.reached lands.row lands.stands among none

  module _ (holds : list_all (holds_or_asked_along cat.schema (known_along cat.schema database given plan.top identifier)) (filter (is_gathered cat.schema) asked.conditions) ≡ true)
      (stands : list_all (stands_along cat.schema database given plan.top identifier) (filter (λ table. list_any (is_visible_group cat.schema table) asked.conditions) asked.from) ≡ true) where
    each_stands : (table : ℕ) → Among table (filter (is_asked cat.schema asked) asked.from) → stands_along cat.schema database given plan.top identifier table ≡ true
    each_stands table among = by (list_any (is_visible_group cat.schema table) asked.conditions) refl (from_filter (is_asked cat.schema asked) table asked.from among).0
      where
        by : (b : Bool) → list_any (is_visible_group cat.schema table) asked.conditions ≡ b → Among table asked.from → stands_along cat.schema database given plan.top identifier table ≡ true
        by true e from =
            pass_each (stands_along cat.schema database given plan.top identifier) (filter (λ t. list_any (is_visible_group cat.schema t) asked.conditions) asked.from) stands table
            (among-filter (λ t. list_any (is_visible_group cat.schema t) asked.conditions) table asked.from from e)
        by false e from = unlisted_stands table from e

    all_from : list_all (stands_along cat.schema database given plan.top identifier) asked.from ≡ true
    all_from = all_each (stands_along cat.schema database given plan.top identifier) asked.from (λ table among. by table among (is_asked cat.schema asked table) refl)
      where
        by : (table : ℕ) → Among table asked.from → (b : Bool) → is_asked cat.schema asked table ≡ b → stands_along cat.schema database given plan.top identifier table ≡ true
        by table among true e = each_stands table (among-filter (is_asked cat.schema asked) table asked.from among e)
        by table among false e =
            unasked_stands cat asked plan plan_is knows.text knows.meant knows.tree one accepted page database half given identifier knows row (λ _. holds) keys table among e

    kept_hold : list_all (holds_or_asked_along cat.schema (known_along cat.schema database given plan.top identifier)) (filter (λ condition. not (is_left cat.schema condition)) asked.conditions) ≡ true
    kept_hold =
        let value = known_along cat.schema database given plan.top identifier in
        conditions_apart cat.schema value (filter (λ condition. not (is_left cat.schema condition)) asked.conditions)
        ∙ ap₂ (λ a b. a && b) (ap (list_all (holds_or_asked_along cat.schema value)) (gathered_stay cat.schema asked.conditions) ∙ holds)
        (ap (list_all (holds_along value)) (none_left cat.schema asked.conditions))

    pub one_row : length (row_known cat (without_left cat.schema asked) database given identifier plan) ≡ 1
    one_row =
        ap length (ap₂ (λ a b. if a && b then told (known_along cat.schema database given plan.top identifier) asked.select ∷ [] else []) all_from kept_hold)

pub all_answer : OneReading → AcceptedQueriesAreFollowed → RowsLeadToRows → RowsThatMeetAllAreAnswers
all_answer one accepted rows page cat asked database half given identifier plan knows plan_is row honest holds stands =
    one_row cat asked plan plan_is page database half given knows honest one accepted (rows cat.schema database knows.tree knows.is) identifier row holds stands

-- ---- the whole answer

module _ (schema : Schema) (database : Database) (asked : Query) (given other : List Reply) (about : (table : ℕ) → reply_about table given ≡ reply_about table other) where
  same_value : (hidden : Hidden) (table reached column : ℕ) → known_value schema hidden given table reached column ≡ known_value schema hidden other table reached column
  same_value hidden table reached zero = refl
  same_value hidden table reached (suc before) =
      ap (λ (o : Option Reply). if is_visible schema table (suc before)
      then option_and_then (λ (reply : Reply). option_and_then (λ (row : RowValues). value_at reply.ask.columns row.values (suc before)) (row_replied reached reply.rows)) o
      else hidden_value schema hidden table reached (suc before)) (about table)

  same_along : (top identifier : ℕ) (wanted : Field) → known_along schema database given top identifier wanted ≡ known_along schema database other top identifier wanted
  same_along top identifier wanted =
      ap (λ (f : ℕ → Option Value). option_and_then f (leads schema database top identifier wanted.table))
      (λ i reached. same_value (hidden_of schema database) wanted.table reached wanted.column i)

  same_row : (top identifier : ℕ) → known_row schema database asked given top identifier ≡ known_row schema database asked other top identifier
  same_row top identifier =
      ap₂ (λ (stands : ℕ → Bool) (value : Field → Option Value). if list_all stands asked.from && list_all (holds_or_asked_along schema value) asked.conditions
      then map (λ one. unwrap_or (value one) no_value) asked.select ∷ [] else [])
      (λ i table. is_kept_row (leads schema database top identifier table) (about table i))
      (λ i wanted. same_along top identifier wanted i)

-- joins hold, however often each stands
abbrev stay : Schema → List Condition → List Condition
stay schema conditions = filter (λ condition. not (is_left schema condition)) conditions

joins_aside : (schema : Schema) (value : Field → Option Value) (conditions : List Condition)
    → list_all (holds_or_asked_along schema value) (stay schema (filter is_group conditions)) ≡ list_all (holds_or_asked_along schema value) (stay schema conditions)
joins_aside schema value [] = refl
joins_aside schema value (OneOf first others ∷ conditions) =
    ap (λ rest. list_all (holds_or_asked_along schema value) (if not (is_left schema (OneOf first others)) then OneOf first others ∷ rest else rest)) refl
    ∙ by (is_left schema (OneOf first others)) (joins_aside schema value conditions)
  where
    by : (b : Bool) → list_all (holds_or_asked_along schema value) (stay schema (filter is_group conditions)) ≡ list_all (holds_or_asked_along schema value) (stay schema conditions)
        → list_all (holds_or_asked_along schema value) (if not b then OneOf first others ∷ stay schema (filter is_group conditions) else stay schema (filter is_group conditions))
        ≡ list_all (holds_or_asked_along schema value) (if not b then OneOf first others ∷ stay schema conditions else stay schema conditions)
    by true rest = rest
    by false rest = ap (λ b. holds_or_asked_along schema value (OneOf first others) && b) rest
joins_aside schema value (Join left right ∷ conditions) = joins_aside schema value conditions

filter_both : {X : Type 0} (q : X → Bool) (xs ys : List X) → filter q (xs ++ ys) ≡ filter q xs ++ filter q ys
filter_both q [] ys = refl
filter_both q (x ∷ xs) ys =
    elim (q x) as (λ b. (if b then x ∷ filter q (xs ++ ys) else filter q (xs ++ ys)) ≡ (if b then x ∷ filter q xs else filter q xs) ++ filter q ys) [
      | true ↦ ap (λ zs. x ∷ zs) (filter_both q xs ys)
      | false ↦ filter_both q xs ys
    ]

all_behind : {X : Type 0} (p : X → Bool) (xs ys : List X) → list_all p xs ≡ true → list_all p (xs ++ ys) ≡ list_all p ys
all_behind p [] ys all = refl
all_behind p (x ∷ xs) ys all =
    let both = both_true (p x) (list_all p xs) all in
    ap₂ (λ a b. a && b) both.0 (all_behind p xs ys both.1)

filter_passes : {X : Type 0} (p q : X → Bool) (xs : List X) → list_all p xs ≡ true → list_all p (filter q xs) ≡ true
filter_passes p q xs all = all_each p (filter q xs) (λ x among. pass_each p xs all x (from_filter q x xs among).0)

linked_row : (schema : Schema) (database : Database) (asked meant : Query) (given : List Reply) (top identifier : ℕ) → asked ≡ linked schema meant
    → known_row schema database (without_left schema asked) given top identifier ≡ known_row schema database (without_left schema meant) given top identifier
linked_row schema database asked meant given top identifier once =
    let value = known_along schema database given top identifier in
    ap (λ (q : Query). known_row schema database (without_left schema q) given top identifier) once
    ∙ ap (λ held. if list_all (stands_along schema database given top identifier) meant.from && held then told value meant.select ∷ [] else [])
    (ap (list_all (holds_or_asked_along schema value)) (filter_both (λ condition. not (is_left schema condition)) (joins_of schema meant.from) (filter is_group meant.conditions))
    ∙ all_behind (holds_or_asked_along schema value) (stay schema (joins_of schema meant.from)) (stay schema (filter is_group meant.conditions))
    (filter_passes (holds_or_asked_along schema value) (λ condition. not (is_left schema condition)) (joins_of schema meant.from)
    (joins_pass (holds_or_asked_along schema value) (λ left right. refl) schema meant.from meant.from))
    ∙ joins_aside schema value meant.conditions)

pub answers_are : OneReading → AcceptedQueriesAreFollowed → WithoutLeftIsFollowed → FollowedAnswersFollowKeys → RowsLeadToRows → JoinsCountOnce → HonestAnswersAreWhole
answers_are one accepted without scans rows joins page cat asked database half given top knows top_is honest =
    let schema = cat.schema in
    let public = public_of schema database in
    let read = knows.meant in
    let meant = read.meant in
    let means = (one.meaning schema knows.text meant).0 read.reads in
    let at : top_of schema meant ≡ Some top = ap (top_of schema) (sym read.once) ∙ top_is in
    let follow = accepted schema knows.tree knows.text meant means top at in
    let about = same_about schema asked knows.text read top follow database given honest knows.of_asked in
    let replies : whole_replies schema public asked ≡ whole_replies schema public meant =
    ap (λ asks. map (whole_reply schema public) asks) (ap (asks_of schema) read.once ∙ joins.asks schema meant) in
    ap (λ (each : ℕ → List Row). flat_map each (range_with_len 1 (row_count database top)))
    (λ i identifier.
    (same_row schema database (without_left schema asked) given (whole_replies schema public asked) about top identifier
    ∙ ap (λ (held : List Reply). known_row schema database (without_left schema asked) held top identifier) replies
    ∙ linked_row schema database asked meant (whole_replies schema public meant) top identifier read.once) i)
    ∙ same_for_identifiers (known_row schema database (without_left schema meant) (whole_replies schema public meant) top)
    (λ identifier. row_along (led_value schema database top identifier) (without_left schema meant)) 1 (row_count database top)
    (λ place low.
    let there = get_within (rows_of database top) place low in
    let same : suc place ≡ 1 + place = omega arith in
    whole_row schema database knows.tree knows.is meant top follow (rows schema database knows.tree knows.is) (1 + place) there.0
    (ap (row_of database top) (sym same) ∙ there.1))
    ∙ sym (scans schema knows.tree database knows.is (without_left schema meant) top at (without schema meant top follow))
    ∙ sym (ap (λ (q : Query). answer schema database (without_left schema q)) read.once ∙ joins.left schema knows.tree database knows.text meant read.reads)
