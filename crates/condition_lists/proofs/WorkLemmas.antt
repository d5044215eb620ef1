-- The cost of a term is at most the work of its condition or of its reply, and sums of them.
use Rattle.std.proofs.Common.{◌≡◌, ◌∙◌, refl, ap, ap₂, sym, subst, ℕ, zero, suc, ◌+◌, ◌-◌, ◌<◌, ◌≤◌, inl, inr, pos, Bool, true, false, ◌&&◌, nat_eq, List, [], ◌∷◌, ◌++◌, length, filter, map, slice_get, Option, Some, None, option_and_then, if◌then◌else◌, arith}
use Rattle.std.specs.Prelude.{◌==◌, ◌||◌, not, count_by, sum_by, is_some}
use Rattle.std.specs.Option.{option_map_or}
use Rattle.std.specs.List.{range_with_len, list_all, list_any}
use Rattle.std.proofs.lemmas.Bool.{eqb-true}
use Rattle.std.proofs.lemmas.Bool.Decides.{nat_tests}
use Rattle.std.proofs.lemmas.Cmp.{nat_eq_equiv}
use Rattle.std.proofs.lemmas.List.Sums.{length-filter, sum_by-cons, sum_by-append}
use Rattle.ghost_model.specs.core.Schema.{Schema, is_empty, is_nullable, is_visible, places_from, places_of}
use Rattle.ghost_model.specs.core.Values.{Value, Number, Rows, Database}
use Rattle.ghost_model.specs.core.Channel.{Catalog, ColumnTest, Ask}
use Rattle.ghost_model.specs.core.Database.{holds, leads, rows_of, value_at_row}
use Rattle.ghost_model.specs.core.Groups.{each_of}
use Rattle.ghost_model.specs.core.Meaning.{compares, meets_test}
use Rattle.ghost_model.specs.core.Asks.{asks_of, ask_for, is_needed, is_shown, column_test, kind_at}
use Rattle.ghost_model.specs.laws.ShortWords.{tests_of, is_from, values_met, rows_met, search_work}
use Rattle.ghost_model.specs.core.Query.{Query, Field, Operator, Test, Compared, IsNull, IsNotNull, Member, GroupMember, members_of_group, members_of, members_in, Condition, OneOf, Join, compared, tested}
use Rattle.ghost_model.specs.core.Replies as replies
use Rattle.ghost_model.specs.core.Replies.{reply_about, row_replied}
use Rattle.ghost_model.specs.core.Split.{RowValues, public_of, visible_places, public_rows, replied, meets_tests, replies_from}
use Rattle.ghost_model.specs.forms.Flash.{ids}
use Rattle.ghost_model.specs.forms.Layout.{is_hidden, count_of}
use Rattle.ghost_model.specs.laws.LayoutLaws.{LevelsAreAncestors}
use Rattle.ghost_model.specs.laws.MeaningLaws.{LeadsFollowKeys}
use Rattle.ghost_model.specs.laws.SessionLaws.{whole_reply}
use Rattle.ghost_model.specs.refusals.QueryMeaning.{field}
use Rattle.ghost_model.proofs.MeaningLemmas.OneRow.{Among, Distinct, among-filter, among_is, either_true, both_true}
use Rattle.ghost_model.proofs.MeaningLemmas.Leading.{among_range}
use Rattle.ghost_model.proofs.MeaningLemmas.PartsByFlags.{visible_rows_at}
use Rattle.ghost_model.proofs.SessionLemmas.Members.{each_true, true_of_each}
use Rattle.ghost_laws.specs.Scans.{is_kept_row}
use Rattle.climbing_index.specs.declared.index.ClimbingIndex.{ClimbingIndex}
use Rattle.climbing_index.specs.declared.index.IdIndex.{IdIndex}
use Rattle.climbing_index.specs.declared.search.Group.{Group}
use Rattle.leakless_plan.specs.Choices.{compares_visible}
use Rattle.flash_layout.specs.Ranges.{IsRowOf}
use Rattle.condition_lists.specs.declared.bounds.Bounds.{Bounds}
use Rattle.condition_lists.specs.declared.term.Term.{Term}
use Rattle.condition_lists.specs.declared.term.GroupTerm.{GroupTerm}
use Rattle.condition_lists.specs.declared.term.Term.TheVariants.{Ranges, Entries, Identifiers, TopReply, Reply}
use Rattle.condition_lists.specs.Bounds.{lies_within}
use Rattle.condition_lists.specs.Terms.{AreEntriesOf, AreIdentifiersOf, IsIdentifiersTerm, IsTermOf, IsTermOfTest, IsReplyTermOf, AreTermsOf, IsIdIndexAt, is_in_one, is_compared, is_listed, listed_members}
use Rattle.condition_lists.specs.Laws.{IsOver}
use Rattle.ghost_model.specs.forms.QueryWork.{union_work, values_of, count_values, rows_leading, is_range, condition_work, honest_rows, reply_work}
use Rattle.condition_lists.specs.Costs.{rows_meeting, values_within, replied_count, term_cost}
use Rattle.condition_lists.specs.CostLaws.{WorkGrows}
use Rattle.condition_lists.proofs.CountLemmas.{ranges_once, among_map, counted, at_most, same_count, same_values}
use Rattle.condition_lists.proofs.CostLemmas.{entries_in, in_groups, ends_within, both_many, row_among}
use Rattle.condition_lists.proofs.ListLemmas.{in_column, replied_some}
use Rattle.condition_lists.proofs.MeetLemmas.{by_value}
use Rattle.condition_lists.proofs.MemberLemmas.{among_of, mapped_many}
use Rattle.condition_lists.proofs.TermLemmas.{all_listed}
use Rattle.condition_lists.proofs.RowLemmas.{never_hidden, null_if_allowed, rows_are, row_there, below_by, is_row, led}

module _ (cat : Catalog) (database : Database) (over : IsOver cat database) (levels : LevelsAreAncestors) (keys : LeadsFollowKeys cat.schema database)
    (grows : WorkGrows) (given : List replies.Reply) (top : ℕ) where
  -- counted over the rows of the catalog or of the database
  same_rows : (p q : ℕ → Bool) → ((x : ℕ) → IsRowOf cat top x → p x ≡ q x)
      → count_by p (ids (count_of cat top)) ≡ count_by q (range_with_len 1 (length (rows_of database top)))
  same_rows p q each =
      same_count p q (ids (count_of cat top)) (λ x a. each x (row_among cat top x a))
      ∙ ap (λ n. count_by q (range_with_len 1 n)) (rows_are cat database over top)

  -- a test alone that is no range
  lone_work : (one : Member) (hidden : Bool) → is_hidden cat.schema one.field.table one.field.column ≡ hidden
      → (hidden || one.field.column == 0) ≡ true → is_range top one ≡ false
      → condition_work cat.schema database top (OneOf one [])
      ≡ union_work (count_values (filter (λ value. meets_test one.test (Some value)) (values_of database one.field)))
      (rows_leading cat.schema database top one.field.table (λ row. meets_test one.test (value_at_row database one.field.table row one.field.column)))
      + (if hidden then search_work (count_values (values_of database one.field)) else 0)
  lone_work one hidden is key range =
      let lists = count_values (filter (λ value. meets_test one.test (Some value)) (values_of database one.field)) in
      let rows = rows_leading cat.schema database top one.field.table (λ row. meets_test one.test (value_at_row database one.field.table row one.field.column)) in
      let search = search_work (count_values (values_of database one.field)) in
      ap₂ (λ h r. if (h || one.field.column == 0) && not r then union_work (if r then 0 else lists) (if r then 0 else rows) + (if h then search else 0) else 0) is range
      ∙ ap (λ k. if k && true then union_work lists rows + (if hidden then search else 0) else 0) key

  -- ---- entries

  entries_cost : (test : Test) (table column : ℕ) (index : ClimbingIndex) (level : ℕ) (bounds : Bounds) → AreEntriesOf cat top table column test index level bounds
      → term_cost cat database given top (Entries table column index level bounds) ≡ condition_work cat.schema database top (OneOf (tested (field table column) test) [])
  entries_cost test table column index level bounds are =
      ap₂ (λ e l. union_work e l + search_work (count_values (values_of database (field table column)))) values_same rows_same
      ∙ sym (lone_work (tested (field table column) test) true are.index_at.hidden refl (inside column refl))
    where
      inside : (n : ℕ) → column ≡ n → (n == 0 && table == top) ≡ false
      inside zero e = absurd (never_hidden cat.schema over.tree table (ap (is_hidden cat.schema table) (sym e) ∙ are.index_at.hidden))
      inside (suc n) e = let other : nat_eq (suc n) 0 ≡ false = grind (arith, nat_tests) in ap (λ b. b && table == top) other

      values_same : values_within database (field table column) bounds ≡ count_values (filter (λ value. meets_test test (Some value)) (values_of database (field table column)))
      values_same =
          ap count_values
          (same_values (lies_within bounds) (λ value. meets_test test (Some value)) column (rows_of database table)
          (λ place row value at is.
          are.bounds_are.admits value
          (null_if_allowed cat database over table (suc place) column are.index_at.hidden value (ap (option_and_then (λ r. slice_get r column)) at ∙ is))))

      by_lead : (o : Option ℕ) → option_map_or (lies_within bounds) (option_and_then (λ reached. value_at_row database table reached column) o) false
          ≡ option_map_or (λ row. meets_test test (value_at_row database table row column)) o false
      by_lead None = refl
      by_lead (Some reached) =
          by_value (is_nullable (kind_at cat.schema table column)) test bounds are.bounds_are (value_at_row database table reached column)
          (λ value at null. null_if_allowed cat database over table reached column are.index_at.hidden value at null)

      rows_same : rows_meeting cat database given top (Entries table column index level bounds)
          ≡ rows_leading cat.schema database top table (λ row. meets_test test (value_at_row database table row column))
      rows_same = same_rows _ _ (λ x row. by_lead (leads cat.schema database top x table))

  -- ---- identifiers

  module _ (operator : Operator) (literal : Value) where
    abbrev admitted : (table column : ℕ) → ℕ → Bool
    admitted table column row = compares operator (value_at_row database table row column) (Some literal)

    no_return : (table level : ℕ) (index : IdIndex) → IsIdIndexAt cat top table index level → (table == top) ≡ true → ⊥
    no_return table level index at e =
        let same : table ≡ top = eqb-true table top e in
        over.tree.no_cycle table (record { steps = level; moves = at.above; back = sym (levels cat.schema over.tree table level at.there) ∙ at.level_is ∙ ap Some (sym same) })

    number_before : Value → ℕ
    number_before (Number (pos n)) = n - 1
    number_before _ = 0

    ids_few : (table : ℕ) (index : IdIndex) (level : ℕ) (first second : Group) → AreIdentifiersOf cat top table 0 operator literal index level first second
        → first.count + second.count ≤ values_met database (field table 0) operator literal
    unfolding number_before
    ids_few table index level first second are =
        let few = counted nat_eq nat_eq_equiv (λ a b. eqb-true a b) number_before (entries_in first second) (filter (λ value. holds operator value literal) (values_of database (field table 0)))
        (ranges_once first.first first.count second.first second.count are.ids.behind)
        (λ entry among.
        let low = ends_within first second (count_of cat table) entry are.ids.first_within (λ _. are.ids.second_within) among in
        let row = row_there cat database over table (suc entry) (record { some = omega arith; within = omega (arith, low) }) in
        let is : slice_get row.0 0 ≡ Some (Number (pos (suc entry))) = over.is.identifiers table (suc entry) row.0 row.1 in
        let next : entry + 1 ≡ suc entry = omega arith in
        let admits : holds operator (Number (pos (suc entry))) literal ≡ true =
        ap (λ n. holds operator (Number (pos n)) literal) (sym next) ∙ sym (are.ids.admits entry low) ∙ in_groups first second entry among in (
          Number (pos (suc entry)),
          among-filter (λ value. holds operator value literal) (Number (pos (suc entry))) (values_of database (field table 0)) (in_column 0 (rows_of database table) entry row.0 (Number (pos (suc entry))) row.1 is) admits,
          (let back : entry ≡ suc entry - 1 = omega arith in back),
        )) in
        let both = both_many first second in
        omega (arith, few, both)

    ids_rows : (table : ℕ) (index : IdIndex) (level : ℕ) (first second : Group) → AreIdentifiersOf cat top table 0 operator literal index level first second
        → rows_meeting cat database given top (Identifiers table index level first second) ≡ rows_met cat.schema database top (field table 0) operator literal
    ids_rows table index level first second are = same_rows _ _ each
      where
        each : (x : ℕ) → IsRowOf cat top x
            → option_map_or (λ reached. is_in_one first second (reached - 1)) (leads cat.schema database top x table) false ≡ option_map_or (admitted table 0) (leads cat.schema database top x table) false
        each x row =
            let below = below_by levels cat database over top table level are.index_at.there are.index_at.level_is in
            let lands = led cat database over keys top table x below row in
            let is = is_row cat database over table lands.reached lands.row lands.stands in
            let some = is.some in
            let within = is.within in
            let e : lands.reached - 1 + 1 ≡ lands.reached = omega (arith, some) in
            ap (λ o. option_map_or (λ reached. is_in_one first second (reached - 1)) o false) lands.led
            ∙ are.ids.admits (lands.reached - 1) (omega (arith, some, within))
            ∙ ap (λ n. holds operator (Number (pos n)) literal) e
            ∙ sym (ap (λ o. compares operator o (Some literal)) (ap (option_and_then (λ r. slice_get r 0)) lands.stands ∙ over.is.identifiers table lands.reached lands.row lands.stands))
            ∙ sym (ap (λ o. option_map_or (admitted table 0) o false) lands.led)

    ids_cost : (table column : ℕ) (index : IdIndex) (level : ℕ) (first second : Group) → column ≡ 0 → AreIdentifiersOf cat top table 0 operator literal index level first second
        → term_cost cat database given top (Identifiers table index level first second) ≤ condition_work cat.schema database top (compared (field table 0) operator literal)
    ids_cost table column index level first second zero_is are =
        let more = grows.union (first.count + second.count) (values_met database (field table 0) operator literal)
        (rows_meeting cat database given top (Identifiers table index level first second)) (rows_met cat.schema database top (field table 0) operator literal)
        (ids_few table index level first second are) (let same = ids_rows table index level first second are in omega (arith, same)) in
        let whole = lone_work (tested (field table 0) (Compared operator literal)) false (seen (is_hidden cat.schema table 0) refl) refl (apart (table == top) refl) in
        omega (arith, more, whole)
      where
        seen : (b : Bool) → is_hidden cat.schema table 0 ≡ b → is_hidden cat.schema table 0 ≡ false
        seen true e = absurd (never_hidden cat.schema over.tree table e)
        seen false e = e

        apart : (b : Bool) → (table == top) ≡ b → (table == top) ≡ false
        apart true e = absurd (no_return table level index are.index_at e)
        apart false e = e

  identifiers_cost : (wanted : Field) (test : Test) (table : ℕ) (index : IdIndex) (level : ℕ) (first second : Group)
      → table ≡ wanted.table → IsIdentifiersTerm cat top wanted test index level first second
      → term_cost cat database given top (Identifiers table index level first second) ≤ condition_work cat.schema database top (OneOf (tested wanted test) [])
  identifiers_cost wanted IsNull table index level first second same is = absurd is
  identifiers_cost wanted IsNotNull table index level first second same is = absurd is
  identifiers_cost wanted (Compared operator literal) table index level first second own is =
      let zero_is = is.column_is in
      let are : AreIdentifiersOf cat top table 0 operator literal index level first second =
      subst (λ t. AreIdentifiersOf cat top t 0 operator literal index level first second) (sym own) (subst (λ c. AreIdentifiersOf cat top wanted.table c operator literal index level first second) zero_is is) in
      let cost = ids_cost operator literal table 0 index level first second refl are in
      let same : condition_work cat.schema database top (compared (field table 0) operator literal) ≡ condition_work cat.schema database top (compared (field wanted.table wanted.column) operator literal) =
      ap₂ (λ t c. condition_work cat.schema database top (compared (field t c) operator literal)) own (sym zero_is) in
      omega (arith, cost, same)

  test_cost : (wanted : Field) (test : Test) (term : Term) → IsTermOfTest cat top wanted test term
      → term_cost cat database given top term ≤ condition_work cat.schema database top (OneOf (tested wanted test) [])
  test_cost wanted test (Ranges first second) is = omega arith
  test_cost wanted test (Entries table column index level bounds) is =
      let are : AreEntriesOf cat top table column test index level bounds =
      subst (λ t. AreEntriesOf cat top t column test index level bounds) (sym is.0) (subst (λ c. AreEntriesOf cat top wanted.table c test index level bounds) (sym is.1) is.2) in
      let cost = entries_cost test table column index level bounds are in
      let same : condition_work cat.schema database top (OneOf (tested (field table column) test) []) ≡ condition_work cat.schema database top (OneOf (tested (field wanted.table wanted.column) test) []) =
      ap₂ (λ t c. condition_work cat.schema database top (OneOf (tested (field t c) test) [])) is.0 is.1 in
      omega (arith, cost, same)
  test_cost wanted test (Identifiers table index level first second) is = identifiers_cost wanted test table index level first second is.0 is.1
  test_cost wanted test TopReply is = absurd is
  test_cost wanted test (Reply table index level) is = absurd is

  pub member_cost : (one : Member) (term : Term) → IsTermOfTest cat top one.field one.test term
      → term_cost cat database given top term ≤ condition_work cat.schema database top (OneOf one [])
  member_cost one term is = test_cost one.field one.test term is

  pub condition_cost : (condition : Condition) → is_listed cat.schema top condition ≡ true → (term : Term) → IsTermOf cat top condition term
      → term_cost cat database given top term ≤ condition_work cat.schema database top condition
  condition_cost (OneOf first []) listed term is = elim (among_of (members_of (OneOf first [])) is.one is.among) [
    | inl same ↦ member_cost first term (subst (λ (one : GroupMember). IsTermOfTest cat top one.member.field one.member.test term) (sym same) is.is)
    | inr later ↦ absurd later
  ]
  condition_cost (OneOf first (next ∷ others)) listed term is = absurd (cc (listed))
  condition_cost (Join one other) listed term is = absurd (cc (listed))

  -- ---- replies

  module _ (ask : Ask) (about : reply_about ask.table given ≡ Some (whole_reply cat.schema (public_of cat.schema database) ask)) (some_tests : is_empty ask.tests ≡ false) where
    abbrev rows : List RowValues
    rows = honest_rows cat.schema database ask

    abbrev stands : ℕ → Bool
    stands row = is_some (row_replied row rows)

    abbrev reached_rows : ℕ
    reached_rows = rows_leading cat.schema database top ask.table stands

    its_work : reply_work cat.schema database top ask ≡ union_work (length rows) reached_rows
    its_work = ap (λ b. if b then 0 else union_work (length rows) reached_rows) some_tests

    counted_rows : replied_count given ask.table ≡ length rows
    counted_rows = ap (λ o. option_map_or (λ one. length one.rows) o 0) about

    lower_rows : (index : IdIndex) (level : ℕ) → rows_meeting cat database given top (Reply ask.table index level) ≡ reached_rows
    lower_rows index level = same_rows _ _ (λ x row. ap (is_kept_row (leads cat.schema database top x ask.table)) about ∙ by_lead (leads cat.schema database top x ask.table))
      where
        by_lead : (o : Option ℕ) → is_kept_row o (Some (whole_reply cat.schema (public_of cat.schema database) ask)) ≡ option_map_or stands o false
        by_lead None = refl
        by_lead (Some reached) = refl

    lower_cost : (index : IdIndex) (level : ℕ) → term_cost cat database given top (Reply ask.table index level) ≡ reply_work cat.schema database top ask
    lower_cost index level = ap₂ union_work counted_rows (lower_rows index level) ∙ sym its_work

    -- the rows of an honest reply are rows of the table, each once
    replied_from : (at x : ℕ) (shown : List ℕ) (some : Rows) → Among x (map (λ row. row.identifier) (replies_from at shown ask some)) → (at ≤ x) × (x < at + length some)
    unfolding replies_from
    replied_from at x shown [] among = absurd among
    replied_from at x shown (row ∷ some) among = by (meets_tests shown ask.tests row) among (replied_from (at + 1) x shown some)
      where
        by : (b : Bool) → Among x (map (λ row. row.identifier) (if b then replied shown ask at row ∷ replies_from (at + 1) shown ask some else replies_from (at + 1) shown ask some))
            → (Among x (map (λ row. row.identifier) (replies_from (at + 1) shown ask some)) → (at + 1 ≤ x) × (x < at + 1 + length some)) → (at ≤ x) × (x < at + suc (length some))
        by true among rest =
            elim among [
              | inl same ↦ (omega (arith, same), omega (arith, same))
              | inr later ↦ (let is = rest later in let low = is.0 in let high = is.1 in (omega (arith, low), omega (arith, high)))
            ]
        by false among rest = let is = rest among in let low = is.0 in let high = is.1 in (omega (arith, low), omega (arith, high))

    replied_once : (at : ℕ) (shown : List ℕ) (some : Rows) → Distinct (map (λ row. row.identifier) (replies_from at shown ask some))
    unfolding replies_from
    replied_once at shown [] = tt
    replied_once at shown (row ∷ some) = by (meets_tests shown ask.tests row) (replied_once (at + 1) shown some)
      where
        by : (b : Bool) → Distinct (map (λ row. row.identifier) (replies_from (at + 1) shown ask some))
            → Distinct (map (λ row. row.identifier) (if b then replied shown ask at row ∷ replies_from (at + 1) shown ask some else replies_from (at + 1) shown ask some))
        by true rest = (λ among. (let low = (replied_from (at + 1) at shown some among).0 in absurd (omega (arith, low))), rest)
        by false rest = rest

    as_many_rows : length (public_rows (public_of cat.schema database) ask.table) ≡ length (rows_of database ask.table)
    as_many_rows = ap length (visible_rows_at cat.schema database over.is.tables ask.table) ∙ mapped_many _ (rows_of database ask.table)

    abbrev led_to : ℕ → Bool
    led_to x = option_map_or stands (leads cat.schema database top x ask.table) false

    top_rows : ask.table ≡ top → length rows ≤ reached_rows
    top_rows same =
        let most : length (map (λ row. row.identifier) rows) ≤ length (filter led_to (range_with_len 1 (length (rows_of database top)))) =
        at_most nat_eq nat_eq_equiv (λ a b. eqb-true a b) (map (λ row. row.identifier) rows) (filter led_to (range_with_len 1 (length (rows_of database top))))
        (replied_once 1 (visible_places cat.schema ask.table) (public_rows (public_of cat.schema database) ask.table))
        (λ x among.
        let is = replied_from 1 x (visible_places cat.schema ask.table) (public_rows (public_of cat.schema database) ask.table) among in
        let low = is.0 in
        let high = is.1 in
        let size = as_many_rows in
        let here : length (rows_of database ask.table) ≡ length (rows_of database top) = ap (λ t. length (rows_of database t)) same in
        among-filter led_to x (range_with_len 1 (length (rows_of database top)))
        (among_range 1 (length (rows_of database top)) x low (omega (arith, high, size, here)))
        (ap (λ t. option_map_or stands (leads cat.schema database top x t) false) same
        ∙ ap (λ o. option_map_or stands o false) (keys.to_itself top x)
        ∙ replied_some x rows among)) in
        let size = mapped_many (λ row. row.identifier) rows in
        let count = length-filter led_to (range_with_len 1 (length (rows_of database top))) in
        omega (arith, most, size, count)

    top_cost : ask.table ≡ top → term_cost cat database given top TopReply ≤ reply_work cat.schema database top ask
    top_cost same =
        let count : replied_count given top ≡ length rows = ap (replied_count given) (sym same) ∙ counted_rows in
        let more = top_rows same in
        let size = grows.union (length rows) (length rows) (length rows) reached_rows (omega arith) more in
        let cost : union_work (replied_count given top) (replied_count given top) ≡ union_work (length rows) (length rows) = ap (λ n. union_work n n) count in
        let work = its_work in
        omega (arith, size, cost, work)

    pub reply_cost : (term : Term) → IsReplyTermOf cat top ask.table term → term_cost cat database given top term ≤ reply_work cat.schema database top ask
    reply_cost TopReply is = top_cost is
    reply_cost (Reply other index level) is =
        let same : term_cost cat database given top (Reply other index level) ≡ term_cost cat database given top (Reply ask.table index level) =
        ap (λ t. term_cost cat database given top (Reply t index level)) is.0 in
        let cost = lower_cost index level in
        omega (arith, same, cost)
    reply_cost (Ranges first second) is = absurd is
    reply_cost (Entries other column index level bounds) is = absurd is
    reply_cost (Identifiers other index level first second) is = absurd is

-- ---- sums

taken_out : {X : Type 0} (x : X) (ys : List X) → Among x ys → (before : List X) × (after : List X) × (ys ≡ before ++ x ∷ after)
taken_out x [] among = absurd among
taken_out x (y ∷ ys) among =
    elim among [
      | inl same ↦ ([], ys, ap (λ z. z ∷ ys) same)
      | inr later ↦ (let is = taken_out x ys later in (y ∷ is.0, is.1, ap (λ zs. y ∷ zs) is.2))
    ]

-- different elements of a list add up to at most what all do
sum_within : {X : Type 0} (f : X → ℕ) (xs ys : List X) → Distinct xs → ((x : X) → Among x xs → Among x ys) → sum_by f xs ≤ sum_by f ys
sum_within f [] ys once each = omega arith
sum_within f (x ∷ xs) ys once each =
    let at = taken_out x ys (each x (inl refl)) in
    let rest = sum_within f xs (at.0 ++ at.1) once.1 (λ y among. apart x y at.0 at.1 (λ same. once.0 (subst (λ z. Among z xs) same among)) (subst (Among y) at.2 (each y (inr among)))) in
    let whole : sum_by f ys ≡ sum_by f (at.0 ++ x ∷ at.1) = ap (sum_by f) at.2 in
    let a = sum_by-append f at.0 (x ∷ at.1) in
    let b = sum_by-cons f x at.1 in
    let c = sum_by-append f at.0 at.1 in
    let d = sum_by-cons f x xs in
    omega (arith, rest, whole, a, b, c, d)
  where
    apart : {X : Type 0} (x y : X) (before after : List X) → (y ≡ x → ⊥) → Among y (before ++ x ∷ after) → Among y (before ++ after)
    apart x y [] after other among = elim among [ inl same ↦ absurd (other (sym same)) | inr later ↦ later ]
    apart x y (z ∷ before) after other among = elim among [ inl same ↦ inl same | inr later ↦ inr (apart x y before after other later) ]

sum_of_some : {X : Type 0} (f : X → ℕ) (p : X → Bool) (xs : List X) → sum_by f (filter p xs) ≤ sum_by f xs
sum_of_some f p [] = omega arith
sum_of_some f p (x ∷ xs) = by (p x) (sum_of_some f p xs)
  where
    by : (b : Bool) → sum_by f (filter p xs) ≤ sum_by f xs → sum_by f (if b then x ∷ filter p xs else filter p xs) ≤ sum_by f (x ∷ xs)
    by true rest = let a = sum_by-cons f x xs in let b = sum_by-cons f x (filter p xs) in omega (arith, rest, a, b)
    by false rest = let a = sum_by-cons f x xs in omega (arith, rest, a)

module _ (cat : Catalog) (top : ℕ) (cost : Term → ℕ) (work : Condition → ℕ) (reply : ℕ → ℕ) where
  abbrev cost_of : GroupTerm → ℕ
  cost_of one = cost one.term

  sum_listed : (conditions : List Condition) → list_all (is_listed cat.schema top) conditions ≡ true → (tables : List ℕ) (terms : List GroupTerm)
      → AreTermsOf cat top (members_in conditions) tables terms
      → ((one : Member) (term : Term) → IsTermOfTest cat top one.field one.test term → cost term ≤ work (OneOf one []))
      → ((table : ℕ) (term : Term) → Among table tables → IsReplyTermOf cat top table term → cost term ≤ reply table)
      → sum_by cost_of terms ≤ sum_by work conditions + sum_by reply tables
  sum_listed [] listed [] [] are one other = omega arith
  sum_listed [] listed [] (term ∷ terms) are one other = absurd are
  sum_listed [] listed (table ∷ tables) [] are one other = absurd are
  sum_listed [] listed (table ∷ tables) (term ∷ terms) are one other =
      let rest = sum_listed [] refl tables terms are.1 one (λ t term among. other t term (inr among)) in
      let here = other table term.term (inl refl) are.0.is in
      let a = sum_by-cons cost_of term terms in
      let b = sum_by-cons reply table tables in
      omega (arith, rest, here, a, b)
  sum_listed (OneOf first [] ∷ conditions) listed tables [] are one other = absurd are
  sum_listed (OneOf first [] ∷ conditions) listed tables (term ∷ terms) are one other =
      let rest = sum_listed conditions (both_true (is_listed cat.schema top (OneOf first [])) (list_all (is_listed cat.schema top) conditions) listed).1 tables terms are.1 one other in
      let here = one first term.term are.0.is in
      let a = sum_by-cons cost_of term terms in
      let b = sum_by-cons work (OneOf first []) conditions in
      omega (arith, rest, here, a, b)
  sum_listed (OneOf first (next ∷ others) ∷ conditions) listed tables terms are one other = absurd (cc (listed))
  sum_listed (Join left right ∷ conditions) listed tables terms are one other = absurd (cc (listed))

  pub sum_terms : (conditions : List Condition) (tables : List ℕ) (terms : List GroupTerm) → AreTermsOf cat top (listed_members cat.schema top conditions) tables terms
      → ((one : Member) (term : Term) → IsTermOfTest cat top one.field one.test term → cost term ≤ work (OneOf one []))
      → ((table : ℕ) (term : Term) → Among table tables → IsReplyTermOf cat top table term → cost term ≤ reply table)
      → sum_by (λ (one : GroupTerm). cost one.term) terms ≤ sum_by work (filter (is_listed cat.schema top) conditions) + sum_by reply tables
  sum_terms conditions tables terms are one other =
      sum_listed (filter (is_listed cat.schema top) conditions) (all_listed cat.schema top conditions) tables terms are one other

module _ (schema : Schema) (database : Database) (asked : Query) (top : ℕ) where
  abbrev work_of : ℕ → ℕ
  work_of table = reply_work schema database top (ask_for schema asked table)

  -- an ask that is not needed has no conditions
  unneeded : (ask : Ask) → is_needed ask ≡ false → reply_work schema database top ask ≡ 0
  unneeded ask e = by (is_empty ask.columns) (is_empty ask.tests) refl e
    where
      by : (none tests : Bool) → is_empty ask.tests ≡ tests → not (none && tests) ≡ false → reply_work schema database top ask ≡ 0
      by true true is e = ap (λ b. if b then 0 else union_work (length (honest_rows schema database ask)) (rows_leading schema database top ask.table (λ row. is_some (row_replied row (honest_rows schema database ask))))) is
      by true false is e = absurd (cc (e))
      by false tests is e = absurd (cc (e))

  abbrev needed_of : List ℕ → List Ask
  needed_of tables = filter is_needed (map (ask_for schema asked) tables)

  asks_work : (tables : List ℕ) → sum_by (reply_work schema database top) (filter is_needed (map (ask_for schema asked) tables)) ≡ sum_by work_of tables
  asks_work [] = refl
  asks_work (table ∷ tables) = by (is_needed (ask_for schema asked table)) refl (asks_work tables)
    where
      by : (b : Bool) → is_needed (ask_for schema asked table) ≡ b → sum_by (reply_work schema database top) (needed_of tables) ≡ sum_by work_of tables
          → sum_by (reply_work schema database top) (if b then ask_for schema asked table ∷ needed_of tables else needed_of tables) ≡ sum_by work_of (table ∷ tables)
      by true e rest =
          let a = sum_by-cons (reply_work schema database top) (ask_for schema asked table) (needed_of tables) in
          let b = sum_by-cons work_of table tables in
          omega (arith, rest, a, b)
      by false e rest =
          let none = unneeded (ask_for schema asked table) e in
          let b = sum_by-cons work_of table tables in
          omega (arith, rest, none, b)

  -- a table that is compared has conditions in its ask
  clash : {b : Bool} → b ≡ true → b ≡ false → ⊥
  clash t f = cc

  shown_too : (table : ℕ) (one : Member) → (nat_eq one.field.table table && is_visible schema one.field.table one.field.column) ≡ true → is_shown schema table one ≡ true
  shown_too table one e =
      let both = both_true (nat_eq one.field.table table) (is_visible schema one.field.table one.field.column) e in
      let same : one.field.table ≡ table = eqb-true one.field.table table both.0 in
      ap₂ (λ a b. a && b) both.0 (ap (λ t. is_visible schema t one.field.column) (sym same) ∙ both.1)

  group_shown : (table : ℕ) (first : Member) (others : List Member) → compares_visible schema table (OneOf first others) ≡ true
      → each_of (is_shown schema table) first others ≡ true
  group_shown table first others e =
      true_of_each (is_shown schema table) first others
      (λ one among. shown_too table one (each_true (λ other. nat_eq other.field.table table && is_visible schema other.field.table other.field.column) one first others e among))

  has_first : (first : Member) (others : List Member) (later : List ColumnTest) → is_empty (map column_test (members_of_group first others) ++ later) ≡ false
  has_first first [] later = refl
  has_first first (next ∷ others) later = refl

  compared_tests : (table : ℕ) (conditions : List Condition) → list_any (compares_visible schema table) conditions ≡ true → is_empty (tests_of schema table conditions) ≡ false
  compared_tests table [] e = absurd (cc (e))
  compared_tests table (Join one other ∷ conditions) e = compared_tests table conditions e
  compared_tests table (OneOf first others ∷ conditions) e = by (each_of (is_shown schema table) first others) refl (compared_tests table conditions)
    where
      by : (b : Bool) → each_of (is_shown schema table) first others ≡ b → (list_any (compares_visible schema table) conditions ≡ true → is_empty (tests_of schema table conditions) ≡ false)
          → is_empty ((if b then map column_test (members_of_group first others) else []) ++ tests_of schema table conditions) ≡ false
      by true here rest = has_first first others (tests_of schema table conditions)
      by false fails rest =
          elim (either_true (compares_visible schema table (OneOf first others)) (list_any (compares_visible schema table) conditions) e) [
            | inl here ↦ absurd (clash (group_shown table first others here) fails)
            | inr later ↦ rest later
          ]

  place_stands : {X : Type 0} (at place : ℕ) (xs : List X) → place < length xs → Among (at + place) (places_from (λ (x : X). true) at xs)
  unfolding places_from
  place_stands at place [] low = absurd (omega (arith, low))
  place_stands at zero (x ∷ xs) low = inl (omega arith)
  place_stands at (suc place) (x ∷ xs) low =
      let moved : at + 1 + place ≡ at + suc place = omega arith in
      inr (subst (λ n. Among n (places_from (λ _. true) (at + 1) xs)) moved (place_stands (at + 1) place xs (omega (arith, low))))

  -- a compared table of FROM is asked
  pub asked_table : (table : ℕ) → Among table asked.from → table < length schema → Among table (filter (is_from asked) (places_of schema))
  asked_table table among low =
      among-filter (is_from asked) table (places_of schema) (subst (λ n. Among n (places_of schema)) (let e : 0 + table ≡ table = omega arith in e) (place_stands 0 table schema low)) (among_is table asked.from among)

  pub its_ask : (table : ℕ) → Among table asked.from → table < length schema → is_compared schema asked table ≡ true
      → Among (ask_for schema asked table) (asks_of schema asked) × (is_empty (ask_for schema asked table).tests ≡ false)
  its_ask table among low compared =
      let tests = compared_tests table asked.conditions compared in (
        among-filter is_needed (ask_for schema asked table) (map (ask_for schema asked) (filter (is_from asked) (places_of schema)))
            (among_map (ask_for schema asked) table (filter (is_from asked) (places_of schema)) (asked_table table among low))
            (ap (λ b. not (is_empty (ask_for schema asked table).columns && b)) tests ∙ not_both (is_empty (ask_for schema asked table).columns)),
        tests,
      )
    where
      not_both : (a : Bool) → not (a && false) ≡ true
      not_both true = refl
      not_both false = refl

  pub tables_work : (tables : List ℕ) → Distinct tables → ((table : ℕ) → Among table tables → Among table asked.from × (table < length schema))
      → sum_by work_of tables ≤ sum_by (reply_work schema database top) (asks_of schema asked)
  tables_work tables once each =
      let most = sum_within work_of tables (filter (is_from asked) (places_of schema)) once (λ table among. asked_table table (each table among).0 (each table among).1) in
      let same = asks_work (filter (is_from asked) (places_of schema)) in
      omega (arith, most, same)

pub conditions_work : (work : Condition → ℕ) (p : Condition → Bool) (conditions : List Condition) → sum_by work (filter p conditions) ≤ sum_by work conditions
conditions_work work p conditions = sum_of_some work p conditions

pub all_add_up : (terms conditions listed asks tables rows : ℕ) → terms ≤ listed + tables → listed ≤ conditions → tables ≤ asks → 64 + (terms + rows) ≤ 64 + (conditions + (asks + rows))
all_add_up terms conditions listed asks tables rows a b c = omega (arith, a, b, c)
