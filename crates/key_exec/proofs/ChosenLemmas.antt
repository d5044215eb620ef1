-- The slot of a column that the next step of work on a candidate needs is one whose value the query needs.
use Rattle.std.proofs.Common.{◌≡◌, ◌∙◌, inl, inr, ◌⊎◌, ℕ, ◌≤◌, Bool, true, false, not, ◌&&◌, ◌||◌, List, slice_get, filter, Option, Some, None, refl, sym, ap, ap₂, subst}
use Rattle.std.specs.Prelude.{⊤}
use Rattle.std.specs.List.{list_all, list_any}
use Rattle.ghost_model.specs.core.Channel.{Catalog}
use Rattle.ghost_model.specs.core.Schema.{Schema}
use Rattle.ghost_model.specs.core.Query.{Query, Condition, OneOf, Join}
use Rattle.ghost_model.specs.forms.Left.{is_left}
use Rattle.ghost_model.specs.forms.Layout.{count_of}
use Rattle.edge_traits.specs.Devices.{Device}
use Rattle.visible_spool.specs.declared.half.Half.{Half}
use Rattle.candidate_rows.specs.declared.plan.Hop.{Hop}
use Rattle.candidate_rows.specs.declared.plan.Source.{Source}
use Rattle.candidate_rows.specs.declared.plan.Source.TheVariants as source
use Rattle.candidate_rows.specs.declared.plan.Known.{Known}
use Rattle.candidate_rows.specs.declared.plan.Check.{Check}
use Rattle.candidate_rows.specs.declared.plan.Check.TheVariants.{Stands, Holds}
use Rattle.candidate_rows.specs.declared.plan.Test.{Test}
use Rattle.candidate_rows.specs.declared.plan.RowPlan.{RowPlan}
use Rattle.candidate_rows.specs.declared.plan.SubtreeFile.{SubtreeFile}
use Rattle.candidate_rows.specs.declared.next.Slot.{Slot}
use Rattle.candidate_rows.specs.declared.next.Next.{Next}
use Rattle.candidate_rows.specs.declared.next.Next.TheVariants as next
use Rattle.candidate_rows.specs.declared.work.RowWork.{RowWork}
use Rattle.candidate_rows.specs.Laws.{RecordsAreWanted, wants_below}
use Rattle.ghost_laws.specs.Asking.{is_asked, is_tested, is_gathered}
use Rattle.ghost_laws.proofs.AskingLemmas.{tested_is_either}
use Rattle.candidate_rows.specs.Plans.{columns_needed, conditions_tested, is_left_by, IsPlanOfCandidates, IsFile, IsSource, test_meets, check_meets}
use Rattle.flash_layout.specs.Ranges.{IsRowOf}
use Rattle.candidate_rows.specs.Working.{IsWorking, Need, NoNeed, OfSlot, OfRow, OfRecord, need_by, need_of, next_slot, next_look, next_record, record_of, spread_from, way_by, way_for, way_to, go_on, next_test, next_value, with_row, reached_at, source_slot, check_slot, check_look}
use Rattle.candidate_gathering.specs.known.Known.{is_at, is_left_of, is_member_of, needs_value, selects}
use Rattle.key_exec.specs.ReadFor.{compares}
use Rattle.key_exec.proofs.ReadForLemmas.{both, either, or_first, or_later, any_weaker, clash, unmet, all_true, known_at, needed_of}

-- ---- a column that is needed

member_of : (table column : ℕ) (condition : Condition) → compares (is_at table column) condition ≡ true → is_member_of table column condition ≡ true
member_of table column (OneOf first others) h = h
member_of table column (Join one other) h = h

-- a group that a plan for candidates leaves is left
left_by_is_left : (schema : Schema) (condition : Condition) → is_left_by schema true condition ≡ true → is_left schema condition ≡ true
left_by_is_left schema condition h =
    by (is_tested schema condition) (is_gathered schema condition) (is_left schema condition) (tested_is_either schema condition) h
  where
    by : (tested gathered left : Bool) → tested ≡ (gathered || left) → (tested && not gathered) ≡ true → left ≡ true
    by true false left e h = sym e
    by true true left e h = absurd (cc (h))
    by false gathered left e h = absurd (cc (h))

value_is_needed : (schema : Schema) (asked : Query) (sifted : Bool) → sifted ≡ true → (table column : ℕ) → list_any (is_at table column) (columns_needed schema asked sifted) ≡ true
    → needs_value schema asked table column ≡ true
value_is_needed schema asked false is table column h = absurd (cc (is))
value_is_needed schema asked true is table column h =
    by (either (list_any (is_at table column) asked.select) (list_any (λ c. is_left_by schema true c && compares (is_at table column) c) asked.conditions)
    (needed_of schema asked true (is_at table column) h))
  where
    by : (list_any (is_at table column) asked.select ≡ true) ⊎ (list_any (λ c. is_left_by schema true c && compares (is_at table column) c) asked.conditions ≡ true)
        → needs_value schema asked table column ≡ true
    by (inl here) = or_first (selects asked table column) (list_any (is_left_of schema table column) asked.conditions) here
    by (inr behind) =
        or_later (selects asked table column) (list_any (is_left_of schema table column) asked.conditions)
        (any_weaker (λ c. is_left_by schema true c && compares (is_at table column) c) (is_left_of schema table column)
        (λ c g. let it = both (is_left_by schema true c) (compares (is_at table column) c) g in
        ap₂ (λ a b. a && b) (left_by_is_left schema c it.0) (member_of table column c it.1)) asked.conditions behind)

-- the slot of a row in the file of a column whose value is needed
pub record IsNeededSlot (cat : Catalog) (asked : Query) (slot : Slot) : Type 0 where
  pub table : ℕ
  pub column : ℕ
  pub needed : needs_value cat.schema asked table column ≡ true
  pub file : IsFile cat table column slot.file
  pub some : 1 ≤ slot.identifier
  pub within : slot.identifier ≤ count_of cat table

abbrev pub IsChosen : Catalog → Query → (top : ℕ) → Need → Type 0
IsChosen cat asked top NoNeed = ⊤
IsChosen cat asked top (OfSlot slot) = IsNeededSlot cat asked slot
IsChosen cat asked top (OfRow look) = ⊤
IsChosen cat asked top (OfRecord file identifier) = wants_below cat.schema asked top ≡ true

module _ (wanted : RecordsAreWanted) (cat : Catalog) (asked : Query) (device : Device) (half : Half) (plan : RowPlan) (work : RowWork) (plan_is : IsPlanOfCandidates cat asked plan)
    (w : IsWorking cat asked device half plan work) where
  abbrev IsChosenNext : Next → Type 0
  IsChosenNext n = IsChosen cat asked plan.top (need_by (next_slot n) (next_look n) (next_record plan.keys n))

  -- ---- the way to a table

  any_record : (keys : Option SubtreeFile) (identifier : ℕ) → plan.keys ≡ keys → IsChosen cat asked plan.top (record_of keys identifier)
  any_record None identifier is = tt
  any_record (Some file) identifier is = wanted cat asked plan file plan_is is

  any_spread : (is_below : Bool) (row : Option ℕ) → IsChosenNext (spread_from is_below row)
  any_spread false row = tt
  any_spread true None = tt
  any_spread true (Some identifier) = any_record plan.keys identifier refl

  any_way : (table : ℕ) (keys : Option SubtreeFile) → IsChosenNext (way_by plan work table keys)
  any_way table None = subst (λ (hops : List (Option Hop)). IsChosenNext (go_on (way_to hops work.reached 12 table))) (sym plan_is.no_hops) tt
  any_way table (Some file) = any_spread _ (reached_at work plan.top)

  -- ---- tests

  -- a plan for candidates has no test of a condition
  tests_are : (stands : ℕ → Bool) (holds : Condition → Bool)
      → list_all (test_meets stands holds) plan.tests.items ≡ (list_all stands (filter (is_asked cat.schema asked) asked.from) && true)
  tests_are stands holds =
      plan_is.is.tests stands holds
      ∙ ap (λ (sifted : Bool). list_all stands (filter (is_asked cat.schema asked) asked.from) && list_all holds (conditions_tested cat.schema asked sifted)) plan_is.is_sifted

  never_tested : (test : Test) → slice_get plan.tests.items work.at ≡ Some test → test_meets (λ _. true) (λ _. false) test ≡ false → ⊥
  never_tested test there misses =
      clash
      (tests_are (λ _. true) (λ _. false) ∙ ap (λ (b : Bool). b && true) (all_true (filter (is_asked cat.schema asked) asked.from)))
      (unmet (test_meets (λ _. true) (λ _. false)) plan.tests.items work.at test there misses)

  at_test : (test : Test) → slice_get plan.tests.items work.at ≡ Some test → (row : Option ℕ)
      → IsChosenNext (with_row row (next.Try test) (way_for plan work test.known.field.table))
  at_test test there None = any_way test.known.field.table plan.keys
  at_test test there (Some identifier) = by test.check refl
    where
      by : (check : Check) → test.check ≡ check
          → IsChosen cat asked plan.top (need_by (check_slot check test.known.source identifier) (check_look check test.known.field.table identifier) NoNeed)
      by (Stands number) is = tt
      by (Holds wanted) is = absurd (never_tested test there (ap (check_meets (λ _. true) (λ _. false) test.known.field) is))

  -- ---- columns whose values are needed

  from_source : (table column identifier : ℕ) (from : Source) → IsSource cat table column from → IsRowOf cat table identifier → needs_value cat.schema asked table column ≡ true
      → IsChosen cat asked plan.top (need_by (source_slot from identifier) None NoNeed)
  from_source table column identifier source.Absent is row needed = tt
  from_source table column identifier source.Identifier is row needed = tt
  from_source table column identifier source.Reply is row needed = tt
  from_source table column identifier (source.File file number) is row needed =
      record { table = table; column = column; needed = needed; file = is; some = row.some; within = row.within }

  at_value : (known : Known) → slice_get plan.columns.items work.put ≡ Some known → (row : Option ℕ) → reached_at work known.field.table ≡ row
      → IsChosenNext (with_row row (next.Put known) (way_for plan work known.field.table))
  at_value known there None reached = any_way known.field.table plan.keys
  at_value known there (Some identifier) reached =
      let is = known_at cat (columns_needed cat.schema asked plan.sifted) plan.columns.items work.put known plan_is.is.columns there in
      from_source known.field.table known.field.column identifier known.source is.0 (w.rows known.field.table identifier reached)
      (value_is_needed cat.schema asked plan.sifted plan_is.is_sifted known.field.table known.field.column is.1)

  any_value : (found : Option Known) → slice_get plan.columns.items work.put ≡ found → IsChosenNext (next_value plan work found)
  any_value None is = tt
  any_value (Some known) is = at_value known is (reached_at work known.field.table) refl

  any_test : (found : Option Test) → slice_get plan.tests.items work.at ≡ found → IsChosenNext (next_test plan work found)
  any_test None is = any_value (slice_get plan.columns.items work.put) refl
  any_test (Some test) is = at_test test is (reached_at work test.known.field.table)

  pub need_is_chosen : IsChosen cat asked plan.top (need_of plan work)
  need_is_chosen = any_test (slice_get plan.tests.items work.at) refl
