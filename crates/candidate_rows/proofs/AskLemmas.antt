-- A table about which there is a reply is one that is asked for.
use Rattle.std.proofs.Common.{◌≡◌, ◌⊎◌, ◌∙◌, ℕ, zero, suc, ◌+◌, ◌<◌, inl, inr, Bool, true, false, not, ◌&&◌, ◌||◌, nat_eq, nat_lt, List, [], ◌∷◌, ◌++◌, length, slice_get, map, filter, flat_map, Option, Some, None, is_some, if◌then◌else◌, sym, subst, refl, ap, ap₂, arith}
use Rattle.std.specs.List.{list_any}
use Rattle.std.proofs.lemmas.Bool.{eqb-true}
use Rattle.std.proofs.lemmas.Bool.Decides.{nat_tests}
use Rattle.ghost_model.specs.core.Schema.{Schema, Column, columns_of, column_at, is_shown, is_visible, is_empty, places_from, places_of}
use Rattle.ghost_model.specs.core.Channel.{Ask, ColumnTest}
use Rattle.ghost_model.specs.core.Query.{Query, Field, Member, members_of_group, Condition, OneOf, Join}
use Rattle.ghost_model.specs.core.Groups.{each_of, some_of}
use Rattle.ghost_model.specs.core.Asks as asks
use Rattle.ghost_model.specs.core.Asks.{ask_for, asks_of, is_needed, is_wanted, is_column, is_mixed, names_column, column_test, test_of}
use Rattle.ghost_model.specs.laws.ShortWords.{is_from}
use Rattle.ghost_model.specs.core.Replies.{Reply, reply_about}
use Rattle.ghost_model.proofs.MeaningLemmas.OneRow.{Among, among-filter, from_filter, from_map, in_table, both_true, neither_true}
use Rattle.ghost_model.proofs.MeaningLemmas.Leading.{place_within}
use Rattle.ghost_model.proofs.SessionLemmas.Members.{some_true, some_agree}
use Rattle.ghost_laws.specs.Asking.{is_asked, is_shown_of, is_compared_of}
use Rattle.candidate_rows.specs.CostLaws.{is_visible_group}
use Rattle.candidate_rows.specs.Laws.{WholeRepliesAreOfAsked, WholeRepliesAreAll, WholeRepliesAreToAsks}

none_of : {X : Type 0} (p : X → Bool) (xs : List X) → ((x : X) → p x ≡ false) → filter p xs ≡ []
none_of p [] none = refl
none_of p (x ∷ xs) none = ap (λ b. if b then x ∷ filter p xs else filter p xs) (none x) ∙ none_of p xs none

clash : {b : Bool} → b ≡ true → b ≡ false → ⊥
clash t f = cc

-- a column of the table that is wanted is shown
unwanted : (schema : Schema) (select : List Field) (table column : ℕ) → list_any (is_shown_of schema table) select ≡ false
    → is_visible schema table column ≡ true → list_any (is_column table column) select ≡ false
unwanted schema [] table column none shown = refl
unwanted schema (field ∷ select) table column none shown =
    let both = neither_true (is_shown_of schema table field) (list_any (is_shown_of schema table) select) none in
    ap₂ (λ a b. a || b) (by (nat_eq field.table table) (nat_eq field.column column) refl refl both.0) (unwanted schema select table column both.1 shown)
  where
    by : (a b : Bool) → nat_eq field.table table ≡ a → nat_eq field.column column ≡ b → (nat_eq field.table table && is_visible schema field.table field.column) ≡ false
        → (nat_eq field.table table && nat_eq field.column column) ≡ false
    by false b e f h = ap (λ c. c && nat_eq field.column column) e
    by true false e f h = ap₂ (λ c d. c && d) e f
    by true true e f h =
        absurd (clash (ap₂ (λ c d. c && d) e (ap₂ (is_visible schema) (eqb-true field.table table e) (eqb-true field.column column f) ∙ shown)) h)

-- a member is shown where its column is
shown_same : (schema : Schema) (table : ℕ) (one : Member) → asks.is_shown schema table one ≡ is_shown_of schema table one.field
shown_same schema table one = by (nat_eq one.field.table table) refl
  where
    by : (b : Bool) → nat_eq one.field.table table ≡ b
        → (nat_eq one.field.table table && is_visible schema table one.field.column) ≡ (nat_eq one.field.table table && is_visible schema one.field.table one.field.column)
    by true e = ap (λ t. nat_eq one.field.table table && is_visible schema t one.field.column) (sym (eqb-true one.field.table table e))
    by false e =
        ap (λ c. c && is_visible schema table one.field.column) e ∙ sym (ap (λ c. c && is_visible schema one.field.table one.field.column) e)

some_shown : (schema : Schema) (table : ℕ) (first : Member) (others : List Member)
    → some_of (asks.is_shown schema table) first others ≡ is_compared_of schema table (OneOf first others)
some_shown schema table first others =
    some_agree (asks.is_shown schema table) (λ one. is_shown_of schema table one.field) first others (λ one among. shown_same schema table one)

none_mixed : (schema : Schema) (table : ℕ) (condition : Condition) → is_compared_of schema table condition ≡ false → is_mixed schema table condition ≡ false
none_mixed schema table (OneOf first others) none =
    ap (λ b. b && not (each_of (asks.is_shown schema table) first others)) (some_shown schema table first others ∙ none)
none_mixed schema table (Join one other) none = refl

no_mixed : (schema : Schema) (conditions : List Condition) (table column : ℕ) → list_any (is_compared_of schema table) conditions ≡ false
    → list_any (λ condition. is_mixed schema table condition && names_column table column condition) conditions ≡ false
no_mixed schema [] table column none = refl
no_mixed schema (condition ∷ conditions) table column none =
    let both = neither_true (is_compared_of schema table condition) (list_any (is_compared_of schema table) conditions) none in
    ap₂ (λ a b. (a && names_column table column condition) || b) (none_mixed schema table condition both.0) (no_mixed schema conditions table column both.1)

no_columns : (schema : Schema) (asked : Query) (table : ℕ) → list_any (is_shown_of schema table) asked.select ≡ false
    → list_any (is_compared_of schema table) asked.conditions ≡ false → (column : ℕ) → is_wanted schema asked table column ≡ false
no_columns schema asked table none uncompared column = by (is_visible schema table column) refl
  where
    by : (b : Bool) → is_visible schema table column ≡ b → is_wanted schema asked table column ≡ false
    by false e =
        ap (λ c. c && (list_any (is_column table column) asked.select
        || list_any (λ condition. is_mixed schema table condition && names_column table column condition) asked.conditions)) e
    by true e =
        ap₂ (λ c d. c && d) e
        (ap₂ (λ c d. c || d) (unwanted schema asked.select table column none e) (no_mixed schema asked.conditions table column uncompared))

-- a table of which no visible column stands in a group has no visible group
none_each : {X : Type 0} (p : X → Bool) (first : X) (others : List X) → some_of p first others ≡ false → each_of p first others ≡ false
none_each p first [] none = none
none_each p first (next ∷ others) none =
    ap (λ b. b && each_of p next others) (neither_true (p first) (some_of p next others) none).0

no_group : (schema : Schema) (condition : Condition) (table : ℕ) → is_compared_of schema table condition ≡ false → is_visible_group schema table condition ≡ false
no_group schema (OneOf first others) table none = none_each (λ (one : Member). is_shown_of schema table one.field) first others none
no_group schema (Join one other) table none = refl

no_groups : (schema : Schema) (conditions : List Condition) (table : ℕ) → list_any (is_compared_of schema table) conditions ≡ false
    → list_any (is_visible_group schema table) conditions ≡ false
no_groups schema [] table none = refl
no_groups schema (condition ∷ conditions) table none =
    let both = neither_true (is_compared_of schema table condition) (list_any (is_compared_of schema table) conditions) none in
    ap₂ (λ a b. a || b) (no_group schema condition table both.0) (no_groups schema conditions table both.1)

-- a table without a visible group has no tests in its ask
no_test : (schema : Schema) (condition : Condition) (table : ℕ) → is_visible_group schema table condition ≡ false → test_of schema table condition ≡ []
no_test schema (OneOf first others) table none =
    ap (λ b. if b then map column_test (members_of_group first others) else [])
    (ap (λ (p : Member → Bool). each_of p first others) (λ i one. shown_same schema table one i) ∙ none)
no_test schema (Join one other) table none = refl

pub no_tests : (schema : Schema) (conditions : List Condition) (table : ℕ) → list_any (is_visible_group schema table) conditions ≡ false
    → flat_map (test_of schema table) conditions ≡ []
no_tests schema [] table none = refl
no_tests schema (condition ∷ conditions) table none =
    let both = neither_true (is_visible_group schema table condition) (list_any (is_visible_group schema table) conditions) none in
    ap₂ (λ xs ys. xs ++ ys) (no_test schema condition table both.0) (no_tests schema conditions table both.1)

unneeded : (schema : Schema) (asked : Query) (table : ℕ) → is_asked schema asked table ≡ false → is_needed (ask_for schema asked table) ≡ false
unneeded schema asked table none =
    let both = neither_true (list_any (is_shown_of schema table) asked.select) (list_any (is_compared_of schema table) asked.conditions) none in
    ap₂ (λ columns tests. not (is_empty columns && is_empty tests))
    (none_of (is_wanted schema asked table) (places_of (columns_of schema table)) (no_columns schema asked table both.0 both.1))
    (no_tests schema asked.conditions table (no_groups schema asked.conditions table both.1))

pub asked_by : (schema : Schema) (asked : Query) (ask : Ask) → Among ask (asks_of schema asked) → is_asked schema asked ask.table ≡ true
asked_by schema asked ask among =
    let needed = from_filter is_needed ask (map (ask_for schema asked) (filter (is_from asked) (places_of schema))) among in
    let made = from_map (ask_for schema asked) ask (filter (is_from asked) (places_of schema)) needed.0 in
    let table_is : made.0 ≡ ask.table = ap (λ (a : Ask). a.table) made.2 in
    by (is_asked schema asked ask.table) refl (ap (λ t. is_needed (ask_for schema asked t)) (sym table_is) ∙ ap is_needed made.2 ∙ needed.1)
  where
    by : (b : Bool) → is_asked schema asked ask.table ≡ b → is_needed (ask_for schema asked ask.table) ≡ true → b ≡ true
    by true e h = refl
    by false e h = absurd (clash h (unneeded schema asked ask.table e))

pub none_about : (given : List Reply) (table : ℕ) → ((reply : Reply) → Among reply given → nat_eq reply.ask.table table ≡ false) → reply_about table given ≡ None
none_about [] table none = refl
none_about (reply ∷ later) table none =
    ap (λ b. if b then Some reply else reply_about table later) (none reply (inl refl))
    ∙ none_about later table (λ other among. none other (inr among))

pub mapped : (given : List Reply) (reply : Reply) → Among reply given → Among reply.ask (map (λ (r : Reply). r.ask) given)
mapped [] reply among = among
mapped (first ∷ later) reply (inl same) = inl (ap (λ (r : Reply). r.ask) same)
mapped (first ∷ later) reply (inr among) = inr (mapped later reply among)

pub replies_are : WholeRepliesAreOfAsked
replies_are schema asked given whole table none = none_about given table (λ reply among. by reply among (nat_eq reply.ask.table table) refl)
  where
    by : (reply : Reply) → Among reply given → (b : Bool) → nat_eq reply.ask.table table ≡ b → b ≡ false
    by reply among false e = refl
    by reply among true e =
        let is = asked_by schema asked reply.ask (subst (λ asks. Among reply.ask asks) whole.asks (mapped given reply among)) in
        absurd (clash (ap (is_asked schema asked) (sym (eqb-true reply.ask.table table e)) ∙ is) none)

-- ---- there is one for each asked table of FROM

place_stands : {X : Type 0} (at place : ℕ) (xs : List X) → place < length xs → Among (at + place) (places_from (λ (x : X). true) at xs)
unfolding places_from
place_stands at place [] h = absurd (omega (arith, h))
place_stands at zero (x ∷ xs) h = inl (let e : at ≡ at + 0 = omega arith in e)
place_stands at (suc place) (x ∷ xs) h =
    let e : at + 1 + place ≡ at + suc place = omega arith in
    inr (subst (λ n. Among n (places_from (λ _. true) (at + 1) xs)) e (place_stands (at + 1) place xs (omega (arith, h))))

pub stands_first : {X : Type 0} (place : ℕ) (xs : List X) → place < length xs → Among place (places_of xs)
stands_first place xs h =
    let e : 0 + place ≡ place = omega arith in
    subst (λ n. Among n (places_of xs)) e (place_stands 0 place xs h)

-- a column that is asked of a table is one of it
abbrev HasShown : Schema → List Field → (table : ℕ) → Type 0
HasShown schema select table = (column : ℕ) × (is_visible schema table column ≡ true) × (list_any (is_column table column) select ≡ true)

same_number : (n : ℕ) → nat_eq n n ≡ true
same_number n = grind (arith, nat_tests)

one_of_both : (b : Bool) → (b || true) ≡ true
one_of_both true = refl
one_of_both false = refl

shown_later : (schema : Schema) (field : Field) (select : List Field) (table : ℕ) → HasShown schema select table → HasShown schema (field ∷ select) table
shown_later schema field select table rest = (rest.0, rest.1, ap (λ b. is_column table rest.0 field || b) rest.2 ∙ one_of_both (is_column table rest.0 field))

shown_by : (schema : Schema) (field : Field) (select : List Field) (table : ℕ) (a b : Bool) → nat_eq field.table table ≡ a → is_visible schema field.table field.column ≡ b
    → (list_any (is_shown_of schema table) select ≡ true → HasShown schema select table)
    → ((nat_eq field.table table && is_visible schema field.table field.column) || list_any (is_shown_of schema table) select) ≡ true
    → HasShown schema (field ∷ select) table
shown_by schema field select table true true p v rest h = (
  field.column,
  ap (λ t. is_visible schema t field.column) (sym (eqb-true field.table table p)) ∙ v,
  ap (λ b. b || list_any (is_column table field.column) select) (ap₂ (λ c d. c && d) p (same_number field.column)),
)
shown_by schema field select table true false p v rest h =
    shown_later schema field select table (rest (sym (ap₂ (λ c d. (c && d) || list_any (is_shown_of schema table) select) p v) ∙ h))
shown_by schema field select table false b p v rest h =
    shown_later schema field select table
    (rest (sym (ap (λ c. (c && is_visible schema field.table field.column) || list_any (is_shown_of schema table) select) p) ∙ h))

shown_there : (schema : Schema) (select : List Field) (table : ℕ) → list_any (is_shown_of schema table) select ≡ true → HasShown schema select table
shown_there schema [] table e = absurd (cc (e))
shown_there schema (field ∷ select) table e =
    shown_by schema field select table (nat_eq field.table table) (is_visible schema field.table field.column) refl refl (λ h. shown_there schema select table h) e

column_there : (schema : Schema) (table column : ℕ) → is_visible schema table column ≡ true → (declared : Column) × (column_at schema table column ≡ Some declared)
column_there schema table column e = by (column_at schema table column) refl (both_true (nat_lt 0 column) (is_shown (column_at schema table column)) e).1
  where
    by : (found : Option Column) → column_at schema table column ≡ found → is_shown found ≡ true → (declared : Column) × (column_at schema table column ≡ Some declared)
    by None e h = absurd (cc (h))
    by (Some declared) e h = (declared, e)

table_there : (schema : Schema) (table column : ℕ) → is_visible schema table column ≡ true → table < length schema
table_there schema table column e =
    let declared = column_there schema table column e in
    let held = in_table (slice_get schema table) column declared.0 declared.1 in
    place_within schema table held.0 held.1

-- A group with a visible column of the table gives the ask tests, or a column where the group is mixed.
abbrev Gives : Schema → (table column : ℕ) → List ColumnTest → (mixed : Bool) → Type 0
Gives schema table column tests mixed = (is_visible schema table column ≡ true) × ((is_empty tests ≡ false) ⊎ (mixed ≡ true))

abbrev takes_column : Schema → (table column : ℕ) → Condition → Bool
takes_column schema table column condition = is_mixed schema table condition && names_column table column condition

abbrev HasCompared : Schema → List Condition → (table : ℕ) → Type 0
HasCompared schema conditions table =
    (column : ℕ) × Gives schema table column (flat_map (test_of schema table) conditions) (list_any (takes_column schema table column) conditions)

some_before : (xs ys : List ColumnTest) → is_empty xs ≡ false → is_empty (xs ++ ys) ≡ false
some_before [] ys h = absurd (cc (h))
some_before (x ∷ xs) ys h = refl

some_behind : (xs ys : List ColumnTest) → is_empty ys ≡ false → is_empty (xs ++ ys) ≡ false
some_behind [] ys h = h
some_behind (x ∷ xs) ys h = refl

gives_before : (schema : Schema) (table column : ℕ) (condition : Condition) (conditions : List Condition)
    → Gives schema table column (test_of schema table condition) (takes_column schema table column condition) → HasCompared schema (condition ∷ conditions) table
gives_before schema table column condition conditions (visible, inl tests) =
    (column, (visible, inl (some_before (test_of schema table condition) (flat_map (test_of schema table) conditions) tests)))
gives_before schema table column condition conditions (visible, inr mixed) =
    (column, (visible, inr (ap (λ b. b || list_any (takes_column schema table column) conditions) mixed)))

compared_later : (schema : Schema) (condition : Condition) (conditions : List Condition) (table : ℕ) → HasCompared schema conditions table → HasCompared schema (condition ∷ conditions) table
compared_later schema condition conditions table (column, (visible, inl tests)) =
    (column, (visible, inl (some_behind (test_of schema table condition) (flat_map (test_of schema table) conditions) tests)))
compared_later schema condition conditions table (column, (visible, inr mixed)) =
    (column, (visible, inr (ap (λ b. takes_column schema table column condition || b) mixed ∙ one_of_both (takes_column schema table column condition))))

-- one of a group's members that passes
abbrev Passing : {X : Type 0} → (X → Bool) → (first : X) → (others : List X) → Type 0
Passing {X = X} p first others = (one : X) × Among one (first ∷ others) × (p one ≡ true)

passing : {X : Type 0} (p : X → Bool) (first : X) (others : List X) → some_of p first others ≡ true → Passing p first others
passing p first [] e = (first, inl refl, e)
passing p first (next ∷ others) e = by (p first) refl (λ h. passing p next others h) e
  where
    by : (b : Bool) → p first ≡ b → (some_of p next others ≡ true → Passing p next others) → (b || some_of p next others) ≡ true → Passing p first (next ∷ others)
    by true h rest some = (first, inl refl, h)
    by false h rest some = let later = rest some in (later.0, inr later.1, later.2)

some_member : (first : Member) (others : List Member) → is_empty (map column_test (members_of_group first others)) ≡ false
some_member first [] = refl
some_member first (next ∷ others) = refl

group_gives : (schema : Schema) (first : Member) (others : List Member) (table : ℕ) → is_compared_of schema table (OneOf first others) ≡ true
    → (column : ℕ) × Gives schema table column (test_of schema table (OneOf first others)) (takes_column schema table column (OneOf first others))
group_gives schema first others table e =
    let some = some_shown schema table first others ∙ e in
    let found = passing (asks.is_shown schema table) first others some in
    let here = both_true (nat_eq found.0.field.table table) (is_visible schema table found.0.field.column) found.2 in
    (found.0.field.column, (here.1, by found.0 found.1 here.0 some (each_of (asks.is_shown schema table) first others) refl))
  where
    by : (one : Member) → Among one (first ∷ others) → nat_eq one.field.table table ≡ true → some_of (asks.is_shown schema table) first others ≡ true
        → (b : Bool) → each_of (asks.is_shown schema table) first others ≡ b
        → (is_empty (if b then map column_test (members_of_group first others) else []) ≡ false)
        ⊎ ((some_of (asks.is_shown schema table) first others && not b && names_column table one.field.column (OneOf first others)) ≡ true)
    by one among at some true each = inl (some_member first others)
    by one among at some false each =
        inr (ap₂ (λ a b. a && true && b) some
        (some_true (λ other. is_column table one.field.column other.field) one first others among (ap₂ (λ a b. a && b) at (same_number one.field.column))))

condition_gives : (schema : Schema) (condition : Condition) (table : ℕ) → is_compared_of schema table condition ≡ true
    → (column : ℕ) × Gives schema table column (test_of schema table condition) (takes_column schema table column condition)
condition_gives schema (OneOf first others) table e = group_gives schema first others table e
condition_gives schema (Join one other) table e = absurd (cc (e))

compared_there : (schema : Schema) (conditions : List Condition) (table : ℕ) → list_any (is_compared_of schema table) conditions ≡ true → HasCompared schema conditions table
compared_there schema [] table e = absurd (cc (e))
compared_there schema (condition ∷ conditions) table e = by (is_compared_of schema table condition) refl (λ h. compared_there schema conditions table h) e
  where
    by : (b : Bool) → is_compared_of schema table condition ≡ b → (list_any (is_compared_of schema table) conditions ≡ true → HasCompared schema conditions table)
        → (b || list_any (is_compared_of schema table) conditions) ≡ true → HasCompared schema (condition ∷ conditions) table
    by true h rest some =
        let here = condition_gives schema condition table h in
        gives_before schema table here.0 condition conditions here.1
    by false h rest some = compared_later schema condition conditions table (rest some)

record IsNeeded (schema : Schema) (asked : Query) (table : ℕ) : Type 0 where
  there : table < length schema
  needed : is_needed (ask_for schema asked table) ≡ true

some_column : (column : ℕ) (columns : List ℕ) (b : Bool) → Among column columns → not (is_empty columns && b) ≡ true
some_column column [] b h = absurd h
some_column column (x ∷ xs) b h = refl

some_test : (b c : Bool) → c ≡ false → not (b && c) ≡ true
some_test true c e = ap not e
some_test false c e = refl

-- a column that is selected or stands in a mixed group
column_needed : (schema : Schema) (asked : Query) (table column : ℕ) → is_visible schema table column ≡ true
    → (list_any (is_column table column) asked.select || list_any (takes_column schema table column) asked.conditions) ≡ true
    → is_needed (ask_for schema asked table) ≡ true
column_needed schema asked table column visible wanted =
    let declared = column_there schema table column visible in
    some_column column (ask_for schema asked table).columns (is_empty (ask_for schema asked table).tests)
    (among-filter (is_wanted schema asked table) column (places_of (columns_of schema table))
    (stands_first column (columns_of schema table) (place_within (columns_of schema table) column declared.0 declared.1))
    (ap₂ (λ a b. a && b) visible wanted))

given_needed : (schema : Schema) (asked : Query) (table column : ℕ)
    → Gives schema table column (ask_for schema asked table).tests (list_any (takes_column schema table column) asked.conditions)
    → is_needed (ask_for schema asked table) ≡ true
given_needed schema asked table column (visible, inl tests) =
    some_test (is_empty (ask_for schema asked table).columns) (is_empty (ask_for schema asked table).tests) tests
given_needed schema asked table column (visible, inr mixed) =
    column_needed schema asked table column visible
    (ap (λ b. list_any (is_column table column) asked.select || b) mixed ∙ one_of_both (list_any (is_column table column) asked.select))

asked_needed : (schema : Schema) (asked : Query) (table : ℕ) → is_asked schema asked table ≡ true → IsNeeded schema asked table
asked_needed schema asked table e = by (list_any (is_shown_of schema table) asked.select) refl e
  where
    by : (b : Bool) → list_any (is_shown_of schema table) asked.select ≡ b → (b || list_any (is_compared_of schema table) asked.conditions) ≡ true → IsNeeded schema asked table
    by true s h =
        let found = shown_there schema asked.select table s in
        record {
          there = table_there schema table found.0 found.1;
          needed =
              column_needed schema asked table found.0 found.1
              (ap (λ b. b || list_any (takes_column schema table found.0) asked.conditions) found.2);
        }
    by false s h =
        let found = compared_there schema asked.conditions table h in
        record { there = table_there schema table found.0 found.1.0; needed = given_needed schema asked table found.0 found.1 }

to_map : {X Y : Type 0} (f : X → Y) (x : X) (xs : List X) → Among x xs → Among (f x) (map f xs)
to_map f x [] h = absurd h
to_map f x (y ∷ xs) (inl same) = inl (ap f same)
to_map f x (y ∷ xs) (inr later) = inr (to_map f x xs later)

pub ask_stands : (schema : Schema) (asked : Query) (table : ℕ) → is_from asked table ≡ true → is_asked schema asked table ≡ true
    → Among (ask_for schema asked table) (asks_of schema asked)
ask_stands schema asked table from is =
    let needed = asked_needed schema asked table is in
    among-filter is_needed (ask_for schema asked table) (map (ask_for schema asked) (filter (is_from asked) (places_of schema)))
    (to_map (ask_for schema asked) table (filter (is_from asked) (places_of schema))
    (among-filter (is_from asked) table (places_of schema) (stands_first table schema needed.there) from))
    needed.needed

found_by : (target : Ask) (reply : Reply) (later : List Reply) (b : Bool) → nat_eq reply.ask.table target.table ≡ b
    → (Among target (map (λ (reply : Reply). reply.ask) later) → is_some (reply_about target.table later) ≡ true)
    → Among target (map (λ (reply : Reply). reply.ask) (reply ∷ later))
    → is_some (if b then Some reply else reply_about target.table later) ≡ true
found_by target reply later true e rest a = refl
found_by target reply later false e rest (inl same) =
    absurd (clash (ap (λ (one : Ask). nat_eq one.table target.table) same ∙ same_number target.table) e)
found_by target reply later false e rest (inr more) = rest more

reply_found : (target : Ask) (given : List Reply) → Among target (map (λ (reply : Reply). reply.ask) given) → is_some (reply_about target.table given) ≡ true
reply_found target [] h = absurd h
reply_found target (reply ∷ later) h =
    found_by target reply later (nat_eq reply.ask.table target.table) refl (λ a. reply_found target later a) h

pub replies_are_all : WholeRepliesAreAll
replies_are_all schema asked given whole table from is =
    reply_found (ask_for schema asked table) given (subst (λ asks. Among (ask_for schema asked table) asks) (sym whole.asks) (ask_stands schema asked table from is))

-- and it is to the ask for its table
record IsAbout (table : ℕ) (given : List Reply) (reply : Reply) : Type 0 where
  among : Among reply given
  of : reply.ask.table ≡ table

some_reply : {a b : Reply} → Some a ≡ Some b → a ≡ b
some_reply h = cc

about_by : (table : ℕ) (first : Reply) (later : List Reply) (reply : Reply) (b : Bool) → nat_eq first.ask.table table ≡ b
    → (reply_about table later ≡ Some reply → IsAbout table later reply) → (if b then Some first else reply_about table later) ≡ Some reply
    → IsAbout table (first ∷ later) reply
about_by table first later reply true e rest h =
    let same : first ≡ reply = some_reply h in
    record { among = inl same; of = ap (λ (r : Reply). r.ask.table) (sym same) ∙ eqb-true first.ask.table table e }
about_by table first later reply false e rest h = let it = rest h in record { among = inr it.among; of = it.of }

about : (table : ℕ) (given : List Reply) (reply : Reply) → reply_about table given ≡ Some reply → IsAbout table given reply
about table [] reply e = absurd (cc (e))
about table (first ∷ later) reply e =
    about_by table first later reply (nat_eq first.ask.table table) refl (λ h. about table later reply h) e

pub replies_are_to_asks : WholeRepliesAreToAsks
replies_are_to_asks schema asked given whole table reply e =
    let is = about table given reply e in
    let ask = subst (λ asks. Among reply.ask asks) whole.asks (mapped given reply is.among) in
    let needed = from_filter is_needed reply.ask (map (ask_for schema asked) (filter (is_from asked) (places_of schema))) ask in
    let made = from_map (ask_for schema asked) reply.ask (filter (is_from asked) (places_of schema)) needed.0 in
    let at : made.0 ≡ table = ap (λ (one : Ask). one.table) made.2 ∙ is.of in
    sym made.2 ∙ ap (ask_for schema asked) at
