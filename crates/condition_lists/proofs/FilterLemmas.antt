-- In an accepted query each group whose rows the indexes have is a term or holds of all rows, and so is each reply to an ask with conditions.
use Rattle.std.proofs.Common.{◌≡◌, ◌∙◌, refl, ap, ap₂, sym, ℕ, zero, suc, ◌<◌, inl, inr, Bool, true, false, ◌&&◌, nat_eq, nat_lt, List, [], ◌∷◌, ◌++◌, length, get_or, filter, flat_map, slice_get, Option, Some, None, if◌then◌else◌, arith}
use Rattle.std.specs.Prelude.{◌||◌, ◌⊎◌, not, cond, position, is_some}
use Rattle.std.specs.List.{list_all, list_any, position_or_len}
use Rattle.std.specs.Option.{option_map_or}
use Rattle.std.proofs.lemmas.Bool.{cases_lt, eqb-true, lt-ltb}
use Rattle.std.proofs.lemmas.Bool.Decides.{nat_tests}
use Rattle.std.proofs.lemmas.List.Sums.{fails_before_first}
use Rattle.std.proofs.lemmas.Option.{slice_get-get_or, slice_get_within}
use Rattle.ghost_model.specs.core.Schema.{Schema, Column, plain_of, column_at, is_nullable, is_shown, is_visible, parent, first_of, IsAtOrBelow}
use Rattle.ghost_model.specs.core.Query.{Query, Field, Test, Compared, IsNull, IsNotNull, Member, Condition, OneOf, Join, tested, is_among, top_of}
use Rattle.ghost_model.specs.core.Database.{is_of_kind}
use Rattle.ghost_model.specs.core.Asks.{kind_at, kind_or_none}
use Rattle.ghost_model.specs.forms.Layout.{is_hidden, levels_of}
use Rattle.ghost_model.specs.laws.LayoutLaws.{LevelsAreAncestors}
use Rattle.ghost_model.specs.laws.QueryLaws.{OneReading}
use Rattle.ghost_model.specs.laws.SchemaTrees.{IsTree}
use Rattle.ghost_model.proofs.MeaningLemmas.OneRow.{Among, among_is, both_true, either_true}
use Rattle.ghost_model.proofs.SessionLemmas.Members.{each_true}
use Rattle.ghost_laws.specs.Followed.{IsFollowed, AcceptedQueriesAreFollowed, is_column_from, is_condition_from}
use Rattle.ghost_laws.proofs.ScanLemmas.Accepted.{pass_each}
use Rattle.spj_parse.specs.Resolved.{IsMeant, joins_of, join_to, join_with, join_by, keys_between, is_group}
use Rattle.leakless_plan.specs.declared.form.Form.{Form}
use Rattle.leakless_plan.specs.Choices.{compares_visible}
use Rattle.ghost_laws.specs.Asking.{is_gathered, is_left}
use Rattle.condition_lists.specs.Terms.{has_level, has_lists, is_listed, is_replied, is_compared, is_sought, is_united}
use Rattle.condition_lists.proofs.KindLemmas.{fits_if, fits_test, fits_column, literals_fit}
use Rattle.condition_lists.proofs.MeetLemmas.{kept_unseen}
use Rattle.condition_lists.proofs.RowLemmas.{in_schema}

-- ---- lists

pub filters_agree : {X : Type 0} (p q : X → Bool) (xs : List X) → ((x : X) → Among x xs → p x ≡ q x) → filter p xs ≡ filter q xs
filters_agree p q [] each = refl
filters_agree p q (x ∷ xs) each =
    ap₂ (λ b ys. if b then x ∷ ys else ys) (each x (inl refl)) (filters_agree p q xs (λ y a. each y (inr a)))

-- filters differ in elements of which something holds: then it holds of all that the one leaves where it does of all the other leaves
pub filters_hold : {X : Type 0} (p q h : X → Bool) (xs : List X) → ((x : X) → Among x xs → (p x ≡ q x) ⊎ (h x ≡ true))
    → list_all h (filter p xs) ≡ list_all h (filter q xs)
filters_hold p q h [] each = refl
filters_hold {X = X} p q h (x ∷ xs) each = by (filters_hold p q h xs (λ y a. each y (inr a))) (each x (inl refl))
  where
    left_out : h x ≡ true → (b : Bool) (ys : List X) → list_all h (if b then x ∷ ys else ys) ≡ list_all h ys
    left_out held true ys = ap (λ c. c && list_all h ys) held
    left_out held false ys = refl

    both : list_all h (filter p xs) ≡ list_all h (filter q xs) → (b : Bool) → list_all h (if b then x ∷ filter p xs else filter p xs) ≡ list_all h (if b then x ∷ filter q xs else filter q xs)
    both rest true = ap (λ c. h x && c) rest
    both rest false = rest

    by : list_all h (filter p xs) ≡ list_all h (filter q xs) → (p x ≡ q x) ⊎ (h x ≡ true)
        → list_all h (if p x then x ∷ filter p xs else filter p xs) ≡ list_all h (if q x then x ∷ filter q xs else filter q xs)
    by rest (inl same) = ap (λ b. list_all h (if b then x ∷ filter p xs else filter p xs)) same ∙ both rest (q x)
    by rest (inr held) = left_out held (p x) (filter p xs) ∙ rest ∙ sym (left_out held (q x) (filter q xs))

all_both : {X : Type 0} (p : X → Bool) (xs ys : List X) → list_all p xs ≡ true → list_all p ys ≡ true → list_all p (xs ++ ys) ≡ true
all_both p [] ys a b = b
all_both p (x ∷ xs) ys a b =
    let both = both_true (p x) (list_all p xs) a in
    ap₂ (λ c d. c && d) both.0 (all_both p xs ys both.1 b)

-- a place that passes is found
passes : {X : Type 0} (p : X → Bool) (xs : List X) (i : ℕ) (x : X) → slice_get xs i ≡ Some x → p x ≡ true → is_some (position p xs) ≡ true
passes {X = X} p xs i x there e =
    let low = slice_get_within xs i x there in
    elim (cases_lt (position_or_len p xs) (length xs)) [
      | inl found ↦ ap (λ b. is_some (cond b (Some (position_or_len p xs)) None)) (lt-ltb (position_or_len p xs) (length xs) found)
      | inr none ↦ (
          let at : get_or xs i x ≡ x = some_is (sym (slice_get-get_or xs i x low) ∙ there) in
          let failed = fails_before_first p xs i x (omega (arith, low, none)) in
          absurd (clash (ap p at ∙ e) failed))
    ]
  where
    some_is : {a b : X} → Some a ≡ Some b → a ≡ b
    some_is h = cc

    clash : {b : Bool} → b ≡ true → b ≡ false → ⊥
    clash t f = cc

-- ---- tables with visible conditions

shown_there : (o : Option Column) → is_shown o ≡ true → (held : Column) × (o ≡ Some held)
shown_there None e = absurd (cc (e))
shown_there (Some held) e = (held, refl)

visible_there : (schema : Schema) (table : ℕ) (wanted : Field) → (nat_eq wanted.table table && is_visible schema wanted.table wanted.column) ≡ true → table < length schema
visible_there schema table wanted e =
    let both = both_true (nat_eq wanted.table table) (is_visible schema wanted.table wanted.column) e in
    let seen = both_true (nat_lt 0 wanted.column) (is_shown (column_at schema wanted.table wanted.column)) both.1 in
    let held = shown_there (column_at schema wanted.table wanted.column) seen.1 in
    let inside = in_schema schema wanted.table wanted.column held.0 held.1 in
    let same = eqb-true wanted.table table both.0 in
    omega (arith, inside, same)

pub compared_there : (schema : Schema) (table : ℕ) (conditions : List Condition) → list_any (compares_visible schema table) conditions ≡ true → table < length schema
compared_there schema table [] e = absurd (cc (e))
compared_there schema table (Join one other ∷ conditions) e = compared_there schema table conditions e
compared_there schema table (OneOf first others ∷ conditions) e =
    elim (either_true (compares_visible schema table (OneOf first others)) (list_any (compares_visible schema table) conditions) e) [
      | inl here ↦
          visible_there schema table first.field
          (each_true (λ (one : Member). nat_eq one.field.table table && is_visible schema one.field.table one.field.column) first first others here (inl refl))
      | inr later ↦ compared_there schema table conditions later
    ]

-- ---- terms and groups

lists_kept : (schema : Schema) (wanted : Field) (test : Test) → has_lists schema wanted test ≡ true → (nat_eq wanted.column 0 || is_hidden schema wanted.table wanted.column) ≡ true
lists_kept schema wanted (Compared operator literal) e =
    either_kept (nat_eq wanted.column 0) (is_hidden schema wanted.table wanted.column) (is_sought (kind_at schema wanted.table wanted.column) (Compared operator literal)) e
  where
    either_kept : (a b c : Bool) → (a || (b && c)) ≡ true → (a || b) ≡ true
    either_kept true b c e = refl
    either_kept false true c e = refl
    either_kept false false c e = e
lists_kept schema wanted IsNull e = e
lists_kept schema wanted IsNotNull e =
    later_kept (nat_eq wanted.column 0) (is_hidden schema wanted.table wanted.column) (both_true (is_hidden schema wanted.table wanted.column) (is_nullable (kind_at schema wanted.table wanted.column)) e).0
  where
    later_kept : (a b : Bool) → b ≡ true → (a || b) ≡ true
    later_kept true b e = refl
    later_kept false b e = e

-- the indexes have the rows of a term's group
pub term_is_gathered : (schema : Schema) (top : ℕ) (condition : Condition) → is_listed schema top condition ≡ true → is_gathered schema condition ≡ true
term_is_gathered schema top (Join one other) e = absurd (cc (e))
term_is_gathered schema top (OneOf first (next ∷ others)) e = absurd (cc (e))
term_is_gathered schema top (OneOf first []) e =
    ap not
    (kept_unseen schema first.field.table first.field.column
    (lists_kept schema first.field first.test (both_true (has_lists schema first.field first.test) (has_level schema top first.field.table) e).0))

-- a query has the same terms without its groups that are left
pub listed_without_left : (schema : Schema) (top : ℕ) (conditions : List Condition)
    → filter (is_listed schema top) (filter (λ condition. not (is_left schema condition)) conditions) ≡ filter (is_listed schema top) conditions
listed_without_left schema top [] = refl
listed_without_left schema top (Join one other ∷ conditions) = listed_without_left schema top conditions
listed_without_left schema top (OneOf first [] ∷ conditions) =
    ap (λ later. if is_listed schema top (OneOf first []) then OneOf first [] ∷ later else later) (listed_without_left schema top conditions)
listed_without_left schema top (OneOf first (next ∷ others) ∷ conditions) =
    by (not (is_left schema (OneOf first (next ∷ others)))) (listed_without_left schema top conditions)
  where
    kept : List Condition
    kept = filter (λ condition. not (is_left schema condition)) conditions

    by : (b : Bool) → filter (is_listed schema top) kept ≡ filter (is_listed schema top) conditions
        → filter (is_listed schema top) (if b then OneOf first (next ∷ others) ∷ kept else kept) ≡ filter (is_listed schema top) conditions
    by true rest = rest
    by false rest = rest

-- ---- levels

module _ (schema : Schema) (tree : IsTree schema) (levels : LevelsAreAncestors) (top : ℕ) where
  pub leveled : (table : ℕ) → table < length schema → IsAtOrBelow schema top table → has_level schema top table ≡ true
  leveled table there below =
      ap (λ b. is_some (if b then position (λ other. nat_eq other top) (levels_of schema table) else None)) (lt-ltb table (length schema) there)
      ∙ passes (λ other. nat_eq other top) (levels_of schema table) below.0 top (levels schema tree table below.0 there ∙ below.1) (itself top)
    where
      itself : (n : ℕ) → nat_eq n n ≡ true
      itself n = grind (arith, nat_tests)

  -- ---- conditions

  three : (hidden fits level : Bool) → fits ≡ true → level ≡ true → ((hidden && fits) && level) ≡ not (not hidden)
  three true fits level f l = ap₂ (λ a b. a && b) f l
  three false fits level f l = refl

  by_column : (o : Option Column) (declared : Column) → o ≡ Some declared → (fits level : Bool) → fits ≡ true → level ≡ true
      → ((option_map_or (λ (held : Column). held.hidden) o false && fits) && level) ≡ not (is_shown o)
  by_column None declared e fits level f l = absurd (cc (e))
  by_column (Some column) declared e fits level f l = three column.hidden fits level f l

  after_first : (table before : ℕ) → not (is_shown (column_at schema table (suc before))) ≡ not (is_visible schema table (suc before))
  after_first table before =
      let after : nat_lt 0 (suc before) ≡ true = lt-ltb 0 (suc before) (omega arith) in
      sym (ap (λ b. not (b && is_shown (column_at schema table (suc before)))) after)

  listed_by : (wanted : Field) (column : ℕ) (declared : Column) → column_at schema wanted.table column ≡ Some declared
      → (fits : Bool) → fits ≡ true → has_level schema top wanted.table ≡ true
      → ((nat_eq column 0 || (option_map_or (λ (held : Column). held.hidden) (column_at schema wanted.table column) false && fits)) && has_level schema top wanted.table)
      ≡ not (is_visible schema wanted.table column)
  listed_by wanted zero declared there fits f level = level
  listed_by wanted (suc before) declared there fits f level =
      let differ : nat_eq (suc before) 0 ≡ false = grind (arith, nat_tests) in
      let o = column_at schema wanted.table (suc before) in
      ap (λ b. (b || (option_map_or (λ (held : Column). held.hidden) o false && fits)) && has_level schema top wanted.table) differ
      ∙ by_column o declared there fits (has_level schema top wanted.table) f level
      ∙ after_first wanted.table before

  -- an identifier cannot be NULL
  nullable_listed : (wanted : Field) (column : ℕ) (declared : Column) → column_at schema wanted.table column ≡ Some declared
      → is_nullable (kind_at schema wanted.table column) ≡ true → has_level schema top wanted.table ≡ true
      → ((option_map_or (λ (held : Column). held.hidden) (column_at schema wanted.table column) false && is_nullable (kind_at schema wanted.table column)) && has_level schema top wanted.table)
      ≡ not (is_visible schema wanted.table column)
  nullable_listed wanted zero declared there nullable level =
      let first = ap (λ o. is_nullable (kind_or_none o)) (tree.begins_with_id wanted.table (in_schema schema wanted.table 0 declared there)) in
      absurd (clash nullable first)
    where
      clash : {b : Bool} → b ≡ true → b ≡ false → ⊥
      clash t f = cc
  nullable_listed wanted (suc before) declared there nullable level =
      by_column (column_at schema wanted.table (suc before)) declared there (is_nullable (kind_at schema wanted.table (suc before))) (has_level schema top wanted.table) nullable level
      ∙ after_first wanted.table before

  -- a group of columns of FROM tables, with literals of the columns' kinds where it has some
  abbrev is_sound : List ℕ → Condition → Bool
  is_sound from (OneOf first others) = is_condition_from schema from (OneOf first others) && fits_column schema (OneOf first others)
  is_sound from (Join one other) = true

  there_is : {X : Type 0} (o : Option X) → is_some o ≡ true → (x : X) × (o ≡ Some x)
  there_is None e = absurd (cc (e))
  there_is (Some x) e = (x, refl)

  -- what holds of each row where IS NOT NULL of a column that cannot be NULL does
  module _ (held : Condition → Bool)
      (always : (wanted : Field) (declared : Column) → column_at schema wanted.table wanted.column ≡ Some declared → is_nullable declared.kind ≡ false
      → IsAtOrBelow schema top wanted.table → held (OneOf (tested wanted IsNotNull) []) ≡ true)
      (from : List ℕ) (below : (table : ℕ) → is_among from table ≡ true → IsAtOrBelow schema top table) where
    test_is_gathered : (wanted : Field) (test : Test) (declared : Column) → column_at schema wanted.table wanted.column ≡ Some declared
        → IsAtOrBelow schema top wanted.table → has_level schema top wanted.table ≡ true → fits_test (column_at schema wanted.table wanted.column) test ≡ true
        → ((has_lists schema wanted test && has_level schema top wanted.table) ≡ not (is_visible schema wanted.table wanted.column)) ⊎ (held (OneOf (tested wanted test) []) ≡ true)
    test_is_gathered wanted (Compared operator literal) declared there low level fits =
        inl (listed_by wanted wanted.column declared there (is_of_kind (plain_of (kind_at schema wanted.table wanted.column)) literal) (literal_fits (column_at schema wanted.table wanted.column) there fits) level)
      where
        literal_fits : (o : Option Column) → o ≡ Some declared → fits_if o literal ≡ true → is_of_kind (plain_of (kind_or_none o)) literal ≡ true
        literal_fits None e f = absurd (cc (e))
        literal_fits (Some column) e f = f
    test_is_gathered wanted IsNull declared there low level fits =
        inl
        (ap (λ b. (nat_eq wanted.column 0 || b) && has_level schema top wanted.table) (both_so (option_map_or (λ (one : Column). one.hidden) (column_at schema wanted.table wanted.column) false))
        ∙ listed_by wanted wanted.column declared there true refl level)
      where
        both_so : (b : Bool) → b ≡ (b && true)
        both_so true = refl
        both_so false = refl
    test_is_gathered wanted IsNotNull declared there low level fits = by (is_nullable (kind_at schema wanted.table wanted.column)) refl
      where
        by : (b : Bool) → is_nullable (kind_at schema wanted.table wanted.column) ≡ b
            → ((has_lists schema wanted IsNotNull && has_level schema top wanted.table) ≡ not (is_visible schema wanted.table wanted.column))
            ⊎ (held (OneOf (tested wanted IsNotNull) []) ≡ true)
        by true e = inl (nullable_listed wanted wanted.column declared there e level)
        by false e = inr (always wanted declared there (sym (ap (λ o. is_nullable (kind_or_none o)) there) ∙ e) low)

    listed_is_gathered : (condition : Condition) → is_sound from condition ≡ true
        → (is_listed schema top condition ≡ is_gathered schema condition) ⊎ (held condition ≡ true)
    listed_is_gathered (Join one other) e = inl refl
    listed_is_gathered (OneOf first (next ∷ others)) e = inl refl
    listed_is_gathered (OneOf first []) e =
        let wanted = first.field in
        let both = both_true (is_column_from schema from wanted) (fits_test (column_at schema wanted.table wanted.column) first.test) e in
        let parts = both_true (is_among from wanted.table) (is_some (column_at schema wanted.table wanted.column)) both.0 in
        let declared = there_is (column_at schema wanted.table wanted.column) parts.1 in
        let low = below wanted.table parts.0 in
        test_is_gathered wanted first.test declared.0 declared.1 low
        (leveled wanted.table (in_schema schema wanted.table wanted.column declared.0 declared.1) low) both.1

  -- ---- the conditions of a query with each of its joins once

  one_join : (from : List ℕ) (table holder : ℕ) (key : Option ℕ) → list_all (is_sound from) (join_by table holder key) ≡ true
  one_join from table holder None = refl
  one_join from table holder (Some column) = refl

  joins_with : (from : List ℕ) (table : ℕ) (holder : Option ℕ) → list_all (is_sound from) (join_with schema from table holder) ≡ true
  joins_with from table None = refl
  joins_with from table (Some holder) =
      elim (is_among from holder) as (λ b. list_all (is_sound from) (if b then join_by table holder (first_of (keys_between schema holder table)) else []) ≡ true) [
        | true ↦ one_join from table holder (first_of (keys_between schema holder table))
        | false ↦ refl
      ]

  joins_sound : (from tables : List ℕ) → list_all (is_sound from) (flat_map (join_to schema from) tables) ≡ true
  joins_sound from [] = refl
  joins_sound from (table ∷ tables) =
      all_both (is_sound from) (join_to schema from table) (flat_map (join_to schema from) tables) (joins_with from table (parent schema table)) (joins_sound from tables)

  groups_sound : (from : List ℕ) (conditions : List Condition) → list_all (is_condition_from schema from) conditions ≡ true
      → list_all (fits_column schema) conditions ≡ true → list_all (is_sound from) (filter is_group conditions) ≡ true
  groups_sound from [] all fit = refl
  groups_sound from (OneOf first others ∷ conditions) all fit =
      let both = both_true (is_condition_from schema from (OneOf first others)) (list_all (is_condition_from schema from) conditions) all in
      let fits = both_true (fits_column schema (OneOf first others)) (list_all (fits_column schema) conditions) fit in
      ap₂ (λ c d. c && d) (ap₂ (λ c d. c && d) both.0 fits.0) (groups_sound from conditions both.1 fits.1)
  groups_sound from (Join one other ∷ conditions) all fit =
      let both = both_true (is_condition_from schema from (Join one other)) (list_all (is_condition_from schema from) conditions) all in
      groups_sound from conditions both.1 fit

  -- the reply of a table is a term where the table is compared and united
  replied_is_compared : (asked : Query) (forms : List (Option Form)) (table : ℕ) → IsAtOrBelow schema top table
      → is_replied schema asked forms top table ≡ (is_compared schema asked table && is_united forms top table)
  replied_is_compared asked forms table below = by (is_compared schema asked table) refl
    where
      by : (b : Bool) → is_compared schema asked table ≡ b → is_replied schema asked forms top table ≡ (is_compared schema asked table && is_united forms top table)
      by true e =
          ap₂ (λ a b. (a && b) && is_united forms top table) e (leveled table (compared_there schema table asked.conditions e) below)
          ∙ sym (ap (λ a. a && is_united forms top table) e)
      by false e = ap (λ a. (a && has_level schema top table) && is_united forms top table) e ∙ sym (ap (λ a. a && is_united forms top table) e)

  -- ---- an accepted query

  module _ (text : List ℕ) (asked : Query) (read : IsMeant schema text asked) (one : OneReading) (accepted : AcceptedQueriesAreFollowed)
      (top_is : top_of schema asked ≡ Some top) where
    pub follows : IsFollowed schema read.meant top
    follows =
        accepted schema tree text read.meant ((one.meaning schema text read.meant).0 read.reads) top (ap (top_of schema) (sym read.once) ∙ top_is)

    pub below_top : (table : ℕ) → is_among asked.from table ≡ true → IsAtOrBelow schema top table
    below_top table among = follows.below table (ap (λ (q : Query). is_among q.from table) (sym read.once) ∙ among)

    all_sound : list_all (is_sound asked.from) asked.conditions ≡ true
    all_sound =
        ap (λ (q : Query). list_all (is_sound q.from) q.conditions) read.once
        ∙ all_both (is_sound read.meant.from) (joins_of schema read.meant.from) (filter is_group read.meant.conditions)
        (joins_sound read.meant.from read.meant.from)
        (groups_sound read.meant.from read.meant.conditions follows.conditions
        (literals_fit schema text read.meant ((one.meaning schema text read.meant).0 read.reads)))

    pub conditions_hold : (held : Condition → Bool)
        → ((wanted : Field) (declared : Column) → column_at schema wanted.table wanted.column ≡ Some declared → is_nullable declared.kind ≡ false
        → IsAtOrBelow schema top wanted.table → held (OneOf (tested wanted IsNotNull) []) ≡ true)
        → list_all held (filter (is_listed schema top) asked.conditions) ≡ list_all held (filter (is_gathered schema) asked.conditions)
    conditions_hold held always =
        filters_hold (is_listed schema top) (is_gathered schema) held asked.conditions
        (λ c a. listed_is_gathered held always asked.from below_top c (pass_each (is_sound asked.from) asked.conditions all_sound c a))

    pub tables_are : (forms : List (Option Form))
        → filter (is_replied schema asked forms top) asked.from ≡ filter (λ table. is_compared schema asked table && is_united forms top table) asked.from
    tables_are forms =
        filters_agree (is_replied schema asked forms top) (λ table. is_compared schema asked table && is_united forms top table) asked.from
        (λ table a. replied_is_compared asked forms table (below_top table (among_is table asked.from a)))
