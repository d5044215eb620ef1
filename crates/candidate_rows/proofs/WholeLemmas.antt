-- What the key answers by the replies of an honest host to a query without its groups that are left: row by row that query's answer.
use Rattle.std.proofs.Common.{◌≡◌, ◌∙◌, ℕ, zero, suc, ◌+◌, ◌==◌, inl, inr, Bool, true, false, not, ◌&&◌, List, [], ◌∷◌, ◌++◌, map, filter, slice_get, Option, Some, None, is_some, option_and_then, unwrap_or, if◌then◌else◌, sym, refl, ap, ap₂, arith}
use Rattle.std.specs.Prelude.{filter_map}
use Rattle.std.specs.List.{list_all, list_any}
use Rattle.std.proofs.lemmas.Bool.{eqb-true}
use Rattle.std.proofs.lemmas.Bool.Decides.{nat_tests}
use Rattle.ghost_model.specs.core.Schema.{Schema, column_at, is_visible}
use Rattle.ghost_model.specs.core.Values.{Value, Row, Database}
use Rattle.ghost_model.specs.core.Channel.{ColumnTest}
use Rattle.ghost_model.specs.core.Database.{IsDatabase, row_of, rows_of, value_at_row, leads}
use Rattle.ghost_model.specs.core.Query.{Query, Field, Member, members_of_group, Condition, OneOf, Join, is_among}
use Rattle.ghost_model.specs.core.Groups.{each_of, some_of, each_group}
use Rattle.ghost_model.specs.core.Asks as asks
use Rattle.ghost_model.specs.core.Asks.{kind_at, column_test, is_column, is_mixed, names_column, is_wanted}
use Rattle.ghost_model.specs.core.Meaning.{meets_test, no_value}
use Rattle.ghost_model.specs.core.Replies.{reply_about, known_value}
use Rattle.ghost_model.specs.core.Split.{public_of, hidden_of}
use Rattle.ghost_model.specs.laws.MeaningLaws.{LeadsFollowKeys}
use Rattle.ghost_model.specs.laws.SchemaTrees.{IsTree}
use Rattle.ghost_model.specs.laws.SessionLaws.{whole_replies}
use Rattle.ghost_model.specs.laws.ShortWords.{tests_of}
use Rattle.ghost_model.specs.refusals.QueryMeaning.{is_of_one_table}
use Rattle.ghost_model.proofs.MeaningLemmas.OneRow.{Among, among-filter, among_is, from_filter, both_true}
use Rattle.ghost_model.proofs.SessionLemmas.Members.{says_more, no_group_fails, group_then, some_agree, each_true, true_of_each}
use Rattle.ghost_model.proofs.SessionLemmas.Whole.{stands_in_is, known_is}
use Rattle.ghost_laws.specs.Asking.{is_left, without_left}
use Rattle.ghost_laws.specs.Followed.{IsFollowed, is_column_from, is_condition_from}
use Rattle.ghost_laws.specs.Scans.{led_value, known_along, stands_along, is_kept_row, holds_along, holds_or_asked_along, known_row, row_along}
use Rattle.ghost_laws.proofs.AskingLemmas.{unleft_is_kept, visible_is_neither, tested_is_not_visible}
use Rattle.ghost_laws.proofs.ScanLemmas.Accepted.{pass_each}
use Rattle.ghost_laws.proofs.ScanLemmas.OneChoice.{values_same}
use Rattle.ghost_laws.proofs.ScanLemmas.Values.{field_stands, all_found}
use Rattle.candidate_rows.proofs.FromLemmas.{all_each, any_among, among_of, or_left, each_from}

same_bool : (a b : Bool) → (a ≡ true → b ≡ true) → (b ≡ true → a ≡ true) → a ≡ b
same_bool true b there back = sym (there refl)
same_bool false true there back = back refl
same_bool false false there back = refl

itself : (n : ℕ) → (n == n) ≡ true
itself n = grind (arith, nat_tests)

clash : {b : Bool} → b ≡ true → b ≡ false → ⊥
clash t f = cc

some_there : {X : Type 0} (found : Option X) → is_some found ≡ true → (x : X) × (found ≡ Some x)
some_there None e = absurd (cc (e))
some_there (Some x) e = (x, refl)

-- the tests of a table hold in a row where its visible groups do
abbrev holds_of : Schema → (table : ℕ) → Row → Condition → Bool
holds_of schema table row (OneOf first others) =
    if each_of (asks.is_shown schema table) first others then some_of (λ one. meets_test one.test (slice_get row one.field.column)) first others else true
holds_of schema table row (Join one other) = true

groups_hold : (schema : Schema) (table : ℕ) (row : Row) (conditions : List Condition)
    → each_group says_more (λ (test : ColumnTest). meets_test test.test (slice_get row test.column)) (tests_of schema table conditions) ≡ list_all (holds_of schema table row) conditions
groups_hold schema table row [] = no_group_fails says_more (λ (test : ColumnTest). meets_test test.test (slice_get row test.column)) [] refl
groups_hold schema table row (OneOf first others ∷ conditions) =
    elim (each_of (asks.is_shown schema table) first others) as (λ b. each_group says_more (λ (test : ColumnTest). meets_test test.test (slice_get row test.column))
    ((if b then map column_test (members_of_group first others) else []) ++ tests_of schema table conditions)
    ≡ ((if b then some_of (λ one. meets_test one.test (slice_get row one.field.column)) first others else true) && list_all (holds_of schema table row) conditions)) [
      | true ↦ group_then (λ test. meets_test test.test (slice_get row test.column)) (λ one. meets_test one.test (slice_get row one.field.column))
          (λ test one column_is test_is. ap₂ (λ t column. meets_test t (slice_get row column)) test_is column_is) first others (tests_of schema table conditions)
          ∙ ap (λ b. some_of (λ one. meets_test one.test (slice_get row one.field.column)) first others && b) (groups_hold schema table row conditions)
      | false ↦ groups_hold schema table row conditions
    ]
groups_hold schema table row (Join one other ∷ conditions) = groups_hold schema table row conditions

-- the members of a group of one table
one_table : (first : Member) (others : List Member) → is_of_one_table (OneOf first others) ≡ true → (one : Member) → Among one (first ∷ others) → one.field.table ≡ first.field.table
one_table first others e one (inl same) = ap (λ (m : Member). m.field.table) (sym same)
one_table first others e one (inr among) = eqb-true one.field.table first.field.table (pass_each (λ m. m.field.table == first.field.table) others e one among)

pub record Reached (schema : Schema) (database : Database) (top identifier table : ℕ) : Type 0 where
  place : ℕ
  row : Row
  led : leads schema database top identifier table ≡ Some (suc place)
  there : slice_get (rows_of database table) place ≡ Some row

module _ (schema : Schema) (database : Database) (tree : IsTree schema) (is : IsDatabase schema database) (asked : Query) (top : ℕ) (follow : IsFollowed schema asked top)
    (keys : LeadsFollowKeys schema database) (identifier : ℕ) (top_row : Row) (top_there : row_of database top identifier ≡ Some top_row) where
  abbrev known : Field → Option Value
  known = known_along schema database (whole_replies schema (public_of schema database) asked) top identifier

  abbrev led : Field → Option Value
  led = led_value schema database top identifier

  reached : (table : ℕ) → is_among asked.from table ≡ true → Reached schema database top identifier table
  reached table from =
      let lands = keys.lands top table identifier top_row (follow.below table from) top_there in
      by lands.reached lands.row lands.led lands.stands
    where
      by : (found : ℕ) (row : Row) → leads schema database top identifier table ≡ Some found → row_of database table found ≡ Some row → Reached schema database top identifier table
      by zero row led there = absurd (cc (there))
      by (suc place) row led there = record { place = place; row = row; led = led; there = there }

  module _ (table : ℕ) (from : is_among asked.from table ≡ true) (at : Reached schema database top identifier table) where
    among_from : Among table asked.from
    among_from = among_of table asked.from from

    stands_is : stands_along schema database (whole_replies schema (public_of schema database) asked) top identifier table ≡ list_all (holds_of schema table at.row) asked.conditions
    stands_is =
        ap (λ o. is_kept_row o (reply_about table (whole_replies schema (public_of schema database) asked))) at.led
        ∙ stands_in_is schema database is asked table at.place at.row at.there among_from
        ∙ groups_hold schema table at.row asked.conditions

    led_is : (column : ℕ) → led_value schema database top identifier (record { table = table; column = column }) ≡ slice_get at.row column
    led_is column =
        ap (option_and_then (λ r. value_at_row database table r column)) at.led
        ∙ ap (option_and_then (λ (r : Row). slice_get r column)) at.there

    known_agrees : (column : ℕ) → (is_visible schema table column ≡ true → (list_all (holds_of schema table at.row) asked.conditions ≡ true) × (is_wanted schema asked table column ≡ true))
        → known_along schema database (whole_replies schema (public_of schema database) asked) top identifier (record { table = table; column = column })
        ≡ led_value schema database top identifier (record { table = table; column = column })
    known_agrees column told =
        ap (option_and_then (λ r. known_value schema (hidden_of schema database) (whole_replies schema (public_of schema database) asked) table r column)) at.led
        ∙ known_is schema database is asked table at.place column at.row at.there
        (λ visible. record { from = among_from; stands = groups_hold schema table at.row asked.conditions ∙ (told visible).0; wanted = (told visible).1 })
        ∙ sym (led_is column)

    -- a visible group of the table holds in the row exactly where it holds along the row of the top table
    group_same : (first : Member) (others : List Member) → each_of (asks.is_shown schema table) first others ≡ true
        → some_of (λ one. meets_test one.test (led_value schema database top identifier one.field)) first others ≡ some_of (λ one. meets_test one.test (slice_get at.row one.field.column)) first others
    group_same first others shown =
        some_agree (λ one. meets_test one.test (led_value schema database top identifier one.field)) (λ one. meets_test one.test (slice_get at.row one.field.column)) first others
        (λ one among.
        let of = both_true (one.field.table == table) (is_visible schema table one.field.column) (each_true (asks.is_shown schema table) one first others shown among) in
        ap (meets_test one.test)
        (ap (λ t. led_value schema database top identifier (record { table = t; column = one.field.column })) (eqb-true one.field.table table of.0) ∙ led_is one.field.column))

  -- ---- the conditions that are not left

  abbrev kept : List Condition
  kept = filter (λ condition. not (is_left schema condition)) asked.conditions

  all_shown : (first : Member) (others : List Member) → Among (OneOf first others) asked.conditions
      → each_of (λ one. is_visible schema one.field.table one.field.column) first others ≡ true → each_of (asks.is_shown schema first.field.table) first others ≡ true
  all_shown first others among visible =
      true_of_each (asks.is_shown schema first.field.table) first others
      (λ one a.
      let same = one_table first others (pass_each is_of_one_table asked.conditions follow.groups (OneOf first others) among) one a in
      ap₂ (λ b c. b && c) (ap (λ t. t == first.field.table) same ∙ itself first.field.table)
      (ap (λ t. is_visible schema t one.field.column) (sym same) ∙ each_true (λ m. is_visible schema m.field.table m.field.column) one first others visible a))

  member_table : (first : Member) (others : List Member) → Among (OneOf first others) asked.conditions → (one : Member) → Among one (first ∷ others)
      → is_among asked.from one.field.table ≡ true
  member_table first others among one a =
      (both_true (is_among asked.from one.field.table) _
      (each_true (λ m. is_column_from schema asked.from m.field) one first others (pass_each (is_condition_from schema asked.from) asked.conditions follow.conditions (OneOf first others) among) a)).0

  first_from : (first : Member) (others : List Member) → Among (OneOf first others) asked.conditions → is_among asked.from first.field.table ≡ true
  first_from first others among = member_table first others among first (inl refl)

  -- a condition that is neither visible nor left has no visible column, so that all its values are known
  kept_same : (first : Member) (others : List Member) → Among (OneOf first others) asked.conditions → not (is_left schema (OneOf first others)) ≡ true
      → each_of (λ one. is_visible schema one.field.table one.field.column) first others ≡ false
      → some_of (λ one. meets_test one.test (known one.field)) first others ≡ some_of (λ one. meets_test one.test (led one.field)) first others
  kept_same first others among stays hidden =
      let none_shown = unleft_is_kept schema first others (tested_is_not_visible schema first others ∙ ap not hidden) (not_true (is_left schema (OneOf first others)) stays) in
      some_agree (λ one. meets_test one.test (known one.field)) (λ one. meets_test one.test (led one.field)) first others
      (λ one a.
      let from = member_table first others among one a in
      ap (meets_test one.test)
      (known_agrees one.field.table from (reached one.field.table from) one.field.column
      (λ visible. absurd (clash visible (not_true (is_visible schema one.field.table one.field.column) (each_true (λ m. not (is_visible schema m.field.table m.field.column)) one first others none_shown a))))))
    where
      not_true : (b : Bool) → not b ≡ true → b ≡ false
      not_true true e = cc
      not_true false e = refl

  module _ (stand : list_all (stands_along schema database (whole_replies schema (public_of schema database) asked) top identifier) asked.from ≡ true) where
    table_holds : (table : ℕ) (from : is_among asked.from table ≡ true) → list_all (holds_of schema table (reached table from).row) asked.conditions ≡ true
    table_holds table from =
        sym (stands_is table from (reached table from)) ∙ each_from (stands_along schema database (whole_replies schema (public_of schema database) asked) top identifier) asked.from table stand from

    -- a condition that holds as far as the key knows holds
    holds_too : (condition : Condition) → Among condition kept → holds_or_asked_along schema known condition ≡ true → holds_along led condition ≡ true
    holds_too (Join one other) among h = refl
    holds_too (OneOf first others) among h =
        let found = from_filter (λ condition. not (is_left schema condition)) (OneOf first others) asked.conditions among in
        by found.0 found.1 (each_of (λ one. is_visible schema one.field.table one.field.column) first others) refl h
      where
        by : Among (OneOf first others) asked.conditions → not (is_left schema (OneOf first others)) ≡ true
            → (b : Bool) → each_of (λ one. is_visible schema one.field.table one.field.column) first others ≡ b
            → (if b then true else some_of (λ one. meets_test one.test (known one.field)) first others) ≡ true
            → some_of (λ one. meets_test one.test (led one.field)) first others ≡ true
        by among stays false e h = sym (kept_same first others among stays e) ∙ h
        by among stays true e h =
            let from = first_from first others among in
            let shown = all_shown first others among e in
            group_same first.field.table from (reached first.field.table from) first others shown
            ∙ sym (ap (λ b. if b then some_of (λ one. meets_test one.test (slice_get (reached first.field.table from).row one.field.column)) first others else true) shown)
            ∙ pass_each (holds_of schema first.field.table (reached first.field.table from).row) asked.conditions (table_holds first.field.table from) (OneOf first others) among

    -- the selected values are known
    selected_known : (field : Field) → Among field asked.select → known field ≡ led field
    selected_known field among =
        let of_from = pass_each (is_column_from schema asked.from) asked.select follow.selected field among in
        let from = (both_true (is_among asked.from field.table) _ of_from).0 in
        known_agrees field.table from (reached field.table from) field.column
        (λ visible. (
          table_holds field.table from,
          ap₂ (λ b c. b && c) visible
              (or_left (list_any (is_column field.table field.column) asked.select) (list_any (λ condition. is_mixed schema field.table condition && names_column field.table field.column condition) asked.conditions)
              (any_among (is_column field.table field.column) asked.select field among (ap₂ (λ b c. b && c) (itself field.table) (itself field.column)))),
        ))

    line_same : map (λ one. unwrap_or (known one) no_value) asked.select ≡ filter_map led asked.select
    line_same =
        values_same (λ one. unwrap_or (known one) no_value) (λ one. unwrap_or (led one) no_value) asked.select (λ field among. ap (λ o. unwrap_or o no_value) (selected_known field among))
        ∙ all_found (λ field. kind_at schema field.table field.column) led asked.select
        (λ field among.
        let of_from = both_true (is_among asked.from field.table) (is_some (column_at schema field.table field.column))
        (pass_each (is_column_from schema asked.from) asked.select follow.selected field among) in
        let declared = some_there (column_at schema field.table field.column) of_from.1 in
        let at = reached field.table of_from.0 in
        let value = field_stands schema database tree is field.table (suc at.place) at.row at.there field.column declared.0 declared.1 in
        (value.0, ap (option_and_then (λ r. value_at_row database field.table r field.column)) at.led ∙ value.1, value.2))

  -- where all conditions hold, the rows stand in the replies
  module _ (hold : list_all (holds_along led) kept ≡ true) where
    visible_holds : (table : ℕ) (from : is_among asked.from table ≡ true) (condition : Condition) → Among condition asked.conditions
        → holds_of schema table (reached table from).row condition ≡ true
    visible_holds table from (Join one other) among = refl
    visible_holds table from (OneOf first others) among = by (each_of (asks.is_shown schema table) first others) refl
      where
        visible : each_of (asks.is_shown schema table) first others ≡ true → each_of (λ one. is_visible schema one.field.table one.field.column) first others ≡ true
        visible shown =
            true_of_each (λ one. is_visible schema one.field.table one.field.column) first others
            (λ one a.
            let of = both_true (one.field.table == table) (is_visible schema table one.field.column) (each_true (asks.is_shown schema table) one first others shown a) in
            ap (λ t. is_visible schema t one.field.column) (eqb-true one.field.table table of.0) ∙ of.1)

        by : (b : Bool) → each_of (asks.is_shown schema table) first others ≡ b
            → (if b then some_of (λ one. meets_test one.test (slice_get (reached table from).row one.field.column)) first others else true) ≡ true
        by false e = refl
        by true e =
            sym (group_same table from (reached table from) first others e)
            ∙ pass_each (holds_along led) kept hold (OneOf first others)
            (among-filter (λ condition. not (is_left schema condition)) (OneOf first others) asked.conditions among (ap not (visible_is_neither schema first others (visible e)).1))

    all_stand : list_all (stands_along schema database (whole_replies schema (public_of schema database) asked) top identifier) asked.from ≡ true
    all_stand =
        all_each (stands_along schema database (whole_replies schema (public_of schema database) asked) top identifier) asked.from
        (λ table among.
        let from = among_is table asked.from among in
        stands_is table from (reached table from)
        ∙ all_each (holds_of schema table (reached table from).row) asked.conditions (visible_holds table from))

    known_holds : (condition : Condition) → Among condition kept → holds_or_asked_along schema known condition ≡ true
    known_holds (Join one other) among = refl
    known_holds (OneOf first others) among =
        let found = from_filter (λ condition. not (is_left schema condition)) (OneOf first others) asked.conditions among in
        by found.0 found.1 (each_of (λ one. is_visible schema one.field.table one.field.column) first others) refl
      where
        by : Among (OneOf first others) asked.conditions → not (is_left schema (OneOf first others)) ≡ true
            → (b : Bool) → each_of (λ one. is_visible schema one.field.table one.field.column) first others ≡ b
            → (if b then true else some_of (λ one. meets_test one.test (known one.field)) first others) ≡ true
        by found stays true e = refl
        by found stays false e = kept_same first others found stays e ∙ pass_each (holds_along led) kept hold (OneOf first others) among

  conditions_same : (list_all (stands_along schema database (whole_replies schema (public_of schema database) asked) top identifier) asked.from && list_all (holds_or_asked_along schema known) kept)
      ≡ list_all (holds_along led) kept
  conditions_same =
      same_bool (list_all (stands_along schema database (whole_replies schema (public_of schema database) asked) top identifier) asked.from && list_all (holds_or_asked_along schema known) kept)
      (list_all (holds_along led) kept)
      (λ h.
      let both = both_true (list_all (stands_along schema database (whole_replies schema (public_of schema database) asked) top identifier) asked.from) (list_all (holds_or_asked_along schema known) kept) h in
      all_each (holds_along led) kept (λ condition among. holds_too both.0 condition among (pass_each (holds_or_asked_along schema known) kept both.1 condition among)))
      (λ h. ap₂ (λ a b. a && b) (all_stand h) (all_each (holds_or_asked_along schema known) kept (known_holds h)))

  pub row_same : known_row schema database (without_left schema asked) (whole_replies schema (public_of schema database) asked) top identifier
      ≡ row_along (led_value schema database top identifier) (without_left schema asked)
  row_same = by (list_all (holds_along led) kept) refl
    where
      by : (b : Bool) → list_all (holds_along led) kept ≡ b
          → known_row schema database (without_left schema asked) (whole_replies schema (public_of schema database) asked) top identifier
          ≡ row_along (led_value schema database top identifier) (without_left schema asked)
      by true e =
          ap (λ c. if c then map (λ one. unwrap_or (known one) no_value) asked.select ∷ [] else []) (conditions_same ∙ e)
          ∙ ap (λ (row : Row). row ∷ []) (line_same (all_stand e))
          ∙ sym (ap (λ c. if c then filter_map led asked.select ∷ [] else []) e)
      by false e =
          ap (λ c. if c then map (λ one. unwrap_or (known one) no_value) asked.select ∷ [] else []) (conditions_same ∙ e)
          ∙ sym (ap (λ c. if c then filter_map led asked.select ∷ [] else []) e)
