-- What the key knows of a row by the hidden part and by whole replies, where the row meets the conditions of its table.
use Rattle.std.proofs.Common.{◌≡◌, ℕ, zero, suc, ◌+◌, ◌<◌, inl, inr, Bool, true, false, not, ◌&&◌, ◌||◌, List, [], ◌∷◌, length, map, drop, filter, sym, ◌∙◌, ap, subst, refl, arith, Option, Some, None, slice_get}
use Rattle.std.specs.Prelude.{◌==◌, nat_lt, if◌then◌else◌, option_and_then, is_some}
use Rattle.std.specs.Option.{option_map}
use Rattle.std.specs.List.{list_all, list_any}
use Rattle.std.proofs.lemmas.Option.{slice_get-map}
use Rattle.std.proofs.lemmas.List.Folds.{list_all-append}
use Rattle.std.proofs.lemmas.Bool.Decides.{nat_tests}
use Rattle.std.proofs.lemmas.Bool.{eqb-true, lt-ltb}
use Rattle.ghost_model.specs.core.Schema.{Schema, Column, columns_of, column_at, places_from, is_shown, is_visible, is_empty, places_of}
use Rattle.ghost_model.specs.core.Values.{Value, Row, Rows, Database}
use Rattle.ghost_model.specs.core.Query.{Query, Member, members_of_group, Condition, OneOf, Join}
use Rattle.ghost_model.specs.core.Groups.{each_of, each_group}
use Rattle.ghost_model.specs.core.Channel.{Ask, ColumnTest}
use Rattle.ghost_model.specs.core.Asks.{ask_for, is_needed, column_test, test_of, is_column, is_mixed, names_column, is_wanted}
use Rattle.ghost_model.specs.core.Asks as asks
use Rattle.ghost_model.specs.core.Meaning.{meets_test}
use Rattle.ghost_model.specs.laws.ShortWords.{tests_of, is_from}
use Rattle.ghost_model.specs.core.Database.{rows_of, IsDatabase}
use Rattle.ghost_model.specs.core.Split.{Public, hidden_of, public_of, value_at, visible_places, RowValues, replied, meets_tests, replies_from, visible_rows}
use Rattle.ghost_model.specs.laws.SplitByFlags.{hidden_flags, visible_values, rows_by}
use Rattle.ghost_model.proofs.MeaningLemmas.PartsByFlags.{visible_rows_at}
use Rattle.ghost_model.specs.core.Replies.{Reply, hidden_value, row_replied, reply_about, replied_value, known_value, stands_in}
use Rattle.ghost_model.specs.laws.SessionLaws.{whole_reply, whole_replies}
use Rattle.ghost_model.proofs.ChannelLemmas.Tests.{false_is_not, BothHold, both_hold, hold_both}
use Rattle.ghost_model.proofs.MeaningLemmas.OneRow.{Among, among-filter}
use Rattle.ghost_model.proofs.SessionLemmas.Accepted.{Each}
use Rattle.ghost_model.proofs.SessionLemmas.Members.{says_more, each_group_agrees, no_group_fails}
use Rattle.ghost_model.proofs.SessionLemmas.Values.{hidden_is_known, visible_of_row, row_is_replied, if_met, AllThere, value_asked}

-- places_of of a list
place_stands : {X : Type 0} (at place : ℕ) (xs : List X) → place < length xs → Among (at + place) (places_from (λ (x : X). true) at xs)
unfolding places_from
place_stands at place [] h = absurd (omega (arith, h))
place_stands at zero (x ∷ xs) h = inl (omega arith)
place_stands at (suc place) (x ∷ xs) h =
    inr (subst (λ (n : ℕ). Among n (places_from (λ _. true) (at + 1) xs)) (omega arith) (place_stands (at + 1) place xs (omega (arith, h))))

pub there_is : {X : Type 0} (xs : List X) (place : ℕ) → place < length xs → (x : X) × (slice_get xs place ≡ Some x)
there_is [] place h = absurd (omega (arith, h))
there_is (x ∷ xs) zero h = (x, refl)
there_is (x ∷ xs) (suc place) h = there_is xs place (omega (arith, h))

pub shown_within : (columns : List Column) (place : ℕ) → is_shown (slice_get columns place) ≡ true → place < length columns
shown_within [] place e = absurd (false_is_not e)
shown_within (column ∷ columns) zero e = omega arith
shown_within (column ∷ columns) (suc place) e = let later : place < length columns = shown_within columns place e in omega (arith, later)

some_within : {X : Type 0} (xs : List X) (place : ℕ) (x : X) → slice_get xs place ≡ Some x → place < length xs
some_within [] place x e = absurd (cc)
some_within (y ∷ ys) zero x e = omega arith
some_within (y ∷ ys) (suc place) x e = let later : place < length ys = some_within ys place x e in omega (arith, later)

no_need : (a b : Bool) → not (a && b) ≡ false → b ≡ true
no_need true true e = refl
no_need true false e = absurd (false_is_not (sym e))
no_need false b e = absurd (false_is_not (sym e))

some_need : {X : Type 0} (x : X) (xs : List X) (b : Bool) → Among x xs → not (is_empty xs && b) ≡ true
some_need x [] b h = absurd h
some_need x (y ∷ ys) b h = refl

is_some_if : {X : Type 0} (b : Bool) (x : X) → is_some (if b then Some x else None) ≡ b
is_some_if true x = refl
is_some_if false x = refl

reply_if : (here : Bool) (reply : Reply) (other found : Option Reply) → (here ≡ true → Some reply ≡ found) → (here ≡ false → other ≡ found) → (if here then Some reply else other) ≡ found
reply_if true reply other found p q = p refl
reply_if false reply other found p q = q refl

not_shown : (column : ℕ) (shown : Bool) → (nat_lt 0 (suc column) && shown) ≡ false → shown ≡ false
not_shown column false e = refl
not_shown column true e = absurd (false_is_not (sym e ∙ hold_both (nat_lt 0 (suc column)) true (lt-ltb 0 (suc column) (omega arith)) refl))

value_by : (v : Bool) (one other found : Option Value) → (v ≡ true → one ≡ found) → (v ≡ false → other ≡ found) → (if v then one else other) ≡ found
value_by true one other found p q = p refl
value_by false one other found p q = q refl

rows_there : (database : Database) (table place : ℕ) (row : Row) → slice_get (rows_of database table) place ≡ Some row → table < length database
rows_there [] table place row h = absurd (cc)
rows_there (rows ∷ database) zero place row h = omega arith
rows_there (rows ∷ database) (suc table) place row h = let later : table < length database = rows_there database table place row h in omega (arith, later)

same_number : (n : ℕ) → (n == n) ≡ true
same_number n = grind (arith, nat_tests)

either : (a b : Bool) → b ≡ true → (a || b) ≡ true
either true b h = refl
either false b h = h

among_any : (x : ℕ) (xs : List ℕ) → Among x xs → list_any (λ other. other == x) xs ≡ true
among_any x [] h = absurd h
among_any x (y ∷ ys) (inl same) = ap (λ (v : Bool). v || list_any (λ other. other == x) ys) (ap (λ (n : ℕ). n == x) same ∙ same_number x)
among_any x (y ∷ ys) (inr later) = either (y == x) (list_any (λ other. other == x) ys) (among_any x ys later)

all_wanted :
    (schema : Schema) (asked : Query) (table : ℕ) (columns : List ℕ)
    → list_all (is_visible schema table) (filter (is_wanted schema asked table) columns) ≡ true
all_wanted schema asked table [] = refl
all_wanted schema asked table (column ∷ columns) =
    (elim (is_wanted schema asked table column) as (λ v. is_wanted schema asked table column ≡ v → list_all (is_visible schema table) (if v then column ∷ filter (is_wanted schema asked table) columns else filter (is_wanted schema asked table) columns) ≡ true) [
      | true ↦ λ e. hold_both (is_visible schema table column) _ (both_hold (is_visible schema table column) (list_any (is_column table column) asked.select || list_any (λ condition. is_mixed schema table condition && names_column table column condition) asked.conditions) e).one (all_wanted schema asked table columns)
      | false ↦ λ e. all_wanted schema asked table columns
    ]) refl

module _ (schema : Schema) (table : ℕ) where
  abbrev are_visible : List ColumnTest → Bool
  are_visible tests = list_all (λ (test : ColumnTest). is_visible schema table test.column) tests

  shown_column : (one : Member) → asks.is_shown schema table one ≡ true → is_visible schema table one.field.column ≡ true
  shown_column one h = (both_hold (one.field.table == table) (is_visible schema table one.field.column) h).other

  visible_group :
      (first : Member) (others : List Member) → each_of (asks.is_shown schema table) first others ≡ true
      → are_visible (map column_test (members_of_group first others)) ≡ true
  visible_group first [] h = hold_both (is_visible schema table first.field.column) true (shown_column first h) refl
  visible_group first (next ∷ others) h =
      let both : BothHold (asks.is_shown schema table first) (each_of (asks.is_shown schema table) next others) = both_hold _ _ h in
      hold_both (is_visible schema table first.field.column) _ (shown_column first both.one) (visible_group next others both.other)

  visible_if :
      (b : Bool) (tests : List ColumnTest) → (b ≡ true → are_visible tests ≡ true) → are_visible (if b then tests else []) ≡ true
  visible_if true tests h = h refl
  visible_if false tests h = refl

  visible_test : (condition : Condition) → are_visible (test_of schema table condition) ≡ true
  visible_test (OneOf first others) =
      visible_if (each_of (asks.is_shown schema table) first others) (map column_test (members_of_group first others)) (visible_group first others)
  visible_test (Join left right) = refl

  visible_tests : (conditions : List Condition) → are_visible (tests_of schema table conditions) ≡ true
  visible_tests [] = refl
  visible_tests (condition ∷ conditions) =
      list_all-append (λ (test : ColumnTest). is_visible schema table test.column) (test_of schema table condition) (tests_of schema table conditions)
      ∙ hold_both _ _ (visible_test condition) (visible_tests conditions)

module _ (schema : Schema) (database : Database) (is : IsDatabase schema database) (asked : Query) where
  abbrev pub public : Public
  public = public_of schema database

  abbrev pub holds_in : Row → ColumnTest → Bool
  holds_in row test = meets_test test.test (slice_get row test.column)

  -- the conditions of a table hold in a row
  abbrev pub stands_by : (table : ℕ) → Row → Bool
  stands_by table row = each_group says_more (holds_in row) (tests_of schema table asked.conditions)

  abbrev pub shown_part : (table : ℕ) → Row → Row
  shown_part table row = visible_values (hidden_flags (columns_of schema table)) (drop 1 row)

  -- replies by their tables
  about_needed : (table : ℕ) (tables : List ℕ) → is_needed (ask_for schema asked table) ≡ true → Among table tables → reply_about table (map (whole_reply schema public) (filter is_needed (map (ask_for schema asked) tables))) ≡ Some (whole_reply schema public (ask_for schema asked table))
  about_needed table [] n h = absurd h
  about_needed table (first ∷ tables) n h =
      (elim (is_needed (ask_for schema asked first)) as (λ v. is_needed (ask_for schema asked first) ≡ v → reply_about table (map (whole_reply schema public) (if v then ask_for schema asked first ∷ filter is_needed (map (ask_for schema asked) tables) else filter is_needed (map (ask_for schema asked) tables))) ≡ Some (whole_reply schema public (ask_for schema asked table))) [
        | true ↦ λ e. reply_if (first == table) (whole_reply schema public (ask_for schema asked first)) _ _
            (λ yes. ap (λ (t : ℕ). Some (whole_reply schema public (ask_for schema asked t))) (eqb-true first table yes))
            (λ differs. about_needed table tables n (later_table first table tables differs h))
        | false ↦ λ e. about_needed table tables n (other_table first table tables n e h)
      ]) refl
    where
      later_table : (first table : ℕ) (tables : List ℕ) → (first == table) ≡ false → Among table (first ∷ tables) → Among table tables
      later_table first table tables differs (inl same) = absurd (false_is_not (sym differs ∙ (ap (λ (n : ℕ). first == n) (sym same) ∙ itself first)))
        where
          itself : (n : ℕ) → (n == n) ≡ true
          itself n = grind (arith, nat_tests)
      later_table first table tables differs (inr later) = later

      other_table : (first table : ℕ) (tables : List ℕ) → is_needed (ask_for schema asked table) ≡ true → is_needed (ask_for schema asked first) ≡ false → Among table (first ∷ tables) → Among table tables
      other_table first table tables n e (inl same) = absurd (false_is_not (sym e ∙ (ap (λ (t : ℕ). is_needed (ask_for schema asked t)) same ∙ n)))
      other_table first table tables n e (inr later) = later

  about_unneeded : (table : ℕ) (tables : List ℕ) → is_needed (ask_for schema asked table) ≡ false → reply_about table (map (whole_reply schema public) (filter is_needed (map (ask_for schema asked) tables))) ≡ None
  about_unneeded table [] n = refl
  about_unneeded table (first ∷ tables) n =
      (elim (is_needed (ask_for schema asked first)) as (λ v. is_needed (ask_for schema asked first) ≡ v → reply_about table (map (whole_reply schema public) (if v then ask_for schema asked first ∷ filter is_needed (map (ask_for schema asked) tables) else filter is_needed (map (ask_for schema asked) tables))) ≡ None) [
        | true ↦ λ e. reply_if (first == table) (whole_reply schema public (ask_for schema asked first)) _ None
            (λ yes. absurd (false_is_not (sym n ∙ (ap (λ (t : ℕ). is_needed (ask_for schema asked t)) (sym (eqb-true first table yes)) ∙ e))))
            (λ differs. about_unneeded table tables n)
        | false ↦ λ e. about_unneeded table tables n
      ]) refl

  -- a visible value of a row
  pub visible_value :
      (table place column : ℕ) (row : Row) → slice_get (rows_of database table) place ≡ Some row → is_visible schema table column ≡ true
      → value_at (visible_places schema table) (shown_part table row) column ≡ slice_get row column
  visible_value table place zero row h v = absurd (false_is_not v)
  visible_value table place (suc column) row h v =
      let both : BothHold (nat_lt 0 (suc column)) (is_shown (column_at schema table (suc column))) = both_hold _ _ v in
      visible_of_row (columns_of schema table) row column (is.widths table (suc place) row h) both.other

  values_alike :
      (table place : ℕ) (row : Row) (tests : List ColumnTest) → slice_get (rows_of database table) place ≡ Some row
      → list_all (λ (test : ColumnTest). is_visible schema table test.column) tests ≡ true
      → Each (λ (test : ColumnTest). meets_test test.test (value_at (visible_places schema table) (shown_part table row) test.column) ≡ holds_in row test) tests
  values_alike table place row [] h v = tt
  values_alike table place row (test ∷ tests) h v =
      let both : BothHold (is_visible schema table test.column) (list_all (λ (test : ColumnTest). is_visible schema table test.column) tests) =
      both_hold _ _ v in
      (ap (λ (o : Option Value). meets_test test.test o) (visible_value table place test.column row h both.one), values_alike table place row tests h both.other)

  tests_met :
      (table place : ℕ) (row : Row) (tests : List ColumnTest) → slice_get (rows_of database table) place ≡ Some row
      → list_all (λ (test : ColumnTest). is_visible schema table test.column) tests ≡ true
      → meets_tests (visible_places schema table) tests (shown_part table row) ≡ each_group says_more (holds_in row) tests
  tests_met table place row tests h v =
      each_group_agrees says_more (λ test. meets_test test.test (value_at (visible_places schema table) (shown_part table row) test.column)) (holds_in row) tests
      (values_alike table place row tests h v)

  -- a row in the whole reply of its table
  row_in_reply :
      (table place : ℕ) (row : Row) → slice_get (rows_of database table) place ≡ Some row
      → row_replied (suc place) (visible_rows schema public (ask_for schema asked table)) ≡ if_met (visible_places schema table) (ask_for schema asked table) (suc place) (shown_part table row)
  row_in_reply table place row h =
      let ask : Ask = ask_for schema asked table in
      let at : slice_get (rows_by visible_values (columns_of schema table) (rows_of database table)) place ≡ Some (shown_part table row) =
      slice_get-map (shown_part table) (rows_of database table) place ∙ ap (option_map (shown_part table)) h in
      ap (λ (rows : Rows). row_replied (suc place) (replies_from 1 (visible_places schema table) ask rows)) (visible_rows_at schema database is.tables table)
      ∙ subst (λ (n : ℕ). row_replied n (replies_from 1 (visible_places schema table) ask (rows_by visible_values (columns_of schema table) (rows_of database table))) ≡ if_met (visible_places schema table) ask n (shown_part table row)) (omega arith)
      (row_is_replied 1 place (visible_places schema table) ask (rows_by visible_values (columns_of schema table) (rows_of database table)) (shown_part table row) at)

  stood :
      (table place : ℕ) (row : Row) → slice_get (rows_of database table) place ≡ Some row
      → is_some (row_replied (suc place) (visible_rows schema public (ask_for schema asked table))) ≡ stands_by table row
  stood table place row h =
      ap (λ (o : Option RowValues). is_some o) (row_in_reply table place row h)
      ∙ (is_some_if (meets_tests (visible_places schema table) (tests_of schema table asked.conditions) (shown_part table row)) (replied (visible_places schema table) (ask_for schema asked table) (suc place) (shown_part table row))
      ∙ tests_met table place row (tests_of schema table asked.conditions) h (visible_tests schema table asked.conditions))

  table_stands : (table place : ℕ) (row : Row) → slice_get (rows_of database table) place ≡ Some row → Among table asked.from → Among table (filter (is_from asked) (places_of schema))
  table_stands table place row h among =
      let there : table < length database = rows_there database table place row h in
      among-filter (is_from asked) table (places_of schema)
      (subst (λ (n : ℕ). Among n (places_of schema)) (omega arith) (place_stands 0 table schema (omega (arith, there, is.tables))))
      (among_any table asked.from among)

  -- a row stands in the reply of its table where the conditions of that table hold in it
  pub stands_in_is :
      (table place : ℕ) (row : Row) → slice_get (rows_of database table) place ≡ Some row → Among table asked.from
      → stands_in (suc place) (reply_about table (whole_replies schema public asked)) ≡ stands_by table row
  stands_in_is table place row h among =
      (elim (is_needed (ask_for schema asked table)) as (λ v. is_needed (ask_for schema asked table) ≡ v → stands_in (suc place) (reply_about table (whole_replies schema public asked)) ≡ stands_by table row) [
        | true ↦ λ e. ap (λ (o : Option Reply). stands_in (suc place) o) (about_needed table (filter (is_from asked) (places_of schema)) e (table_stands table place row h among)) ∙ stood table place row h
        | false ↦ λ e. ap (λ (o : Option Reply). stands_in (suc place) o) (about_unneeded table (filter (is_from asked) (places_of schema)) e)
            ∙ sym (no_group_fails says_more (holds_in row) (tests_of schema table asked.conditions)
            (no_need (is_empty (filter (is_wanted schema asked table) (places_of (columns_of schema table)))) (is_empty (tests_of schema table asked.conditions)) e))
      ]) refl

  all_there : (table place : ℕ) (row : Row) (columns : List ℕ) → slice_get (rows_of database table) place ≡ Some row → list_all (is_visible schema table) columns ≡ true → AllThere (value_at (visible_places schema table) (shown_part table row)) columns
  all_there table place row [] h v = tt
  all_there table place row (column ∷ columns) h v =
      let both : BothHold (is_visible schema table column) (list_all (is_visible schema table) columns) = both_hold _ _ v in
      let shown : BothHold (nat_lt 0 column) (is_shown (column_at schema table column)) = both_hold _ _ both.one in
      let within : column < length (columns_of schema table) = shown_within (columns_of schema table) column shown.other in
      let it = there_is row column (omega (arith, within, is.widths table (suc place) row h)) in
      ((it.0, visible_value table place column row h both.one ∙ it.1), all_there table place row columns h both.other)

  replied_is :
      (table place column : ℕ) (row : Row) → slice_get (rows_of database table) place ≡ Some row → is_visible schema table column ≡ true
      → Among table asked.from → stands_by table row ≡ true → is_wanted schema asked table column ≡ true
      → replied_value (whole_replies schema public asked) table (suc place) column ≡ slice_get row column
  replied_is table place column row h v among stands wants =
      let ask : Ask = ask_for schema asked table in
      let shown : BothHold (nat_lt 0 column) (is_shown (column_at schema table column)) = both_hold _ _ v in
      let within : column < length (columns_of schema table) = shown_within (columns_of schema table) column shown.other in
      let wanted : Among column (filter (is_wanted schema asked table) (places_of (columns_of schema table))) =
      among-filter (is_wanted schema asked table) column (places_of (columns_of schema table))
      (subst (λ (n : ℕ). Among n (places_of (columns_of schema table))) (omega arith) (place_stands 0 column (columns_of schema table) within))
      wants in
      let needed : is_needed (ask_for schema asked table) ≡ true = some_need column ask.columns (is_empty ask.tests) wanted in
      let met : meets_tests (visible_places schema table) (tests_of schema table asked.conditions) (shown_part table row) ≡ true =
      tests_met table place row (tests_of schema table asked.conditions) h (visible_tests schema table asked.conditions) ∙ stands in
      let given : RowValues → Option Value = λ one. value_at ask.columns one.values column in
      ap (λ (o : Option Reply). option_and_then (λ reply. option_and_then (λ one. value_at reply.ask.columns one.values column) (row_replied (suc place) reply.rows)) o)
      (about_needed table (filter (is_from asked) (places_of schema)) needed (table_stands table place row h among))
      ∙ (ap (λ (o : Option RowValues). option_and_then given o) (row_in_reply table place row h)
      ∙ (ap (λ (b : Bool). option_and_then given (if b then Some (replied (visible_places schema table) ask (suc place) (shown_part table row)) else None)) met
      ∙ (value_asked (value_at (visible_places schema table) (shown_part table row)) ask.columns column
      (all_there table place row ask.columns h (all_wanted schema asked table (places_of (columns_of schema table)))) wanted
      ∙ visible_value table place column row h v)))

  -- what the key must have been told to know a visible column of a row
  pub record IsTold (table column : ℕ) (row : Row) : Type 0 where
    pub from : Among table asked.from
    pub stands : stands_by table row ≡ true
    pub wanted : is_wanted schema asked table column ≡ true

  pub known_is :
      (table place column : ℕ) (row : Row) → slice_get (rows_of database table) place ≡ Some row
      → (is_visible schema table column ≡ true → IsTold table column row)
      → known_value schema (hidden_of schema database) (whole_replies schema public asked) table (suc place) column ≡ slice_get row column
  known_is table place zero row h told = sym (is.identifiers table (suc place) row h)
  known_is table place (suc column) row h told =
      value_by (is_visible schema table (suc column)) (replied_value (whole_replies schema public asked) table (suc place) (suc column))
      (hidden_value schema (hidden_of schema database) table (suc place) (suc column)) (slice_get row (suc column))
      (λ v. let t : IsTold table (suc column) row = told v in replied_is table place (suc column) row h v t.from t.stands t.wanted)
      (λ v. hidden_is_known schema database is table place column row h (not_shown column (is_shown (column_at schema table (suc column))) v))
