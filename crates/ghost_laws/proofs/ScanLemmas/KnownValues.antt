-- Each selected value, and each of a column in a group that is left, is known where the rows stand in the replies to all asks: an
-- asked one is of its column's kind, since the reply has one value for each asked column, of its kind.
use Rattle.std.proofs.Common.{◌≡◌, ℕ, zero, suc, ◌+◌, ◌<◌, ◌≤◌, inl, inr, pos, Bool, true, false, not, ◌&&◌, ◌||◌, ◌==◌, nat_eq, nat_lt, List, [], ◌∷◌, length, map, filter, sym, ◌∙◌, ap, subst, refl, arith, eqb-true, eq-eqb, Some, slice_get, option_and_then, if◌then◌else◌}
use Rattle.std.specs.Prelude.{is_some, unwrap_or}
use Rattle.std.specs.List.{list_all, list_any}
use Rattle.std.proofs.lemmas.Bool.{lt-ltb}
use Rattle.std.proofs.lemmas.List.Folds.{list_all-append}
use Rattle.ghost_model.specs.core.Schema.{Schema, Column, Kind, columns_of, column_at, places_from, is_empty, is_shown, is_visible, places_of}
use Rattle.ghost_model.specs.laws.SchemaTrees.{IsTree}
use Rattle.ghost_model.specs.core.Values.{Number, Row, Database}
use Rattle.ghost_model.specs.core.Query.{Query, Field, Member, GroupMember, members_of_group, members_in, Condition, OneOf, Join}
use Rattle.ghost_model.specs.core.Groups.{each_of, some_of}
use Rattle.ghost_model.specs.refusals.QueryMeaning as meaning
use Rattle.ghost_model.specs.core.Channel.{Ask}
use Rattle.ghost_model.specs.core.Asks.{kind_at, kinds_of, is_wanted, is_mixed, is_column, names_column, ask_for, is_needed, asks_of}
use Rattle.ghost_model.specs.core.Asks.{is_shown as is_shown_of}
use Rattle.ghost_model.specs.laws.ShortWords.{is_field, is_from}
use Rattle.ghost_model.specs.core.Database.{IsDatabase, row_of, row_count, is_of_kind}
use Rattle.ghost_model.specs.core.Split.{RowValues, hidden_of, value_at, are_of_kinds}
use Rattle.ghost_model.specs.core.Replies.{Reply, reply_about, row_replied, replied_value, hidden_value, known_value}
use Rattle.ghost_model.proofs.ChannelLemmas.Tests.{hold_both}
use Rattle.ghost_model.proofs.MeaningLemmas.OneRow.{Among, among-filter, from_filter, from_map, IsLinked, query_is_linked, both_true, in_table, among_is}
use Rattle.ghost_model.proofs.MeaningLemmas.Leading.{landing, place_within}
use Rattle.ghost_model.proofs.SessionLemmas.Accepted.{each_is, query_is_sound}
use Rattle.ghost_model.proofs.SessionLemmas.Members.{left_true, right_true, any_true, some_true, each_true, true_of_each}
use Rattle.ghost_laws.specs.Asking.{is_left}
use Rattle.ghost_laws.specs.Scans.{is_kept_row, stands_along, holds_or_asked_along, known_along, known_row}
use Rattle.ghost_laws.specs.Selected.{has_selected, is_of_kinds, AreWholeReplies, KnownAnswersHaveSelected}
use Rattle.ghost_laws.proofs.AskingLemmas.{visible_is_neither}
use Rattle.ghost_laws.proofs.ScanLemmas.Keys.{below_top}
use Rattle.ghost_laws.proofs.ScanLemmas.Choices.{to_map}
use Rattle.ghost_laws.proofs.ScanLemmas.Accepted.{pass_each, has_conditions, member_from}
use Rattle.ghost_laws.proofs.ScanLemmas.KnownRows.{hidden_is}
use Rattle.ghost_laws.proofs.ScanLemmas.Columns.{HasColumn, select_has, conditions_have}
use Rattle.ghost_laws.proofs.ScanLemmas.Values.{Stands, all_told, none_missing, alone_or_none, all_by_number, field_stands, row_numbered}
use Rattle.ghost_model.specs.core.Meaning.{no_value}

-- a value among values of these kinds
value_of_kinds : (kind : ℕ → Kind) (columns : List ℕ) (values : Row) → are_of_kinds (map kind columns) values ≡ true → (column : ℕ)
    → Among column columns → Stands (kind column) (value_at columns values column)
value_of_kinds kind [] values h column a = absurd a
value_of_kinds kind (first ∷ columns) [] h column a = let bad : ⊥ = cc in absurd bad
value_of_kinds kind (first ∷ columns) (value ∷ values) h column a =
    let both = both_true (is_of_kind (kind first) value) (are_of_kinds (map kind columns) values) h in
    (elim (nat_eq first column) as (λ v. nat_eq first column ≡ v → Stands (kind column) (if v then Some value else value_at columns values column)) [
      | true ↦ λ e. (value, refl, ap (λ c. is_of_kind (kind c) value) (sym (eqb-true first column e)) ∙ both.0)
      | false ↦ λ e. (elim a [
        | inl same ↦ (let bad = sym (eq-eqb first column same) ∙ e in let worse : ⊥ = cc in absurd worse)
        | inr later ↦ value_of_kinds kind columns values both.1 column later
      ])
    ]) refl

-- asks of a query
place_stands : {X : Type 0} (at place : ℕ) (xs : List X) → place < length xs → Among (at + place) (places_from (λ (x : X). true) at xs)
unfolding places_from
place_stands at place [] h = let bad : ⊥ = omega (arith, h) in absurd bad
place_stands at zero (x ∷ xs) h = inl (let e : at ≡ at + 0 = omega arith in e)
place_stands at (suc place) (x ∷ xs) h =
    let e : at + 1 + place ≡ at + suc place = omega arith in
    inr (subst (λ n. Among n (places_from (λ _. true) (at + 1) xs)) e (place_stands (at + 1) place xs (omega (arith, h))))

stands_first : {X : Type 0} (place : ℕ) (xs : List X) → place < length xs → Among place (places_of xs)
stands_first place xs h =
    let e : 0 + place ≡ place = omega arith in
    subst (λ n. Among n (places_of xs)) e (place_stands 0 place xs h)

field_is : (f : Field) (select : List Field) → Among f select → list_any (is_field f.table f.column) select ≡ true
field_is f [] h = absurd h
field_is f (first ∷ select) (inl same) =
    ap (λ v. v || list_any (is_field f.table f.column) select)
    (hold_both (first.table == f.table) (first.column == f.column) (eq-eqb first.table f.table (ap (λ (g : Field). g.table) same)) (eq-eqb first.column f.column (ap (λ (g : Field). g.column) same)))
field_is f (first ∷ select) (inr later) = either (is_field f.table f.column first) (list_any (is_field f.table f.column) select) (field_is f select later)
  where
    either : (a b : Bool) → b ≡ true → (a || b) ≡ true
    either true b h = refl
    either false b h = h

needed : (column : ℕ) (columns : List ℕ) (b : Bool) → Among column columns → not (is_empty columns && b) ≡ true
needed column [] b h = absurd h
needed column (x ∷ xs) b h = refl

module _ (schema : Schema) (asked : Query) where
  -- a visible column is wanted where it is selected, and where it stands in a group that is left
  IsWantedIfVisible : Field → Type 0
  IsWantedIfVisible f = is_visible schema f.table f.column ≡ true → is_wanted schema asked f.table f.column ≡ true

  selected_wanted : (f : Field) → Among f asked.select → IsWantedIfVisible f
  unfolding IsWantedIfVisible
  selected_wanted f a visible = hold_both _ _ visible (left_true _ _ (field_is f asked.select a))

  abbrev is_judged : Member → Bool
  is_judged one = is_visible schema one.field.table one.field.column

  left_unjudged : (first : Member) (others : List Member) → is_left schema (OneOf first others) ≡ true → each_of is_judged first others ≡ false
  left_unjudged first others left =
      (elim (each_of is_judged first others) as (λ v. each_of is_judged first others ≡ v → v ≡ false) [
        | true ↦ λ e. (let none = (visible_is_neither schema first others e).1 in let bad : true ≡ false = sym left ∙ none in absurd (cc))
        | false ↦ λ e. refl
      ]) refl

  left_wanted : (first : Member) (others : List Member) (one : Member) → Among (OneOf first others) asked.conditions → Among one (first ∷ others)
      → is_left schema (OneOf first others) ≡ true → IsWantedIfVisible one.field
  unfolding IsWantedIfVisible
  left_wanted first others one among within left visible =
      let table : ℕ = one.field.table in
      let column : ℕ = one.field.column in
      let same : table == table ≡ true = eq-eqb table table refl in
      let some_shown : some_of (is_shown_of schema table) first others ≡ true =
      some_true (is_shown_of schema table) one first others within (hold_both _ _ same visible) in
      let judged_if : each_of (is_shown_of schema table) first others ≡ true → each_of is_judged first others ≡ true = λ shown.
      true_of_each is_judged first others
      (λ other a.
      let both = both_true (other.field.table == table) (is_visible schema table other.field.column) (each_true (is_shown_of schema table) other first others shown a) in
      subst (λ (n : ℕ). is_visible schema n other.field.column ≡ true) (sym (eqb-true other.field.table table both.0)) both.1) in
      let not_each : each_of (is_shown_of schema table) first others ≡ false =
      (elim (each_of (is_shown_of schema table) first others) as (λ v. each_of (is_shown_of schema table) first others ≡ v → v ≡ false) [
        | true ↦ λ e. (let bad : true ≡ false = sym (judged_if e) ∙ left_unjudged first others left in absurd (cc))
        | false ↦ λ e. refl
      ]) refl in
      let mixed : is_mixed schema table (OneOf first others) ≡ true = hold_both _ _ some_shown (ap not not_each) in
      let named : names_column table column (OneOf first others) ≡ true =
      some_true (λ (it : Member). is_column table column it.field) one first others within (hold_both _ _ same (eq-eqb column column refl)) in
      hold_both (is_visible schema table column) _ visible
      (right_true (list_any (is_column table column) asked.select) _
      (any_true (λ c. is_mixed schema table c && names_column table column c) (OneOf first others) asked.conditions among (hold_both _ _ mixed named)))

  -- such a column is asked for
  column_asked : (f : Field) (declared : Column) → column_at schema f.table f.column ≡ Some declared → is_wanted schema asked f.table f.column ≡ true
      → Among f.column (ask_for schema asked f.table).columns
  column_asked f declared h wanted =
      among-filter (is_wanted schema asked f.table) f.column (places_of (columns_of schema f.table))
      (stands_first f.column (columns_of schema f.table) (place_within (columns_of schema f.table) f.column declared h))
      wanted

  ask_stands : (f : Field) (declared : Column) → column_at schema f.table f.column ≡ Some declared → Among f.table asked.from
      → Among f.column (ask_for schema asked f.table).columns → Among (ask_for schema asked f.table) (asks_of schema asked)
  ask_stands f declared h from column =
      let held = in_table (slice_get schema f.table) f.column declared h in
      among-filter is_needed (ask_for schema asked f.table) (map (ask_for schema asked) (filter (is_from asked) (places_of schema)))
      (to_map (ask_for schema asked) f.table (filter (is_from asked) (places_of schema))
      (among-filter (is_from asked) f.table (places_of schema) (stands_first f.table schema (place_within schema f.table held.0 held.1)) (among_is f.table asked.from from)))
      (needed f.column (ask_for schema asked f.table).columns (is_empty (ask_for schema asked f.table).tests) column)

  only_ask : (ask : Ask) → Among ask (asks_of schema asked) → (table : ℕ) → ask.table ≡ table → ask ≡ ask_for schema asked table
  only_ask ask a table same =
      let r = from_filter is_needed ask (map (ask_for schema asked) (filter (is_from asked) (places_of schema))) a in
      let q = from_map (ask_for schema asked) ask (filter (is_from asked) (places_of schema)) r.0 in
      let at : q.0 ≡ table = ap (λ (one : Ask). one.table) q.2 ∙ same in
      sym q.2 ∙ ap (ask_for schema asked) at

-- the reply to an ask that alone is about its table
reply_found : (target : Ask) (given : List Reply) → Among target (map (λ (reply : Reply). reply.ask) given)
    → ((ask : Ask) → Among ask (map (λ (reply : Reply). reply.ask) given) → ask.table ≡ target.table → ask ≡ target)
    → (reply : Reply) × (reply_about target.table given ≡ Some reply) × (reply.ask ≡ target) × Among reply given
reply_found target [] h only = absurd h
reply_found target (reply ∷ later) h only =
    (elim (nat_eq reply.ask.table target.table) as (λ v. nat_eq reply.ask.table target.table ≡ v → (it : Reply) × ((if v then Some reply else reply_about target.table later) ≡ Some it) × (it.ask ≡ target) × Among it (reply ∷ later)) [
      | true ↦ λ e. (reply, refl, only reply.ask (inl refl) (eqb-true reply.ask.table target.table e), inl refl)
      | false ↦ λ e. (elim h [
        | inl same ↦ (let bad = sym (eq-eqb reply.ask.table target.table (ap (λ (one : Ask). one.table) same)) ∙ e in let worse : ⊥ = cc in absurd worse)
        | inr more ↦ (let r = reply_found target later more (λ ask a. only ask (inr a)) in (r.0, r.1, r.2, inr r.3))
      ])
    ]) refl

row_found : (identifier : ℕ) (rows : List RowValues) → is_some (row_replied identifier rows) ≡ true
    → (row : RowValues) × (row_replied identifier rows ≡ Some row) × Among row rows
row_found identifier [] h = let bad : ⊥ = cc in absurd bad
row_found identifier (row ∷ rows) h =
    (elim (nat_eq row.identifier identifier) as (λ v. is_some (if v then Some row else row_replied identifier rows) ≡ true → (it : RowValues) × ((if v then Some row else row_replied identifier rows) ≡ Some it) × Among it (row ∷ rows)) [
      | true ↦ λ s. (row, refl, inl refl)
      | false ↦ λ s. (let r = row_found identifier rows s in (r.0, r.1, inr r.2))
    ]) h

not_shown : (before : ℕ) (shown : Bool) → (nat_lt 0 (suc before) && shown) ≡ false → shown ≡ false
not_shown before false e = refl
not_shown before true e =
    let both : (nat_lt 0 (suc before) && true) ≡ true = hold_both (nat_lt 0 (suc before)) true (lt-ltb 0 (suc before) (omega arith)) refl in
    sym both ∙ e

module _ (schema : Schema) (database : Database) (tree : IsTree schema) (is : IsDatabase schema database) (asked : Query) (given : List Reply) (are : AreWholeReplies schema asked given) where
  -- a value in the reply about a table
  stands_in_reply : (f : Field) (identifier : ℕ) (reply : Reply) → reply_about f.table given ≡ Some reply → reply.ask ≡ ask_for schema asked f.table
      → Among reply given → Among f.column (ask_for schema asked f.table).columns → is_some (row_replied identifier reply.rows) ≡ true
      → Stands (kind_at schema f.table f.column) (replied_value given f.table identifier f.column)
  stands_in_reply f identifier reply about same among column kept =
      let row = row_found identifier reply.rows kept in
      let kinds = pass_each (λ (one : RowValues). are_of_kinds (kinds_of schema reply.ask) one.values) reply.rows
      (pass_each (is_of_kinds schema) given are.kinds reply among) row.0 row.2 in
      let value = value_of_kinds (kind_at schema f.table) (ask_for schema asked f.table).columns row.0.values
      (subst (λ (ask : Ask). are_of_kinds (kinds_of schema ask) row.0.values ≡ true) same kinds) f.column column in
      let known : replied_value given f.table identifier f.column ≡ value_at reply.ask.columns row.0.values f.column =
      ap (option_and_then (λ (it : Reply). option_and_then (λ (one : RowValues). value_at it.ask.columns one.values f.column) (row_replied identifier it.rows))) about
      ∙ ap (option_and_then (λ (one : RowValues). value_at reply.ask.columns one.values f.column)) row.1 in
      (value.0, known ∙ (ap (λ (ask : Ask). value_at ask.columns row.0.values f.column) same ∙ value.1), value.2)

  -- a replied value
  replied_stands : (f : Field) (declared : Column) (identifier : ℕ) → column_at schema f.table f.column ≡ Some declared → Among f.table asked.from
      → is_wanted schema asked f.table f.column ≡ true → is_kept_row (Some identifier) (reply_about f.table given) ≡ true
      → Stands (kind_at schema f.table f.column) (replied_value given f.table identifier f.column)
  replied_stands f declared identifier h from wanted kept =
      let target = ask_for schema asked f.table in
      let column = column_asked schema asked f declared h wanted in
      let there = ask_stands schema asked f declared h from column in
      let found =
      reply_found target given (subst (λ asks. Among target asks) (sym are.asks) there)
      (λ ask a same. only_ask schema asked ask (subst (λ asks. Among ask asks) are.asks a) f.table same) in
      stands_in_reply f identifier found.0 found.1 found.2 found.3 column (sym (ap (is_kept_row (Some identifier)) found.1) ∙ kept)

  known_stands : (table column : ℕ) (declared : Column) (identifier : ℕ) (row : Row) → row_of database table identifier ≡ Some row
      → column_at schema table column ≡ Some declared → Among table asked.from → IsWantedIfVisible schema asked (meaning.field table column)
      → is_kept_row (Some identifier) (reply_about table given) ≡ true
      → Stands (kind_at schema table column) (known_value schema (hidden_of schema database) given table identifier column)
  unfolding IsWantedIfVisible
  known_stands table zero declared identifier row there h from wanted kept =
      let v = field_stands schema database tree is table identifier row there 0 declared h in
      let number : Some v.0 ≡ Some (Number (pos identifier)) =
      sym v.1 ∙ ap (option_and_then (λ (r : Row). slice_get r 0)) there ∙ is.identifiers table identifier row there in
      (v.0, sym number, v.2)
  known_stands table (suc before) declared identifier row there h from wanted kept =
      let v = field_stands schema database tree is table identifier row there (suc before) declared h in
      (elim (is_visible schema table (suc before)) as (λ seen. is_visible schema table (suc before) ≡ seen → Stands (kind_at schema table (suc before)) (if seen then replied_value given table identifier (suc before) else hidden_value schema (hidden_of schema database) table identifier (suc before))) [
        | true ↦ λ e. replied_stands (meaning.field table (suc before)) declared identifier h from (wanted e) kept
        | false ↦ λ e. (v.0, hidden_is schema database tree is given table identifier before (not_shown before (is_shown (column_at schema table (suc before))) e) ∙ v.1, v.2)
      ]) refl

  module _ (top : ℕ) (linked : IsLinked schema asked top) (identifier : ℕ) (row : Row) (there : row_of database top identifier ≡ Some row) where
    along_stands : list_all (stands_along schema database given top identifier) asked.from ≡ true
        → (f : Field) → Among f.table asked.from → IsWantedIfVisible schema asked f → HasColumn schema f
        → Stands (kind_at schema f.table f.column) (known_along schema database given top identifier f)
    along_stands kept f from wanted has =
        let below = below_top schema tree asked top linked f.table from in
        let l = landing schema database tree is below.0 top f.table identifier row below.1 there in
        let stands : is_kept_row (Some l.reached) (reply_about f.table given) ≡ true =
        sym (ap (λ o. is_kept_row o (reply_about f.table given)) l.led) ∙ pass_each (stands_along schema database given top identifier) asked.from kept f.table from in
        let value = known_stands f.table f.column has.0 l.reached l.row l.stands has.1 from wanted stands in
        (value.0, ap (option_and_then (λ reached. known_value schema (hidden_of schema database) given f.table reached f.column)) l.led ∙ value.1, value.2)

-- what holds of each member of some groups
grouped_all : (p : Member → Bool) (first : Member) (others : List Member) → ((one : Member) → Among one (first ∷ others) → p one ≡ true)
    → list_all (λ (one : GroupMember). p one.member) (members_of_group first others) ≡ true
grouped_all p first [] h = hold_both (p first) true (h first (inl refl)) refl
grouped_all p first (next ∷ others) h =
    hold_both (p first) _ (h first (inl refl)) (grouped_all p next others (λ one a. h one (inr a)))

all_members : (p : Member → Bool) (conditions : List Condition)
    → ((first : Member) (others : List Member) (one : Member) → Among (OneOf first others) conditions → Among one (first ∷ others) → p one ≡ true)
    → list_all (λ (one : GroupMember). p one.member) (members_in conditions) ≡ true
all_members p [] h = refl
all_members p (Join left right ∷ conditions) h = all_members p conditions (λ first others one a within. h first others one (inr a) within)
all_members p (OneOf first others ∷ conditions) h =
    list_all-append (λ (one : GroupMember). p one.member) (members_of_group first others) (members_in conditions)
    ∙ hold_both _ _ (grouped_all p first others (λ one within. h first others one (inl refl) within))
    (all_members p conditions (λ other later one a within. h other later one (inr a) within))

pub known_answers_have_selected : KnownAnswersHaveSelected
known_answers_have_selected schema tree database is text asked means given are top at_top =
    let linked = query_is_linked schema text asked top means at_top in
    let sound = query_is_sound schema text asked tree means in
    let conditions = has_conditions schema text asked means in
    let kind : Field → Kind = λ f. kind_at schema f.table f.column in
    let stand : (identifier : ℕ) → 1 ≤ identifier → identifier ≤ row_count database top
    → list_all (stands_along schema database given top identifier) asked.from ≡ true
    → (f : Field) → Among f asked.select → Stands (kind f) (known_along schema database given top identifier f) =
    λ identifier low high stands f a.
    let row = row_numbered schema database tree is top identifier low high in
    along_stands schema database tree is asked given are top linked identifier row.0 row.1 stands f
    (each_is (λ (g : Field). Among g.table asked.from) f asked.select sound.chosen a) (selected_wanted schema asked f a) (select_has schema text asked means f a) in
    let each : (identifier : ℕ) → 1 ≤ identifier → identifier ≤ row_count database top
    → list_all (has_selected schema asked) (known_row schema database asked given top identifier) ≡ true =
    λ identifier low high.
    let kept = list_all (stands_along schema database given top identifier) asked.from in
    let holds = list_all (holds_or_asked_along schema (known_along schema database given top identifier)) asked.conditions in
    alone_or_none (has_selected schema asked) (kept && holds)
    (map (λ f. unwrap_or (known_along schema database given top identifier f) no_value) asked.select)
    (λ passes. all_told kind (known_along schema database given top identifier) asked.select (stand identifier low high (both_true kept holds passes).0)) in
    record {
      row = each;
      none_missing = λ identifier low high stands. none_missing kind (known_along schema database given top identifier) asked.select (stand identifier low high stands);
      left = λ identifier low high stands.
          let row = row_numbered schema database tree is top identifier low high in
          all_members (λ one. is_some (known_along schema database given top identifier one.field)) (filter (is_left schema) asked.conditions)
          (λ first others one a within.
          let among = from_filter (is_left schema) (OneOf first others) asked.conditions a in
          let from = member_from asked.from first others one (conditions.from (OneOf first others) among.0) within in
          let has = each_is (λ (it : Member). HasColumn schema it.field) one (first ∷ others) (conditions_have schema text asked means (OneOf first others) among.0) within in
          ap is_some (along_stands schema database tree is asked given are top linked identifier row.0 row.1 stands one.field from
          (left_wanted schema asked first others one among.0 within among.1) has).1);
      answer = all_by_number (has_selected schema asked) (known_row schema database asked given top) 1 (row_count database top)
          (λ identifier low high. each identifier low (omega (arith, high)));
    }
