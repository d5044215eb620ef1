-- What the key answers by the replies is found along the foreign keys too, whatever the replies are: identifiers and foreign
-- keys do not depend on them.
use Rattle.std.proofs.Common.{◌≡◌, refl, sym, ap, ◌∙◌, ℕ, zero, suc, ◌+◌, inl, Bool, true, false, not, ◌&&◌, nat_eq, List, [], ◌∷◌, map, drop, filter, flat_map, Option, Some, None, slice_get, unwrap_or, option_and_then, arith, eqb-true, if◌then◌else◌}
use Rattle.std.specs.List.{list_all, range_with_len}
use Rattle.std.specs.Option.{option_map}
use Rattle.std.proofs.lemmas.List.Folds.{list_all-map}
use Rattle.std.proofs.lemmas.Option.{slice_get-map}
use Rattle.ghost_model.specs.core.Schema.{Schema, Column, columns_of, column_at, parent, is_shown, is_visible}
use Rattle.ghost_model.specs.laws.SchemaTrees.{IsTree}
use Rattle.ghost_model.specs.core.Values.{Value, Row, Rows, Database}
use Rattle.ghost_model.specs.core.Query.{Query, Field, Member, Condition, OneOf, Join, top_of, only, is_some_among}
use Rattle.ghost_model.specs.core.Database.{IsDatabase, rows_of, row_of, row_count, value_at_row}
use Rattle.ghost_model.specs.core.Split.{Hidden, hidden_of, value_at}
use Rattle.ghost_model.specs.core.Meaning.{meets_test, Pick, pick, no_value, answer_by_top}
use Rattle.ghost_model.specs.core.Groups.{each_of}
use Rattle.ghost_model.specs.laws.ShortWords.{others_of}
use Rattle.ghost_model.specs.laws.SplitByFlags.{hidden_flags, hidden_values}
use Rattle.ghost_model.proofs.MeaningLemmas.PartsByFlags.{hidden_rows_at}
use Rattle.ghost_model.specs.core.Replies as replies
use Rattle.ghost_model.specs.core.Replies.{Reply, reply_about, hidden_places, hidden_value, known_value, stands_in, answer_from}
use Rattle.ghost_model.proofs.MeaningLemmas.OneRow.{Among, from_filter, IsLinked, both_true, in_table}
use Rattle.ghost_model.proofs.MeaningLemmas.Leading.{get_within, place_within, to_itself_within}
use Rattle.ghost_model.proofs.SessionLemmas.Values.{hidden_of_row}
use Rattle.ghost_model.proofs.SessionLemmas.Members.{some_agree}
use Rattle.ghost_laws.specs.Scans.{known_along, is_kept_row, stands_along, holds_or_asked_along, known_row, known_answer}
use Rattle.ghost_laws.proofs.ScanLemmas.Keys.{IsValues, seen, join_holds}
use Rattle.ghost_laws.proofs.ScanLemmas.Choices.{chosen_in, picked}
use Rattle.ghost_laws.proofs.ScanLemmas.Accepted.{pass_each, HasConditions, member_from}
use Rattle.ghost_laws.proofs.ScanLemmas.OneChoice.{all_same, values_same, mapped_if, many, reach, reached, combined, combined_has, join_met, one_or_none}
use Rattle.ghost_laws.proofs.ScanLemmas.Rows.{all_more, same_for_identifiers}
use Rattle.ghost_model.proofs.MeaningLemmas.Picks.{known_in, is_true_or_asked, stands_in_reply, is_kept, answer_of_pick}

-- a test of the top table and of the others is one of all
passing_top : (test : ℕ → Bool) (top : ℕ) → test top ≡ true → (tables : List ℕ) → list_all test (others_of top tables) ≡ list_all test tables
passing_top test top passes [] = refl
passing_top test top passes (table ∷ tables) =
    let later = passing_top test top passes tables in
    (elim (nat_eq table top) as (λ v. nat_eq table top ≡ v → list_all test (if not v then table ∷ others_of top tables else others_of top tables) ≡ (test table && list_all test tables)) [
      | true ↦ λ e. later ∙ ap (λ v. v && list_all test tables) (sym (ap test (eqb-true table top e) ∙ passes))
      | false ↦ λ e. ap (λ v. test table && v) later
    ]) refl

top_and_others : (test : ℕ → Bool) (top : ℕ) (tables : List ℕ) → Among top tables → (test top && list_all test (others_of top tables)) ≡ list_all test tables
top_and_others test top tables a =
    (elim (test top) as (λ v. test top ≡ v → (v && list_all test (others_of top tables)) ≡ list_all test tables) [
      | true ↦ λ e. passing_top test top e tables
      | false ↦ λ e. (elim (list_all test tables) as (λ v. list_all test tables ≡ v → false ≡ v) [
        | true ↦ λ h. sym e ∙ pass_each test tables h top a
        | false ↦ λ h. refl
      ]) refl
    ]) refl

only_among : (xs : List ℕ) (x : ℕ) → only xs ≡ Some x → Among x xs
only_among [] x h = let bad : ⊥ = cc in absurd bad
only_among (y ∷ []) x h = inl (ap (λ o. unwrap_or o y) h)
only_among (y ∷ z ∷ xs) x h = let bad : ⊥ = cc in absurd bad

pub top_is_from : (schema : Schema) (asked : Query) (top : ℕ) → top_of schema asked ≡ Some top → Among top asked.from
top_is_from schema asked top h =
    let test : ℕ → Bool = λ table. not (is_some_among asked.from (parent schema table)) in
    (from_filter test top asked.from (only_among (filter test asked.from) top h)).0

and_false : (a b : Bool) → b ≡ false → (a && b) ≡ false
and_false true b e = e
and_false false b e = refl

by_row : (f : Row → Option Value) (part : Row → Row) (g : Row → Option Value) (o : Option Row) → ((row : Row) → o ≡ Some row → f (part row) ≡ g row)
    → option_and_then f (option_map part o) ≡ option_and_then g o
by_row f part g None same = refl
by_row f part g (Some row) same = same row refl

module _ (schema : Schema) (database : Database) (tree : IsTree schema) (is : IsDatabase schema database) (given : List Reply) where
  abbrev kept : Hidden
  kept = hidden_of schema database

  abbrev known : (table identifier column : ℕ) → Option Value
  known = known_value schema kept given

  -- a hidden value is the database's
  pub hidden_is : (table identifier before : ℕ) → is_shown (column_at schema table (suc before)) ≡ false
      → hidden_value schema kept table identifier (suc before) ≡ value_at_row database table identifier (suc before)
  hidden_is table zero before h = refl
  hidden_is table (suc place) before h =
      let value : Row → Option Value = λ values. value_at (hidden_places schema table) values (suc before) in
      let part : Row → Row = λ whole. hidden_values (hidden_flags (columns_of schema table)) (drop 1 whole) in
      ap (λ (rows : Rows). option_and_then value (slice_get rows place)) (hidden_rows_at schema database is.tables table)
      ∙ (ap (λ (o : Option Row). option_and_then value o) (slice_get-map part (rows_of database table) place)
      ∙ by_row value part (λ row. slice_get row (suc before)) (slice_get (rows_of database table) place)
      (λ row there. hidden_of_row (columns_of schema table) row before (is.widths table (suc place) row there) h))

  key_known : (table identifier column child : ℕ) (declared : Column) → column_at schema table column ≡ Some declared
      → declared.child ≡ Some child → known table identifier column ≡ value_at_row database table identifier column
  key_known table identifier zero child declared h hc =
      let held = in_table (slice_get schema table) 0 declared h in
      let within = place_within schema table held.0 held.1 in
      let same = sym h ∙ tree.begins_with_id table within in
      let none : Some child ≡ None = sym hc ∙ ap (option_and_then (λ (c : Column). c.child)) same in
      let bad : ⊥ = cc in
      absurd bad
  key_known table identifier (suc before) child declared h hc =
      let unseen : is_shown (column_at schema table (suc before)) ≡ false =
      ap is_shown h ∙ ap not (tree.references_are_hidden table (suc before) child declared h hc) in
      ap (λ v. if v then replies.replied_value given table identifier (suc before) else hidden_value schema kept table identifier (suc before)) (and_false _ (is_shown (column_at schema table (suc before))) unseen)
      ∙ hidden_is table identifier before unseen

  is_values : IsValues schema database known
  is_values = record { numbered = λ table identifier row h. refl; keys = key_known }

  known_seen : (x : List Pick) (f : Field) → known_in schema kept given x f ≡ seen known (chosen_in x) f
  known_seen [] f = refl
  known_seen (one ∷ others) f =
      (elim (nat_eq one.table f.table) as (λ v. nat_eq one.table f.table ≡ v → (if v then known one.table one.identifier f.column else known_in schema kept given others f) ≡ option_and_then (λ n. known f.table n f.column) (if v then Some one.identifier else chosen_in others f.table)) [
        | true ↦ λ e. ap (λ t. known t one.identifier f.column) (eqb-true one.table f.table e)
        | false ↦ λ e. known_seen others f
      ]) refl

  join_seen : (x : List Pick) (c : Condition) → is_true_or_asked schema kept given x c ≡ true → join_holds known (chosen_in x) c ≡ true
  join_seen x (OneOf first others) h = refl
  join_seen x (Join one other) h = rw (sym (known_seen x one), sym (known_seen x other)) h

  module _ (asked : Query) (top : ℕ) (linked : IsLinked schema asked top) (conditions : HasConditions schema asked) (from_select : (f : Field) → Among f asked.select → Among f.table asked.from) (from : Among top asked.from) (identifier : ℕ) (row : Row) (there : row_of database top identifier ≡ Some row) where
    abbrev one : List Pick
    one = combined schema database tree is asked top linked identifier row there

    seen_along : (f : Field) → Among f.table asked.from → known_in schema kept given one f ≡ known_along schema database given top identifier f
    seen_along f a =
        known_seen one f
        ∙ ap (option_and_then (λ n. known f.table n f.column)) (combined_has schema database tree is asked top linked identifier row there f.table a)

    condition_along : (c : Condition) → Among c asked.conditions
        → is_true_or_asked schema kept given one c ≡ holds_or_asked_along schema (known_along schema database given top identifier) c
    condition_along (OneOf first others) a =
        let shown : Member → Bool = λ member. is_visible schema member.field.table member.field.column in
        ap (λ (b : Bool). if each_of shown first others then true else b)
        (some_agree (λ (member : Member). meets_test member.test (known_in schema kept given one member.field))
        (λ (member : Member). meets_test member.test (known_along schema database given top identifier member.field)) first others
        (λ member among.
        ap (meets_test member.test)
        (seen_along member.field (member_from asked.from first others member (conditions.from (OneOf first others) a) among))))
    condition_along (Join left right) a =
        rw (known_seen one left, known_seen one right)
        (join_met schema database tree is asked top linked identifier row there known is_values conditions left right a)

    -- the rows stand in the replies
    stand_along : list_all (stands_in_reply given) one ≡ list_all (stands_along schema database given top identifier) asked.from
    stand_along =
        let others = others_of top asked.from in
        let to = reach schema database tree is asked top linked identifier row there in
        let test : ℕ → Bool = stands_along schema database given top identifier in
        let first : stands_in identifier (reply_about top given) ≡ test top =
        ap (λ o. is_kept_row o (reply_about top given)) (sym (to_itself_within schema database schema top identifier top refl)) in
        let later : list_all (stands_in_reply given) (picked to others) ≡ list_all test others =
        list_all-map (stands_in_reply given) (λ table. pick table (to table)) others
        ∙ all_same (λ table. stands_in (to table) (reply_about table given)) test others
        (λ table a.
        ap (λ o. is_kept_row o (reply_about table given))
        (sym (reached schema database tree is asked top linked identifier row there table (from_filter (λ t. not (nat_eq t top)) table asked.from a).0).0)) in
        ap (λ v. v && list_all (stands_in_reply given) (picked to others)) first
        ∙ ap (λ v. test top && v) later
        ∙ top_and_others test top asked.from from

    row_is : answer_of_pick schema kept asked given top identifier ≡ known_row schema database asked given top identifier
    row_is =
        let test : List Pick → Bool = is_kept schema kept given asked.conditions in
        let line : List Pick → Row = λ x. map (λ f. unwrap_or (known_in schema kept given x f) no_value) asked.select in
        let along : Field → Option Value = known_along schema database given top identifier in
        ap (map line)
        (one_or_none schema database tree is asked top linked identifier row there known is_values test
        (λ x h.
        all_more (is_true_or_asked schema kept given x) (join_holds known (chosen_in x)) asked.conditions (λ c hc. join_seen x c hc)
        (both_true (list_all (stands_in_reply given) x) (list_all (is_true_or_asked schema kept given x) asked.conditions) h).1))
        ∙ mapped_if line (test one) one
        ∙ ap (λ (b : Bool). if b && list_all (is_true_or_asked schema kept given one) asked.conditions then line one ∷ [] else []) stand_along
        ∙ ap (λ (b : Bool). if list_all (stands_along schema database given top identifier) asked.from && b then line one ∷ [] else [])
        (all_same (is_true_or_asked schema kept given one) (holds_or_asked_along schema along) asked.conditions condition_along)
        ∙ ap (λ (values : Row). if list_all (stands_along schema database given top identifier) asked.from && list_all (holds_or_asked_along schema along) asked.conditions then values ∷ [] else [])
        (values_same (λ f. unwrap_or (known_in schema kept given one f) no_value) (λ f. unwrap_or (along f) no_value) asked.select
        (λ f a. ap (λ (o : Option Value). unwrap_or o no_value) (seen_along f (from_select f a))))

pub known_answers_follow : (schema : Schema) → IsTree schema → (database : Database) → IsDatabase schema database → (given : List Reply)
    → (asked : Query) (top : ℕ) → top_of schema asked ≡ Some top → IsLinked schema asked top → HasConditions schema asked
    → ((f : Field) → Among f asked.select → Among f.table asked.from)
    → answer_from schema (hidden_of schema database) asked given ≡ known_answer schema database asked given top
known_answers_follow schema tree database is given asked top at_top linked conditions from_select =
    ap (λ o. answer_by_top (replies.known schema (hidden_of schema database) given) asked o) at_top
    ∙ ap (λ n. flat_map (answer_of_pick schema (hidden_of schema database) asked given top) (range_with_len 1 n)) (many schema database tree is asked top linked top)
    ∙ same_for_identifiers (answer_of_pick schema (hidden_of schema database) asked given top) (known_row schema database asked given top) 1 (row_count database top)
    (λ place h.
    let row = get_within (rows_of database top) place h in
    let e : 1 + place ≡ suc place = omega arith in
    row_is schema database tree is given asked top linked conditions from_select (top_is_from schema asked top at_top) (1 + place) row.0 (ap (row_of database top) e ∙ row.1))
