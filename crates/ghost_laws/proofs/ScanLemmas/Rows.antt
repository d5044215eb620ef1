-- The answer of a query is found along the foreign keys: for each row of the top table, the combinations that
-- pass are the one that the row leads to, or none.
use Rattle.std.proofs.Common.{◌≡◌, refl, sym, ap, ◌∙◌, ℕ, suc, zero, ◌+◌, ◌<◌, Bool, true, false, nat_eq, List, [], ◌∷◌, ◌++◌, map, filter, flat_map, Option, Some, slice_get, unwrap_or, option_and_then, arith, eqb-true, if◌then◌else◌}
use Rattle.std.specs.List.{list_all, range_with_len}
use Rattle.ghost_model.specs.core.Schema.{Schema}
use Rattle.ghost_model.specs.laws.SchemaTrees.{IsTree}
use Rattle.ghost_model.specs.core.Values.{Value, Row, Database}
use Rattle.ghost_model.specs.core.Query.{Query, Field, Member, Condition, OneOf, Join, top_of}
use Rattle.ghost_model.specs.core.Database.{IsDatabase, rows_of, row_of, row_count, value_at_row}
use Rattle.ghost_model.specs.core.Split.{Hidden, hidden_of}
use Rattle.ghost_model.specs.core.Meaning as meaning
use Rattle.ghost_model.specs.core.Meaning.{Pick, pick, meets_test, no_value, all_of, answer, answer_by_top}
use Rattle.ghost_model.specs.laws.ShortWords.{others_of}
use Rattle.ghost_model.proofs.MeaningLemmas.ByRows as by_row
use Rattle.ghost_model.proofs.MeaningLemmas.ByRows.{Chosen, choice, Combination, row_combinations, row_in, value_in, is_met_in, is_true_in, passes, projection, answer_of_row, mapped_twice, row_field, by_rows}
use Rattle.ghost_model.proofs.MeaningLemmas.OneRow.{Among, IsLinked, both_true}
use Rattle.ghost_model.proofs.SessionLemmas.Members.{some_agree}
use Rattle.ghost_laws.specs.Scans.{led_value, holds_along, row_along, answer_along}
use Rattle.ghost_laws.proofs.ScanLemmas.Keys.{IsValues, seen, join_holds}
use Rattle.ghost_laws.proofs.ScanLemmas.Choices.{chosen_in}
use Rattle.ghost_laws.proofs.ScanLemmas.Accepted.{HasConditions, member_from}
use Rattle.ghost_laws.proofs.ScanLemmas.OneChoice.{all_same, values_same, mapped_if, many, combined, combined_has, join_met, one_or_none}
use Rattle.ghost_model.proofs.MeaningLemmas.Picks.{picks}
use Rattle.ghost_model.specs.core.Asks.{kind_at}
use Rattle.ghost_model.proofs.MeaningLemmas.Leading.{get_within}
use Rattle.ghost_laws.proofs.ScanLemmas.Columns.{HasColumn}
use Rattle.ghost_laws.proofs.ScanLemmas.Values.{all_found, led_stands}

-- what holds wherever another test does
pub all_more : {X : Type 0} (p q : X → Bool) (xs : List X) → ((x : X) → p x ≡ true → q x ≡ true) → list_all p xs ≡ true → list_all q xs ≡ true
all_more p q [] more h = refl
all_more p q (x ∷ xs) more h =
    let both = both_true (p x) (list_all p xs) h in
    rw (more x both.0) (all_more p q xs more both.1)

pub filter_mapped : {X Y : Type 0} (h : X → Y) (p : Y → Bool) (xs : List X) → filter p (map h xs) ≡ map h (filter (λ x. p (h x)) xs)
filter_mapped h p [] = refl
filter_mapped h p (x ∷ xs) =
    (elim (p (h x)) as (λ v. (if v then h x ∷ filter p (map h xs) else filter p (map h xs)) ≡ map h (if v then x ∷ filter (λ y. p (h y)) xs else filter (λ y. p (h y)) xs)) [
      | true ↦ ap (λ ys. h x ∷ ys) (filter_mapped h p xs)
      | false ↦ filter_mapped h p xs
    ])

pub same_for_identifiers : (f g : ℕ → List Row) (from count : ℕ) → ((place : ℕ) → place < count → f (from + place) ≡ g (from + place))
    → flat_map f (range_with_len from count) ≡ flat_map g (range_with_len from count)
same_for_identifiers f g from zero same = refl
same_for_identifiers f g from (suc count) same =
    let zeroth : from ≡ from + 0 = omega arith in
    ap (λ one. one ++ flat_map f (range_with_len (from + 1) count)) (ap f zeroth ∙ same 0 (omega arith) ∙ sym (ap g zeroth))
    ∙ ap (λ later. g from ++ later)
    (same_for_identifiers f g (from + 1) count
    (λ place h. let moved : from + 1 + place ≡ from + suc place = omega arith in ap f moved ∙ same (suc place) (omega (arith, h)) ∙ sym (ap g moved)))

module _ (schema : Schema) (database : Database) (tree : IsTree schema) (is : IsDatabase schema database) where
  abbrev kept : Hidden
  kept = hidden_of schema database

  -- the row of a pick
  abbrev chosen : Pick → Chosen
  chosen one = choice one.table (unwrap_or (row_of database one.table one.identifier) [])

  is_values : IsValues schema database (value_at_row database)
  is_values = record {
    numbered = λ table identifier row h.
        ap (option_and_then (λ r. slice_get r 0)) h ∙ is.identifiers table identifier row h;
    keys = λ table identifier column child declared h hc. refl;
  }

  value_seen : (x : List Pick) (f : Field) → value_in (map chosen x) f ≡ seen (value_at_row database) (chosen_in x) f
  value_seen [] f = refl
  value_seen (one ∷ others) f =
      (elim (nat_eq one.table f.table) as (λ v. nat_eq one.table f.table ≡ v → option_and_then (λ row. slice_get row f.column) (if v then Some (unwrap_or (row_of database one.table one.identifier) []) else row_in (map chosen others) f.table) ≡ option_and_then (λ n. value_at_row database f.table n f.column) (if v then Some one.identifier else chosen_in others f.table)) [
        | true ↦ λ e. row_field (row_of database one.table one.identifier) f.column ∙ ap (λ t. value_at_row database t one.identifier f.column) (eqb-true one.table f.table e)
        | false ↦ λ e. value_seen others f
      ]) refl

  join_seen : (x : List Pick) (c : Condition) → is_true_in (map chosen x) c ≡ true → join_holds (value_at_row database) (chosen_in x) c ≡ true
  join_seen x (OneOf first others) h = refl
  join_seen x (Join one other) h = rw (sym (value_seen x one), sym (value_seen x other)) h

  -- combinations of rows are those of picks
  combinations_are : (asked : Query) (top : ℕ) (linked : IsLinked schema asked top) (tables : List ℕ) → row_combinations database tables ≡ map (map chosen) (picks kept tables)
  combinations_are asked top linked tables =
      by_row.combinations_are database tables
      ∙ ap (λ (count : ℕ → ℕ). map (map chosen) (meaning.combinations count tables)) (λ i table. sym (many schema database tree is asked top linked table) i)

  module _ (asked : Query) (top : ℕ) (linked : IsLinked schema asked top) (conditions : HasConditions schema asked) (from_select : (f : Field) → Among f asked.select → Among f.table asked.from) (has : (f : Field) → Among f asked.select → HasColumn schema f) (identifier : ℕ) (row : Row) (there : row_of database top identifier ≡ Some row) where
    abbrev one : List Pick
    one = combined schema database tree is asked top linked identifier row there

    seen_along : (f : Field) → Among f.table asked.from → value_in (map chosen one) f ≡ led_value schema database top identifier f
    seen_along f a =
        value_seen one f
        ∙ ap (option_and_then (λ n. value_at_row database f.table n f.column)) (combined_has schema database tree is asked top linked identifier row there f.table a)

    condition_along : (c : Condition) → Among c asked.conditions → is_true_in (map chosen one) c ≡ holds_along (led_value schema database top identifier) c
    condition_along (OneOf first others) a =
        some_agree (is_met_in (map chosen one))
        (λ (member : Member). meets_test member.test (led_value schema database top identifier member.field)) first others
        (λ member among.
        ap (meets_test member.test)
        (seen_along member.field (member_from asked.from first others member (conditions.from (OneOf first others) a) among)))
    condition_along (Join left right) a =
        rw (value_seen one left, value_seen one right)
        (join_met schema database tree is asked top linked identifier row there (value_at_row database) is_values conditions left right a)

    row_is : answer_of_row top database asked row ≡ row_along (led_value schema database top identifier) asked
    row_is =
        let others = others_of top asked.from in
        let all : List (List Pick) = map (λ rest. pick top identifier ∷ rest) (picks kept others) in
        let test : List Pick → Bool = λ x. passes asked.conditions (map chosen x) in
        let combinations_of_row : map (λ rest. choice top row ∷ rest) (row_combinations database others) ≡ map (map chosen) all =
        ap (map (λ rest. choice top row ∷ rest)) (combinations_are asked top linked others)
        ∙ mapped_twice (map chosen) (λ rest. choice top row ∷ rest) (λ rest. pick top identifier ∷ rest) (map chosen) (picks kept others)
        (λ rest. ap (λ (o : Option Row). choice top (unwrap_or o []) ∷ map chosen rest) (sym there)) in
        let line : Row = projection asked.select (map chosen one) in
        ap (λ (xs : List Combination). map (projection asked.select) (filter (passes asked.conditions) xs)) combinations_of_row
        ∙ ap (map (projection asked.select)) (filter_mapped (map chosen) (passes asked.conditions) all)
        ∙ ap (λ (xs : List (List Pick)). map (projection asked.select) (map (map chosen) xs))
        (one_or_none schema database tree is asked top linked identifier row there (value_at_row database) is_values test
        (λ x h. all_more (is_true_in (map chosen x)) (join_holds (value_at_row database) (chosen_in x)) asked.conditions (λ c hc. join_seen x c hc) h))
        ∙ ap (map (projection asked.select)) (mapped_if (map chosen) (test one) one)
        ∙ mapped_if (projection asked.select) (test one) (map chosen one)
        ∙ ap (λ (b : Bool). if b then line ∷ [] else []) (all_same (is_true_in (map chosen one)) (holds_along (led_value schema database top identifier)) asked.conditions condition_along)
        ∙ ap (λ (values : Row). if list_all (holds_along (led_value schema database top identifier)) asked.conditions then values ∷ [] else [])
        (values_same (λ f. unwrap_or (value_in (map chosen one) f) no_value) (λ f. unwrap_or (led_value schema database top identifier f) no_value) asked.select
        (λ f a. ap (λ (o : Option Value). unwrap_or o no_value) (seen_along f (from_select f a)))
        ∙ all_found (λ f. kind_at schema f.table f.column) (led_value schema database top identifier) asked.select
        (λ f a. led_stands schema database tree is asked top linked identifier row there f (from_select f a) (has f a)))

pub answers_follow : (schema : Schema) → IsTree schema → (database : Database) → IsDatabase schema database → (asked : Query) (top : ℕ)
    → top_of schema asked ≡ Some top → IsLinked schema asked top → HasConditions schema asked
    → ((f : Field) → Among f asked.select → Among f.table asked.from) → ((f : Field) → Among f asked.select → HasColumn schema f)
    → answer schema database asked ≡ answer_along schema database asked top
answers_follow schema tree database is asked top at_top linked conditions from_select has =
    ap (λ o. answer_by_top (all_of database) asked o) at_top
    ∙ same_for_identifiers (meaning.answer_of_row (all_of database) asked top) (λ identifier. row_along (led_value schema database top identifier) asked) 1 (row_count database top)
    (λ place h.
    let row = get_within (rows_of database top) place h in
    let e : 1 + place ≡ suc place = omega arith in
    let there : row_of database top (1 + place) ≡ Some row.0 = ap (row_of database top) e ∙ row.1 in
    by_rows database asked top (1 + place) row.0 there
    ∙ row_is schema database tree is asked top linked conditions from_select has (1 + place) row.0 there)
